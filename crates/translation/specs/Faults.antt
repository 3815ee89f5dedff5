-- What the two machines share behind translation: which pages fill and buffer, the statuses of aborts, and what a fault sets.
use Rattle.std.specs.Prelude.{Bool, cond, ◌&&◌, ◌||◌}
use Rattle.values.specs.Answers.{fsr_of}
use Rattle.values.specs.Control.{mmu, dcache, write_buffer}
use Rattle.values.specs.Registers.{with_fsr, with_far}
use Rattle.values.specs.declared.Registers.{Registers}
use Rattle.values.specs.declared.Fault.{Fault}
use Rattle.values.specs.declared.Status.{Status}
use Rattle.values.specs.declared.Status.TheVariants.{FillSection, FillPage, OtherSection, OtherPage}
use Rattle.translation.specs.declared.Place.{Place}

-- "A load miss with M, C-enable and the page's C bit fills"
abbrev pub fills : Registers → Place → Bool
fills r p = mmu r && (dcache r && p.cacheable)

-- "A store that misses is buffered when M and W are set and the page's C or B is"
abbrev pub buffers : Registers → Place → Bool
buffers r p = mmu r && (write_buffer r && (p.cacheable || p.bufferable))

-- "outside memory on line fill 4, 6, otherwise 8, 10. The second of each pair is for pages; flat counts as section."
abbrev pub fill_status : Place → Status
fill_status p = cond p.page FillPage FillSection

abbrev pub other_status : Place → Status
other_status p = cond p.page OtherPage OtherSection

-- "A fault sets FSR, and FAR to the address given."
unfoldable pub fault_set : Registers → Fault → Registers
fault_set r f = with_far (with_fsr r (fsr_of f)) f.address.0
