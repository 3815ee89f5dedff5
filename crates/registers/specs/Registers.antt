-- "Registers (000, chapter 5)": what a read answers and a write keeps.
use Rattle.std.specs.Prelude.{ℕ, ◌*◌, ◌/◌, ◌%◌, cond, eqb}
use Rattle.values.specs.Control.{kept, control_read}
use Rattle.values.specs.Registers.{with_control, with_base, with_domains, with_fsr, with_far}
use Rattle.values.specs.declared.Registers.{Registers}

-- "0 reads 0x4401A100." "1 ... 4 to 6 read as one". "4 reads 0". The rest read as they are kept.
unfoldable pub read_of : Registers → ℕ → ℕ
read_of r n =
    cond (eqb n 0) 0x4401A100
    (cond (eqb n 1) (control_read r.control)
    (cond (eqb n 2) r.base
    (cond (eqb n 3) r.domains
    (cond (eqb n 5) r.fsr
    (cond (eqb n 6) r.far
    0)))))

-- "1, control: bits ... are kept". "2 keeps bits 31 to 14, the rest read zero." "3 holds sixteen two-bit domain values". "4 ... ignores
-- writes." "5 (FSR) keeps 8 bits". "6 (FAR) keeps 32." Writes to 7 and 8 leave the five as they are.
unfoldable pub written_of : Registers → ℕ → ℕ → Registers
written_of r n v =
    cond (eqb n 1) (with_control r (kept v))
    (cond (eqb n 2) (with_base r (v / 0x4000 * 0x4000))
    (cond (eqb n 3) (with_domains r v)
    (cond (eqb n 5) (with_fsr r (v % 0x100))
    (cond (eqb n 6) (with_far r v)
    r))))
