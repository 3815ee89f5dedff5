-- What the exported functions answer, in numbers.
use Rattle.std.specs.Prelude.{ℕ, ◌+◌, ◌*◌, ◌/◌, cond, List, ltb, Result, Ok, Err}
use Rattle.values.specs.Answers.{status_of}
use Rattle.rights.specs.Rights.{rights_at}
use Rattle.bus.specs.Physical.{physical}
use Rattle.walk.specs.Walk.{walk}
use Rattle.tlb.specs.Packing.{word_of}
use Rattle.trace.specs.Fold.{leaves}
use Rattle.plain.specs.Plain.{plain_machine}
use Rattle.plain.specs.Run.{PlainLeft, with_refusal}
use Rattle.host.specs.declared.PlainRan.{PlainRan}
use Rattle.values.specs.declared.Cause.{Cause}
use Rattle.values.specs.declared.Entry.{Entry}

-- an entry of the rights table, and 255 behind its end
abbrev pub right_code : ℕ → ℕ
right_code i = cond (ltb i 256) (rights_at i) 255

-- a walk: the entry's word, which is odd, or twice the fault's domain × 16 + status
abbrev pub mapping_code : Result Entry Cause → ℕ
mapping_code (Ok e) = word_of e
mapping_code (Err why) = 2 * (why.domain * 16 + status_of why.status)

-- the walk by a table base of which bits 31 to 14 count
abbrev pub walk_code : List ℕ → List ℕ → ℕ → ℕ → ℕ
walk_code memory bad base va = mapping_code (walk (physical memory bad) (base / 0x4000 * 0x4000) (record { 0 = va }))

-- what a run of the plain machine leaves
abbrev pub plain_ran_of : List ℕ → List ℕ → List ℕ → PlainRan → PlainLeft
plain_ran_of memory bad answers r = with_refusal (leaves (plain_machine memory bad r.registers r.calls) answers r.made) r.refusal
