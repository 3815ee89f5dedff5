-- M1 to M12 of the plain machine, M5 left out: the cases of crate marked, of its answers. M5 is of the Dcache, which the plain machine has not; the
-- addresses of M6 and M8 are of definitions that the two machines share.
use Rattle.bus.specs.Physical.{no_bad_words}
use Rattle.marked.specs.MarkedCases.{Run, RunWith, registers}
use Rattle.marked.specs.MarkedCases.{M1, M2, M3, M4Set, M4Clear, M6, M7, M8, M9, M9Domain, M10, M11, M12}
use Rattle.plain.specs.Plain.{plain_start, with_registers, plain_answers}

-- the plain machine's answers to calls on a memory, no word of which is bad; and with table base 4000 and these domain and control registers
abbrev pub plain_run : Run
plain_run memory calls = plain_answers (plain_start memory (no_bad_words memory)) calls

abbrev pub plain_run_with : RunWith
plain_run_with domains control memory calls =
    plain_answers (with_registers (plain_start memory (no_bad_words memory)) (registers domains control)) calls

-- the table, of the plain machine
pub record PlainMarkedCases : Type 0 where
  pub m1 : M1 plain_run
  pub m2 : M2 plain_run
  pub m3 : M3 plain_run
  pub m4_set : M4Set plain_run_with
  pub m4_clear : M4Clear plain_run_with
  pub m6 : M6 plain_run_with
  pub m7 : M7 plain_run_with
  pub m8 : M8 plain_run_with
  pub m9 : M9 plain_run_with
  pub m9_domain : M9Domain plain_run_with
  pub m10 : M10 plain_run_with
  pub m11 : M11 plain_run
  pub m12 : M12 plain_run_with
