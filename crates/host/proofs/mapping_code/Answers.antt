use native.Mathlib.Omega.{arith}
use Rattle.host.proofs.mapping_code.Goals as goal

pub word_of-requires : goal.word_of-requires
word_of-requires c = rw c.in-Ok.is at c.requires

pub returns-in-Ok : goal.returns-in-Ok
returns-in-Ok c = rw c.in-Ok.is c.word_of.ensures

pub returns-in-Err : goal.returns-in-Err
returns-in-Err c = rw c.in-Err.is (omega (arith, c.status_number.ensures.0))
