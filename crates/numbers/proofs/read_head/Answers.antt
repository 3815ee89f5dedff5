use Rattle.std.proofs.Common.{arith}
use Rattle.numbers.proofs.Heads.{head_read, head_fits}
use Rattle.numbers.proofs.read_head.Goals as goal

pub returns : goal.returns
returns c = let a = c.args in
    let known = c.type_inv.numbers in
    let long = c.requires.0 in (
      head_read a.numbers.now _ _ _ _ (omega (arith, long)) c.registers_of-registers.ensures c.cp15_of-cp15.ensures
          c.counts_of-counts.ensures c.copy_from_slice.ensures.after,
      head_fits a.numbers.now (omega (arith, long)) (λ k. omega (arith, known k)),
    )
