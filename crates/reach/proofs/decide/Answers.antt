use Rattle.reach.proofs.Laws.{decided_unaligned, decided_by_lem}
use Rattle.translation.specs.Translation.{translation}
use Rattle.translation.specs.Alignment.{alignment_faults, cleared}
use Rattle.tlb.specs.Packing.{entries_of}
use Rattle.bus.specs.Physical.{physical}
use mathlib.Core.Path.{◌≡◌, sym, ◌∙◌}
use mathlib.Core.Bool.{true, false}
use native.Mathlib.Omega.{arith}
use Rattle.reach.proofs.decide.Goals as goal

pub returns-then-faults_alignment : goal.returns-then-faults_alignment
returns-then-faults_alignment c =
    let a = c.args in
    let e : alignment_faults a.r a.a ≡ true = sym c.faults_alignment.ensures ∙ c.if-faults_alignment.true in
    rw c.new.ensures (record { same = sym (decided_unaligned a.r a.a _ e); ranged = tt; checked_ranged = omega arith })

pub returns : goal.returns
returns c =
    let a = c.args in
    let e : alignment_faults a.r a.a ≡ false = sym c.faults_alignment.ensures ∙ c.if-faults_alignment.false in
    let t : c.translate-t.result ≡ translation (entries_of a.entries.now) a.r (physical a.memory.now a.bad.now)
    (cleared a.a) =
    rw c.cleared-va.ensures at c.translate-t.ensures.same
    in
    record {
      same = rw (c.check-checked.ensures.same, t) (sym (decided_by_lem a.r a.a _ e));
      ranged = c.translate-t.ensures.ranged;
      checked_ranged = c.check-checked.ensures.ranged;
    }
