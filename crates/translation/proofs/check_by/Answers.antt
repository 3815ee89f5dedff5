use Rattle.translation.specs.Translation as spec
use Rattle.translation.proofs.check_by.Goals as goal

pub returns : goal.returns
unfolding spec.checked_by
returns c = rw (← c.cleared-va.ensures, ← c.domain_value-value.ensures.0, ← c.ap_of-ap.ensures.0, ← c.is_store.ensures, ← c.right-right.ensures)
    c.judged.ensures
