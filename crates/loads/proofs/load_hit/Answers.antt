use Rattle.reach.proofs.Bounds.{in_line}
use Rattle.loads.proofs.Laws.{hit_left}
use Rattle.loads.proofs.load_hit.Goals as goal

pub load-v-requires : goal.load-v-requires
load-v-requires c =
    (c.requires.0, c.requires.1, c.requires.2, rw c.cleared-va.ensures (in_line c.args.a c.requires.2))

pub returns : goal.returns
returns c =
    let a = c.args in λ l es n e. hit_left es a.s n a.a l a.store.now a.i _ _ _ _ e c.cleared-va.ensures
    c.load-v.ensures.value c.hit.ensures c.load_answer.ensures
