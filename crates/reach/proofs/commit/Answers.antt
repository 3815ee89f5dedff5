use Rattle.reach.proofs.Laws.{commit_flat, commit_held, commit_failed, commit_walked, stay, stay_missed, stay_walked}
use Rattle.reach.proofs.commit.Goals as goal

pub place-requires : goal.place-requires
place-requires c =
    (c.requires.0.entries_long, c.requires.0.pointer, rw (c.in-Ok.is, c.in-Walked.is) at c.requires.1)

pub missed-requires : goal.missed-requires
missed-requires c =
    rw c.with_pointer.ensures c.requires.0.misses

pub returns-in-Flat : goal.returns-in-Flat
returns-in-Flat c =
    let a = c.args in rw (c.in-Ok.is, c.in-Flat.is) ((λ l n. commit_flat l a.entries.now a.s n), stay a.s)

pub returns-in-Held : goal.returns-in-Held
returns-in-Held c =
    let a = c.args in rw (c.in-Ok.is, c.in-Held.is) ((λ l n. commit_held l a.entries.now a.s n _), stay a.s)

pub returns-in-Walked : goal.returns-in-Walked
returns-in-Walked c =
    let a = c.args in
    rw (c.in-Ok.is, c.in-Walked.is) (
      (λ l n. commit_walked l a.entries.now a.s n _ c.place.new.entries _ _ _ c.place.ensures
          c.next.ensures.0 c.with_pointer.ensures c.missed.ensures),
      stay_walked a.s _ _ _ c.with_pointer.ensures c.missed.ensures,
    )

pub returns-in-Err : goal.returns-in-Err
returns-in-Err c =
    let a = c.args in
    rw c.in-Err.is
    ((λ l n. commit_failed l a.entries.now a.s n _ _ c.missed-in-Err.ensures), stay_missed a.s _ c.missed-in-Err.ensures)
