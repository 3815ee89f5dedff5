use Rattle.std.proofs.Common.{◌≡◌, ℕ, ◌-◌, List, ◌++◌, length, take, ◌≤◌, ap, sym, ◌∙◌, arith, length-take-le}
use Rattle.std.proofs.lemmas.Slice.{take-put_mid}
use Rattle.pieces.specs.Pieces.{onto}
use Rattle.pieces.proofs.Joining.{through, through_low, through_some, through_none, onto_is}
use Rattle.pieces.proofs.join.Goals as goal
use Rattle.pieces.proofs.join.Goals.{in-Some, in-None}

pub returns : goal.returns
returns c =
    let a = c.args in
    let m = c.min-most.result in
    let size = c.match-first_feed.size in
    let long : length (take m a.text.now) ≡ m = length-take-le m a.text.now (omega arith) in
    let found = c.first_feed.ensures in
    let is : size ≡ through (take m a.text.now) =
    elim c.match-first_feed.branch [
      | in-Some w ↦ w.size-is ∙ sym (through_some _ _ (sym found ∙ w.in-Some.is))
      | in-None w ↦ w.size-is ∙ sym long ∙ sym (through_none _ (sym found ∙ w.in-None.is))
    ]
    in
    let low = through_low (take m a.text.now) in
    let few : size ≤ m = omega arith in
    let whole : onto (64 - a.held) a.text.now ≡ take size a.text.now =
    onto_is (64 - a.held) m a.text.now c.min-most.ensures ∙ ap (λ (k : ℕ). take k a.text.now) (sym is)
    in
    let after = c.copy_from_slice.ensures.after in
    let many : length c.copy_from_slice.new.self ≡ size = ap length after ∙ length-take-le size a.text.now (omega arith) in (
      take-put_mid a.held _ a.line.now c.copy_from_slice.new.self _ (omega arith) (omega arith)
          ∙ ap (λ (l : List ℕ). take a.held a.line.now ++ l) (after ∙ sym whole),
      sym (ap length whole ∙ length-take-le size a.text.now (omega arith)),
      omega arith,
      omega arith,
    )
