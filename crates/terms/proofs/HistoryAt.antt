-- The history before each call of a list, by the tests over positions.
use Prim.Native.Nat.{ℕ, zero, suc, ◌/◌}
use native.Mathlib.Omega.{arith}
use mathlib.Core.Bool.{true, false, cond, ◌&&◌, ◌||◌}
use mathlib.Core.Path.{◌≡◌, refl, sym, ◌∙◌, ap}
use mathlib.Core.List.{List, [], ◌∷◌}
use lib.Dec.{eqb, ltb}
use lib.ListN.{length, take}
use lib.Seq.{take-suc, take_all}
use borrow.Author.Tests.{ltb-true, ltb-false}
use Rattle.values.specs.declared.Call.{Call}
use Rattle.values.proofs.Cases.{case}
use Rattle.plain.specs.Plain.{plain_start}
use Rattle.terms.specs.History.{History, no_history, line_of_word, after_served, after, history_after}
use Rattle.terms.specs.Positions as at
use Rattle.terms.proofs.Appends.{history_append}
use Rattle.terms.proofs.StageAt.{turned, alone}
use Rattle.terms.proofs.CallHistory.{stale_after, reached_after, through_after, line_after, word_after, one_of}

module _ (memory bad : List ℕ) (list : List Call) where
  -- the history before call j
  unfoldable pub hist : ℕ → History
  hist j = history_after (plain_start memory bad) no_history (take j list)

  pub hist_start : hist 0 ≡ no_history
  unfolding hist history_after
  hist_start = refl

  pub hist_all : hist (length list) ≡ history_after (plain_start memory bad) no_history list
  unfolding hist
  hist_all = ap (history_after (plain_start memory bad) no_history) (take_all (length list) list (omega arith))

  -- one more call
  pub hist_next : (j : ℕ) → hist (suc j) ≡ cond (at.served memory bad list j)
      (after_served (at.before memory bad list j) (hist j) (at.call memory bad list j)) (hist j)
  unfolding hist at.served history_after after
  hist_next j =
      case (ltb j (length list))
      (λ t.
      rw t
      (ap (history_after (plain_start memory bad) no_history) (take-suc list j _ (ltb-true j (length list) t))
      ∙ history_append (at.call memory bad list j ∷ []) (take j list) (plain_start memory bad) no_history))
      (λ t.
      let g = ltb-false j (length list) t in
      let e : take (suc j) list ≡ take j list = take_all (suc j) list (omega arith) ∙ sym (take_all j list g) in
      rw t (ap (history_after (plain_start memory bad) no_history) e))

  -- ---- each part

  pub stale_next : (j : ℕ) → (hist (suc j)).base_stale ≡ cond (at.writes_base memory bad list j) true
      (cond (at.flushes_tlb memory bad list j) false (hist j).base_stale)
  stale_next j =
      case (at.served memory bad list j) (λ t. rw (hist_next j, t) (stale_after (at.before memory bad list j) (hist j) (at.call memory bad list j)))
      (λ t. rw (hist_next j, t))

  pub reached_next : (j v q : ℕ)
      → (hist (suc j)).reached v q
      ≡ cond (at.flushes_dcache memory bad list j) false
      ((at.reaches memory bad list j && (eqb v (at.virtual_at memory bad list j) && eqb q (at.line_at memory bad list j))) || (hist j).reached v q)
  unfolding at.reaches at.virtual_at at.address_at
  reached_next j v q =
      case (at.served memory bad list j) (λ t. rw (hist_next j, t) (reached_after (at.before memory bad list j) (hist j) (at.call memory bad list j) v q))
      (λ t. rw (hist_next j, t))

  through_next : (j l : ℕ) → (hist (suc j)).through l ≡ cond (at.stores_line memory bad list l j) (at.virtual_at memory bad list j) ((hist j).through l)
  unfolding at.reaches at.virtual_at at.address_at at.stores
  through_next j l =
      case (at.served memory bad list j) (λ t. rw (hist_next j, t) (through_after (at.before memory bad list j) (hist j) (at.call memory bad list j) l))
      (λ t. rw (hist_next j, t))

  pub through_at : (l j : ℕ) → (hist j).through l ≡ at.through memory bad list l j
  unfolding at.through
  through_at l zero = ap (λ (h : History). h.through l) hist_start
  through_at l (suc j) = through_next j l ∙ rw (through_at l j)

  pub line_next : (l j : ℕ)
      → (hist (suc j)).line_stage l
      ≡ turned (at.stores_line memory bad list l j) (at.cleans memory bad list l j) (at.drains memory bad list j) false ((hist j).line_stage l)
  unfolding at.reaches at.address_at at.stores at.cleans
  line_next l j =
      case (at.served memory bad list j)
      (λ t. rw (hist_next j, t, ← through_at l j) (line_after (at.before memory bad list j) (hist j) (at.call memory bad list j) l)) (λ t. rw (hist_next j, t))

  pub word_next : (w j : ℕ)
      → (hist (suc j)).word_stage w
      ≡ turned (at.stores_word memory bad list w j) (at.cleans memory bad list (line_of_word w) j) (at.drains memory bad list j) (at.flushes_tlb memory bad list j)
      ((hist j).word_stage w)
  unfolding at.reaches at.address_at at.stores at.cleans
  word_next w j =
      case (at.served memory bad list j)
      (λ t. rw (hist_next j, t, ← through_at (line_of_word w) j) (word_after (at.before memory bad list j) (hist j) (at.call memory bad list j) w))
      (λ t. rw (hist_next j, t))

  -- a call cleans, drains or flushes, and no two of them
  pub one_at : (l j : ℕ) → alone (at.cleans memory bad list l j) (at.drains memory bad list j) (at.flushes_tlb memory bad list j) ≡ true
  unfolding at.cleans
  one_at l j =
      case (at.served memory bad list j)
      (λ t. rw t (one_of (at.before memory bad list j) (hist j) (λ v. eqb (at.through memory bad list l j) (v / 32)) (at.call memory bad list j))) (λ t. rw t)
