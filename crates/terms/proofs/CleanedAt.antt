-- R3, R4 and the end over positions, and by the stages of lines and words: each way.
use Prim.Native.Nat.{ℕ, suc, ◌/◌, ◌<◌, ◌≤◌}
use native.Mathlib.Omega.{arith}
use mathlib.Core.Bool.{Bool, true, false, not, ◌&&◌}
use mathlib.Core.Path.{◌≡◌, refl, sym, ap, subst}
use mathlib.Core.List.{List}
use lib.Dec.{eqb}
use lib.ListN.{length}
use borrow.Author.Tests.{eqb-true, eq-eqb, not-true}
use Rattle.values.specs.declared.Call.{Call}
use Rattle.values.proofs.Cases.{case, clash, and_left, and_right}
use Rattle.terms.specs.History.{Stage, never, History, line_of_word}
use Rattle.terms.specs.Rules.{is_stored, is_flushed, is_drained}
use Rattle.terms.specs.Positions as at
use Rattle.terms.specs.Positions.{some}
use Rattle.terms.proofs.Quantified.{given_means, given_true, each_means, each_true, some_wider, first_of}
use Rattle.terms.proofs.StageAt.{turned, alone, cleaned_since_lem, since_cleaned, drained_since_lem, since_drained, flushed_since_lem, since_flushed, by_last}
use Rattle.terms.proofs.HistoryAt.{hist, hist_start, line_next, word_next, one_at}

-- of three, two
two_alone : (cl dr fl : Bool) → alone cl dr fl ≡ true → alone cl dr false ≡ true
two_alone true true fl e = clash {b = false} e refl
two_alone true false fl e = refl
two_alone false true fl e = refl
two_alone false false fl e = refl

-- none in a part of where there is none
narrower : (f : ℕ → Bool) (i k j : ℕ) → k ≤ j → some i j f ≡ false → some i k f ≡ false
narrower f i k j h e = case (some i k f) (λ t. clash (some_wider f i k j h t) e) (λ t. t)

module _ (memory bad : List ℕ) (list : List Call) where
  abbrev H : ℕ → History
  H = hist memory bad list

  abbrev stores : ℕ → Bool
  stores = at.stores memory bad list

  abbrev line : ℕ → ℕ
  line = at.line_at memory bad list

  abbrev word : ℕ → ℕ
  word = at.word_at memory bad list

  abbrev n : ℕ
  n = length list

  abbrev covers : ℕ → ℕ → Bool
  covers = at.covers memory bad list

  abbrev last_to_line : ℕ → ℕ → Bool
  last_to_line = at.last_to_line memory bad list

  abbrev last_to_word : ℕ → ℕ → Bool
  last_to_word = at.last_to_word memory bad list

  abbrev translates : ℕ → Bool
  translates = at.translates memory bad list

  abbrev reads_word : ℕ → ℕ → Bool
  reads_word = at.reads_word memory bad list

  abbrev drains : ℕ → Bool
  drains = at.drains memory bad list

  abbrev flushes_tlb : ℕ → Bool
  flushes_tlb = at.flushes_tlb memory bad list

  abbrev flushed_since : ℕ → ℕ → Bool
  flushed_since = at.flushed_since memory bad list

  abbrev drained_since : ℕ → ℕ → Bool
  drained_since = at.drained_since memory bad list

  -- ---- a line

  module _ (l : ℕ) where
    abbrev st : ℕ → Bool
    st = at.stores_line memory bad list l

    abbrev cl : ℕ → Bool
    cl = at.cleans memory bad list l

    abbrev no : ℕ → Bool
    no j = false

    abbrev stage : ℕ → Stage
    stage j = (H j).line_stage l

    begins : stage 0 ≡ never
    begins = ap (λ (h : History). h.line_stage l) (hist_start memory bad list)

    goes : (j : ℕ) → stage (suc j) ≡ turned (st j) (cl j) (drains j) (no j) (stage j)
    goes = line_next memory bad list l

    one : (j : ℕ) → alone (cl j) (drains j) (no j) ≡ true
    one j = two_alone (cl j) (drains j) (flushes_tlb j) (one_at memory bad list l j)

    -- the last store to the line before j, at i
    module _ (i j : ℕ) (b : i < j) (s : st i ≡ true) (u : some i j st ≡ false) where
      pub line_cleaned : is_stored (stage j) ≡ false → some i j cl ≡ true
      line_cleaned = cleaned_since_lem st cl drains no stage begins goes one i j b s u

      pub cleaned_line_lem : some i j cl ≡ true → is_stored (stage j) ≡ false
      cleaned_line_lem = since_cleaned st cl drains no stage begins goes one i j b s u

      pub line_drained : is_drained (stage j) ≡ true → some i j (λ d. drains d && some i d cl) ≡ true
      line_drained = drained_since_lem st cl drains no stage begins goes one i j b s u

      pub drained_line : some i j (λ d. drains d && some i d cl) ≡ true → is_drained (stage j) ≡ true
      drained_line = since_drained st cl drains no stage begins goes one i j b s u

    pub line_by : (test : Stage → Bool) (x : Bool) → test never ≡ x → (j : ℕ) → ((i : ℕ) → i < j → st i ≡ true → some i j st ≡ false → test (stage j) ≡ x)
        → test (stage j) ≡ x
    line_by = by_last st cl drains no stage begins goes one

  -- ---- a word

  module _ (w : ℕ) where
    abbrev st_word : ℕ → Bool
    st_word = at.stores_word memory bad list w

    abbrev cl_word : ℕ → Bool
    cl_word = at.cleans memory bad list (line_of_word w)

    abbrev word_stage_lem : ℕ → Stage
    word_stage_lem j = (H j).word_stage w

    word_begins : word_stage_lem 0 ≡ never
    word_begins = ap (λ (h : History). h.word_stage w) (hist_start memory bad list)

    -- after i and before j the line of the word cleaned, then a drain, then a whole TLB flush
    abbrev ready : ℕ → ℕ → Bool
    ready i j = some i j (λ t. flushes_tlb t && some i t (λ d. drains d && some i d cl_word))

    module _ (i j : ℕ) (b : i < j) (s : st_word i ≡ true) (u : some i j st_word ≡ false) where
      pub word_flushed : is_flushed (word_stage_lem j) ≡ true → ready i j ≡ true
      word_flushed =
          flushed_since_lem st_word cl_word drains flushes_tlb word_stage_lem word_begins (word_next memory bad list w) (one_at memory bad list (line_of_word w)) i j b s u

      pub flushed_word : ready i j ≡ true → is_flushed (word_stage_lem j) ≡ true
      flushed_word =
          since_flushed st_word cl_word drains flushes_tlb word_stage_lem word_begins (word_next memory bad list w) (one_at memory bad list (line_of_word w)) i j b s u

    pub word_by : (j : ℕ) → ((i : ℕ) → i < j → st_word i ≡ true → some i j st_word ≡ false → is_flushed (word_stage_lem j) ≡ true) → is_flushed (word_stage_lem j) ≡ true
    word_by = by_last st_word cl_word drains flushes_tlb word_stage_lem word_begins (word_next memory bad list w)
        (one_at memory bad list (line_of_word w)) is_flushed true refl

  -- ---- a store at i, to its own line and word

  own_line : (i : ℕ) → stores i ≡ true → st (line i) i ≡ true
  own_line i s = rw (s, eq-eqb (line i) (line i) refl)

  own_word : (i : ℕ) → stores i ≡ true → st_word (word i) i ≡ true
  own_word i s = rw (s, eq-eqb (word i) (word i) refl)

  line_is_lem : (l i : ℕ) → st l i ≡ true → l ≡ line i
  line_is_lem l i s = eqb-true l (line i) (and_right (stores i) (eqb l (line i)) s)

  word_is : (w i : ℕ) → st_word w i ≡ true → w ≡ word i
  word_is w i s = eqb-true w (word i) (and_right (stores i) (eqb w (word i)) s)

  word_line : (i : ℕ) → line_of_word (word i) ≡ line i
  word_line i = let a = (at.address_at memory bad list i).0 in let e : a / 4 / 8 ≡ a / 32 = omega arith in e

  -- ---- R3

  pub r3_steps : (j : ℕ) → ((f : ℕ) → f ≤ j → at.r3 memory bad list f ≡ true) → (l : ℕ) → covers l j ≡ true → is_stored ((H j).line_stage l) ≡ false
  unfolding at.r3_by
  r3_steps j all l c = line_by l is_stored false refl j (λ i b s u. cleaned_line_lem l i j b s u (clean i b s u))
    where
      -- a flush that covers the line, the first since its last store
      first : (i f : ℕ) → i < f → f ≤ j → st l i ≡ true → some i j (st l) ≡ false → covers l f ≡ true → some i f (covers l) ≡ false
          → some i f (cl l) ≡ true
      first i f b h s u c n =
          let q = line_is_lem l i s in
          let r = given_means (covers (line i) f && (last_to_line i f && not (some i f (covers (line i))))) (some i f (cl (line i)))
          (each_means _ f (all f h) i b) in
          let x = and_left (stores i) (eqb l (line i)) s in
          let m = narrower (st l) i f j h u in
          subst (λ (k : ℕ). some i f (cl k) ≡ true) (sym q) (r (rw (← q, c, x, m, n)))

      clean : (i : ℕ) → i < j → st l i ≡ true → some i j (st l) ≡ false → some i j (cl l) ≡ true
      clean i b s u =
          case (some i j (covers l))
          (λ t.
          let f = first_of (covers l) i j t in
          let h : f.0 ≤ j = omega (arith, f.2) in
          some_wider (cl l) i f.0 j h (first i f.0 f.1 h s u f.3 f.4))
          (λ t. first i j b (omega arith) s u c t)

  pub steps_r3 : (j : ℕ) → ((l : ℕ) → covers l j ≡ true → is_stored ((H j).line_stage l) ≡ false) → at.r3 memory bad list j ≡ true
  unfolding at.r3_by
  steps_r3 j f =
      each_true _ j
      (λ i b.
      given_true (covers (line i) j && (last_to_line i j && not (some i j (covers (line i))))) (some i j (cl (line i)))
      (λ t.
      let c = and_left (covers (line i) j) (last_to_line i j && not (some i j (covers (line i)))) t in
      let r = and_right (covers (line i) j) (last_to_line i j && not (some i j (covers (line i)))) t in
      let m = and_left (last_to_line i j) (not (some i j (covers (line i)))) r in
      line_cleaned (line i) i j b (own_line i (and_left (stores i) (not (some i j (st (line i)))) m))
      (not-true (some i j (st (line i))) (and_right (stores i) (not (some i j (st (line i)))) m)) (f (line i) c)))

  -- ---- R4

  pub r4_steps : (j : ℕ) → at.r4 memory bad list j ≡ true → (w : ℕ) → translates j ≡ true → reads_word w j ≡ true
      → is_flushed ((H j).word_stage w) ≡ true
  unfolding at.r4_by
  r4_steps j e w x y =
      word_by w j
      (λ i b s u.
      let q = word_is w i s in
      let z = and_left (stores i) (eqb w (word i)) s in
      let k = word_line i in
      let r = given_means (translates j && (reads_word (word i) j && last_to_word i j)) (flushed_since i j)
      (each_means _ j e i b) (rw (← q, x, y, z, u)) in
      flushed_word w i j b s u (subst (λ (v : ℕ). ready v i j ≡ true) (sym q) (rw k r)))

  pub steps_r4 : (j : ℕ) → ((w : ℕ) → translates j ≡ true → reads_word w j ≡ true → is_flushed ((H j).word_stage w) ≡ true)
      → at.r4 memory bad list j ≡ true
  unfolding at.r4_by
  steps_r4 j f =
      each_true _ j
      (λ i b.
      given_true (translates j && (reads_word (word i) j && last_to_word i j)) (flushed_since i j)
      (λ t.
      let x = and_left (translates j) (reads_word (word i) j && last_to_word i j) t in
      let r = and_right (translates j) (reads_word (word i) j && last_to_word i j) t in
      let y = and_left (reads_word (word i) j) (last_to_word i j) r in
      let m = and_right (reads_word (word i) j) (last_to_word i j) r in
      let s = own_word i (and_left (stores i) (not (some i j (st_word (word i)))) m) in
      let u = not-true (some i j (st_word (word i))) (and_right (stores i) (not (some i j (st_word (word i)))) m) in
      rw (← word_line i) (word_flushed (word i) i j b s u (f (word i) x y))))

  -- ---- the end

  pub line_settled : (l : ℕ) → is_drained ((H n).line_stage l) ≡ true → at.settled_line memory bad list l ≡ true
  unfolding at.settled_by
  line_settled l e =
      each_true _ n
      (λ i b.
      given_true (st l i && last_to_line i n) (drained_since i n)
      (λ t.
      let s = and_left (st l i) (last_to_line i n) t in
      let m = and_right (st l i) (last_to_line i n) t in
      let q = line_is_lem l i s in
      let u = not-true (some i n (st (line i))) (and_right (stores i) (not (some i n (st (line i)))) m) in
      rw (← q) (line_drained l i n b s (rw q u) e)))

  pub settled_line_lem : (l : ℕ) → at.settled_line memory bad list l ≡ true → is_drained ((H n).line_stage l) ≡ true
  unfolding at.settled_by
  settled_line_lem l e =
      line_by l is_drained true refl n
      (λ i b s u.
      let q = line_is_lem l i s in
      let x = and_left (stores i) (eqb l (line i)) s in
      let m : last_to_line i n ≡ true = rw (← q, x, u) in
      drained_line l i n b s u (rw q (given_means (st l i && last_to_line i n) (drained_since i n) (each_means _ n e i b) (rw (s, m)))))
