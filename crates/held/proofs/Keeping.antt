-- What is held: the test of its fields, bytes put out, and what is held behind replayed lines, by each case.
use Prim.Native.Nat.{ℕ, zero, suc, ◌+◌, ◌-◌, ◌≤◌, min}
use native.Mathlib.Omega.{arith}
use native.Mathlib.Nat.{add-zero}
use mathlib.Core.Bool.{true, false, not, ◌&&◌}
use mathlib.Core.Path.{◌≡◌, refl, sym, ◌∙◌, ap}
use mathlib.Core.List.{List, [], ◌∷◌, ◌++◌}
use lib.Dec.{leb, eqb}
use lib.ListN.{length, take, drop, length-drop}
use lib.Seq.{take-take, length-take-le, take_all}
use borrow.Author.Tests.{le-leb, leb-true, eqb-true, not-true}
use Rattle.values.specs.Lists.{any}
use Rattle.values.proofs.Cases.{case, and_left, and_right}
use Rattle.machine.specs.Machine.{Machine}
use Rattle.pieces.specs.Pieces.{padded, is_feed}
use Rattle.batch.specs.Batch.{lines_limit}
use Rattle.held.specs.Held.{Held, held_from, kept, parted_from, start_replay, put_out, settled}
use Rattle.step.specs.Start.{Started, started}

-- ---- the test of the fields

module _ (lines held waiting : ℕ) (begun : List ℕ) where
  pub kept_all : lines ≤ lines_limit → held ≤ 63 → waiting ≤ 64 → any is_feed (take held begun) ≡ false → true ≡ kept lines held waiting begun
  unfolding kept
  kept_all a b c d = sym (rw (le-leb lines lines_limit a, le-leb held 63 b, le-leb waiting 64 c, d))

-- what the test says
pub record Kept (lines held waiting : ℕ) (begun : List ℕ) : Type 0 where
  pub lines_low : lines ≤ lines_limit
  pub held_low : held ≤ 63
  pub waiting_low : waiting ≤ 64
  pub no_feed : any is_feed (take held begun) ≡ false

pub kept_means : (lines held waiting : ℕ) (begun : List ℕ) → kept lines held waiting begun ≡ true → Kept lines held waiting begun
unfolding kept
kept_means lines held waiting begun h =
    let last = not (any is_feed (take held begun)) in
    let a = and_right (leb lines lines_limit) (leb held 63 && (leb waiting 64 && last)) h in
    let b = and_right (leb held 63) (leb waiting 64 && last) a in
    record {
      lines_low = leb-true lines lines_limit (and_left (leb lines lines_limit) (leb held 63 && (leb waiting 64 && last)) h);
      held_low = leb-true held 63 (and_left (leb held 63) (leb waiting 64 && last) a);
      waiting_low = leb-true waiting 64 (and_left (leb waiting 64) last b);
      no_feed = not-true (any is_feed (take held begun)) (and_right (leb waiting 64) last b);
    }

-- ---- bytes put out

-- the rest of a front
drop_take : (k n : ℕ) (l : List ℕ) → drop k (take n l) ≡ take (n - k) (drop k l)
drop_take zero n l = let e : n ≡ n - 0 = omega arith in ap (λ (j : ℕ). take j l) e
drop_take (suc k) zero l = let e : 0 ≡ 0 - suc k = omega arith in ap (λ (j : ℕ). take j (drop (suc k) l)) e
drop_take (suc k) (suc n) [] = sym (take_none (suc n - suc k))
  where
    take_none : (j : ℕ) → take {A = ℕ} j [] ≡ []
    take_none zero = refl
    take_none (suc j) = refl
drop_take (suc k) (suc n) (x ∷ xs) = let e : n - k ≡ suc n - suc k = omega arith in drop_take k n xs ∙ ap (λ (j : ℕ). take j (drop k xs)) e

-- a front of bytes: k of them are written
pub put_out_is : (h : Held) (bytes out after pending : List ℕ) (n k taken : ℕ) → n ≤ length bytes → k ≡ min n (length out)
    → after ≡ take k bytes ++ drop k out → pending ≡ padded (take (n - k) (drop k bytes))
    → parted_from (held_from h.machine h.lines h.held (n - k) h.stopped h.begun pending) taken k after 0 ≡ put_out h (take n bytes) out taken
unfolding put_out
put_out_is h bytes out after pending n k taken w e f g =
    let l = length-take-le n bytes w in
    let a : take k bytes ≡ take k (take n bytes) = sym (take-take k n bytes (omega arith)) in
    let b : take (n - k) (drop k bytes) ≡ drop k (take n bytes) = sym (drop_take k n bytes) in
    rw (l, ← e) (rw (f, g, a, b))

-- ---- what is held behind replayed lines

module _ (m : Machine) (lines made verdict : ℕ) (behind : List ℕ) where
  pub settled_departing : verdict ≡ 2 → held_from m (lines + made + 1) 0 0 1 (padded []) (padded []) ≡ settled m lines made verdict behind
  unfolding settled
  settled_departing e = rw e

  pub settled_open : (held : ℕ) (begun : List ℕ) → verdict ≡ 1 → held ≡ length behind → begun ≡ padded behind
      → held_from m (lines + made) held 0 0 begun (padded []) ≡ settled m lines made verdict behind
  unfolding settled
  settled_open held begun e f g = rw (e, add-zero (lines + made)) (rw (f, g))

  pub settled_more : verdict ≡ 0 → held_from m (lines + made) 0 0 0 (padded []) (padded []) ≡ settled m lines made verdict behind
  unfolding settled
  settled_more e = rw (e, add-zero (lines + made))

  -- bytes behind the lines count where they are carried over
  pub settled_same : (other : List ℕ) → (verdict ≡ 1 → behind ≡ other) → settled m lines made verdict behind ≡ settled m lines made verdict other
  unfolding settled
  settled_same other e = case (eqb verdict 1) (λ u. rw (e (eqb-true verdict 1 u))) (λ u. rw u)

-- the bytes up to the end of a list are those behind its start
pub to_end : (l : List ℕ) (k : ℕ) → take (length l - k) (drop k l) ≡ drop k l
to_end l k = take_all (length l - k) (drop k l) (let e = length-drop k l in omega arith)

-- ---- the start

pub start_is : (memory bad store : List ℕ) (s : Started) → s ≡ started memory bad store
    → parted_from (held_from s.machine 0 0 0 0 (padded []) (padded [])) 0 0 [] s.refusal ≡ start_replay memory bad store
unfolding start_replay
start_is memory bad store s e = rw e
