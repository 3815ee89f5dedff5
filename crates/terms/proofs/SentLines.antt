-- The dirty halves of one line sent out: the bytes below the cache that no other line holds dirty are then the plain machine's.
use Prim.Native.Nat.{ℕ, ◌+◌, ◌*◌, ◌/◌, ◌%◌, ◌<◌, ◌≤◌}
use native.Mathlib.Omega.{arith}
use mathlib.Core.Bool.{true, false, ◌&&◌}
use mathlib.Core.Logic.{◌≢◌}
use mathlib.Core.Path.{◌≡◌, sym, ◌∙◌, ap, subst}
use mathlib.Core.List.{List}
use lib.Dec.{eqb}
use lib.ListN.{length, get_or}
use borrow.Author.Tests.{eqb-true, eqb-false, eq-eqb}
use Rattle.values.specs.declared.Line.{Line}
use Rattle.values.proofs.Cases.{case, clash, and_left, and_no}
use Rattle.buffer.specs.Buffer.{Backing}
use Rattle.buffer.proofs.Below.{below}
use Rattle.cache.specs.Dcache.{Side, halves_sent}
use Rattle.cache.proofs.Unchanged.{none_sent}
use Rattle.soundness_laws.proofs.CacheKept.{SideIs}
use Rattle.terms.specs.History.{Stage, History}
use Rattle.terms.proofs.Invariant.{at, dirty_at, Staged, SideAgrees}
use Rattle.terms.proofs.BackingAgrees.{below_sent, staged_sent}

module _ (n : ℕ) (s : Side) (k : SideIs n s) (pm : List ℕ) (h : History) (g : SideAgrees s pm h) (j : ℕ) (low : j < 512) where
  abbrev l : Line
  l = at s.cache.lines j

  abbrev sent : Backing
  sent = halves_sent s.backing l s.cache.store (j * 32)

  -- no line but line j holds byte x in a dirty half
  abbrev pub OthersUndirty : ℕ → Type 0
  OthersUndirty x =
      (i : ℕ) → i ≢ j → (at s.cache.lines i).valid ≡ true → (at s.cache.lines i).frame ≡ x / 32 → dirty_at (at s.cache.lines i) x ≡ false

  fits : j * 32 + 32 ≤ length s.cache.store
  fits = omega (arith, k.cache.shape.store_long)

  nothing_sent : l.valid ≡ false → sent ≡ s.backing
  nothing_sent v =
      let e = (k.cache.lines j).empty v in
      none_sent s.backing l s.cache.store (j * 32) (ap (λ (x : Line). x.low) e) (ap (λ (x : Line). x.high) e)

  line_byte : (x : ℕ) → l.valid ≡ true → x / 32 ≡ l.frame → get_or s.cache.store (j * 32 + x % 32) 0 ≡ get_or pm x 0
  line_byte x v e =
      let q : l.frame * 32 + x % 32 ≡ x = omega arith in
      g.cache.held j (x % 32) v (omega arith) ∙ ap (λ (y : ℕ). get_or pm y 0) q

  pub sent_below : (x : ℕ) → OthersUndirty x → below (halves_sent s.backing (at s.cache.lines j) s.cache.store (j * 32)) x ≡ get_or pm x 0
  sent_below x o =
      case l.valid
      (λ v.
      below_sent n s.backing k.backing l s.cache.store (j * 32) k.cache.store_bytes ((k.cache.lines j).inside v) fits (λ y e. g.good j y v e) x
      ∙ case (eqb (x / 32) l.frame && dirty_at l x)
      (λ t. rw t (line_byte x v (eqb-true (x / 32) l.frame (and_left (eqb (x / 32) l.frame) (dirty_at l x) t))))
      (λ t.
      rw t
      (g.under x
      (λ i u f.
      case (eqb i j)
      (λ e.
      let q = eqb-true i j e in
      let f' : l.frame ≡ x / 32 = subst (λ (y : ℕ). (at s.cache.lines y).frame ≡ x / 32) q f in
      subst (λ (y : ℕ). dirty_at (at s.cache.lines y) x ≡ false) (sym q)
      (and_no (eqb (x / 32) l.frame) (dirty_at l x) (eq-eqb (x / 32) l.frame (sym f')) t))
      (λ e. o i (eqb-false i j e) u f)))))
      (λ v.
      ap (λ (b : Backing). below b x) (nothing_sent v)
      ∙ g.under x
      (λ i u f.
      case (eqb i j)
      (λ e. clash (subst (λ (y : ℕ). (at s.cache.lines y).valid ≡ true) (eqb-true i j e) u) v)
      (λ e. o i (eqb-false i j e) u f)))

  pub sent_staged : (stage : ℕ → Stage) → Staged s.backing pm stage
      → Staged (halves_sent s.backing (at s.cache.lines j) s.cache.store (j * 32)) pm stage
  sent_staged stage q =
      case l.valid
      (λ v.
      staged_sent n s.backing k.backing l s.cache.store (j * 32) k.cache.store_bytes ((k.cache.lines j).inside v) fits
      (λ y e. g.good j y v e) pm stage
      (λ x e. line_byte x v e) q)
      (λ v. subst (λ (b : Backing). Staged b pm stage) (sym (nothing_sent v)) q)
