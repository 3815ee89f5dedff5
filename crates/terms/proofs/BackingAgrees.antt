-- The write buffer and memory: what each operation does to the bytes below the cache, to settled bytes, and to bytes by their stages.
use Prim.Native.Nat.{ℕ, ◌+◌, ◌*◌, ◌/◌, ◌%◌, ◌<◌, ◌≤◌}
use native.Mathlib.Omega.{arith}
use mathlib.Core.Bool.{Bool, true, false, cond, ◌&&◌}
use mathlib.Core.Path.{◌≡◌, refl, sym, ◌∙◌, ap}
use mathlib.Core.List.{List}
use lib.Dec.{eqb, ltb}
use lib.ListN.{length, get_or, take, drop}
use lib.Seq.{get_or-take, get_or-drop}
use borrow.Author.Tests.{eqb-true, eqb-false, eq-eqb, ne_eqb, ltb-true, ltb-false}
use Rattle.values.specs.Addresses.{block_of}
use Rattle.values.specs.declared.PhysicalAddress.{PhysicalAddress}
use Rattle.values.specs.declared.Line.{Line}
use Rattle.values.proofs.Cases.{case, clash}
use Rattle.words.specs.Words.{stored, Bytes}
use Rattle.bus.specs.Physical.{is_bad}
use Rattle.buffer.specs.Buffer.{Backing, with_memory, drained, holds, ready, buffered}
use Rattle.buffer.proofs.Below.{below}
use Rattle.buffer.proofs.Lengths.{memory_drained}
use Rattle.buffer.proofs.StoredBelow.{as_stored}
use Rattle.cache.specs.Dcache.{half_sent, halves_sent}
use Rattle.cache.proofs.Unchanged.{bad_half_sent}
use Rattle.soundness_laws.proofs.BackingKept.{BackingIs}
use Rattle.soundness_laws.proofs.CacheKept.{half_sent_kept}
use Rattle.terms.specs.History.{Stage, after_drain}
use Rattle.terms.specs.Rules.{is_stored, is_drained}
use Rattle.terms.proofs.Invariant.{SettledAt, Staged, dirty_at}
use Rattle.terms.proofs.Stages.{drained_cleaned, cleaned_before}
use Rattle.terms.proofs.SettledBytes.{settled_over, settled_same, drained_over, drained_byte, drained_none, unmet_below, half_over}
use Rattle.terms.proofs.SettledBytes.{settled_half, outside_stored, settled_buffered, outside_lands, bad_store_lands, buffered_over, new_stored}
pub use Rattle.terms.proofs.SettledBytes.{Outside}

-- ---- a dirty half sent out

module _ (n : ℕ) (dirty : Bool) (b : Backing) (k : BackingIs n b) (block : ℕ) (store : List ℕ) (a : ℕ) (long : a + 16 ≤ length store) where
  byte_sent : (x : ℕ) → get_or (take 16 (drop a store)) (x % 16) 0 ≡ get_or store (a + x % 16) 0
  byte_sent x = get_or-take 16 (drop a store) (x % 16) 0 (omega arith) ∙ get_or-drop a store (x % 16) 0

  below_half : (x : ℕ) → (x / 16 ≡ block → is_bad b.bad (x / 4) ≡ false)
      → below (half_sent dirty b block store a) x ≡ cond (eqb (x / 16) block && dirty) (get_or store (a + x % 16) 0) (below b x)
  below_half x good = by dirty (eqb (x / 16) block) refl
    where
      by : (d h : Bool) → eqb (x / 16) block ≡ h → below (half_sent d b block store a) x ≡ cond (h && d) (get_or store (a + x % 16) 0) (below b x)
      by true true e = half_over n b k block (take 16 (drop a store)) x good ∙ rw e (byte_sent x)
      by true false e = half_over n b k block (take 16 (drop a store)) x good ∙ rw e
      by false true e = refl
      by false false e = refl

  settled_sent : (pm : List ℕ) (x : ℕ) → (x / 16 ≡ block → get_or store (a + x % 16) 0 ≡ get_or pm x 0) → SettledAt b pm x
      → SettledAt (half_sent dirty b block store a) pm x
  settled_sent pm x h s = by dirty
    where
      by : (d : Bool) → SettledAt (half_sent d b block store a) pm x
      by true = settled_half n b k block (take 16 (drop a store)) pm x (λ e. byte_sent x ∙ h e) s
      by false = s

module _ (n : ℕ) (b : Backing) (k : BackingIs n b) where
  pub settled_below : (pm : List ℕ) (x : ℕ) → SettledAt b pm x → below b x ≡ get_or pm x 0
  settled_below pm x s = settled_over b pm x s

  -- ---- a drain

  pub below_drained : (x : ℕ) → below (drained b) x ≡ below b x
  below_drained x = drained_over n b k x

  pub drained_memory_below : (x : ℕ) → get_or (drained b).memory x 0 ≡ below b x
  drained_memory_below x = drained_byte n b k x

  pub settled_drained : (pm : List ℕ) (x : ℕ) → below b x ≡ get_or pm x 0 → SettledAt (drained b) pm x
  settled_drained pm x e =
      record { in_memory = drained_memory_below x ∙ e; in_entries = λ j t. clash t (drained_none n b k j x) }

  pub staged_drained : (pm : List ℕ) (stage : ℕ → Stage) → Staged b pm stage → Staged (drained b) pm (λ x. after_drain (stage x))
  staged_drained pm stage s =
      record {
        cleaned_below = λ x h. below_drained x ∙ s.cleaned_below x (cleaned_before (stage x) h);
        drained_settled = λ x h. settled_drained pm x (s.cleaned_below x (cleaned_before (stage x) (drained_cleaned (after_drain (stage x)) h)));
      }

  -- ---- ready for a read

  pub below_ready : (a c x : ℕ) → below (ready b a c) x ≡ below b x
  unfolding ready
  below_ready a c x = case (holds b.buffer a c) (λ t. rw t (below_drained x)) (λ t. rw t)

  pub ready_memory_below : (a c x : ℕ) → a ≤ x → x < a + c → get_or (ready b a c).memory x 0 ≡ below b x
  unfolding ready
  ready_memory_below a c x h l =
      case (holds b.buffer a c) (λ t. rw t (drained_memory_below x)) (λ t. rw t (unmet_below n b k a c x t h l))

  pub staged_ready : (pm : List ℕ) (stage : ℕ → Stage) (a c : ℕ) → Staged b pm stage → Staged (ready b a c) pm stage
  unfolding ready
  staged_ready pm stage a c s =
      case (holds b.buffer a c)
      (λ t.
      rw t
      (record {
        cleaned_below = λ x h. below_drained x ∙ s.cleaned_below x h;
        drained_settled = λ x h. settled_drained pm x (settled_below pm x (s.drained_settled x h));
      }))
      (λ t. rw t s)

  -- ---- the dirty halves of a line sent out

  module _ (l : Line) (store : List ℕ) (a : ℕ) (bytes : Bytes store) (inside : l.frame * 32 + 32 ≤ n) (long : a + 32 ≤ length store)
      (good : (x : ℕ) → x / 32 ≡ l.frame → is_bad b.bad (x / 4) ≡ false) where
    abbrev low_sent : Backing
    low_sent = half_sent l.low b (l.frame * 2) store a

    low_is : BackingIs n low_sent
    low_is = half_sent_kept n l.low b (l.frame * 2) store a (λ t. omega arith) bytes (omega arith) k

    pub below_sent : (x : ℕ) → below (halves_sent b l store a) x ≡ cond (eqb (x / 32) l.frame && dirty_at l x) (get_or store (a + x % 32) 0) (below b x)
    unfolding halves_sent
    below_sent x =
        below_half n l.high low_sent low_is (l.frame * 2 + 1) store (a + 16) (omega arith) x
        (λ e. rw (bad_half_sent l.low b (l.frame * 2) store a) (good x (omega arith)))
        ∙ ap (λ (y : ℕ). cond (eqb (x / 16) (l.frame * 2 + 1) && l.high) (get_or store (a + 16 + x % 16) 0) y)
        (below_half n l.low b k (l.frame * 2) store a (omega arith) x (λ e. good x (omega arith)))
        ∙ case (eqb (x / 32) l.frame)
        (λ t.
        let e : x / 32 ≡ l.frame = eqb-true (x / 32) l.frame t in
        case (ltb (x % 32) 16)
        (λ u.
        let q = ltb-true (x % 32) 16 u in
        let r : x % 16 ≡ x % 32 = omega arith in
        rw (t, u, ne_eqb (x / 16) (l.frame * 2 + 1) (λ z. absurd (omega arith)), eq-eqb (x / 16) (l.frame * 2) (omega arith), r))
        (λ u.
        let q = ltb-false (x % 32) 16 u in
        let r : a + 16 + x % 16 ≡ a + x % 32 = omega arith in
        rw (t, u, ne_eqb (x / 16) (l.frame * 2) (λ z. absurd (omega arith)), eq-eqb (x / 16) (l.frame * 2 + 1) (omega arith), r)))
        (λ t.
        let e = eqb-false (x / 32) l.frame t in
        rw (t, ne_eqb (x / 16) (l.frame * 2) (λ z. e (omega arith)), ne_eqb (x / 16) (l.frame * 2 + 1) (λ z. e (omega arith))))

    settled_halves : (pm : List ℕ) → ((x : ℕ) → x / 32 ≡ l.frame → get_or store (a + x % 32) 0 ≡ get_or pm x 0)
        → (x : ℕ) → SettledAt b pm x → SettledAt (halves_sent b l store a) pm x
    unfolding halves_sent
    settled_halves pm h x s =
        settled_sent n l.high low_sent low_is (l.frame * 2 + 1) store (a + 16) (omega arith) pm x
        (λ e. let q : a + 16 + x % 16 ≡ a + x % 32 = omega arith in ap (λ (i : ℕ). get_or store i 0) q ∙ h x (omega arith))
        (settled_sent n l.low b k (l.frame * 2) store a (omega arith) pm x
        (λ e. let q : a + x % 16 ≡ a + x % 32 = omega arith in ap (λ (i : ℕ). get_or store i 0) q ∙ h x (omega arith)) s)

    pub staged_sent : (pm : List ℕ) (stage : ℕ → Stage) → ((x : ℕ) → x / 32 ≡ l.frame → get_or store (a + x % 32) 0 ≡ get_or pm x 0)
        → Staged b pm stage → Staged (halves_sent b l store a) pm stage
    staged_sent pm stage h s =
        record {
          cleaned_below = λ x e.
              below_sent x
              ∙ case (eqb (x / 32) l.frame)
              (λ t. case (dirty_at l x) (λ u. rw (t, u) (h x (eqb-true (x / 32) l.frame t))) (λ u. rw (t, u) (s.cleaned_below x e)))
              (λ t. rw t (s.cleaned_below x e));
          drained_settled = λ x e. settled_halves pm h x (s.drained_settled x e);
        }

  -- ---- a store of w bytes at a

  module _ (pm : List ℕ) (pm-long : length pm ≡ n) (w v : ℕ) (stage after : ℕ → Stage) where
    -- the bytes whose stage afterwards is not `stored` lie outside the store, and their stage is what it was
    abbrev pub StoredTo : ℕ → Type 0
    StoredTo a = (x : ℕ) → is_stored (after x) ≡ false → (after x ≡ stage x) × Outside a w x

    -- what is asked of a backing that takes the store, at each byte outside it
    staged_store : (a : ℕ) (c : Backing) → ((x : ℕ) → Outside a w x → below b x ≡ get_or pm x 0 → below c x ≡ get_or (stored w pm a v) x 0)
        → ((x : ℕ) → Outside a w x → SettledAt b pm x → SettledAt c (stored w pm a v) x)
        → StoredTo a → Staged b pm stage → Staged c (stored w pm a v) after
    staged_store a c f g t s =
        record {
          cleaned_below = λ x h. f x (t x h).1 (s.cleaned_below x (ap is_stored (sym (t x h).0) ∙ h));
          drained_settled = λ x h.
              let q = t x (drained_cleaned (after x) h) in
              g x q.1 (s.drained_settled x (ap is_drained (sym q.0) ∙ h));
        }

    -- into the cache: the plain machine's memory alone changes
    pub staged_hit : (a : ℕ) → StoredTo a → Staged b pm stage → Staged b (stored w pm a v) after
    staged_hit a =
        staged_store a b (λ x o e. e ∙ sym (outside_stored w pm a v x o))
        (λ x o e. settled_same b pm (stored w pm a v) x (sym (outside_stored w pm a v x o)) e)

    module _ (pa : PhysicalAddress) (wide : 0 < w) (fits : pa.0 % 16 + w ≤ 16) (inside : block_of pa * 16 + 16 ≤ n)
        (good : (x : ℕ) → pa.0 ≤ x → x < pa.0 + w → is_bad b.bad (x / 4) ≡ false) where
      -- into the buffer
      pub below_buffered : (x : ℕ) → (Outside pa.0 w x → below b x ≡ get_or pm x 0) → below (buffered b pa w v) x ≡ get_or (stored w pm pa.0 v) x 0
      below_buffered x h =
          buffered_over n b k pa w v x fits ∙ new_stored b.bad pm pa.0 w v x (below b x) fits (omega arith) (good x) h

      pub staged_buffered : StoredTo pa.0 → Staged b pm stage → Staged (buffered b pa w v) (stored w pm pa.0 v) after
      staged_buffered =
          staged_store pa.0 (buffered b pa w v) (λ x o e. below_buffered x (λ z. e))
          (λ x o e.
          settled_same (buffered b pa w v) pm (stored w pm pa.0 v) x (sym (outside_stored w pm pa.0 v x o))
          (settled_buffered n b k pm pa w v x fits (outside_lands b.bad pa w v x fits o) e))

      -- into memory, after a drain
      abbrev pub direct : Backing
      direct = with_memory (drained b) (stored w (drained b).memory pa.0 v)

      settled_direct : (x : ℕ) → (Outside pa.0 w x → below b x ≡ get_or pm x 0) → SettledAt direct (stored w pm pa.0 v) x
      settled_direct x h =
          let m = (drained b).memory in
          let e : length m ≡ n = memory_drained b ∙ k.memory_long in
          record {
            in_memory =
                sym (as_stored b.bad m pa.0 w v x fits (omega arith) (good x))
                ∙ new_stored b.bad pm pa.0 w v x (get_or m x 0) fits (omega arith) (good x) (λ o. drained_memory_below x ∙ h o);
            in_entries = λ j t. clash t (drained_none n b k j x);
          }

      pub below_direct : (x : ℕ) → (Outside pa.0 w x → below b x ≡ get_or pm x 0) → below direct x ≡ get_or (stored w pm pa.0 v) x 0
      below_direct x h = settled_over direct (stored w pm pa.0 v) x (settled_direct x h)

      pub staged_direct : StoredTo pa.0 → Staged b pm stage → Staged direct (stored w pm pa.0 v) after
      staged_direct =
          staged_store pa.0 direct (λ x o e. below_direct x (λ z. e)) (λ x o e. settled_direct x (λ z. settled_below pm x e))

  -- ---- a store to a bad word: nothing of it goes to memory

  module _ (pm : List ℕ) (pa : PhysicalAddress) (w v : ℕ) (fits : pa.0 % 4 + w ≤ 4) (bad : is_bad b.bad (pa.0 / 4) ≡ true) where
    in_block : pa.0 % 16 + w ≤ 16
    in_block = omega arith

    pub below_dropped : (x : ℕ) → below (buffered b pa w v) x ≡ below b x
    below_dropped x = buffered_over n b k pa w v x in_block ∙ rw (bad_store_lands b.bad pa w v x fits bad)

    pub staged_dropped : (stage : ℕ → Stage) → Staged b pm stage → Staged (buffered b pa w v) pm stage
    staged_dropped stage s =
        record {
          cleaned_below = λ x h. below_dropped x ∙ s.cleaned_below x h;
          drained_settled = λ x h.
              settled_buffered n b k pm pa w v x in_block (bad_store_lands b.bad pa w v x fits bad) (s.drained_settled x h);
        }
