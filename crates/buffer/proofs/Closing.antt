-- Entries that close up, leave and enter.
use Prim.Native.Nat.{ℕ, suc, ◌+◌, ◌-◌, ◌*◌, ◌/◌, ◌%◌, ◌<◌, ◌≤◌}
use native.Mathlib.Omega.{arith}
use mathlib.Core.Bool.{true, false}
use mathlib.Core.Path.{◌≡◌, refl, sym, ◌∙◌, ap, subst}
use mathlib.Core.List.{List, [], ◌∷◌, ◌++◌}
use lib.ListN.{length, length-set, length-append, length-drop, get_or, set, drop, replicate, get_or-append}
use lib.Seq.{get_or-drop, get_or-set_same, get_or-set_other}
use lib.Dec.{eqb}
use borrow.Author.Tests.{lt-ltb, le-ltb, eqb-true, eqb-false}
use Rattle.values.specs.Empty.{empty_slot}
use Rattle.values.specs.declared.Slot.{Slot}
use Rattle.values.proofs.Cases.{case}
use Rattle.buffer.specs.Buffer.{Backing, laid, good_mask, oldest_left, behind, pushed, leaving, drained, holds, ready}
use Rattle.buffer.specs.Packing.{slot_of, slots_of, backing_of}
use Rattle.buffer.specs.Ranges.{Fits, Left}
use Rattle.buffer.proofs.Slots.{slot_at, slots_set, slots_drop, slots_append}
use Rattle.buffer.proofs.Laying.{length_laid}
use Rattle.buffer.specs.Buffer.{buffer_from}

-- ---- the oldest entry leaves

module _ (m bad ws : List ℕ) (bs : List (List ℕ)) (used : ℕ) (f : Fits m ws bs used) where
  same_long : length ws ≡ length bs
  same_long = f.words_long ∙ sym f.bytes_long

  closed_words : List ℕ
  closed_words = drop 1 ws ++ (0 ∷ [])

  closed_bytes : List (List ℕ)
  closed_bytes = drop 1 bs ++ (replicate 16 0 ∷ [])

  long_words : length (drop 1 ws) ≡ 7
  long_words = length-drop 1 ws ∙ (let n = f.words_long in omega arith)

  long_bytes : length (drop 1 bs) ≡ 7
  long_bytes = length-drop 1 bs ∙ (let n = f.bytes_long in omega arith)

  closed_slots : slots_of closed_words closed_bytes ≡ drop 1 (slots_of ws bs) ++ (empty_slot ∷ [])
  unfolding closed_words closed_bytes slots_of
  closed_slots =
      slots_append (drop 1 ws) (0 ∷ []) (drop 1 bs) (replicate 16 0 ∷ []) (long_words ∙ sym long_bytes)
      ∙ ap (λ (l : List Slot). l ++ (empty_slot ∷ [])) (slots_drop 1 ws bs)

  word_behind : (i : ℕ) → i < 7 → get_or closed_words i 0 ≡ get_or ws (1 + i) 0
  unfolding closed_words
  word_behind i h = get_or-append (drop 1 ws) (0 ∷ []) 0 i (omega (arith, long_words)) ∙ get_or-drop 1 ws i 0

  pub oldest_left_lem : 0 < used → (m' : List ℕ) (w : ℕ) (b : List ℕ) → w ≡ get_or ws 0 0 → b ≡ get_or bs 0 (replicate 16 0)
      → m' ≡ laid m (w / 0x100000000 * 16) (good_mask bad (w / 0x100000000) (w % 0x100000000)) b
      → Left m' bad (drop 1 ws ++ (0 ∷ [])) (drop 1 bs ++ (replicate 16 0 ∷ [])) (used - 1) (oldest_left (backing_of m bad ws bs used))
  unfolding oldest_left closed_words closed_bytes
  oldest_left_lem h m' w b ew eb em =
      let s : get_or (slots_of ws bs) 0 empty_slot ≡ slot_of w b = slot_at ws bs 0 same_long ∙ rw (ew, eb) in
      let n : length m' ≡ length m = ap length em ∙ length_laid b m (w / 0x100000000 * 16) (good_mask bad (w / 0x100000000) (w % 0x100000000)) in
      record {
        same = rw (s, closed_slots, em);
        fits = record {
          words_long = length-append (drop 1 ws) (0 ∷ []) ∙ rw long_words;
          bytes_long = length-append (drop 1 bs) (replicate 16 0 ∷ []) ∙ rw long_bytes;
          used_low = omega (arith, f.used_low);
          inside = λ i k. let g = f.inside (1 + i) (omega arith) in let u = f.used_low in rw (word_behind i (omega arith), n) g;
        };
      }

  -- ---- a new entry

  pub entered : (w : ℕ) (b : List ℕ) → used < 8 → w / 0x100000000 * 16 + 16 ≤ length m
      → Left m bad (set ws used w) (set bs used b) (used + 1) (behind (backing_of m bad ws bs used) (slot_of w b))
  unfolding behind
  entered w b h k =
      record {
        same = rw (slots_set ws bs used w b);
        fits = record {
          words_long = length-set ws used w ∙ f.words_long;
          bytes_long = length-set bs used b ∙ f.bytes_long;
          used_low = omega arith;
          inside = λ i l.
              case (eqb i used)
              (λ t. let e : i ≡ used = eqb-true i used t in rw (e, get_or-set_same ws used w 0 (omega (arith, f.words_long))) k)
              (λ t. let e = eqb-false i used t in rw (get_or-set_other ws used i w 0 e) (f.inside i (below i l e)));
        };
      }
    where
      below : (i : ℕ) → i < used + 1 → (i ≡ used → ⊥) → i < used
      below i l e = omega arith

  pub pushed_in : (w : ℕ) (b : List ℕ) → used < 8 → w / 0x100000000 * 16 + 16 ≤ length m
      → Left m bad (set ws used w) (set bs used b) (used + 1) (pushed (backing_of m bad ws bs used) (slot_of w b))
  unfolding pushed
  pushed_in w b h k = rw (lt-ltb used 8 h) (entered w b h k)

-- the buffer is full: the oldest has left, and the entry goes to the last place
pub pushed_full : (m bad ws : List ℕ) (bs : List (List ℕ)) (used : ℕ) → used ≤ 8 → 8 ≤ used → (m' ws' : List ℕ) (bs' : List (List ℕ))
    → Left m' bad ws' bs' (used - 1) (oldest_left (backing_of m bad ws bs used)) → (w : ℕ) (b : List ℕ) → w / 0x100000000 * 16 + 16 ≤ length m'
    → Left m' bad (set ws' 7 w) (set bs' 7 b) 8 (pushed (backing_of m bad ws bs used) (slot_of w b))
unfolding pushed
pushed_full m bad ws bs used l h m' ws' bs' o w b k =
    let e : used - 1 ≡ 7 = omega arith in
    let o' : Left m' bad ws' bs' 7 (oldest_left (backing_of m bad ws bs used)) = subst
    (λ (n : ℕ). Left m' bad ws' bs' n (oldest_left (backing_of m bad ws bs used))) e o in
    let r = entered m' bad ws' bs' 7 o'.fits w b (omega arith) k in
    rw (le-ltb used 8 h)
    (record { same = r.same ∙ ap (λ (x : Backing). behind x (slot_of w b)) o'.same; fits = r.fits })

-- ---- a drain

module _ (b₀ : Backing) (n : ℕ) where
  pub drain_more : (m bad ws : List ℕ) (bs : List (List ℕ)) (k : ℕ) → 0 < k → (x : Backing) → x ≡ oldest_left (backing_of m bad ws bs k)
      → leaving k (backing_of m bad ws bs k) ≡ leaving n b₀ → leaving (k - 1) x ≡ leaving n b₀
  unfolding leaving
  drain_more m bad ws bs k h x e g =
      let j : k ≡ suc (k - 1) = omega arith in
      ap (leaving (k - 1)) e ∙ sym (ap (λ (i : ℕ). leaving i (backing_of m bad ws bs k)) j) ∙ g

  pub drain_end : (x : Backing) (k : ℕ) → k ≤ 0 → leaving k x ≡ leaving n b₀ → x ≡ leaving n b₀
  unfolding leaving
  drain_end x k h g = let j : k ≡ 0 = omega arith in subst (λ (i : ℕ). leaving i x ≡ leaving n b₀) j g

-- ---- before a read

module _ (m bad ws : List ℕ) (bs : List (List ℕ)) (used a n : ℕ) where
  pub ready_drained : holds (buffer_from (slots_of ws bs) used) a n ≡ true → (m' ws' : List ℕ) (bs' : List (List ℕ)) (used' : ℕ)
      → Left m' bad ws' bs' used' (drained (backing_of m bad ws bs used)) → Left m' bad ws' bs' used' (ready (backing_of m bad ws bs used) a n)
  unfolding ready
  ready_drained h m' ws' bs' used' l = rw h l

  pub ready_kept : holds (buffer_from (slots_of ws bs) used) a n ≡ false → Fits m ws bs used
      → Left m bad ws bs used (ready (backing_of m bad ws bs used) a n)
  unfolding ready
  ready_kept h f = rw h (record { same = refl; fits = f })
