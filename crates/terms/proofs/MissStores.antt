-- A store that misses, into the write buffer or into memory.
use Rattle.std.specs.Prelude.{None}
use Prim.Native.Nat.{ℕ, ◌+◌, ◌*◌, ◌/◌, ◌%◌, ◌<◌, ◌≤◌}
use native.Mathlib.Omega.{arith}
use mathlib.Core.Bool.{true, false}
use mathlib.Core.Path.{◌≡◌, sym, ◌∙◌, ap}
use mathlib.Core.List.{List}
use lib.ListN.{length, get_or}
use borrow.Author.Tests.{ne_eqb}
use Rattle.values.specs.Addresses.{virtual_line, physical_line}
use Rattle.values.specs.declared.VirtualAddress.{VirtualAddress}
use Rattle.values.specs.declared.PhysicalAddress.{PhysicalAddress}
use Rattle.words.specs.Words.{stored}
use Rattle.buffer.specs.Buffer.{Backing, with_memory, drained, buffered}
use Rattle.buffer.proofs.Below.{below}
use Rattle.buffer.proofs.Lengths.{bad_drained, bad_buffered}
use Rattle.bus.specs.Physical.{is_bad}
use Rattle.cache.specs.Dcache.{Side, side_from, find}
use Rattle.soundness_laws.proofs.CacheKept.{SideIs}
use Rattle.translation.specs.declared.Place.{Place}
use Rattle.terms.specs.History.{History, with_store}
use Rattle.terms.proofs.Invariant.{at, Staged, by_word, by_line, SideAgrees}
use Rattle.terms.proofs.SettledBytes.{Outside, outside_stored}
use Rattle.terms.proofs.BackingAgrees.{below_buffered, staged_buffered, below_direct, staged_direct, below_dropped, staged_dropped}
use Rattle.terms.proofs.HeldLines.{missed_frame}
use Rattle.terms.proofs.StoredBytes.{words_stored, lines_stored}

module _ (n : ℕ) (s : Side) (k : SideIs n s) (pm : List ℕ) (long : length pm ≡ n) (h : History) (g : SideAgrees s pm h) (va : VirtualAddress)
    (l : Place) (w v : ℕ) (here : h.reached (virtual_line va) (physical_line l.address) ≡ true) (miss : find s.cache.lines va ≡ None)
    (fits : l.address.0 % 4 + w ≤ 4) where
  abbrev a : ℕ
  a = l.address.0

  abbrev pm' : List ℕ
  pm' = stored w pm a v

  not_held : (j : ℕ) → (at s.cache.lines j).valid ≡ true → (at s.cache.lines j).frame ≡ a / 32 → ⊥
  not_held j u e = missed_frame n s.cache k.cache h.reached g.cache.one g.cache.line_reached va (a / 32) here j miss u e

  -- a backing whose bytes below are the plain machine's after the store where they were before, or are stored
  side_with : (b : Backing) → b.bad ≡ s.backing.bad → ((x : ℕ) → (Outside a w x → below s.backing x ≡ get_or pm x 0) → below b x ≡ get_or pm' x 0)
      → Staged b pm' (by_word (with_store h va l.address)) → Staged b pm' (by_line (with_store h va l.address))
      → SideAgrees (side_from s.cache b) pm' (with_store h va l.address)
  side_with b r f p q =
      record {
        cache = record {
          held = λ j x u z.
              g.cache.held j x u z
              ∙ sym (outside_stored w pm a v ((at s.cache.lines j).frame * 32 + x) (λ r t. not_held j u (omega arith)));
          line_reached = g.cache.line_reached;
          dirty_stored = λ j u d. rw (ne_eqb (at s.cache.lines j).frame (a / 32) (not_held j u)) (g.cache.dirty_stored j u d);
          dirty_through = λ j u d. rw (ne_eqb (at s.cache.lines j).frame (a / 32) (not_held j u)) (g.cache.dirty_through j u d);
          one = g.cache.one;
        };
        good = λ j x u e. rw r (g.good j x u e);
        under = λ x u. f x (λ o. g.under x u);
        words = p;
        lines = q;
      }

  module _ (wide : 0 < w) (inside : a < n) (whole : n % 32 ≡ 0) (good_word : is_bad s.backing.bad (a / 4) ≡ false) where
    block_inside : a / 16 * 16 + 16 ≤ n
    block_inside = omega arith

    half : a % 16 + w ≤ 16
    half = omega arith

    abbrev b : Backing
    b = s.backing

    -- the bytes of the store lie in its word
    good : (x : ℕ) → a ≤ x → x < a + w → is_bad s.backing.bad (x / 4) ≡ false
    good x p q = let e : x / 4 ≡ a / 4 = omega arith in ap (is_bad s.backing.bad) e ∙ good_word

    pub buffered_side : SideAgrees (side_from s.cache (buffered s.backing l.address w v)) (stored w pm l.address.0 v) (with_store h va l.address)
    buffered_side =
        side_with (buffered b l.address w v) (bad_buffered b l.address w v)
        (below_buffered n b k.backing pm long w v (by_word h) (by_word (with_store h va l.address)) l.address wide half block_inside good)
        (staged_buffered n b k.backing pm long w v (by_word h) (by_word (with_store h va l.address)) l.address wide half block_inside good
        (words_stored h va l w fits) g.words)
        (staged_buffered n b k.backing pm long w v (by_line h) (by_line (with_store h va l.address)) l.address wide half block_inside good
        (lines_stored h va l w fits) g.lines)

    pub direct_side : SideAgrees (side_from s.cache (with_memory (drained s.backing) (stored w (drained s.backing).memory l.address.0 v)))
        (stored w pm l.address.0 v) (with_store h va l.address)
    direct_side =
        side_with (with_memory (drained b) (stored w (drained b).memory l.address.0 v)) (bad_drained b)
        (below_direct n b k.backing pm long w v (by_word h) (by_word (with_store h va l.address)) l.address wide half block_inside good)
        (staged_direct n b k.backing pm long w v (by_word h) (by_word (with_store h va l.address)) l.address wide half block_inside good
        (words_stored h va l w fits) g.words)
        (staged_direct n b k.backing pm long w v (by_line h) (by_line (with_store h va l.address)) l.address wide half block_inside good
        (lines_stored h va l w fits) g.lines)

-- a buffered store to a bad word: nothing of it goes to memory
pub dropped_side : (n : ℕ) (s : Side) (k : SideIs n s) (pm : List ℕ) (h : History) (g : SideAgrees s pm h) (pa : PhysicalAddress) (w v : ℕ)
    → pa.0 % 4 + w ≤ 4 → is_bad s.backing.bad (pa.0 / 4) ≡ true → SideAgrees (side_from s.cache (buffered s.backing pa w v)) pm h
dropped_side n s k pm h g pa w v fits e =
    record {
      cache = g.cache;
      good = λ j x u f. rw (bad_buffered s.backing pa w v) (g.good j x u f);
      under = λ x u. below_dropped n s.backing k.backing pm pa w v fits e x ∙ g.under x u;
      words = staged_dropped n s.backing k.backing pm pa w v fits e (by_word h) g.words;
      lines = staged_dropped n s.backing k.backing pm pa w v fits e (by_line h) g.lines;
    }
