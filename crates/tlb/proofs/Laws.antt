-- The cases of the TLB's operations on words.
use Rattle.std.specs.Prelude.{Some, None}
use Prim.Native.Nat.{ℕ, ◌+◌, ◌*◌, ◌/◌, ◌%◌, ◌^◌, ◌<◌, ◌≤◌}
use native.Mathlib.Omega.{arith}
use mathlib.Core.Bool.{Bool, true, false}
use mathlib.Core.Path.{◌≡◌, ◌∙◌, ap}
use mathlib.Core.List.{List}
use lib.Dec.{eqb}
use lib.ListN.{length, length-map, get_or, set, drop, replicate}
use borrow.Author.Tests.{ne_eqb}
use Rattle.values.specs.Lists.{first_from}
use Rattle.values.specs.Empty.{empty_entry}
use Rattle.values.specs.declared.VirtualAddress.{VirtualAddress}
use Rattle.values.specs.declared.Entry.{Entry}
use Rattle.values.proofs.Searches.{search_hit, search_on, search_end}
use Rattle.values.proofs.Maps.{map_set, map_replicate, words_step}
use Rattle.values.proofs.InPlace.{Upto, upto_end}
use Rattle.tlb.specs.Tlb.{covers, translated, ap_of, placed, flushed, dropped, kept_of}
use Rattle.tlb.specs.Packing.{entry_of, word_of, entries_of}
use Rattle.walk.specs.Ranges.{InRange}
use Rattle.tlb.proofs.Packing.{entry_word, entry_zero, entry_at}

-- ---- cover, by the word's size

module _ (va : VirtualAddress) (w : ℕ) where
  pub covers_invalid : w % 2 ≡ 0 → covers va (entry_of w) ≡ false
  unfolding covers entry_of
  covers_invalid h = let e : w / 1 % 2 ≡ 0 = omega arith in rw e

  module _ (h : w % 2 ≡ 0 → ⊥) where
    pub covers_section : w / 8 % 32 ≡ 0 → covers va (entry_of w) ≡ eqb (va.0 / 0x100000 * 0x100000) (w / 0x100000000000 * 0x1000)
    unfolding covers entry_of
    covers_section s = let e : w / 1 % 2 ≡ 1 = omega arith in rw (e, s)

    pub covers_large : w / 8 % 32 ≡ 1 → covers va (entry_of w) ≡ eqb (va.0 / 0x10000 * 0x10000) (w / 0x100000000000 * 0x1000)
    unfolding covers entry_of
    covers_large s = let e : w / 1 % 2 ≡ 1 = omega arith in rw (e, s)

    pub covers_small : (w / 8 % 32 ≡ 0 → ⊥) → (w / 8 % 32 ≡ 1 → ⊥)
        → covers va (entry_of w) ≡ eqb (va.0 / 0x1000 * 0x1000) (w / 0x100000000000 * 0x1000)
    unfolding covers entry_of
    covers_small s t = let e : w / 1 % 2 ≡ 1 = omega arith in rw (e, ne_eqb (w / 8 % 32) 0 s, ne_eqb (w / 8 % 32) 1 t)

-- ---- translation and permission, by the entry's size

module _ (e : Entry) (va : VirtualAddress) where
  pub translated_section : e.size ≡ 0 → translated e va ≡ record { 0 = e.pbase + va.0 % 0x100000 }
  unfolding translated
  translated_section s = rw s

  pub translated_large : e.size ≡ 1 → translated e va ≡ record { 0 = e.pbase + va.0 % 0x10000 }
  unfolding translated
  translated_large s = rw s

  pub translated_small : (e.size ≡ 0 → ⊥) → (e.size ≡ 1 → ⊥) → translated e va ≡ record { 0 = e.pbase + va.0 % 0x1000 }
  unfolding translated
  translated_small s t = rw (ne_eqb e.size 0 s, ne_eqb e.size 1 t)

  pub ap_section : e.size ≡ 0 → ap_of e va ≡ e.aps % 4
  unfolding ap_of
  ap_section s = let z : e.aps / 1 ≡ e.aps = omega arith in rw (s, z)

  pub ap_large : e.size ≡ 1 → ap_of e va ≡ e.aps / 2 ^ (2 * (va.0 / 0x4000 % 4)) % 4
  unfolding ap_of
  ap_large s = rw s

  pub ap_small : (e.size ≡ 0 → ⊥) → (e.size ≡ 1 → ⊥) → ap_of e va ≡ e.aps / 2 ^ (2 * (va.0 / 0x400 % 4)) % 4
  unfolding ap_of
  ap_small s t = rw (ne_eqb e.size 0 s, ne_eqb e.size 1 t)

-- ---- the search

module _ (ws : List ℕ) (va : VirtualAddress) (i : ℕ) where
  there : (b : Bool) → covers va (entry_of (get_or ws i 0)) ≡ b → covers va (get_or (entries_of ws) i empty_entry) ≡ b
  there b t = ap (covers va) (entry_at ws i) ∙ t

  pub lookup_hit : i < length ws → covers va (entry_of (get_or ws i 0)) ≡ true → first_from (covers va) i (drop i (entries_of ws)) ≡ Some i
  lookup_hit h t = search_hit (covers va) (entries_of ws) empty_entry i i (rw length-map h) (there true t)

  pub lookup_on : i < length ws → covers va (entry_of (get_or ws i 0)) ≡ false
      → first_from (covers va) i (drop i (entries_of ws)) ≡ first_from (covers va) (i + 1) (drop (i + 1) (entries_of ws))
  lookup_on h t = search_on (covers va) (entries_of ws) empty_entry i i (rw length-map h) (there false t)

  pub lookup_end : length ws ≤ i → first_from (covers va) i (drop i (entries_of ws)) ≡ None
  lookup_end h = search_end (covers va) (entries_of ws) empty_entry i i (rw length-map h)

-- ---- replacement

pub place_at : (ws : List ℕ) (i w : ℕ) (e : Entry) → InRange e → w ≡ word_of e → entries_of (set ws i w) ≡ placed (entries_of ws) i e
unfolding placed
place_at ws i w e r p = map_set entry_of ws i w ∙ ap (λ (x : Entry). set (entries_of ws) i x) (ap entry_of p ∙ entry_word e r)

-- one place more in a loop that replaces each entry by a function of it
pub entries_step : (f : Entry → Entry) (old ws : List ℕ) (i w : ℕ) → Upto f (entries_of old) (entries_of ws) i → i < length ws
    → entry_of w ≡ f (entry_of (get_or ws i 0)) → Upto f (entries_of old) (entries_of (set ws i w)) (i + 1)
entries_step f old ws i w u h e = words_step entry_of empty_entry entry_zero f old ws i w u h e

-- zeros are empty entries
pub flush_all : (n : ℕ) → n ≡ 32 → entries_of (replicate n 0) ≡ flushed
unfolding flushed
flush_all n h = map_replicate entry_of n 0 ∙ ap (replicate n) entry_zero ∙ ap (λ (k : ℕ). replicate k empty_entry) h

pub drop_end : (old ws : List ℕ) (va : VirtualAddress) (i : ℕ) → Upto (kept_of va) (entries_of old) (entries_of ws) i → length old ≤ i
    → entries_of ws ≡ dropped (entries_of old) va
unfolding dropped
drop_end old ws va i u h = upto_end (kept_of va) (entries_of old) (entries_of ws) i u (rw length-map h)
