-- What placement, flush and drop do to every entry.
use Prim.Native.Nat.{ℕ, ◌<◌}
use mathlib.Core.Bool.{false}
use mathlib.Core.Logic.{◌≢◌}
use mathlib.Core.Path.{◌≡◌, refl, sym, ◌∙◌, ap}
use mathlib.Core.List.{List, map}
use lib.ListN.{length, length-set, length-map, get_or, get_or-replicate, length-replicate, get_or-map}
use lib.Seq.{get_or-set_same, get_or-set_other}
use Rattle.values.specs.Empty.{empty_entry}
use Rattle.values.specs.declared.VirtualAddress.{VirtualAddress}
use Rattle.values.specs.declared.Entry.{Entry}
use Rattle.values.proofs.Cases.{case}
use Rattle.tlb.specs.Tlb.{covers, placed, flushed, kept_of, dropped}

-- an empty entry covers nothing
pub empty_covers : (va : VirtualAddress) → covers va empty_entry ≡ false
unfolding covers
empty_covers va = refl

module _ (entries : List Entry) (p : ℕ) (e : Entry) where
  pub placed_here : p < length entries → get_or (placed entries p e) p empty_entry ≡ e
  unfolding placed
  placed_here h = get_or-set_same entries p e empty_entry h

  pub placed_other : (i : ℕ) → i ≢ p → get_or (placed entries p e) i empty_entry ≡ get_or entries i empty_entry
  unfolding placed
  placed_other i h = get_or-set_other entries p i e empty_entry h

  pub length_placed : length (placed entries p e) ≡ length entries
  unfolding placed
  length_placed = length-set entries p e

-- every entry is empty after a flush
pub flushed_at_lem : (i : ℕ) → i < 32 → get_or flushed i empty_entry ≡ empty_entry
unfolding flushed
flushed_at_lem i h = get_or-replicate 32 i empty_entry empty_entry h

pub length_flushed : length flushed ≡ 32
unfolding flushed
length_flushed = length-replicate 32 empty_entry

module _ (entries : List Entry) (va : VirtualAddress) where
  kept_empty : kept_of va empty_entry ≡ empty_entry
  kept_empty = rw (empty_covers va)

  -- an entry after a drop: empty if it covered the address, else as it was
  pub dropped_at : (i : ℕ) → get_or (dropped entries va) i empty_entry ≡ kept_of va (get_or entries i empty_entry)
  unfolding dropped
  dropped_at i = ap (λ (d : Entry). get_or (map (kept_of va) entries) i d) (sym kept_empty) ∙ get_or-map (kept_of va) entries i empty_entry

  pub dropped_covers : (i : ℕ) → covers va (get_or (dropped entries va) i empty_entry) ≡ false
  dropped_covers i =
      ap (covers va) (dropped_at i)
      ∙ case (covers va (get_or entries i empty_entry)) (λ t. rw t (empty_covers va)) (λ t. rw t t)

  pub length_dropped : length (dropped entries va) ≡ length entries
  unfolding dropped
  length_dropped = length-map entries (kept_of va)
