-- The steps of the search for the newest entry of a block.
use Rattle.std.specs.Prelude.{Some, None}
use Prim.Native.Nat.{ℕ, suc, ◌-◌, ◌/◌, ◌<◌}
use native.Mathlib.Omega.{arith}
use mathlib.Core.Path.{◌≡◌, sym, ◌∙◌, ap}
use mathlib.Core.List.{List}
use lib.ListN.{length, get_or}
use borrow.Author.Tests.{eq-eqb, ne_eqb}
use Rattle.values.specs.Empty.{empty_slot}
use Rattle.values.specs.declared.Slot.{Slot}
use Rattle.buffer.specs.Buffer.{newest_of}
use Rattle.buffer.specs.Packing.{slots_of}
use Rattle.buffer.proofs.Slots.{slot_at}

module _ (ws : List ℕ) (bs : List (List ℕ)) (long : length ws ≡ length bs) (block n : ℕ) (h : 0 < n) where
  block_at : (get_or (slots_of ws bs) (n - 1) empty_slot).block ≡ get_or ws (n - 1) 0 / 0x100000000
  block_at = ap (λ (s : Slot). s.block) (slot_at ws bs (n - 1) long)

  next : n ≡ suc (n - 1)
  next = omega arith

  pub newest_hit : get_or ws (n - 1) 0 / 0x100000000 ≡ block → newest_of (slots_of ws bs) block n ≡ Some (n - 1)
  unfolding newest_of
  newest_hit e = ap (λ (k : ℕ). newest_of (slots_of ws bs) block k) next ∙ rw (eq-eqb _ block (block_at ∙ e))

  pub newest_on : (get_or ws (n - 1) 0 / 0x100000000 ≡ block → ⊥) → newest_of (slots_of ws bs) block n ≡ newest_of (slots_of ws bs) block (n - 1)
  unfolding newest_of
  newest_on e = ap (λ (k : ℕ). newest_of (slots_of ws bs) block k) next ∙ rw (ne_eqb _ block (λ q. e (sym block_at ∙ q)))

pub newest_none : (slots : List Slot) (block n : ℕ) → n ≡ 0 → newest_of slots block n ≡ None
unfolding newest_of
newest_none slots block n e = rw e
