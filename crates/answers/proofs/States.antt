-- The shape of a machine whose state is a value of the library's types.
use Prim.Native.Nat.{ℕ, zero, suc}
use mathlib.Core.Path.{◌≡◌, refl, ◌∙◌}
use mathlib.Core.List.{List, [], ◌∷◌}
use lib.ListN.{length, length-map, get_or, replicate}
use mir.Val.{Val}
use denote.Array.{each, array_val}
use denote.Shadow.{shadow}
use denote.Laws.{Is}
use Rattle.values.specs.declared.Cp15.{Cp15}
use Rattle.words.specs.Words.{Bytes}
use Rattle.soundness_test.specs.Formed.{Formed}
use Rattle.step.specs.Meets.{state_refusal}
use Rattle.step.proofs.StateRefusals.{accepts}
use Rattle.sa110.specs.State.{bytes_of, machine_in}
use Rattle.state.specs.declared.SlotBytes.{SlotBytes}
use Rattle.state.specs.declared.State.{State}
use Rattle.sa110.proofs.Shapes.{Row, rows_of, formed_of, lists_in, scalars_in}
use Rattle.state.specs.contracts.SlotBytes as slot
use Rattle.state.specs.contracts.State as state

-- the bytes of each place of an array of places are a row; behind its end zeros stand for them
pub slot_rows : (xs : List SlotBytes) (us : List Val) → shadow (each SlotBytes (slot.the_row).own_val xs us) → (i : ℕ)
    → Row (get_or (bytes_of xs) i (replicate 16 0))
slot_rows [] us p i = rows_of [] [] tt i
slot_rows (x ∷ xs) [] p i = absurd p
slot_rows (x ∷ xs) (u ∷ us) p zero =
    let q = p.0.1.1.0 in
    let e : length x.bytes ≡ 16 = q.1.0.1 in
    let bytes = q.1.1 in
    rows_of (x.bytes ∷ []) (array_val q.0 ∷ []) ((q.0, ((refl, e), bytes)), tt) 0
slot_rows (x ∷ xs) (u ∷ us) p (suc i) = slot_rows xs us p.1 i

module _ (memory bad store : List ℕ) (s : State) (r : Cp15) where
  -- a state whose arrays are as long as their types say, with bytes below 256, has the shape of a machine where refusals 1 to 4 do not hold
  pub formed_in : length s.entries ≡ 32 → length s.lines ≡ 512 → length s.pointers ≡ 16 → length s.words ≡ 8 → length s.slots ≡ 8
      → ((i : ℕ) → Row (get_or (bytes_of s.slots) i (replicate 16 0))) → Bytes memory → Bytes store
      → state_refusal (machine_in memory bad store s r) ≡ 0 → Formed (machine_in memory bad store s r)
  formed_in e ls ps ws ss rows mb sb h =
      let a = accepts (machine_in memory bad store s r) h in
      formed_of (lists_in memory bad store s (bytes_of s.slots)) s.entries (scalars_in s r) s.size e ls ps a.store sb ws
      (length-map s.slots (λ (x : SlotBytes). x.bytes) ∙ ss) rows a.whole a.short mb

  -- the same of a value of the type `State`
  pub formed_typed : (vs : List Val) → Is state.the_row s vs → Bytes memory → Bytes store
      → state_refusal (machine_in memory bad store s r) ≡ 0 → Formed (machine_in memory bad store s r)
  formed_typed vs p =
      let entries = p.1.1.1.1.1.0 in
      let lines = p.1.1.1.1.1.1.0 in
      let pointers = p.1.1.1.1.1.1.1.0 in
      let words = p.1.1.1.1.1.1.1.1.0 in
      let slots = p.1.1.1.1.1.1.1.1.1.0 in
      formed_in
      entries.1.0.1
      lines.1.0.1
      pointers.1.0.1
      words.1.0.1
      slots.1.0.1
      (slot_rows s.slots slots.0 slots.1.1)
