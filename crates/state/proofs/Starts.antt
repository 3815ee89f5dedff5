-- The cases of a start, and the machine of a state of zeros.
use Prim.Native.Nat.{ℕ}
use mathlib.Core.Path.{◌≡◌, ◌∙◌, ap}
use mathlib.Core.List.{List, [], ◌∷◌}
use lib.ListN.{length, replicate}
use borrow.Author.Tests.{eq-eqb, ne_eqb}
use Rattle.values.specs.Empty.{no_entries, no_lines}
use Rattle.values.specs.declared.Entry.{Entry}
use Rattle.values.specs.declared.Line.{Line}
use Rattle.values.proofs.Maps.{map_replicate}
use Rattle.tlb.specs.Packing.{entry_of, entries_of}
use Rattle.tlb.proofs.Packing.{entry_zero}
use Rattle.buffer.specs.Packing.{slots_of}
use Rattle.cache.specs.Packing.{line_of, lines_of}
use Rattle.cache.proofs.Lines.{line_zero}
use Rattle.refusals.specs.Refusals.{refusal_in, row1, row2}
use Rattle.step.specs.Meets.{start_refusal}
use Rattle.step.specs.Start.{started_from, started}
use Rattle.state.specs.Held.{zero_state}
use Rattle.state.specs.State.{machine_in}
use Rattle.values.specs.Registers.{zero_cp15}
use Rattle.machine.specs.Machine.{Machine, fresh}

pub fresh_is : (size : ℕ) (memory bad store : List ℕ) → machine_in memory bad store (zero_state size) zero_cp15 ≡ fresh size memory bad store
unfolding fresh slots_of
fresh_is size memory bad store =
    let e : entries_of (replicate 32 0) ≡ no_entries = map_replicate entry_of 32 0 ∙ ap (λ (x : Entry). replicate 32 x) entry_zero in
    let l : lines_of (replicate 512 0) ≡ no_lines = map_replicate line_of 512 0 ∙ ap (λ (x : Line). replicate 512 x) line_zero in
    rw (e, l)

module _ (memory store : List ℕ) where
  -- 1 and 2, by the lengths
  pub start_by : (n : ℕ) → n ≡ refusal_in (row1 (length memory) ∷ row2 (length store) ∷ []) → n ≡ start_refusal memory store
  unfolding start_refusal
  start_by n e = e

  module _ (bad : List ℕ) (m : Machine) (n : ℕ) (e : n ≡ start_refusal memory store) where
    pub start_served : n ≡ 0 → m ≡ fresh (length memory) memory bad store → started_from m n ≡ started memory bad store
    unfolding started
    start_served z h = rw (h, ← e, eq-eqb n 0 z)

    pub start_refused : (n ≡ 0 → ⊥) → m ≡ fresh 0 memory bad store → started_from m n ≡ started memory bad store
    unfolding started
    start_refused z h = rw (h, ← e, ne_eqb n 0 z)
