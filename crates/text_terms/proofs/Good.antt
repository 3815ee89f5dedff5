-- A state and a record of their types, which can be stored, have numbers that fit the form.
use Prim.Native.Nat.{ℕ, ◌<◌}
use native.Mathlib.Omega.{arith}
use mathlib.Core.Path.{◌≡◌, sym, ◌∙◌, subst}
use mathlib.Core.List.{List}
use lib.ListN.{length, length-map}
use Rattle.values.specs.declared.Cp15.{Cp15}
use Rattle.tlb.specs.Packing.{entry_of}
use Rattle.cache.specs.Packing.{line_of}
use Rattle.buffer.proofs.Slots.{length_slots}
use Rattle.step.proofs.StateRefusals.{fitting}
use Rattle.state.specs.State.{bytes_of, machine_in}
use Rattle.state.specs.declared.SlotBytes.{SlotBytes}
use Rattle.state.specs.declared.State.{State}
use Rattle.numbers.specs.Text.{saved_of}
use Rattle.numbers.proofs.Law.{SavedGood, entries_good, lines_good, slots_good}
use Rattle.text.proofs.Storing.{Storable}
use Rattle.text.proofs.Holding.{used_low}
use Rattle.text_terms.specs.Texts.{Typed}

rows_are : (s : State) (r : Cp15) → Typed s r → length (bytes_of s.slots) ≡ 8
rows_are s r t = length-map s.slots (λ (x : SlotBytes). x.bytes) ∙ t.slots_long

pub saved_good : (memory bad store : List ℕ) (s : State) (r : Cp15) → Typed s r → Storable (machine_in memory bad store s r)
    → SavedGood (saved_of (machine_in memory bad store s r))
saved_good memory bad store s r t k =
    let short = (fitting (length memory) k.fits).short in
    let size = k.size in
    let rows = rows_are s r t in
    record {
      head =
          record {
            control = t.control;
            base = t.base;
            domains = t.domains;
            fsr = t.fsr;
            far = t.far;
            size = omega (arith, short, size);
            pointer = t.pointer;
            long = t.pointers_long;
            pointers = t.pointers;
            used = used_low memory bad store s r k.is_sound;
            calls = t.calls;
            misses = t.misses;
            hits = t.hits;
            fills = t.fills;
            halves = t.halves;
          };
      entries_long = length-map s.entries entry_of ∙ t.entries_long;
      entries = entries_good s.entries t.entries;
      lines_long = length-map s.lines line_of ∙ t.lines_long;
      lines = lines_good s.lines t.lines;
      slots_long = length_slots s.words (bytes_of s.slots) (t.words_long ∙ sym rows) ∙ t.words_long;
      slots = slots_good s.words (bytes_of s.slots) t.words (λ i h. t.rows_long i (subst (λ (n : ℕ). i < n) rows h))
          (λ i j h. t.rows i j (subst (λ (n : ℕ). i < n) rows h));
    }
