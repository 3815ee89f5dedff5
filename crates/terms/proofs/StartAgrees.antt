-- A served start: the machines agree, with nothing in the history.
use Prim.Native.Nat.{ℕ, ◌/◌}
use mathlib.Core.Bool.{true, false}
use mathlib.Core.Path.{◌≡◌, refl, sym, ◌∙◌, ap, subst}
use mathlib.Core.List.{List}
use lib.ListN.{get_or}
use Rattle.values.specs.Empty.{empty_slot, empty_line, no_lines, no_entries}
use Rattle.values.specs.declared.Slot.{Slot}
use Rattle.values.specs.declared.Line.{Line}
use Rattle.values.proofs.Cases.{clash}
use Rattle.words.specs.Words.{Bytes}
use Rattle.tlb.specs.Tlb.{flushed}
use Rattle.buffer.specs.Buffer.{Backing, backing_from, empty_buffer, slot_at, masks}
use Rattle.buffer.proofs.Below.{below, unmasked_lands, over_empties, empty_masks}
use Rattle.machine.specs.Machine.{fresh}
use Rattle.soundness_laws.proofs.Elements.{same_at}
use Rattle.step.specs.Meets.{start_refusal}
use Rattle.step.specs.Start.{started}
use Rattle.step.proofs.SoundKept.{start_sound}
use Rattle.plain.specs.Plain.{plain_start}
use Rattle.terms.specs.History.{Stage, no_history}
use Rattle.terms.proofs.Invariant.{at, SettledAt, Staged, SideAgrees, TlbAgrees, Agrees}
use Rattle.terms.proofs.TlbAgreement.{tlb_flushed}

module _ (memory bad store : List ℕ) where
  abbrev backing : Backing
  backing = backing_from memory bad empty_buffer

  no_line : (i : ℕ) → at no_lines i ≡ empty_line
  no_line i = same_at {A = Line} 512 empty_line i

  none {ℓ} : {A : Type ℓ} (i : ℕ) → (at no_lines i).valid ≡ true → A
  none i u = clash {b = false} (subst (λ (l : Line). l.valid ≡ true) (no_line i) u) refl

  empty_below : (x : ℕ) → below backing x ≡ get_or memory x 0
  empty_below x = over_empties bad 8 x (get_or memory x 0)

  settled : (x : ℕ) → SettledAt backing memory x
  settled x =
      record {
        in_memory = refl;
        in_entries = λ j t.
            clash t
            (unmasked_lands bad (slot_at empty_buffer j) x (ap (λ (s : Slot). masks s x) (same_at {A = Slot} 8 empty_slot j) ∙ empty_masks x));
      }

  staged : (stage : ℕ → Stage) → Staged backing memory stage
  staged stage = record { cleaned_below = λ x e. empty_below x; drained_settled = λ x e. settled x }

  start_side : (size : ℕ) → SideAgrees (fresh size memory bad store).side memory no_history
  unfolding fresh
  start_side size =
      record {
        cache = record {
          held = λ i k u b. none i u;
          line_reached = λ i u. none i u;
          dirty_stored = λ i u d. none i u;
          dirty_through = λ i u d. none i u;
          one = record { physical = λ v p q a b. clash {b = false} a refl; virtual = λ v w p a b. clash {b = false} a refl };
        };
        good = λ i x u e. none i u;
        under = λ x u. empty_below x;
        words = staged (λ x. no_history.word_stage (x / 4));
        lines = staged (λ x. no_history.line_stage (x / 32));
      }

  start_tlb : (base : ℕ) → TlbAgrees no_entries base memory bad no_history
  unfolding flushed
  start_tlb base = tlb_flushed base memory bad no_history

  module _ (mb : Bytes memory) (sb : Bytes store) (e : start_refusal memory store ≡ 0) where
    pub start_agrees : Agrees (started memory bad store).machine (plain_start memory bad) no_history
    unfolding started plain_start fresh
    start_agrees =
        let s = start_sound memory bad store mb sb e in
        record {
          registers = refl;
          calls = refl;
          formed = s.0;
          is_sound = s.1;
          size = s.3 ∙ sym s.2;
          long = s.2;
          same_map = refl;
          side = start_side 0;
          tlb = start_tlb 0;
        }
