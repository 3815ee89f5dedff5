-- "I has no effect here.", of the plain machine, proved.
use Rattle.std.specs.Prelude.{Result, Ok, Err}
use Prim.Native.Nat.{ℕ}
use mathlib.Core.List.{List, [], ◌∷◌}
use mathlib.Core.Path.{◌≡◌, refl, sym, ◌∙◌, ap, ap₂}
use lib.Dec.{eqb}
use Rattle.values.specs.Control.{kept}
use Rattle.values.specs.Registers.{with_control}
use Rattle.values.specs.declared.Registers.{Registers}
use Rattle.values.specs.declared.Kind.{Kind}
use Rattle.values.specs.declared.Kind.TheVariants.{Load, SignedLoad, Store, Swap}
use Rattle.values.specs.declared.Access.{Access}
use Rattle.values.specs.declared.Transfer.{Transfer}
use Rattle.values.specs.declared.Status.{Status}
use Rattle.values.specs.declared.Call.{Call}
use Rattle.values.specs.declared.Call.TheVariants.{Read, Write}
use Rattle.values.specs.declared.Call.TheVariants as calls
use Rattle.values.proofs.Cases.{case}
use Rattle.bus.specs.Physical.{aborts}
use Rattle.translation.specs.Alignment.{cleared}
use Rattle.translation.specs.Translation.{walked_only, decided}
use Rattle.translation.specs.Faults.{buffers, other_status, fault_set}
use Rattle.translation.specs.declared.Place.{Place}
use Rattle.translation.specs.declared.Translation.{Translation}
use Rattle.translation.specs.declared.Decision.{Decision}
use Rattle.registers.specs.Registers.{written_of}
use Rattle.trace.specs.Fold.{answers_of, final_of}
use Rattle.soundness_laws.proofs.RegistersKept.{kept_twice}
use Rattle.plain.specs.Plain.{Plain, with_registers, PlainStepped, plain_stepped, plain_faulted, plain_physical, plain_reach}
use Rattle.plain.specs.Plain.{plain_load_aborts, plain_load, plain_store}
use Rattle.plain.specs.Plain.{plain_passed, plain_at, plain_access, plain_read, plain_write, plain_done, plain_refusal, counted, plainly, plain_next, plain_answered}
use Rattle.plain.specs.Plain.{plain_swap, plain_answers, plain_final}
use Rattle.i_bit.specs.BitI.{number_without_i, registers_without_i, answer_without_i, answers_without_i, AlikeAnswers, AllAlike}
use Rattle.i_bit.specs.PlainBitI.{plain_without_i, OnlyKept, AlikePlains, PlainBitI}
use Rattle.i_bit.proofs.ControlBits.{without_twice, bit_without, listed_without, kept_alike}
use Rattle.i_bit.proofs.Tests.{walked_without, decided_without, fills_without, buffers_without}
use Rattle.i_bit.proofs.Accesses.{chosen}
use Rattle.i_bit.proofs.Cp15.{written_without, read_of_without}
use Rattle.values.specs.declared.Cause.{Cause}

-- ---- an access

-- what a call leaves, without I in the machine
abbrev stepped_without_i : PlainStepped → PlainStepped
stepped_without_i s = plain_stepped (plain_without_i s.plain) s.answer

-- the first is the second without I, and the second has the control of the machine before
abbrev Without : Plain → PlainStepped → PlainStepped → Type 0
Without p s t = (s ≡ stepped_without_i t) × (t.plain.registers.control ≡ p.registers.control)

module _ (p : Plain) (a : Access) where
  fault_without : (s : Status) (d : ℕ) → Without p (plain_faulted (plain_without_i p) s d a.address) (plain_faulted p s d a.address)
  unfolding plain_faulted fault_set
  fault_without s d = (refl, refl)

  module _ (l : Place) where
    load_without : Without p (plain_load (plain_without_i p) a l) (plain_load p a l)
    unfolding plain_load
    load_without =
        rw (fills_without p.registers l)
        (chosen (Without p) (plain_load_aborts p l) _ _ _ _ (fault_without _ l.domain) (refl, refl))

    store_without : (v : ℕ) → Without p (plain_store (plain_without_i p) a v l) (plain_store p a v l)
    unfolding plain_store
    store_without v =
        rw (buffers_without p.registers l)
        (chosen (Without p) (aborts (plain_physical p) l.address) _ _ _ _
        (chosen (Without p) (buffers p.registers l) _ _ _ _ (refl, refl) (fault_without (other_status l) l.domain))
        (refl, refl))

    swap_without : (v : ℕ) → Without p (plain_swap (plain_without_i p) a v l) (plain_swap p a v l)
    unfolding plain_swap
    swap_without v =
        let stores = store_without v in
        chosen (Without p) (aborts (plain_physical p) l.address) _ _ _ _ (fault_without (other_status l) l.domain)
        (rw stores.0, stores.1)

    passed_without : (k : Kind) → Without p (plain_passed (plain_without_i p) a l k) (plain_passed p a l k)
    passed_without Load = load_without
    passed_without SignedLoad = load_without
    passed_without (Store v) = store_without v
    passed_without (Swap v) = swap_without v

  at_without : (c : Result Place Cause) → Without p (plain_at (plain_without_i p) a c) (plain_at p a c)
  unfolding plain_at
  at_without (Err why) = fault_without why.status why.domain
  at_without (Ok l) = passed_without l a.kind

  reach_without : plain_reach (plain_without_i p) a ≡ plain_reach p a
  unfolding plain_reach
  reach_without =
      let r = p.registers in
      ap (λ (t : Result Translation Cause). (decided (registers_without_i r) a t).checked) (walked_without r (plain_physical p) (cleared a))
      ∙ ap (λ (d : Decision). d.checked) (decided_without r a (walked_only r (plain_physical p) (cleared a)))

  access_without : Without p (plain_access (plain_without_i p) a) (plain_access p a)
  unfolding plain_access
  access_without = rw reach_without (at_without (plain_reach p a))

-- ---- a call

-- what a call leaves of two machines, alike, and of the second only the bits of control that are kept
record Alike (c : Call) (s t : PlainStepped) : Type 0 where
  answers : AlikeAnswers c s.answer t.answer
  same : plain_without_i s.plain ≡ plain_without_i t.plain
  only_kept : OnlyKept t.plain.registers

plain_twice : (p : Plain) → plain_without_i (plain_without_i p) ≡ plain_without_i p
plain_twice p = ap (λ (n : ℕ). with_registers p (with_control p.registers n)) (without_twice p.registers.control)

written_kept : (r : Registers) → OnlyKept r → (n v : ℕ) → OnlyKept (written_of r n v)
unfolding written_of
written_kept r k n v =
    let R : Registers → Registers → Type 0 = λ x y. OnlyKept x in
    chosen R (eqb n 1) _ _ r r (kept_twice v)
    (chosen R (eqb n 2) _ _ r r k
    (chosen R (eqb n 3) _ _ r r k
    (chosen R (eqb n 5) _ _ r r k
    (chosen R (eqb n 6) _ _ r r k k))))

done_without : (p : Plain) → OnlyKept p.registers → (c : Call) → Alike c (plain_done (plain_without_i p) c) (plain_done p c)
unfolding plain_read plain_write
done_without p k (calls.Access a) =
    let e = access_without p a in
    record {
      answers = ap (λ (s : PlainStepped). s.answer) e.0;
      same = ap (λ (s : PlainStepped). plain_without_i s.plain) e.0 ∙ plain_twice (plain_access p a).plain;
      only_kept = rw e.1 k;
    }
done_without p k (Read t) = record { answers = read_of_without p.registers k t; same = plain_twice p; only_kept = k }
done_without p k (Write t v) =
    record {
      answers = refl;
      same = ap (λ (r : Registers). with_registers p r) (written_without p.registers t.register v);
      only_kept = written_kept p.registers k t.register v;
    }

module _ (p : Plain) (k : OnlyKept p.registers) where
  served_without : (c : Call) → Alike c (plainly (plain_without_i p) c) (plainly p c)
  unfolding plainly plain_refusal
  served_without c =
      case (eqb (plain_refusal p c) 0)
      (λ h. rw h (done_without (counted p) k c))
      (λ h. rw h (record { answers = refl; same = plain_twice p; only_kept = k }))

call_alike : (p₁ p₂ : Plain) → AlikePlains p₁ p₂ → (c : Call)
    → AlikeAnswers c (plain_answered p₁ c) (plain_answered p₂ c) × AlikePlains (plain_next p₁ c) (plain_next p₂ c)
call_alike p₁ p₂ e c =
    let x = served_without p₁ e.kept₁ c in
    let y = served_without p₂ e.kept₂ c in (
      sym x.answers ∙ ap (λ (p : Plain). answer_without_i c (plain_answered p c)) e.same ∙ y.answers,
      record {
        same = sym x.same ∙ ap (λ (p : Plain). plain_without_i (plain_next p c)) e.same ∙ y.same;
        kept₁ = x.only_kept;
        kept₂ = y.only_kept;
      },
    )

-- ---- a write of control, its value with and without bit 12

module _ (p : Plain) (k : OnlyKept p.registers) (t : Transfer) (e : t.register ≡ 1) where
  control_written : (p : Plain) (v : ℕ) → (plain_write p t v).plain ≡ with_registers p (with_control p.registers (kept v))
  unfolding plain_write written_of
  control_written p v = rw e

  served_written : (v : ℕ) → Alike (Write t v) (plainly p (Write t (number_without_i v))) (plainly p (Write t v))
  unfolding plainly plain_refusal plain_write
  served_written v =
      rw (bit_without v 7 0x10 refl, listed_without v)
      (case (eqb (plain_refusal p (Write t v)) 0)
      (λ h.
      rw (h, control_written (counted p) (number_without_i v), control_written (counted p) v)
      (record {
        answers = refl;
        same = ap (λ (c : ℕ). with_registers (counted p) (with_control p.registers c)) (kept_alike v);
        only_kept = kept_twice v;
      }))
      (λ h. rw h (record { answers = refl; same = refl; only_kept = k })))

write_alike : (p : Plain) → OnlyKept p.registers → (t : Transfer) → t.register ≡ 1 → (v₁ v₂ : ℕ) → number_without_i v₁ ≡ number_without_i v₂
    → (plain_answered p (Write t v₁) ≡ plain_answered p (Write t v₂)) × AlikePlains (plain_next p (Write t v₁)) (plain_next p (Write t v₂))
write_alike p k t r v₁ v₂ e =
    let x = served_written p k t r v₁ in
    let y = served_written p k t r v₂ in (
      sym x.answers ∙ ap (λ (v : ℕ). plain_answered p (Write t v)) e ∙ y.answers,
      record {
        same = sym x.same ∙ ap (λ (v : ℕ). plain_without_i (plain_next p (Write t v))) e ∙ y.same;
        kept₁ = x.only_kept;
        kept₂ = y.only_kept;
      },
    )

-- ---- a list of calls

run_alike : (p₁ p₂ : Plain) → AlikePlains p₁ p₂ → (cs : List Call)
    → AllAlike cs (plain_answers p₁ cs) (plain_answers p₂ cs) × AlikePlains (plain_final p₁ cs) (plain_final p₂ cs)
unfolding answers_of final_of answers_without_i
run_alike p₁ p₂ e [] = (refl, e)
run_alike p₁ p₂ e (c ∷ cs) =
    let x = call_alike p₁ p₂ e c in
    let y = run_alike (plain_next p₁ c) (plain_next p₂ c) x.1 cs in
    (ap₂ ◌∷◌ x.0 y.0, y.1)

pub plain_bit_i : PlainBitI
plain_bit_i = record { call = call_alike; run = run_alike; write = write_alike }
