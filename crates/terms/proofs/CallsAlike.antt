-- One call, refused or not: the same answer, and the machines agree again.
use Prim.Native.Nat.{ℕ, ◌+◌, ◌/◌, ◌*◌}
use native.Mathlib.Omega.{arith}
use mathlib.Core.Path.{◌≡◌, refl, sym, ◌∙◌, ap}
use lib.Dec.{eqb}
use lib.ListN.{length}
use borrow.Author.Tests.{eqb-true, eq-eqb}
use Rattle.values.specs.Counts as counts
use Rattle.values.specs.declared.Access.{Access}
use Rattle.values.specs.declared.Call.{Call}
use Rattle.values.specs.declared.Call.TheVariants.{Read, Write}
use Rattle.values.specs.declared.Call.TheVariants as calls
use Rattle.values.proofs.Cases.{case}
use Rattle.refusals.specs.Refusals.{call_refusal}
use Rattle.refusals.proofs.Rows.{access_accepted}
use Rattle.values.specs.Rows.{first_met}
use Rattle.machine.specs.Machine.{Machine, memory_of, store_of, with_counts}
use Rattle.plain.specs.Plain.{Plain, plain_reach, plain_done, plain_refusal, counted, plainly}
use Rattle.soundness_laws.proofs.Holding.{Holding, holding_of}
use Rattle.step.specs.Meets.{refusal}
use Rattle.step.specs.Call.{done, served, Numbers}
use Rattle.step.proofs.SoundKept.{call_accepted, sound_kept}
use Rattle.step.proofs.StateRefusals.{lengths_fit, refusal_rows}
use Rattle.terms.specs.History.{History, after_served, after}
use Rattle.terms.specs.Rules.{AccessAllowed, ServedAllowed, Allowed}
use Rattle.terms.proofs.Invariant.{Agrees}
use Rattle.terms.proofs.Alike.{Shared, Alike}
use Rattle.terms.proofs.AccessesAlike.{access_step}
use Rattle.terms.proofs.WritesAlike.{read_step, write_step}

module _ (m : Machine) (p : Plain) (h : History) (g : Agrees m p h) where
  -- ---- the call is counted

  holds : Holding (length (memory_of m)) m.size m
  holds = holding_of m g.formed g.is_sound

  abbrev n : ℕ
  n = length (memory_of m)

  abbrev m₁ : Machine
  m₁ = with_counts m (counts.counted m.counts)

  abbrev p₁ : Plain
  p₁ = counted p

  shared : Shared n m₁ p₁ h
  shared =
      let b : m.cp15.registers.base / 0x4000 * 0x4000 ≡ m.cp15.registers.base = holds.registers.base in
      let e : m.cp15.registers.base ≡ p.registers.base = ap (λ r. r.base) g.registers in
      record {
        registers = g.registers;
        calls = ap (λ (x : ℕ). x + 1) g.calls;
        long = sym g.long;
        whole = holds.memory_lines;
        aligned = omega arith;
        side_is = holds.side;
        same_map = g.same_map;
        side = g.side;
        tlb = g.tlb;
      }

  -- the rules at the counted machine
  allowed_counted : (a : Access) → AccessAllowed p h a → AccessAllowed p₁ h a
  unfolding plain_reach
  allowed_counted a r = record { r2 = r.r2; r4 = r.r4; r5 = r.r5; r6 = r.r6 }

  -- ---- a call that is not refused

  done_alike : (c : Call) → call_refusal c ≡ 0 → Numbers c → ServedAllowed p h c → Alike n (done m₁ c) (plain_done p₁ c) (after_served p h c)
  unfolding plain_reach
  done_alike (calls.Access a) e q r =
      access_step n m₁ p₁ h shared holds.entries a q.0 (access_accepted a e).0 (allowed_counted a r)
  done_alike (Read t) e q r = read_step n m₁ p₁ h shared t
  done_alike (Write t v) e q r = write_step n m₁ p₁ h shared t v r

  -- ---- any call

  module _ (c : Call) (q : Numbers c) (r : Allowed p h c) where
    -- refusals 1 to 4 do not hold, and the others are decided by the map, the count of calls and the call alone
    refusal_same : refusal m c ≡ plain_refusal p c
    unfolding plain_refusal first_met
    refusal_same =
        let f = g.formed in
        refusal_rows m c
        ∙ rw (
          lengths_fit n f.memory_lines f.memory_short,
          eq-eqb (length (store_of m)) 16384 f.store_long,
          g.is_sound,
          eq-eqb m.size n g.size,
          g.long,
          g.same_map,
          g.calls,
        )

    -- the answer, and what the machines share after it
    call_alike : Alike n (served m c) (plainly p c) (after p h c)
    unfolding served plainly after
    call_alike =
        case (eqb (plain_refusal p c) 0)
        (λ t.
        let z : plain_refusal p c ≡ 0 = eqb-true (plain_refusal p c) 0 t in
        rw (refusal_same, t) (done_alike c (call_accepted m c (refusal_same ∙ z)) q (r z)))
        (λ t.
        rw (refusal_same, t)
        (record {
          same_answer = refl;
          registers = g.registers;
          calls = g.calls;
          long = sym g.long;
          same_map = g.same_map;
          side = g.side;
          tlb = g.tlb;
        }))

    pub call_agrees : ((served m c).answer ≡ (plainly p c).answer) × Agrees (served m c).machine (plainly p c).plain (after p h c)
    call_agrees =
        let a = call_alike in
        let s = sound_kept m c g.formed g.is_sound q in (
          a.same_answer,
          record {
            registers = a.registers;
            calls = a.calls;
            formed = s.0;
            is_sound = s.1;
            size = s.3 ∙ g.size ∙ sym s.2;
            long = s.2 ∙ sym a.long;
            same_map = a.same_map;
            side = a.side;
            tlb = a.tlb;
          },
        )
