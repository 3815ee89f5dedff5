-- Term 3, proved.
use Prim.Native.Nat.{ℕ, ◌+◌, ◌*◌, ◌/◌}
use native.Mathlib.Omega.{arith}
use mathlib.Core.Bool.{true}
use mathlib.Core.Path.{◌≡◌, refl, ◌∙◌, ap}
use mathlib.Core.List.{List, [], ◌∷◌}
use lib.Seq.{ext_get_or}
use Rattle.values.specs.declared.Call.{Call}
use Rattle.trace.specs.Fold.{answers_of, final_of}
use Rattle.step.specs.Start.{started}
use Rattle.step.specs.Call.{served}
use Rattle.step.specs.Run.{answers, final}
use Rattle.plain.specs.Plain.{Plain, plain_start, plainly, plain_answers, plain_final}
use Rattle.terms.specs.History.{History, no_history, after, history_after}
use Rattle.terms.specs.Rules.{is_drained, Keeps, Settled}
use Rattle.terms.specs.Term3.{AllNumbers, library, plain, SameLine, Term3}
use Rattle.terms.proofs.Invariant.{Agrees}
use Rattle.terms.proofs.StartAgrees.{start_agrees}
use Rattle.terms.proofs.CallsAlike.{call_agrees}
use Rattle.machine.specs.Machine.{Machine, memory_of}

-- a list of calls that keeps the rules, from machines that agree
pub list_agrees : (m : Machine) (p : Plain) (h : History) → Agrees m p h → (calls : List Call) → AllNumbers calls → Keeps p h calls
    → (answers m calls ≡ plain_answers p calls) × Agrees (final m calls) (plain_final p calls) (history_after p h calls)
unfolding answers_of final_of history_after AllNumbers Keeps
list_agrees m p h g [] n k = (refl, g)
list_agrees m p h g (c ∷ cs) n k =
    let s = call_agrees m p h g c n.0 k.0 in
    let r = list_agrees (served m c).machine (plainly p c).plain (after p h c) s.1 cs n.1 k.1 in
    (rw (s.0, r.0), r.1)

-- a line of memory that has been cleaned and drained after its last store
pub settled_line_lem : (m : Machine) (p : Plain) (h : History) → Agrees m p h → (l : ℕ) → is_drained (h.line_stage l) ≡ true
    → SameLine (memory_of m) p.memory l
settled_line_lem m p h g l s k b =
    let e : (l * 32 + k) / 32 ≡ l = omega arith in
    (g.side.lines.drained_settled (l * 32 + k) (ap (λ (x : ℕ). is_drained (h.line_stage x)) e ∙ s)).in_memory

-- memory, where every line stored to has been cleaned and the buffer drained
pub settled_memory : (m : Machine) (p : Plain) (h : History) → Agrees m p h → Settled h → memory_of m ≡ p.memory
settled_memory m p h g s =
    ext_get_or 0 (memory_of m) p.memory g.long (λ x b. (g.side.lines.drained_settled x (s (x / 32))).in_memory)

pub term3 : Term3
term3 memory bad store calls r =
    let a = start_agrees memory bad store r.memory_bytes r.store_bytes r.served_start in
    let l = list_agrees (started memory bad store).machine (plain_start memory bad) no_history a calls r.numbers r.keeps in
    let m = library memory bad store calls in
    let p = plain memory bad calls in
    let h = history_after (plain_start memory bad) no_history calls in
    record {
      same_answers = l.0;
      same_registers = l.1.registers;
      same_calls = l.1.calls;
      same_line = settled_line_lem m p h l.1;
      same_memory = settled_memory m p h l.1;
    }
