-- The two runs of one list of calls end alike, by the contracts of the functions that make them.
use Prim.Native.Nat.{ℕ}
use mathlib.Core.Path.{◌≡◌, sym, ◌∙◌, ap}
use mathlib.Core.List.{List}
use lib.Dec.{eqb}
use borrow.Author.Tests.{eq-eqb}
use Rattle.words.specs.Words.{Bytes}
use Rattle.trace.specs.Fold.{Left}
use Rattle.machine.specs.Machine.{Machine, memory_of}
use Rattle.sa110.specs.State.{ran_of}
use Rattle.sa110.specs.declared.Ran as library
use Rattle.plain.specs.Run.{PlainLeft, plain_run}
use Rattle.plain.specs.Code.{plain_left}
use Rattle.plain.specs.declared.Ran as plain
use Rattle.terms.specs.Corollaries.{All32, calls_made, LentRun}
use Rattle.terms.proofs.Corollaries.{lent_runs}
use Rattle.terms.proofs.Positions.{same_rules}
use Rattle.uses.specs.Both.{ran_from_start, BeginAlike, EndAlike}

pub ends_alike : (memory bad store other list answers others : List ℕ) → Bytes memory → Bytes store → All32 list
    → (memory₁ store₁ answers₁ : List ℕ) (r : library.Ran) → ran_of memory₁ bad store₁ answers₁ r ≡ ran_from_start memory bad store list answers
    → (other₁ others₁ : List ℕ) (p : plain.Ran) → plain_left other₁ bad others₁ p ≡ plain_run other bad list others
    → BeginAlike memory bad store other list answers others → EndAlike memory bad list answers memory₁ answers₁ other₁ others₁ (eqb r.made p.made)
ends_alike memory bad store other list answers others mb sb nb memory₁ store₁ answers₁ r e other₁ others₁ p g b =
    let s = same_rules memory bad (calls_made list answers) in
    let k : LentRun memory bad store list answers = record {
      memory_bytes = mb;
      store_bytes = sb;
      served_start = b.served_start;
      numbers = nb;
      keeps = s.rules.1 b.keeps;
    } in
    let t = lent_runs memory bad store list answers k in
    let q : plain_left other₁ bad others₁ p ≡ plain_run memory bad list answers =
    g ∙ ap (λ (x : List ℕ). plain_run x bad list others) (sym b.same_memory) ∙ ap (λ (x : List ℕ). plain_run memory bad list x) (sym b.same_answers) in
    let made : r.made ≡ p.made = ap (λ (x : Left Machine). x.made) e ∙ t.same_made ∙ sym (ap (λ (x : PlainLeft). x.left.made) q) in
    record {
      same_answers = ap (λ (x : Left Machine). x.answers) e ∙ t.same_answers ∙ sym (ap (λ (x : PlainLeft). x.left.answers) q);
      as_many = eq-eqb r.made p.made made;
      same_memory = λ z. ap (λ (x : Left Machine). memory_of x.machine) e ∙ t.same_memory (s.all_lines.1 z)
          ∙ sym (ap (λ (x : PlainLeft). x.left.machine.memory) q);
    }
