-- Term 3 of any use of the library, proved.
use Prim.Native.Nat.{ℕ, ◌/◌, min}
use mathlib.Core.Bool.{true}
use mathlib.Core.Path.{◌≡◌, refl, sym, ◌∙◌, ap, subst}
use mathlib.Core.List.{List, [], ◌∷◌, ◌++◌, map}
use lib.ListN.{length, length-map, take, drop}
use lib.Seq.{take-append_seam}
use Rattle.values.specs.declared.Call.{Call}
use Rattle.values.specs.declared.Answer.{Answer}
use Rattle.values.proofs.Cases.{case}
use Rattle.trace.specs.Calls.{is_call, call_of}
use Rattle.trace.specs.Codes.{code_of}
use Rattle.trace.specs.Fold.{Left, answers_of, final_of, left_of}
use Rattle.trace.proofs.Folds.{final_append, answers_append, answers_long}
use Rattle.machine.specs.Machine.{Machine, memory_of}
use Rattle.step.specs.Meets.{start_refusal}
use Rattle.step.specs.Start as starts
use Rattle.step.specs.Run.{next, answered, answers, final, run}
use Rattle.step.proofs.Runs.{numbers_of_lem}
use Rattle.plain.specs.Plain.{plain_start, plain_next, plain_answered, plain_answers}
use Rattle.plain.specs.Run.{PlainLeft, with_refusal, left_by}
use Rattle.plain.proofs.Runs.{run_by}
use Rattle.lent.specs.Coded.{Coded, called_by}
use Rattle.host.specs.Exports.{plain_ran_of}
use Rattle.host.specs.declared.PlainRan.{PlainRan}
use Rattle.terms.specs.Term3.{AllNumbers, RunUnder, library, plain, SameLine}
use Rattle.terms.specs.Positions.{keeps_rules}
use Rattle.terms.specs.Corollaries.{calls_made}
use Rattle.terms.proofs.Appends.{numbers_append}
use Rattle.terms.proofs.Corollaries.{calls_numbers, length_fits_lem}
use Rattle.terms.proofs.Positions.{term3_printed}
use Rattle.uses.specs.Uses.{Lent, machine, Use, one, many, left, Meets, Fits32, calls_by, codes_by, Chain, calls_of, codes_of, last_of}
use Rattle.uses.specs.Uses.{Used, SameUses, UsesAgree, PlainUse, SameExports, ExportsAgree}

-- ---- lists of calls, one after the other

codes_append : (xs ys : List Answer) → map code_of (xs ++ ys) ≡ map code_of xs ++ map code_of ys
codes_append [] ys = refl
codes_append (x ∷ xs) ys = ap (λ (l : List ℕ). code_of x ∷ l) (codes_append xs ys)

-- ---- one use

-- the machine that a use leaves, and its codes, by its calls
abbrev Is : Lent → Use → Type 0
Is l u = (machine (left u) ≡ final (machine l) (calls_by u)) × (codes_by u ≡ map code_of (answers (machine l) (calls_by u)))

-- the codes at the front of a list of answers
front : {S : Type 0} (next : S → Call → S) (answer : S → Call → Answer) (s : S) (cs : List Call) (rest : List ℕ)
    → take (length cs) (map code_of (answers_of next answer s cs) ++ rest) ≡ map code_of (answers_of next answer s cs)
front next answer s cs rest =
    let xs = answers_of next answer s cs in
    ap (λ (n : ℕ). take n (map code_of xs ++ rest)) (sym (length-map xs code_of ∙ answers_long next answer s cs))
    ∙ take-append_seam (map code_of xs) rest

use_is : (l : Lent) (u : Use) → Meets l u → Is l u
unfolding called_by run left_of answers_of final_of
use_is l (one kind privileged n a v code k) e =
    case (is_call kind privileged)
    (λ t.
    let c = call_of kind privileged n a v in
    rw t (ap (λ (x : Coded). x.machine) (rw t at e), ap (λ (x : Coded). x.code ∷ []) (rw t at e)))
    (λ t. rw t (ap (λ (x : Coded). x.machine) (rw t at e), refl))
use_is l (many list answers answers₁ made k) e =
    let cs = calls_made list answers in
    let made-is = ap (λ (x : Left Machine). x.made) e in
    let answers-are = ap (λ (x : Left Machine). x.answers) e in (
      ap (λ (x : Left Machine). x.machine) e,
      ap (λ (n : ℕ). take n answers₁) made-is ∙ ap (λ (x : List ℕ). take (length cs) x) answers-are
          ∙ front next answered (machine l) cs (drop (length cs) answers),
    )

use_numbers : (u : Use) → Fits32 u → AllNumbers (calls_by u)
unfolding AllNumbers
use_numbers (one kind privileged n a v code k) f =
    case (is_call kind privileged) (λ t. rw t (numbers_of_lem kind privileged n a v f.0 f.1, tt)) (λ t. rw t tt)
use_numbers (many list answers answers₁ made k) f = calls_numbers list f (min (length list / 5) (length answers)) 0

-- ---- a chain

pub chain_is : (us : List Use) (l : Lent) → Chain l us
    → (codes_of us ≡ map code_of (answers (machine l) (calls_of us))) × (machine (last_of l us) ≡ final (machine l) (calls_of us))
unfolding Chain calls_of codes_of last_of answers_of final_of
chain_is [] l c = (refl, refl)
chain_is (u ∷ us) l c =
    let m = machine l in
    let r = chain_is us (left u) c.1 in
    let e = use_is l u c.0.0 in (
      ap (λ (x : List ℕ). x ++ codes_of us) e.1
          ∙ ap (λ (x : List ℕ). map code_of (answers m (calls_by u)) ++ x) (r.0 ∙ ap (λ (x : Machine). map code_of (answers x (calls_of us))) e.0)
          ∙ sym (ap (map code_of) (answers_append next answered m (calls_by u) (calls_of us))
          ∙ codes_append (answers m (calls_by u)) (answers (final m (calls_by u)) (calls_of us))),
      r.1 ∙ ap (λ (x : Machine). final x (calls_of us)) e.0 ∙ sym (final_append next answered m (calls_by u) (calls_of us)),
    )

pub chain_numbers : (us : List Use) (l : Lent) → Chain l us → AllNumbers (calls_of us)
unfolding Chain calls_of AllNumbers
chain_numbers [] l c = tt
chain_numbers (u ∷ us) l c = numbers_append (calls_of us) (calls_by u) (use_numbers u c.0.1) (chain_numbers us (left u) c.1)

module _ (l : Lent) (us : List Use) (h : Used l us) where
  abbrev cs : List Call
  cs = calls_of us

  begun : machine l ≡ (starts.started l.memory l.bad l.store).machine
  begun = ap (λ (x : starts.Started). x.machine) (h.starts l.bad)

  served_start : start_refusal l.memory l.store ≡ 0
  unfolding starts.started
  served_start = sym (ap (λ (x : starts.Started). x.refusal) (h.starts l.bad))

  under_rules : RunUnder (keeps_rules l.memory l.bad cs ≡ true) l.memory l.bad l.store cs
  under_rules =
      record {
        memory_bytes = h.memory_bytes;
        store_bytes = h.store_bytes;
        served_start = served_start;
        numbers = chain_numbers us l h.chain;
        keeps = h.keeps;
      }

  ended : machine (last_of l us) ≡ library l.memory l.bad l.store cs
  ended = (chain_is us l h.chain).1 ∙ ap (λ (m : Machine). final m cs) begun

  same_uses : SameUses l us
  same_uses =
      let t = term3_printed l.memory l.bad l.store cs under_rules in
      record {
        same_codes = (chain_is us l h.chain).0 ∙ ap (λ (m : Machine). map code_of (answers m cs)) begun ∙ ap (map code_of) t.same_answers;
        same_registers = ap (λ (m : Machine). m.cp15.registers) ended ∙ t.same_registers;
        same_calls = ap (λ (m : Machine). m.counts.calls) ended ∙ t.same_calls;
        same_line = λ k e. subst (λ (x : List ℕ). SameLine x (plain l.memory l.bad cs).memory k) (sym (ap memory_of ended)) (t.same_line k e);
        same_memory = λ e. ap memory_of ended ∙ t.same_memory e;
      }

  -- ---- the plain machine's export

  module _ (list others memory₂ answers₂ : List ℕ) (p : PlainRan) (g : PlainUse l us list others memory₂ answers₂ p) where
    plain_left_lem : plain_ran_of memory₂ l.bad answers₂ p ≡ with_refusal (left_by (plain_start l.memory l.bad) cs others) 0
    plain_left_lem =
        g.runs ∙ run_by l.memory l.bad list others (min (length list / 5) (length others)) (length_fits_lem l.memory l.store served_start) refl
        ∙ ap (λ (x : List Call). with_refusal (left_by (plain_start l.memory l.bad) x others) 0) g.same_list

    same_exports : SameExports l us memory₂ answers₂ p
    unfolding left_of
    same_exports =
        let s = same_uses in
        let made-is : p.made ≡ length cs = ap (λ (x : PlainLeft). x.left.made) plain_left_lem in
        let codes = map code_of (plain_answers (plain_start l.memory l.bad) cs) in
        let memory_is : memory₂ ≡ (plain l.memory l.bad cs).memory = ap (λ (x : PlainLeft). x.left.machine.memory) plain_left_lem in
        record {
          served = ap (λ (x : PlainLeft). x.refusal) plain_left_lem;
          same_made = made-is;
          same_codes = s.same_codes
              ∙ sym (ap (λ (n : ℕ). take n answers₂) made-is
              ∙ ap (λ (x : List ℕ). take (length cs) x) (ap (λ (x : PlainLeft). x.left.answers) plain_left_lem)
              ∙ front plain_next plain_answered (plain_start l.memory l.bad) cs (drop (length cs) others));
          same_registers = s.same_registers ∙ sym (ap (λ (x : PlainLeft). x.left.machine.registers) plain_left_lem);
          same_calls = s.same_calls ∙ sym (ap (λ (x : PlainLeft). x.left.machine.calls) plain_left_lem);
          same_line = λ k e. subst (λ (x : List ℕ). SameLine (last_of l us).memory x k) (sym memory_is) (s.same_line k e);
          same_memory = λ e. s.same_memory e ∙ sym memory_is;
        }

pub uses_agree : UsesAgree
uses_agree = same_uses

pub exports_agree : ExportsAgree
exports_agree = same_exports
