-- How many lines are printed, where 13 stands, and what a served store or write answers.
use Rattle.std.specs.Prelude.{Option, Some, None, Result, Ok, Err}
use Prim.Native.Nat.{ℕ, ◌+◌, ◌≤◌}
use native.Mathlib.Omega.{arith}
use mathlib.Core.Bool.{true, false, cond, not, ◌&&◌}
use mathlib.Core.Path.{◌≡◌, refl, sym, ◌∙◌, ap, subst}
use mathlib.Core.List.{List, [], ◌∷◌}
use lib.Dec.{eqb}
use lib.ListN.{length}
use borrow.Author.Tests.{eqb-true, eqb-false}
use Rattle.values.specs.Counts.{counted}
use Rattle.values.specs.Kinds.{is_store, is_swap}
use Rattle.values.specs.declared.Kind.{Kind}
use Rattle.values.specs.declared.Kind.TheVariants.{Load, SignedLoad, Store, Swap}
use Rattle.values.specs.declared.Access.{Access}
use Rattle.values.specs.declared.Call.{Call}
use Rattle.values.specs.declared.Call.TheVariants.{Read, Write}
use Rattle.values.specs.declared.Call.TheVariants as calls
use Rattle.values.specs.declared.Answer.TheVariants as answer
use Rattle.values.proofs.Cases.{case, clash}
use Rattle.bus.specs.Physical.{aborts}
use Rattle.cache.specs.Dcache.{find}
use Rattle.translation.specs.Alignment.{cleared}
use Rattle.translation.specs.Faults.{buffers}
use Rattle.translation.specs.declared.Place.{Place}
use Rattle.trace.specs.Codes.{numbers_of}
use Rattle.trace.specs.Fold.{answers_of}
use Rattle.printed.proofs.Told.{lines_counted}
use Rattle.fields.specs.Lines.{Line, lines_of, is_line, calls_of, departs}
use Rattle.machine.specs.Machine.{Machine, physical_of, with_counts, Stepped}
use Rattle.reach.specs.Reach.{decision, committed, faulted}
use Rattle.stores.specs.Stores.{store_hit, store_buffered, store_direct, store_miss, store_found, store}
use Rattle.access.specs.Access.{passed, access_at, access}
use Rattle.cp15.specs.Operations as cp15
use Rattle.step.specs.Meets.{refusal}
use Rattle.step.specs.Call.{done, served}
use Rattle.step.specs.Run.{next, answered}
use Rattle.terms.specs.Term1.{ValueOrFault}
use Rattle.terms.proofs.Answers.{call_by_refusal}
use Rattle.answers.proofs.Ranges.{is_number, refusal_numbered}
use Rattle.batch.specs.Batch.{refused13}
use Rattle.replay.specs.Replay.{line_answers}
use Rattle.replay_terms.specs.Printed.{AsMany, Without13, ThirteenLast, stores_or_writes, ZeroPrinted}
use Rattle.replay_terms.proofs.Printing.{answers_counted}
use Rattle.values.specs.declared.Cause.{Cause}

-- ---- how many lines

-- as many calls as lines, where none departs
calls_all : (lines : List Line) → departs lines ≡ false → length (calls_of lines) ≡ length lines
unfolding calls_of departs
calls_all [] h = refl
calls_all (l ∷ ls) h =
    case (is_line l) (λ t. let k : departs ls ≡ false = rw t at h in let e = calls_all ls k in rw t (omega arith)) (λ t. clash {b = true} refl (rw t at h))

-- the calls, and one more for a line that departs, are at most as many
calls_most : (lines : List Line) → length (calls_of lines) + cond (departs lines) 1 0 ≤ length lines
unfolding calls_of departs
calls_most [] = omega arith
calls_most (l ∷ ls) = let r = calls_most ls in case (is_line l) (λ t. rw t (omega arith)) (λ t. rw t (omega arith))

pub as_many : AsMany
unfolding line_answers
as_many m text =
    let lines = lines_of text in
    let c = lines_counted 1 (line_answers next answered m lines) ∙ answers_counted next answered m (calls_of lines) (departs lines) in
    record {
      as_many = λ h. let a = calls_all lines h in c ∙ rw h (omega arith);
      at_most = let b = calls_most lines in omega arith;
    }

-- ---- 13

-- no answer is 13
not_thirteen : (m : Machine) (c : Call) → answered m c ≡ answer.Refused 13 → ⊥
not_thirteen m c e =
    let t = call_by_refusal m c in
    case (eqb (refusal m c) 0)
    (λ z. subst ValueOrFault e (t.answered (eqb-true (refusal m c) 0 z)))
    (λ z.
    let f = t.refused (eqb-false (refusal m c) 0 z) in
    let g : answer.Refused (refusal m c) ≡ answer.Refused 13 = ap (λ (x : Stepped). x.answer) (sym f) ∙ e in
    let k : refusal m c ≡ 13 = cc in
    let n : is_number 13 ≡ true = subst (λ (x : ℕ). is_number x ≡ true) k (refusal_numbered m c) in
    clash n refl)

-- nor any of a list of calls
answers_without : (m : Machine) (cs : List Call) → Without13 (answers_of next answered m cs)
unfolding Without13 answers_of
answers_without m [] = tt
answers_without m (c ∷ cs) = (not_thirteen m c, answers_without (next m c) cs)

pub thirteen_last : ThirteenLast
unfolding line_answers
thirteen_last m lines =
    record {
      before = answers_of next answered m (calls_of lines);
      last = cond (departs lines) refused13 [];
      whole = refl;
      none_before = answers_without m (calls_of lines);
      one_last = refl;
    }

-- ---- stores and writes

-- what is served is 0
abbrev Zero : Stepped → Type 0
Zero x = (numbers_of x.answer).kind ≡ 0 → x.answer ≡ answer.Value 0

module _ (m : Machine) (a : Access) (v : ℕ) (p : Place) where
  -- a store that misses
  store_miss_zero : Zero (store_miss m a v p)
  unfolding store_miss store_buffered store_direct faulted
  store_miss_zero =
      case (buffers m.cp15.registers p) (λ f. rw f (λ e. refl))
      (λ f.
      case (aborts (physical_of m) p.address) (λ h. rw (f, h) (λ e. absurd (omega arith)))
      (λ h. rw (f, h) (λ e. refl)))

  -- a store, by what the cache holds
  store_found_zero : (x : Option ℕ) → Zero (store_found m a v p x)
  unfolding store_hit
  store_found_zero (Some i) = λ e. refl
  store_found_zero None = store_miss_zero

-- an access whose translation and rights pass
passed_zero : (m : Machine) (a : Access) (p : Place) (k : Kind) → (is_store k && not (is_swap k)) ≡ true → Zero (passed m a p k)
unfolding store
passed_zero m a p Load s = clash {b = false} s refl
passed_zero m a p SignedLoad s = clash {b = false} s refl
passed_zero m a p (Store v) s = store_found_zero m a v p (find m.side.cache.lines (cleared a))
passed_zero m a p (Swap v) s = clash {b = false} s refl

-- an access, by what was decided
at_zero : (m : Machine) (a : Access) (c : Result Place Cause) → (is_store a.kind && not (is_swap a.kind)) ≡ true → Zero (access_at m a c)
unfolding access_at faulted
at_zero m a (Err why) t = λ e. absurd (omega arith)
at_zero m a (Ok p) t = passed_zero m a p a.kind t

-- a call
done_zero : (m : Machine) (c : Call) → stores_or_writes c ≡ true → Zero (done m c)
unfolding access cp15.write
done_zero m (calls.Access a) s = let d = decision m a in at_zero (committed m d.mapping) a d.checked s
done_zero m (Read t) s = clash {b = false} s refl
done_zero m (Write t v) s = λ e. refl

-- a call that is not refused is done, counted
served_done : (m : Machine) (c : Call) → eqb (refusal m c) 0 ≡ true → done (with_counts m (counted m.counts)) c ≡ served m c
unfolding served
served_done m c z = rw z

pub zero_printed : ZeroPrinted
zero_printed m c s =
    case (eqb (refusal m c) 0) (λ z. subst Zero (served_done m c z) (done_zero (with_counts m (counted m.counts)) c s))
    (λ z. subst Zero (sym ((call_by_refusal m c).refused (eqb-false (refusal m c) 0 z))) (λ e. absurd (omega arith)))
