-- The rules over positions are the rules call by call.
use Prim.Native.Nat.{ℕ, zero, suc, ◌<◌, ◌≤◌}
use native.Mathlib.Omega.{arith}
use mathlib.Core.Bool.{Bool, true, ◌&&◌}
use mathlib.Core.Path.{◌≡◌, refl, sym, ◌∙◌, ap}
use mathlib.Core.List.{List, [], ◌∷◌}
use lib.Dec.{eqb, ltb}
use lib.ListN.{length, get_or, take}
use borrow.Author.Tests.{eqb-true, eq-eqb, ltb-true, lt-ltb}
use Rattle.values.specs.declared.Call.{Call}
use Rattle.values.proofs.Cases.{and_left, and_right, and_both}
use Rattle.trace.specs.Fold.{final_of}
use Rattle.plain.specs.Plain.{Plain, plain_start, plain_final, plain_refusal, plainly}
use Rattle.terms.specs.History.{History, no_history, after, history_after}
use Rattle.terms.specs.Rules.{is_drained, Allowed, Keeps, Settled}
use Rattle.terms.specs.Positions as at
use Rattle.terms.specs.Term3.{SameRules, Term3Printed}
use Rattle.terms.proofs.Term3.{term3}
use Rattle.terms.proofs.Quantified.{given_means, given_true, each_means, each_true}
use Rattle.terms.proofs.HistoryAt.{hist, hist_all, through_at}
use Rattle.terms.proofs.CallRules.{Tests, tests_of, of_tests}
use Rattle.terms.proofs.GroupAt.{group_of, inside, equal, large_of, of_large}
use Rattle.terms.proofs.ReachedAt.{Matches, r2_steps, steps_physical, steps_virtual}
use Rattle.terms.proofs.BaseAt.{r5_steps, steps_r5}
use Rattle.terms.proofs.CleanedAt.{r3_steps, steps_r3, r4_steps, steps_r4, line_settled, settled_line_lem}

-- ---- a list that keeps the rules, call by call

module _ (d : Call) where
  keeps_each : (list : List Call) (p : Plain) (h : History) → Keeps p h list → (j : ℕ) → j < length list
      → Allowed (plain_final p (take j list)) (history_after p h (take j list)) (get_or list j d)
  unfolding Keeps final_of history_after
  keeps_each [] p h k j b = absurd (omega arith)
  keeps_each (c ∷ cs) p h k zero b = k.0
  keeps_each (c ∷ cs) p h k (suc j) b = keeps_each cs (plainly p c).plain (after p h c) k.1 j (omega arith)

  each_keeps : (list : List Call) (p : Plain) (h : History)
      → ((j : ℕ) → j < length list → Allowed (plain_final p (take j list)) (history_after p h (take j list)) (get_or list j d)) → Keeps p h list
  unfolding Keeps final_of history_after
  each_keeps [] p h f = tt
  each_keeps (c ∷ cs) p h f = (f 0 (omega arith), each_keeps cs (plainly p c).plain (after p h c) (λ j b. f (suc j) (omega arith)))

module _ (memory bad : List ℕ) (list : List Call) where
  abbrev B : ℕ → Plain
  B = at.before memory bad list

  abbrev C : ℕ → Call
  C = at.call memory bad list

  abbrev H : ℕ → History
  H = hist memory bad list

  abbrev n : ℕ
  n = length list

  abbrev served : ℕ → Bool
  served = at.served memory bad list

  -- ---- one call

  -- what the rules over positions ask of call j
  record At (j : ℕ) : Type 0 where
    a2 : at.r2_physical memory bad list j ≡ true
    b2 : at.r2_virtual memory bad list j ≡ true
    a3 : at.r3 memory bad list j ≡ true
    a4 : at.r4 memory bad list j ≡ true
    a5 : at.r5 memory bad list j ≡ true
    a6 : at.r6_inside memory bad list j ≡ true
    b6 : at.r6_equal memory bad list j ≡ true

  -- all calls up to j keep them: call j is allowed
  allowed_at : (j : ℕ) → ((f : ℕ) → f ≤ j → At f) → served j ≡ true → Tests (B j) (H j) (C j)
  unfolding at.reaches at.virtual_at at.address_at at.translates at.reads_word at.covers at.of_group
  allowed_at j all s =
      let k = all j (omega arith) in
      record {
        t2 = λ v q e t. r2_steps memory bad list j k.a2 k.b2 v q (rw (s, e)) t;
        t3 = λ l e. r3_steps memory bad list j (λ f b. (all f b).a3) l (rw (s, ← through_at memory bad list l j) e);
        t4 = λ w e t. r4_steps memory bad list j k.a4 w (rw (s, e)) t;
        t5 = λ e. r5_steps memory bad list j (λ f b. (all f b).a5) (rw (s, e));
        t6 = λ e. large_of (B j) (H j) (C j) (given_means (at.translates memory bad list j) _ k.a6 (rw (s, e)))
            (given_means (at.translates memory bad list j) _ k.b6 (rw (s, e)));
      }

  -- and a call that is allowed, where it is served, keeps them
  at_allowed : (j : ℕ) → (served j ≡ true → Tests (B j) (H j) (C j)) → At j
  unfolding at.reaches at.virtual_at at.address_at at.translates at.reads_word at.covers at.of_group
  at_allowed j f =
      let reached : (v q : ℕ) → at.reaches memory bad list j ≡ true → (H j).reached v q ≡ true → Matches memory bad list j v q =
      λ v q e t. (f (and_left (served j) _ e)).t2 v q (and_right (served j) _ e) t in
      let large : at.translates memory bad list j ≡ true
      → (group_of (B j) (H j) (inside (B j) (H j)) (C j) ≡ true) × (group_of (B j) (H j) (equal (B j) (H j)) (C j) ≡ true) =
      λ e. of_large (B j) (H j) (C j) ((f (and_left (served j) _ e)).t6 (and_right (served j) _ e)) in
      record {
        a2 = steps_physical memory bad list j reached;
        b2 = steps_virtual memory bad list j reached;
        a3 = steps_r3 memory bad list j (λ l e. (f (and_left (served j) _ e)).t3 l (rw (through_at memory bad list l j) (and_right (served j) _ e)));
        a4 = steps_r4 memory bad list j (λ w e t. (f (and_left (served j) _ e)).t4 w (and_right (served j) _ e) t);
        a5 = steps_r5 memory bad list j (λ e. (f (and_left (served j) _ e)).t5 (and_right (served j) _ e));
        a6 = given_true (at.translates memory bad list j) _ (λ e. (large e).0);
        b6 = given_true (at.translates memory bad list j) _ (λ e. (large e).1);
      }

  -- ---- the list

  call_served : (j : ℕ) → j < n → plain_refusal (B j) (C j) ≡ 0 → served j ≡ true
  unfolding at.served
  call_served j b e = rw (lt-ltb j n b, e)

  served_below : (j : ℕ) → served j ≡ true → j < n
  unfolding at.served
  served_below j s = ltb-true j n (and_left (ltb j n) _ s)

  served_not : (j : ℕ) → served j ≡ true → plain_refusal (B j) (C j) ≡ 0
  unfolding at.served
  served_not j s = eqb-true (plain_refusal (B j) (C j)) 0 (and_right (ltb j n) _ s)

  -- call by call: all calls of the list
  abbrev Steps : Type 0
  Steps = (j : ℕ) → j < n → Allowed (B j) (H j) (C j)

  steps_of : Keeps (plain_start memory bad) no_history list → Steps
  unfolding hist
  steps_of k j b = keeps_each at.past_end list (plain_start memory bad) no_history k j b

  of_steps : Steps → Keeps (plain_start memory bad) no_history list
  unfolding hist
  of_steps f = each_keeps at.past_end list (plain_start memory bad) no_history f

  -- every rule at every position, also behind the end, where no call is served
  kept : Keeps (plain_start memory bad) no_history list → (j : ℕ) → At j
  kept k j = at_allowed j (λ s. tests_of (B j) (H j) (C j) (steps_of k j (served_below j s) (served_not j s)))

  keeps_rules_lem : Keeps (plain_start memory bad) no_history list → at.keeps_rules memory bad list ≡ true
  unfolding at.keeps_rules
  keeps_rules_lem k =
      rw (
        each_true (at.r2_physical memory bad list) n (λ j b. (kept k j).a2),
        each_true (at.r2_virtual memory bad list) n (λ j b. (kept k j).b2),
        each_true (at.r3 memory bad list) n (λ j b. (kept k j).a3),
        each_true (at.r4 memory bad list) n (λ j b. (kept k j).a4),
        each_true (at.r5 memory bad list) n (λ j b. (kept k j).a5),
        each_true (at.r6_inside memory bad list) n (λ j b. (kept k j).a6),
        each_true (at.r6_equal memory bad list) n (λ j b. (kept k j).b6),
      )

  rules_keep : at.keeps_rules memory bad list ≡ true → Keeps (plain_start memory bad) no_history list
  unfolding at.keeps_rules
  rules_keep e =
      let e2 = and_right (at.throughout memory bad list (at.r2_physical memory bad list)) _ e in
      let e3 = and_right (at.throughout memory bad list (at.r2_virtual memory bad list)) _ e2 in
      let e4 = and_right (at.throughout memory bad list (at.r3 memory bad list)) _ e3 in
      let e5 = and_right (at.throughout memory bad list (at.r4 memory bad list)) _ e4 in
      let e6 = and_right (at.throughout memory bad list (at.r5 memory bad list)) _ e5 in
      let all : (f : ℕ) → f < n → At f =
      λ f b.
      record {
        a2 = each_means _ n (and_left _ _ e) f b;
        b2 = each_means _ n (and_left _ _ e2) f b;
        a3 = each_means _ n (and_left _ _ e3) f b;
        a4 = each_means _ n (and_left _ _ e4) f b;
        a5 = each_means _ n (and_left _ _ e5) f b;
        a6 = each_means _ n (and_left _ _ e6) f b;
        b6 = each_means _ n (and_right (at.throughout memory bad list (at.r6_inside memory bad list)) _ e6) f b;
      }
      in
      of_steps (λ j b z. of_tests (B j) (H j) (C j) (allowed_at j (λ f h. all f (omega arith)) (call_served j b z)))

  -- ---- the end

  abbrev last : History
  last = history_after (plain_start memory bad) no_history list

  line_ends : (l : ℕ) → is_drained (last.line_stage l) ≡ true → at.settled_line memory bad list l ≡ true
  line_ends l e = line_settled memory bad list l (ap (λ (h : History). is_drained (h.line_stage l)) (hist_all memory bad list) ∙ e)

  ends_line : (l : ℕ) → at.settled_line memory bad list l ≡ true → is_drained (last.line_stage l) ≡ true
  ends_line l e = ap (λ (h : History). is_drained (h.line_stage l)) (sym (hist_all memory bad list)) ∙ settled_line_lem memory bad list l e

  -- a line is settled where every line stored to is
  any_line : at.settled memory bad list ≡ true → (l : ℕ) → at.settled_line memory bad list l ≡ true
  unfolding at.all_settled_by at.settled_by
  any_line e l =
      each_true _ n
      (λ i b.
      given_true (at.stores_line memory bad list l i && at.last_to_line memory bad list i n) (at.drained_since memory bad list i n)
      (λ t.
      let s = and_left (at.stores_line memory bad list l i) (at.last_to_line memory bad list i n) t in
      let m = and_right (at.stores_line memory bad list l i) (at.last_to_line memory bad list i n) t in
      let x = and_left (at.stores memory bad list i) (eqb l (at.line_at memory bad list i)) s in
      let own : at.stores_line memory bad list (at.line_at memory bad list i) i
      ≡ true = rw (x, eq-eqb (at.line_at memory bad list i) (at.line_at memory bad list i) refl) in
      given_means (at.stores_line memory bad list (at.line_at memory bad list i) i && at.last_to_line memory bad list i n) (at.drained_since memory bad list i n)
      (each_means _ n (given_means (at.stores memory bad list i) _ (each_means _ n e i b) x) i b)
      (and_both (at.stores_line memory bad list (at.line_at memory bad list i) i) (at.last_to_line memory bad list i n) own m)))

  all_ends : Settled last → at.settled memory bad list ≡ true
  unfolding at.all_settled_by
  all_ends f = each_true _ n (λ i b. given_true (at.stores memory bad list i) _
      (λ s. line_ends (at.line_at memory bad list i) (f (at.line_at memory bad list i))))

pub same_rules : SameRules
same_rules memory bad list =
    record {
      rules = (keeps_rules_lem memory bad list, rules_keep memory bad list);
      line = λ l. (line_ends memory bad list l, ends_line memory bad list l);
      all_lines = (all_ends memory bad list, λ e l. ends_line memory bad list l (any_line memory bad list e l));
    }

-- ---- term 3 as it may be printed

pub term3_printed : Term3Printed
term3_printed memory bad store calls r =
    let s = same_rules memory bad calls in
    let t = term3 memory bad store calls
    (record {
      memory_bytes = r.memory_bytes;
      store_bytes = r.store_bytes;
      served_start = r.served_start;
      numbers = r.numbers;
      keeps = s.rules.1 r.keeps;
    })
    in
    record {
      same_answers = t.same_answers;
      same_registers = t.same_registers;
      same_calls = t.same_calls;
      same_line = λ l e. t.same_line l ((s.line l).1 e);
      same_memory = λ e. t.same_memory (s.all_lines.1 e);
    }
