-- With a map of zeros the plain machine is document 01's.
use Rattle.std.specs.Prelude.{Result, Ok, Err}
use Prim.Native.Nat.{ℕ, ◌+◌, ◌*◌, ◌/◌, ◌%◌}
use native.Mathlib.Omega.{arith}
use mathlib.Core.Bool.{true, false, cond}
use mathlib.Core.Path.{◌≡◌, refl, sym, ◌∙◌, ap}
use mathlib.Core.List.{List, [], ◌∷◌}
use lib.Dec.{eqb, ltb, leb}
use lib.ListN.{length, length-replicate, get_or, get_or-replicate, replicate, get_or-eq_default}
use borrow.Author.Tests.{eq-eqb, ltb-true, ltb-false}
use Rattle.values.specs.Rows.{first_met}
use Rattle.values.specs.declared.VirtualAddress.{VirtualAddress}
use Rattle.values.specs.declared.PhysicalAddress.{PhysicalAddress}
use Rattle.values.specs.declared.Kind.{Kind}
use Rattle.values.specs.declared.Kind.TheVariants.{Load, SignedLoad, Store, Swap}
use Rattle.values.specs.declared.Access.{Access}
use Rattle.values.specs.declared.Call.{Call}
use Rattle.values.specs.declared.Call.TheVariants.{Read, Write}
use Rattle.values.specs.declared.Call.TheVariants as calls
use Rattle.values.specs.declared.Answer.{Answer}
use Rattle.values.proofs.Cases.{case}
use Rattle.values.proofs.Alls.{all_true}
use Rattle.bus.specs.Physical.{no_bad_words, physical, outside, is_bad, aborts, wanted_aborts}
use Rattle.bus.proofs.Laws.{inside_bad, outside_aborts, own_wanted, line_wanted}
use Rattle.walk.specs.Walk.{walk}
use Rattle.walk.proofs.Depends.{walk_same}
use Rattle.translation.specs.Alignment.{cleared}
use Rattle.translation.specs.Translation.{of_walk, walked_only, decided}
use Rattle.translation.specs.Faults.{fills, buffers}
use Rattle.translation.specs.declared.Translation.TheVariants.{Flat}
use Rattle.translation.specs.declared.Place.{Place}
use Rattle.values.specs.Control.{mmu}
use Rattle.refusals.specs.Refusals.{map_fits}
use Rattle.trace.specs.Fold.{answers_of, final_of}
use Rattle.step.specs.Meets.{start_refusal}
use Rattle.step.proofs.StateRefusals.{fitting, lent_fits}
use Rattle.plain.specs.Plain.{Plain, PlainStepped, plain_machine, plain_start, plain_stepped, plain_physical, plain_faulted, plain_reach, plain_load_aborts, plain_load}
use Rattle.plain.specs.Plain.{plain_store, plain_swap, plain_passed, plain_at, plain_access, plain_read, plain_write, plain_done, plain_refusal, counted, plainly}
use Rattle.plain.specs.Plain.{plain_answers, plain_final}
use Rattle.plain.proofs.Laws.{load_aborts_fill, load_aborts_other}
use Rattle.terms.specs.Document01.{load01, passed01, at01, done01, refusal01, plainly01, answers01, final01, WithoutBadWords}
use Rattle.terms.proofs.Passing.{good_line}
use Rattle.terms.proofs.PlainKept.{Same, call_keeps}
use Rattle.terms.proofs.Term3.{term3}
use Rattle.values.specs.declared.Cause.{Cause}
use Rattle.values.specs.declared.Entry.{Entry}

-- the plain machine with its map left out, and what a call leaves so
abbrev bare : Plain → Plain
bare p = plain_machine p.memory [] p.registers p.calls

abbrev bare_step : PlainStepped → PlainStepped
bare_step x = plain_stepped (bare x.plain) x.answer

-- no word is bad, the map fits, and memory is made of whole lines
record Clear (p : Plain) : Type 0 where
  none : (w : ℕ) → is_bad p.bad w ≡ false
  whole : length p.memory % 32 ≡ 0
  fits : map_fits (length p.memory) p.bad ≡ true

-- no word of no map is bad
empty_good : (w : ℕ) → is_bad [] w ≡ false
unfolding is_bad
empty_good w = refl

clear_kept : (p q : Plain) → Same p q → Clear p → Clear q
clear_kept p q s k =
    record {
      none = λ w. ap (λ (x : List ℕ). is_bad x w) s.map ∙ k.none w;
      whole = ap (λ (n : ℕ). n % 32) s.long ∙ k.whole;
      fits = rw (s.long, s.map) k.fits;
    }

module _ (p : Plain) (k : Clear p) where
  -- a word aborts where it lies outside memory
  by_outside : (bad : List ℕ) → ((w : ℕ) → is_bad bad w ≡ false) → (pa : PhysicalAddress)
      → aborts (physical p.memory bad) pa ≡ outside (plain_physical p) pa
  by_outside bad none pa =
      case (outside (plain_physical p) pa)
      (λ t. outside_aborts (physical p.memory bad) pa t ∙ sym t)
      (λ t. inside_bad (physical p.memory bad) pa t ∙ none (pa.0 / 4) ∙ sym t)

  same_aborts : (pa : PhysicalAddress) → aborts (plain_physical p) pa ≡ aborts (plain_physical (bare p)) pa
  same_aborts pa = by_outside p.bad k.none pa ∙ sym (by_outside [] empty_good pa)

  -- and so does a line's word up to it
  wanted_outside : (pa : PhysicalAddress) → wanted_aborts (plain_physical p) pa ≡ outside (plain_physical p) pa
  wanted_outside pa =
      case (outside (plain_physical p) pa)
      (λ t. own_wanted (plain_physical p) pa (outside_aborts (plain_physical p) pa t) ∙ sym t)
      (λ t.
      let i = ltb-false (length p.memory) (pa.0 / 4 * 4 + 4) t in
      let w = k.whole in
      line_wanted (plain_physical p) pa (good_line (plain_physical p) pa (omega arith) (λ x e. k.none (x / 4))) ∙ sym t)

  load_outside : (l : Place) → plain_load_aborts p l ≡ outside (plain_physical p) l.address
  load_outside l =
      case (fills p.registers l)
      (λ f. load_aborts_fill p l f ∙ wanted_outside l.address)
      (λ f. load_aborts_other p l f ∙ by_outside p.bad k.none l.address)

  -- ---- the step

  module _ (a : Access) where
    walk_bare : (va : VirtualAddress) → walk (plain_physical p) p.registers.base va ≡ walk (plain_physical (bare p)) p.registers.base va
    walk_bare va = walk_same (plain_physical p) (plain_physical (bare p)) same_aborts p.registers.base va (λ w h. refl)

    reach_bare : plain_reach (bare p) a ≡ plain_reach p a
    unfolding plain_reach walked_only
    reach_bare =
        let r = p.registers in
        ap (λ (x : Result Entry Cause). (decided r a (cond (mmu r) (of_walk x) (Ok Flat))).checked) (sym (walk_bare (cleared a)))

    module _ (l : Place) where
      load_bare : load01 (bare p) a l ≡ bare_step (plain_load p a l)
      unfolding load01 plain_load plain_faulted
      load_bare =
          case (outside (plain_physical p) l.address)
          (λ t. let u : plain_load_aborts p l ≡ true = load_outside l ∙ t in rw (t, u))
          (λ t. let u : plain_load_aborts p l ≡ false = load_outside l ∙ t in rw (t, u))

      module _ (v : ℕ) where
        store_bare : plain_store (bare p) a v l ≡ bare_step (plain_store p a v l)
        unfolding plain_store plain_faulted
        store_bare =
            case (aborts (plain_physical p) l.address)
            (λ t. let u = sym (same_aborts l.address) ∙ t in case (buffers p.registers l) (λ b. rw (u, t, b)) (λ b. rw (u, t, b)))
            (λ t. let u = sym (same_aborts l.address) ∙ t in rw (u, t))

        swap_bare : plain_swap (bare p) a v l ≡ bare_step (plain_swap p a v l)
        unfolding plain_swap plain_faulted
        swap_bare =
            case (aborts (plain_physical p) l.address)
            (λ t. let u = sym (same_aborts l.address) ∙ t in rw (u, t))
            (λ t. let u = sym (same_aborts l.address) ∙ t in rw (u, t, store_bare))

      passed_bare : (x : Kind) → passed01 (bare p) a l x ≡ bare_step (plain_passed p a l x)
      passed_bare Load = load_bare
      passed_bare SignedLoad = load_bare
      passed_bare (Store v) = store_bare v
      passed_bare (Swap v) = swap_bare v

    at_bare : (c : Result Place Cause) → at01 (bare p) a c ≡ bare_step (plain_at p a c)
    unfolding at01 plain_at plain_faulted
    at_bare (Err why) = refl
    at_bare (Ok l) = passed_bare l a.kind

  done_bare : (c : Call) → done01 (bare p) c ≡ bare_step (plain_done p c)
  unfolding plain_access plain_read plain_write
  done_bare (calls.Access a) = ap (at01 (bare p) a) (reach_bare a) ∙ at_bare a (plain_reach p a)
  done_bare (Read t) = refl
  done_bare (Write t v) = refl

  -- the map fits: 16 is not met
  refusal_bare : (c : Call) → plain_refusal p c ≡ refusal01 (bare p) c
  unfolding plain_refusal first_met
  refusal_bare c = rw k.fits

counted_clear : (p : Plain) → Clear p → Clear (counted p)
counted_clear p k = record { none = k.none; whole = k.whole; fits = k.fits }

step_bare : (p : Plain) → Clear p → (c : Call) → plainly01 (bare p) c ≡ bare_step (plainly p c)
unfolding plainly01 plainly
step_bare p k c =
    let e = refusal_bare p k c in
    case (eqb (refusal01 (bare p) c) 0)
    (λ t. rw (e, t) (done_bare (counted p) (counted_clear p k) c))
    (λ t. rw (e, t))

-- ---- a list of calls

list_bare : (cs : List Call) (p : Plain) → Clear p
    → (answers01 (bare p) cs ≡ plain_answers p cs) × (final01 (bare p) cs ≡ bare (plain_final p cs))
unfolding answers_of final_of
list_bare [] p k = (refl, refl)
list_bare (c ∷ cs) p k =
    let e = step_bare p k c in
    let r = list_bare cs (plainly p c).plain (clear_kept p (plainly p c).plain (call_keeps p c) k) in (
      ap (λ (x : PlainStepped). x.answer ∷ answers01 x.plain cs) e ∙ ap (λ (xs : List Answer). (plainly p c).answer ∷ xs) r.0,
      ap (λ (x : PlainStepped). final01 x.plain cs) e ∙ r.1,
    )

-- ---- the start

abbrev zeros : ℕ → List ℕ
zeros n = replicate n 0

zero_at : (n w : ℕ) → get_or (zeros n) w 0 ≡ 0
zero_at n w =
    case (ltb w n)
    (λ t. get_or-replicate {A = ℕ} n w 0 0 (ltb-true w n t))
    (λ t. get_or-eq_default (zeros n) 0 {n = w} (rw (length-replicate {A = ℕ} n 0) (ltb-false w n t)))

zero_good : (n w : ℕ) → is_bad (zeros n) w ≡ false
unfolding is_bad
zero_good n w = rw (zero_at n w)

zero_fits : (memory : List ℕ) → length memory % 32 ≡ 0 → map_fits (length memory) (no_bad_words memory) ≡ true
unfolding map_fits
zero_fits memory h =
    let n = length memory / 4 in
    let q : length memory / 4 * 4 ≡ length memory = omega arith in
    let e : length (zeros n) * 4 ≡ length memory = ap (λ (x : ℕ). x * 4) (length-replicate {A = ℕ} n 0) ∙ q in
    rw (eq-eqb (length (zeros n) * 4) (length memory) e) (all_true (λ (b : ℕ). leb b 1) 0 (zeros n) (λ j l. rw (zero_at n j)))

start_clear : (memory store : List ℕ) → start_refusal memory store ≡ 0 → Clear (plain_start memory (no_bad_words memory))
unfolding start_refusal plain_start
start_clear memory store e =
    let f = fitting (length memory) (lent_fits (length memory) (length store) e).0 in
    record { none = zero_good (length memory / 4); whole = f.whole; fits = zero_fits memory f.whole }

pub without_bad_words : WithoutBadWords
unfolding plain_start
without_bad_words memory store calls r =
    let t = term3 memory (no_bad_words memory) store calls r in
    let k = list_bare calls (plain_start memory (no_bad_words memory)) (start_clear memory store r.served_start) in
    record {
      same_answers = t.same_answers ∙ sym k.0;
      same_memory = λ h. t.same_memory h ∙ sym (ap (λ (q : Plain). q.memory) k.1);
    }
