-- Every answer of the library's machine is told by its code and whether its call is a signed load.
use Prim.Native.Nat.{ℕ, zero, suc, ◌+◌, ◌*◌, ◌<◌}
use native.Mathlib.Omega.{arith}
use native.Mathlib.Nat.{add-zero}
use mathlib.Core.Bool.{Bool, true, false}
use mathlib.Core.Path.{◌≡◌, refl, sym, ◌∙◌, subst}
use mathlib.Core.List.{List, [], ◌∷◌}
use lib.Dec.{eqb}
use lib.ListN.{length, get_or}
use borrow.Author.Tests.{eqb-true, eqb-false, ne_eqb}
use Rattle.values.specs.Counts.{counted}
use Rattle.values.specs.declared.Kind.{Kind}
use Rattle.values.specs.declared.Access.{Access}
use Rattle.values.specs.declared.Call.{Call}
use Rattle.values.specs.declared.Call.TheVariants.{Read, Write}
use Rattle.values.specs.declared.Call.TheVariants as calls
use Rattle.values.specs.declared.Answer.{Answer}
use Rattle.values.specs.declared.Answer.TheVariants as answer
use Rattle.values.proofs.Cases.{case}
use Rattle.words.specs.Words.{is_width, value_at, Bytes}
use Rattle.words.specs.Signed.{load_answer}
use Rattle.translation.specs.Faults.{fault_set}
use Rattle.refusals.specs.Refusals.{row5, call_rows, call_refusal}
use Rattle.refusals.proofs.Rows.{rows_passed, access_accepted}
use Rattle.trace.specs.Calls.{call_of, call_at, is_call_at}
use Rattle.trace.specs.Fold.{calls_in, answers_of}
use Rattle.trace.proofs.Folds.{answers_long}
use Rattle.buffer.specs.Buffer.{drained}
use Rattle.cache.specs.Dcache.{Side}
use Rattle.machine.specs.Machine.{Machine, memory_of, store_of, with_counts, Stepped, stepped_from}
use Rattle.reach.specs.Reach.{faulted}
use Rattle.soundness_test.specs.Formed.{Formed}
use Rattle.soundness_laws.proofs.ScalarParts.{RegistersAre}
use Rattle.soundness_laws.proofs.BackingKept.{BackingIs, drained_kept}
use Rattle.soundness_laws.proofs.Holding.{holding_of}
use Rattle.soundness_laws.proofs.Reader.{clauses_parts}
use Rattle.soundness_laws.proofs.TlbKept.{value_low}
use Rattle.step.specs.Meets.{state_meets, state_refusal, refusal}
use Rattle.step.specs.Call.{done, served, Numbers}
use Rattle.step.specs.Run.{next, answered, answers}
use Rattle.step.proofs.SoundKept.{call_accepted, served_kept, sound_kept}
use Rattle.step.proofs.StateRefusals.{accepts, state_numbered, refusal_rows}
use Rattle.terms.specs.Term3.{AllNumbers}
use Rattle.terms.specs.Corollaries.{All32}
use Rattle.terms.proofs.Corollaries.{calls_numbers}
use Rattle.terms.proofs.Answers.{Accessed, of_memory, of_cache, stores, swaps_cached, swaps_memory, Answers, done_by, call_by_refusal}
use Rattle.printed.specs.Code.{Told}
use Rattle.answers.specs.Signed.{is_signed, is_signed_load, TellsAll, Tells}
use Rattle.answers.proofs.Ranges.{load_told, read_low, refusal_low}

-- ---- an accepted call

-- what an access gets: the bytes of its cache store, and a memory and buffer in range
record Gets (s : Side) : Type 0 where
  size : ℕ
  store_bytes : Bytes s.cache.store
  backing : BackingIs size s.backing

-- an access of a width that answers the number of some bytes
bytes_told : (a : Access) (m : List ℕ) (at : ℕ) (x : Answer) → is_width a.width ≡ true → Bytes m
    → x ≡ load_answer a.kind a.width (value_at a.width m at) → Told (is_signed a.kind) x
bytes_told a m at x w b e =
    subst (Told (is_signed a.kind)) (sym e) (load_told a.kind a.width (value_at a.width m at) w (value_low a.width m at b))

module _ (s : Side) (g : Gets s) (x : Stepped) (f : Formed x.machine) (r : RegistersAre x.machine.cp15.registers) where
  -- an access of some width that left a machine of its shape
  access_told : (a : Access) → is_width a.width ≡ true → Accessed s a x → Told (is_signed a.kind) x.answer
  access_told a w (of_memory at e) = bytes_told a (memory_of x.machine) at x.answer w f.memory_bytes e
  access_told a w (of_cache at e) = bytes_told a (store_of x.machine) at x.answer w f.store_bytes e
  access_told a w (stores v k e) = subst (λ (y : Kind). Told (is_signed y) x.answer) (sym k) (subst (Told false) (sym e) (refl, omega arith))
  access_told a w (swaps_cached at e) = bytes_told a s.cache.store at x.answer w g.store_bytes e
  access_told a w (swaps_memory at e) =
      bytes_told a (drained s.backing).memory at x.answer w (drained_kept g.size s.backing g.backing).memory_bytes e

  -- a call
  answers_told : (c : Call) → call_refusal c ≡ 0 → Answers s c x → Told (is_signed_load c) x.answer
  answers_told (calls.Access a) h y = access_told a (access_accepted a h).0 y
  answers_told (Read t) h e = subst (Told false) (sym e) (refl, read_low x.machine.cp15.registers t.register r)
  answers_told (Write t v) h e = subst (Told false) (sym e) (refl, omega arith)

-- a call that is not refused, and leaves a machine of its shape with registers in range
done_told : (m : Machine) (c : Call) → Gets m.side → call_refusal c ≡ 0 → Formed (done m c).machine
    → RegistersAre (done m c).machine.cp15.registers → Told (is_signed_load c) (done m c).answer
unfolding faulted fault_set
done_told m c g h =
    done_by (λ x. Formed x.machine → RegistersAre x.machine.cp15.registers → Told (is_signed_load c) x.answer) m c
    (λ x y f r. answers_told m.side g x f r c h y) (λ t s d va k f r. let low = r.fsr in omega arith)
    (λ a e t p q w f r. let low = r.fsr in omega arith)

-- ---- a call

-- a call that is not refused is made on a machine that 1 to 4 do not hold of
state_passed : (m : Machine) (c : Call) → refusal m c ≡ 0 → state_refusal m ≡ 0
unfolding state_refusal
state_passed m c h = (rows_passed (state_meets m) (row5 m.counts.calls ∷ call_rows c) (state_numbered m) (sym (refusal_rows m c) ∙ h)).0

module _ (m : Machine) (c : Call) where
  -- a call that is not refused is done, counted
  served_done : eqb (refusal m c) 0 ≡ true → served m c ≡ done (with_counts m (counted m.counts)) c
  unfolding served
  served_done t = rw t

  -- a refused call answers its number, and changes nothing
  served_refused : eqb (refusal m c) 0 ≡ false → served m c ≡ stepped_from m (answer.Refused (refusal m c))
  served_refused t = (call_by_refusal m c).refused (eqb-false (refusal m c) 0 t)

  module _ (f : state_refusal m ≡ 0 → Formed m) (n : Numbers c) where
    -- a call's answer, on a machine that has its shape or refuses it
    pub served_told : Told (is_signed_load c) (served m c).answer
    served_told =
        case (eqb (refusal m c) 0)
        (λ t.
        let z = eqb-true (refusal m c) 0 t in
        let p = state_passed m c z in
        let k = served_kept m c (f p) (accepts m p).is_sound n in
        let h = (holding_of m (f p) (accepts m p).is_sound).side in
        let g : Gets m.side = record { size = length (memory_of m); store_bytes = (f p).store_bytes; backing = h.backing } in
        let e = served_done t in
        let r = (clauses_parts (served m c).machine k.sound).registers in
        subst (λ (x : Stepped). Told (is_signed_load c) x.answer) (sym e)
        (done_told (with_counts m (counted m.counts)) c g (call_accepted m c z) (subst (λ (x : Stepped). Formed x.machine) e k.formed)
        (subst (λ (x : Stepped). RegistersAre x.machine.cp15.registers) e r)))
        (λ t.
        let low = refusal_low m c in
        let l : Told (is_signed_load c) (answer.Refused (refusal m c)) = omega arith in
        subst (λ (x : Stepped). Told (is_signed_load c) x.answer) (sym (served_refused t)) l)

    -- the machine that a call leaves has its shape, if the machine before it has
    pub served_formed : state_refusal (served m c).machine ≡ 0 → Formed (served m c).machine
    served_formed =
        case (eqb (refusal m c) 0)
        (λ t z. let p = state_passed m c (eqb-true (refusal m c) 0 t) in (sound_kept m c (f p) (accepts m p).is_sound n).0)
        (λ t. subst (λ (x : Stepped). state_refusal x.machine ≡ 0 → Formed x.machine) (sym (served_refused t)) f)

-- ---- a list of calls

-- every answer of a list of calls, on a machine that has its shape or refuses them all
pub run_told : (m : Machine) (cs : List Call) → (state_refusal m ≡ 0 → Formed m) → AllNumbers cs → TellsAll cs (answers m cs)
unfolding answers_of AllNumbers TellsAll
run_told m [] f n = tt
run_told m (c ∷ cs) f n = (served_told m c f n.0, run_told (served m c).machine cs (served_formed m c f n.0) n.1)

-- ---- a list of numbers, five a call

-- five numbers are a signed load if the first is 1
signed_of : (k p w x v : ℕ) → is_signed_load (call_of k p w x v) ≡ eqb k 1
unfolding call_of
signed_of k p w x v =
    case (eqb k 0) (λ t. let z = eqb-true k 0 t in rw t (sym (ne_eqb k 1 (λ e. absurd (omega arith)))))
    (λ t0. case (eqb k 1) (λ t. rw (t0, t))
    (λ t1. case (eqb k 2) (λ t. rw (t0, t1, t))
    (λ t2. case (eqb k 3) (λ t. rw (t0, t1, t2, t))
    (λ t3. case (eqb k 4) (λ t. rw (t0, t1, t2, t3, t)) (λ t4. rw (t0, t1, t2, t3, t4))))))

-- answers to the calls of a list of numbers, by the numbers
tells_list : (n : ℕ) (list : List ℕ) (i : ℕ) (ys : List Answer) → TellsAll (calls_in n list i) ys → Tells n list i ys
unfolding calls_in TellsAll Tells
tells_list n list i [] h = tt
tells_list zero list i (y ∷ ys) h = h
tells_list (suc n) list i (y ∷ ys) h =
    case (is_call_at list i)
    (λ t.
    let g : TellsAll (call_at list i ∷ calls_in n list (i + 1)) (y ∷ ys) = rw t at h in
    (subst (λ (b : Bool). Told b y) (signed_of (get_or list (i * 5) 0) _ _ _ _) g.0, tells_list n list (i + 1) ys g.1))
    (λ t. let g : TellsAll [] (y ∷ ys) = rw t at h in absurd g)

-- every answer of the calls of a list of numbers, on a machine that has its shape or refuses them all
pub list_told : (m : Machine) (list : List ℕ) → (state_refusal m ≡ 0 → Formed m) → All32 list → (n i : ℕ)
    → Tells n list i (answers m (calls_in n list i))
list_told m list f h n i =
    tells_list n list i (answers m (calls_in n list i)) (run_told m (calls_in n list i) f (calls_numbers list h n i))

-- the answer at a place
pub tells_at : (n : ℕ) (list : List ℕ) (i : ℕ) (ys : List Answer) → Tells n list i ys → (k : ℕ) (none : Answer) → k < length ys
    → Told (eqb (get_or list ((i + k) * 5) 0) 1) (get_or ys k none)
unfolding Tells
tells_at n list i [] h k none l = absurd (omega arith)
tells_at zero list i (y ∷ ys) h k none l = absurd h
tells_at (suc n) list i (y ∷ ys) h zero none l = rw (add-zero i) h.0
tells_at (suc n) list i (y ∷ ys) h (suc k) none l =
    let e : i + suc k ≡ i + 1 + k = omega arith in
    subst (λ (j : ℕ). Told (eqb (get_or list (j * 5) 0) 1) (get_or ys k none)) (sym e) (tells_at n list (i + 1) ys h.1 k none (omega arith))

-- the answer to call i + k of a list of numbers, for every call that is made
pub list_told_at : (m : Machine) (list : List ℕ) → (state_refusal m ≡ 0 → Formed m) → All32 list → (n i k : ℕ) (none : Answer)
    → k < length (calls_in n list i) → Told (eqb (get_or list ((i + k) * 5) 0) 1) (get_or (answers m (calls_in n list i)) k none)
list_told_at m list f h n i k none l =
    let e = answers_long next answered m (calls_in n list i) in
    tells_at n list i (answers m (calls_in n list i)) (list_told m list f h n i) k none (omega arith)
