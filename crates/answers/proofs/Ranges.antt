-- Loads, CP15 reads and refusals answer numbers that their codes tell.
use Prim.Native.Nat.{ℕ, ◌+◌, ◌^◌, ◌/◌, ◌%◌, ◌<◌}
use native.Mathlib.Omega.{arith}
use mathlib.Core.Bool.{Bool, true, ◌||◌}
use mathlib.Core.Path.{◌≡◌, refl, sym, subst}
use mathlib.Core.List.{List, [], ◌∷◌}
use lib.Dec.{eqb, ltb}
use borrow.Author.Tests.{eqb-true, ltb-true, ltb-false}
use Rattle.values.specs.Control.{kept, control_read}
use Rattle.values.specs.Lists.{all}
use Rattle.values.specs.Rows.{Row, first_met}
use Rattle.values.specs.declared.Registers.{Registers}
use Rattle.values.specs.declared.Kind.{Kind}
use Rattle.values.specs.declared.Kind.TheVariants.{Load, SignedLoad, Store, Swap}
use Rattle.values.specs.declared.Call.{Call}
use Rattle.values.specs.declared.Call.TheVariants.{Read, Write}
use Rattle.values.specs.declared.Call.TheVariants as calls
use Rattle.values.specs.declared.Answer.TheVariants as answer
use Rattle.values.proofs.Cases.{case, and_left, and_right, or_cases}
use Rattle.words.specs.Words.{is_width}
use Rattle.words.specs.Signed.{signed_by, load_answer}
use Rattle.registers.specs.Registers.{read_of}
use Rattle.refusals.specs.Refusals.{refusal_in}
use Rattle.machine.specs.Machine.{Machine}
use Rattle.soundness_laws.proofs.ScalarParts.{RegistersAre}
use Rattle.step.specs.Meets.{refusal}
use Rattle.printed.specs.Code.{Told}
use Rattle.answers.specs.Signed.{is_signed}

-- ---- loads

-- a number below twice half, signed by half
signed_told : (half v : ℕ) → v < half + half → half < 0x80000001 → Told true (answer.Signed (signed_by half v))
unfolding signed_by
signed_told half v h g =
    case (ltb v half) (λ t. let l = ltb-true v half t in rw t (refl, omega arith)) (λ t. let l = ltb-false v half t in rw t (refl, omega arith))

-- a width is 1, 2 or 4
width_cases : (P : ℕ → Type 0) (w : ℕ) → is_width w ≡ true → P 1 → P 2 → P 4 → P w
width_cases P w h one two four =
    or_cases (eqb w 1) _ h (λ e. subst P (sym (eqb-true w 1 e)) one)
    (λ g. or_cases (eqb w 2) (eqb w 4) g (λ e. subst P (sym (eqb-true w 2 e)) two) (λ e. subst P (sym (eqb-true w 4 e)) four))

-- what a load of a number of its width answers
pub load_told : (k : Kind) (w v : ℕ) → is_width w ≡ true → v < 256 ^ w → Told (is_signed k) (load_answer k w v)
load_told k w v h =
    width_cases (λ n. v < 256 ^ n → Told (is_signed k) (load_answer k n v)) w h (by k 1 refl (omega arith)) (by k 2 refl (omega arith))
    (by k 4 refl (omega arith))
  where
    by : (x : Kind) (n : ℕ) → 256 ^ n % 2 ≡ 0 → 256 ^ n < 0x100000001 → v < 256 ^ n → Told (is_signed x) (load_answer x n v)
    by Load n e g l = (refl, omega arith)
    by SignedLoad n e g l = signed_told (256 ^ n / 2) v (omega arith) (omega arith)
    by (Store y) n e g l = (refl, omega arith)
    by (Swap y) n e g l = (refl, omega arith)

-- ---- CP15 reads

-- a register read has 32 bits
pub read_low : (r : Registers) (n : ℕ) → RegistersAre r → read_of r n < 0x100000000
unfolding read_of control_read kept
read_low r n h =
    let control = h.control in
    let base = h.base_low in
    let domains = h.domains in
    let fsr = h.fsr in
    let far = h.far in
    case (eqb n 0) (λ t. rw t (omega arith))
    (λ t0. case (eqb n 1) (λ t. rw (t0, t) (omega arith))
    (λ t1. case (eqb n 2) (λ t. rw (t0, t1, t) (omega arith))
    (λ t2. case (eqb n 3) (λ t. rw (t0, t1, t2, t) (omega arith))
    (λ t3. case (eqb n 5) (λ t. rw (t0, t1, t2, t3, t) (omega arith))
    (λ t5. case (eqb n 6) (λ t. rw (t0, t1, t2, t3, t5, t) (omega arith)) (λ t. rw (t0, t1, t2, t3, t5, t) (omega arith)))))))

-- ---- refusals

-- the numbers of refusals, and 0: those of document 01's list, and 16
abbrev pub is_number : ℕ → Bool
is_number n = ltb n 13 || eqb n 16

-- where every row refuses by such a number, so does the first row met
rows_numbered : (rows : List (Row ℕ)) → all (λ (r : Row ℕ). is_number r.gives) rows ≡ true → is_number (refusal_in rows) ≡ true
unfolding first_met all
rows_numbered [] h = refl
rows_numbered (r ∷ rs) h =
    let rest = all (λ (x : Row ℕ). is_number x.gives) rs in
    case r.met (λ t. rw t (and_left (is_number r.gives) rest h)) (λ t. rw t (rows_numbered rs (and_right (is_number r.gives) rest h)))

pub refusal_numbered : (m : Machine) (c : Call) → is_number (refusal m c) ≡ true
unfolding refusal all
refusal_numbered m (calls.Access a) = rows_numbered _ refl
refusal_numbered m (Read t) = rows_numbered _ refl
refusal_numbered m (Write t v) = rows_numbered _ refl

-- a refusal's number is at most 16
pub refusal_low : (m : Machine) (c : Call) → refusal m c < 17
refusal_low m c =
    let n = refusal m c in
    or_cases (ltb n 13) (eqb n 16) (refusal_numbered m c) (λ t. let l = ltb-true n 13 t in omega arith) (λ t. let e = eqb-true n 16 t in omega arith)
