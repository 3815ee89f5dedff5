-- What the rules ask of one served call, by tests of the call.
use Rattle.std.specs.Prelude.{Result, Ok, Err}
use Prim.Native.Nat.{ℕ, ◌/◌}
use mathlib.Core.Bool.{Bool, true, false, ◌&&◌, ◌||◌}
use mathlib.Core.Path.{◌≡◌, refl, sym, ◌∙◌, ap}
use mathlib.Core.List.{List, [], ◌∷◌}
use lib.Dec.{eqb}
use lib.ListN.{get_or}
use borrow.Author.Tests.{eqb-true, eq-eqb}
use Rattle.values.specs.Lists.{all, any}
use Rattle.values.specs.Addresses.{virtual_line, physical_line}
use Rattle.values.specs.declared.VirtualAddress.{VirtualAddress}
use Rattle.values.specs.declared.Call.{Call}
use Rattle.values.specs.declared.Call.TheVariants.{Read, Write}
use Rattle.values.specs.declared.Call.TheVariants as calls
use Rattle.values.proofs.Alls.{all_true}
use Rattle.values.proofs.Anys.{any_some}
use Rattle.values.proofs.Cases.{clash, and_left, and_right, or_left, or_right, or_cases}
use Rattle.walk.specs.Reads.{words_read}
use Rattle.translation.specs.Alignment.{cleared}
use Rattle.cp15.specs.Operations as cp15
use Rattle.plain.specs.Plain.{Plain, plain_physical, plain_reach}
use Rattle.terms.specs.History.{History}
use Rattle.terms.specs.Rules.{is_stored, is_flushed, walks, R2, R6, ServedAllowed}
use Rattle.terms.specs.Positions.{of_access, of_write, passes, address_in}
use Rattle.terms.proofs.CallHistory.{reach_of, virtual_of, address_of}
use Rattle.values.specs.declared.Cause.{Cause}
use Rattle.translation.specs.declared.Place.{Place}

-- an element of a list of which every element meets a test
all_any : (f : ℕ → Bool) (w : ℕ) (l : List ℕ) → all f l ≡ true → any (λ x. eqb x w) l ≡ true → f w ≡ true
unfolding all any
all_any f w [] e g = clash {b = false} g refl
all_any f w (x ∷ xs) e g =
    or_cases (eqb x w) (any (λ y. eqb y w) xs) g (λ t. ap f (sym (eqb-true x w t)) ∙ and_left (f x) (all f xs) e)
    (λ t. all_any f w xs (and_right (f x) (all f xs) e) t)

any_all : (f : ℕ → Bool) (l : List ℕ) → ((w : ℕ) → any (λ x. eqb x w) l ≡ true → f w ≡ true) → all f l ≡ true
any_all f l g =
    all_true f 0 l (λ j h. g (get_or l j 0) (any_some (λ x. eqb x (get_or l j 0)) 0 l j h (eq-eqb (get_or l j 0) (get_or l j 0) refl)))

module _ (p : Plain) (h : History) where
  -- the call is an access that the plain machine walks for, and reads word w
  abbrev pub walks_of : Call → Bool
  walks_of = of_access false (walks p)

  abbrev pub reads_of : ℕ → Call → Bool
  reads_of w = of_access false (λ a. any (λ x. eqb x w) (words_read (plain_physical p) p.registers.base (cleared a)))

  -- a flush that covers line l
  abbrev pub covers_of : ℕ → Call → Bool
  covers_of l = of_write (λ t v. cp15.flushes_dcache t || (cp15.flushes_line t && eqb (h.through l) (v / 32)))

  -- the virtual and the physical line that the call reaches are this pair, or neither
  abbrev pub Paired : Call → ℕ → ℕ → Type 0
  Paired c v q = (v ≡ virtual_of p h c → q ≡ physical_line (address_of p h c)) × (q ≡ physical_line (address_of p h c) → v ≡ virtual_of p h c)

  abbrev pub Large : Call → Type 0
  Large (calls.Access a) = R6 p (cleared a)
  Large (Read t) = Unit {0}
  Large (Write t v) = Unit {0}

  pub record Tests (c : Call) : Type 0 where
    pub t2 : (v q : ℕ) → reach_of p h c ≡ true → h.reached v q ≡ true → Paired c v q
    pub t3 : (l : ℕ) → covers_of l c ≡ true → is_stored (h.line_stage l) ≡ false
    pub t4 : (w : ℕ) → walks_of c ≡ true → reads_of w c ≡ true → is_flushed (h.word_stage w) ≡ true
    pub t5 : walks_of c ≡ true → h.base_stale ≡ false
    pub t6 : walks_of c ≡ true → Large c

  -- R2, by whether the access passes
  paired_of : (va : VirtualAddress) (c : Result Place Cause) → R2 h va c → passes c ≡ true → (v q : ℕ) → h.reached v q ≡ true
      → (v ≡ virtual_line va → q ≡ physical_line (address_in c)) × (q ≡ physical_line (address_in c) → v ≡ virtual_line va)
  paired_of va (Err why) r e v q t = clash {b = false} e refl
  paired_of va (Ok l) r e v q t = r v q t

  of_paired : (va : VirtualAddress) (c : Result Place Cause)
      → (passes c ≡ true → (v q : ℕ) → h.reached v q ≡ true
      → (v ≡ virtual_line va → q ≡ physical_line (address_in c)) × (q ≡ physical_line (address_in c) → v ≡ virtual_line va))
      → R2 h va c
  of_paired va (Err why) f = tt
  of_paired va (Ok l) f = f refl

  pub tests_of : (c : Call) → ServedAllowed p h c → Tests c
  tests_of (calls.Access a) s =
      record {
        t2 = λ v q e t. paired_of (cleared a) (plain_reach p a) s.r2 e v q t;
        t3 = λ l e. clash {b = false} e refl;
        t4 = λ w e t. all_any (λ (x : ℕ). is_flushed (h.word_stage x)) w (words_read (plain_physical p) p.registers.base (cleared a)) (s.r4 e) t;
        t5 = λ e. s.r5 e;
        t6 = λ e. s.r6 e;
      }
  tests_of (Read t) s =
      record {
        t2 = λ v q e u. clash {b = false} e refl;
        t3 = λ l e. clash {b = false} e refl;
        t4 = λ w e u. clash {b = false} e refl;
        t5 = λ e. clash {b = false} e refl;
        t6 = λ e. tt;
      }
  tests_of (Write t x) s =
      record {
        t2 = λ v q e u. clash {b = false} e refl;
        t3 = λ l e.
            or_cases (cp15.flushes_dcache t) (cp15.flushes_line t && eqb (h.through l) (x / 32)) e (λ u. (s l).0 u)
            (λ u.
            (s l).1 (and_left (cp15.flushes_line t) (eqb (h.through l) (x / 32)) u)
            (eqb-true (h.through l) (x / 32) (and_right (cp15.flushes_line t) (eqb (h.through l) (x / 32)) u)));
        t4 = λ w e u. clash {b = false} e refl;
        t5 = λ e. clash {b = false} e refl;
        t6 = λ e. tt;
      }

  pub of_tests : (c : Call) → Tests c → ServedAllowed p h c
  of_tests (calls.Access a) s =
      record {
        r2 = of_paired (cleared a) (plain_reach p a) (λ e v q t. s.t2 v q e t);
        r4 = λ e. any_all (λ (x : ℕ). is_flushed (h.word_stage x)) (words_read (plain_physical p) p.registers.base (cleared a)) (λ w t. s.t4 w e t);
        r5 = λ e. s.t5 e;
        r6 = λ e. s.t6 e;
      }
  of_tests (Read t) s = tt
  of_tests (Write t x) s =
      λ l. (
        λ u. s.t3 l (or_left (cp15.flushes_dcache t) (cp15.flushes_line t && eqb (h.through l) (x / 32)) u),
        λ u q.
            s.t3 l
            (or_right (cp15.flushes_dcache t) (cp15.flushes_line t && eqb (h.through l) (x / 32)) (rw (u, eq-eqb (h.through l) (x / 32) q))),
      )
