-- R6 over positions, and call by call: each way.
use Prim.Native.Nat.{ℕ, ◌+◌, ◌*◌, ◌/◌}
use mathlib.Core.Bool.{Bool, true, false, not}
use mathlib.Core.Path.{◌≡◌, refl}
use lib.Dec.{eqb}
use borrow.Author.Tests.{eqb-true, eq-eqb, not-true}
use Rattle.values.specs.declared.Access.{Access}
use Rattle.values.specs.declared.Call.{Call}
use Rattle.values.specs.declared.Call.TheVariants.{Read, Write}
use Rattle.values.specs.declared.Call.TheVariants as calls
use Rattle.words.specs.Words.{value_at}
use Rattle.bus.specs.Physical.{aborts}
use Rattle.walk.specs.Walk.{walk}
use Rattle.translation.specs.Alignment.{cleared}
use Rattle.plain.specs.Plain.{Plain, plain_physical}
use Rattle.terms.specs.History.{History}
use Rattle.terms.specs.Rules.{is_large, level_two}
use Rattle.terms.specs.Positions.{each, given, of_access}
use Rattle.terms.proofs.Quantified.{given_means, given_true, each_means, each_true}
use Rattle.terms.proofs.CallRules.{Large}

module _ (p : Plain) (h : History) where
  -- a test of each word of the group round the level 2 word of an access
  abbrev group : (Plain → ℕ → ℕ → Bool) → Access → Bool
  group test a =
      let two = level_two p.memory p.registers.base (cleared a) in
      given (is_large (walk (plain_physical p) p.registers.base (cleared a))) (each 16 (λ k. test p (two / 64 * 64 + 4 * k) two))

  abbrev pub group_of : (Plain → ℕ → ℕ → Bool) → Call → Bool
  group_of test = of_access true (group test)

  abbrev pub inside : Plain → ℕ → ℕ → Bool
  inside p a two = not (aborts (plain_physical p) (record { 0 = a }))

  abbrev pub equal : Plain → ℕ → ℕ → Bool
  equal p a two = eqb (value_at 4 p.memory a) (value_at 4 p.memory two)

  not_of : (b : Bool) → b ≡ false → not b ≡ true
  not_of b e = rw e

  pub large_of : (c : Call) → group_of inside c ≡ true → group_of equal c ≡ true → Large p h c
  large_of (calls.Access a) i e =
      let two = level_two p.memory p.registers.base (cleared a) in
      let large = is_large (walk (plain_physical p) p.registers.base (cleared a)) in
      λ t k b. (
        not-true (aborts (plain_physical p) (record { 0 = two / 64 * 64 + 4 * k }))
            (each_means _ 16 (given_means large (each 16 (λ x. inside p (two / 64 * 64 + 4 * x) two)) i t) k b),
        eqb-true (value_at 4 p.memory (two / 64 * 64 + 4 * k)) (value_at 4 p.memory two)
            (each_means _ 16 (given_means large (each 16 (λ x. equal p (two / 64 * 64 + 4 * x) two)) e t) k b),
      )
  large_of (Read t) i e = tt
  large_of (Write t v) i e = tt

  pub of_large : (c : Call) → Large p h c → (group_of inside c ≡ true) × (group_of equal c ≡ true)
  of_large (calls.Access a) f =
      let two = level_two p.memory p.registers.base (cleared a) in
      let large = is_large (walk (plain_physical p) p.registers.base (cleared a)) in (
        given_true large _ (λ t. each_true _ 16 (λ k b. not_of (aborts (plain_physical p) (record { 0 = two / 64 * 64 + 4 * k })) (f t k b).0)),
        given_true large _
            (λ t. each_true _ 16 (λ k b. eq-eqb (value_at 4 p.memory (two / 64 * 64 + 4 * k)) (value_at 4 p.memory two) (f t k b).1)),
      )
  of_large (Read t) f = (refl, refl)
  of_large (Write t v) f = (refl, refl)
