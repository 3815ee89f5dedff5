-- No refusal has the number 0.
use Rattle.std.proofs.Common.{◌≡◌, ◌<◌, true, false, Result, Ok, Err, refl, sym, arith}
use Rattle.std.proofs.lemmas.Bool.{false≢true}
use Rattle.std.specs.Result.{is_err}
use Rattle.refusals.specs.declared.Refusal.{Refusal}
use Rattle.refusals.specs.declared.Refusal.TheVariants as refusals
use Rattle.refusals.specs.Numbers.{number_of, refusal_code}

numbered : (r : Refusal) → 0 < number_of r
numbered refusals.Memory = omega arith
numbered refusals.Store = omega arith
numbered refusals.State = omega arith
numbered refusals.Length = omega arith
numbered refusals.Count = omega arith
numbered refusals.Width = omega arith
numbered refusals.Value = omega arith
numbered refusals.User = omega arith
numbered refusals.Register = omega arith
numbered refusals.Operation = omega arith
numbered refusals.BigEndian = omega arith
numbered refusals.Control = omega arith
numbered refusals.Line = omega arith
numbered refusals.Text = omega arith
numbered refusals.Room = omega arith
numbered refusals.Map = omega arith

pub no_zero : (r : Refusal) → number_of r ≡ 0 → ⊥
no_zero r e = let p = numbered r in omega arith

-- what a test of refusals answers: an error has a number, and no error has 0
module _ {A : Type 0} where
  pub err_numbered : (r : Result A Refusal) → is_err r ≡ true → refusal_code r ≡ 0 → ⊥
  err_numbered (Ok x) t z = false≢true t
  err_numbered (Err e) t z = no_zero e z

  pub ok_zero : (r : Result A Refusal) → is_err r ≡ false → refusal_code r ≡ 0
  ok_zero (Ok x) f = refl
  ok_zero (Err e) f = absurd (false≢true (sym f))
