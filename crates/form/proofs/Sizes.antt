-- How many bytes the text of numbers has, counted number by number.
use Prim.Native.Nat.{ℕ, ◌+◌, ◌*◌, ◌≤◌, ◌<◌}
use native.Mathlib.Omega.{arith}
use mathlib.Core.Path.{◌≡◌, ap}
use mathlib.Core.List.{List}
use lib.ListN.{length, get_or, drop, drop_of_length-le}
use Rattle.printed.specs.Printed.{decimal}
use Rattle.printed.proofs.Decimal.{decimal_ten}
use Rattle.fields.proofs.Digits.{drop_more}
use Rattle.form.specs.Code.{text_size}

-- the bytes from number k on
pub size_more : (ns : List ℕ) (k : ℕ) → k < length ns → text_size (drop k ns) ≡ length (decimal (get_or ns k 0)) + 1 + text_size (drop (k + 1) ns)
unfolding text_size
size_more ns k h = ap text_size (drop_more ns k h)

-- what holds before each turn of the loop that counts them
pub record Sizing (ns : List ℕ) (size k : ℕ) : Type 0 where
  pub low : k ≤ length ns
  pub few : size ≤ k * 11
  pub whole : size + text_size (drop k ns) ≡ text_size ns

module _ (ns : List ℕ) (size k : ℕ) (g : Sizing ns size k) where
  pub sizing_on : (d : ℕ) → k < length ns → get_or ns k 0 < 0x100000000 → d ≡ length (decimal (get_or ns k 0)) → Sizing ns (size + (d + 1)) (k + 1)
  sizing_on d h small e =
      let m = size_more ns k h in
      let ten = decimal_ten (get_or ns k 0) (omega arith) in
      let few = g.few in
      let whole = g.whole in
      record { low = omega arith; few = omega arith; whole = omega arith }

  pub sizing_end : length ns ≤ k → (size ≡ text_size ns) × (size ≤ length ns * 11)
  unfolding text_size
  sizing_end h =
      let e : text_size (drop k ns) ≡ 0 = ap text_size (drop_of_length-le ns {i = k} h) in
      let low = g.low in
      let few = g.few in
      let whole = g.whole in
      (omega arith, omega arith)
