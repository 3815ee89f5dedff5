-- "A signed load answers a signed number, from −128 for a byte up to full words."
use Rattle.std.specs.Prelude.{ℕ, ◌+◌, ◌-◌, ◌^◌, ◌/◌, cond, ltb, ℤ, pos, negsuc}
use Rattle.values.specs.declared.Kind.{Kind}
use Rattle.values.specs.declared.Kind.TheVariants.{Load, SignedLoad, Store, Swap}
use Rattle.values.specs.declared.Answer.{Answer}
use Rattle.values.specs.declared.Answer.TheVariants.{Value, Signed}

-- x is below twice half: from half upward it stands for x minus twice half. `negsuc n` is −(n + 1).
unfoldable pub signed_by : ℕ → ℕ → ℤ
signed_by half x = cond (ltb x half) (pos x) (negsuc (half + half - 1 - x))

-- the number of `width` bytes x as a signed number
abbrev pub signed_of : ℕ → ℕ → ℤ
signed_of width x = signed_by (256 ^ width / 2) x

-- what an access of a kind answers that loads the number v; a swap "answers the old value"
abbrev pub load_answer : Kind → ℕ → ℕ → Answer
load_answer Load width v = Value v
load_answer SignedLoad width v = Signed (signed_of width v)
load_answer (Store x) width v = Value v
load_answer (Swap x) width v = Value v
