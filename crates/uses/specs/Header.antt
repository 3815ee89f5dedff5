-- What include/sa110.h says of `sa110_start`, `sa110_call` and `sa110_run` beyond single answers, of the words and bytes that the caller holds. Of each
-- function its contract alone is known, and that the write buffer's arrays have eight places, as their types say.
use Rattle.std.specs.Prelude.{ℕ, true, false, ◌≡◌, List, ◌++◌, length, drop}
use Rattle.values.specs.Registers.{zero_cp15}
use Rattle.values.specs.declared.Answer.TheVariants as answer
use Rattle.trace.specs.Calls.{is_call, call_of}
use Rattle.trace.specs.Codes.{code_of, no_call}
use Rattle.step.specs.Meets.{start_refusal, refusal}
use Rattle.state.specs.Held.{EightPlaces, SameHeld, zero_state}
use Rattle.terms.specs.Corollaries.{calls_made}
use Rattle.uses.specs.Uses.{Lent, machine, Starts, Use, one, many, Meets, Chain, calls_of, codes_of, last_of}

-- two callers hold and lend the same, to the word and the byte
abbrev pub SameLent : Lent → Lent → Type 0
SameLent k l = (k.bad ≡ l.bad)
    × SameHeld k.memory k.store k.state k.cp15 l.memory l.store l.state l.cp15

abbrev pub Eight : Lent → Type 0
Eight l = EightPlaces l.state

-- "writes a fresh state (the memory's length, all else zero) and a record of zeros, and gives 0. Refused, it gives 1 or 2 and writes a state and a
-- record of zeros.": the start gave n
pub record HeaderStart (l : Lent) (n : ℕ) : Type 0 where
  pub served : start_refusal l.memory l.store ≡ 0 → (l.state ≡ zero_state (length l.memory)) × (l.cp15 ≡ zero_cp15) × (n ≡ 0)
  pub refused : (start_refusal l.memory l.store ≡ 0 → ⊥)
      → (l.state ≡ zero_state 0) × (l.cp15 ≡ zero_cp15) × (n ≡ start_refusal l.memory l.store)

-- "a refused call, and numbers that are no call, change nothing": of five numbers, the code answered, and what is held after the call
pub record HeaderCall (l : Lent) (kind privileged n a v code : ℕ) (k : Lent) : Type 0 where
  pub no_call_lem : is_call kind privileged ≡ false → SameLent k l × (code ≡ no_call)
  pub refused : is_call kind privileged ≡ true → (refusal (machine l) (call_of kind privileged n a v) ≡ 0 → ⊥)
      → SameLent k l × (code ≡ code_of (answer.Refused (refusal (machine l) (call_of kind privileged n a v))))

-- "Everything is as after sa110_call for each call in turn": what a run gave and left, and single calls that make its calls
pub record HeaderRun (us : List Use) (answers answers₁ : List ℕ) (made : ℕ) (l k : Lent) : Type 0 where
  pub same_lent : SameLent k (last_of l us)
  pub same_answers : answers₁ ≡ codes_of us ++ drop made answers
  pub same_made : made ≡ length (calls_of us)

pub record Header : Type 0 where
  pub start : (l : Lent) (n : ℕ) → Eight l → Starts l n → HeaderStart l n
  pub call : (l : Lent) (kind privileged n a v code : ℕ) (k : Lent) → Eight l → Eight k → Meets l (one kind privileged n a v code k)
      → HeaderCall l kind privileged n a v code k
  pub run : (l : Lent) (list answers answers₁ : List ℕ) (made : ℕ) (k : Lent) → Eight k → Meets l (many list answers answers₁ made k)
      → (us : List Use) → Eight (last_of l us) → Chain l us → calls_of us ≡ calls_made list answers → HeaderRun us answers answers₁ made l k
