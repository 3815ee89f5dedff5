-- Document 02, Four: "A run stored and read back midway ends like the unbroken run with the same answers". Of the exported functions, each known by its
-- contract alone.
use Rattle.std.specs.Prelude.{ℕ, ◌<◌, ◌≤◌, true, cond, ◌≡◌, List, [], ◌∷◌, ◌++◌, ltb, length, take, drop}
use Rattle.values.specs.Registers.{zero_cp15}
use Rattle.values.specs.declared.Cp15.{Cp15}
use Rattle.values.specs.declared.Answer.TheVariants as answer
use Rattle.words.specs.Words.{Bytes}
use Rattle.trace.specs.Codes.{code_of}
use Rattle.printed.specs.Code.{over}
use Rattle.sa110.specs.State.{machine_in, started_of}
use Rattle.state.specs.Held.{EightPlaces, zero_state}
use Rattle.state.specs.declared.State.{State}
use Rattle.terms.specs.Positions.{keeps_rules}
use Rattle.terms.specs.Corollaries.{calls_made}
use Rattle.numbers.specs.Text.{text_of}
use Rattle.text.specs.Read.{read_back}
use Rattle.text_lent.specs.Codes.{stored_code, stored_as}
use Rattle.uses.specs.Uses.{Lent, machine, Starts, Use, many, left, Meets, Fits32, Chain, calls_of, codes_of, last_of, SameUses}
use Rattle.uses.specs.Header.{SameLent, Eight}
use Rattle.text_terms.specs.Longest.{longest_text}
use Rattle.text_terms.specs.Texts.{Typed}

-- the contract of `sa110_store_text`: on what the caller holds and a slice it answered a code, and left the slice so
abbrev pub Stores : Lent → List ℕ → List ℕ → ℕ → Type 0
Stores l slice slice₁ code =
    (bad store : List ℕ) → stored_code slice₁ code ≡ stored_as (machine_in l.memory bad store l.state l.cp15) slice

-- the contract of `sa110_read_text`: on memory and a text it gave n, and wrote this state and this record
abbrev pub Reads : List ℕ → List ℕ → State → Cp15 → ℕ → Type 0
Reads memory text s r n =
    (bad store : List ℕ) → started_of memory bad store (record { state = s; cp15 = r; refusal = n }) ≡ read_back memory bad store text

-- ---- one reading, one storing

-- "a refused read gives a state all zeros": every word of the state, and every number of the record
abbrev pub RefusedRead : Type 0
RefusedRead =
    (memory text : List ℕ) (s : State) (r : Cp15) (n : ℕ) → EightPlaces s → Reads memory text s r n → (n ≡ 0 → ⊥) → (s ≡ zero_state 0) × (r ≡ zero_cp15)

-- a text that was read, stored again into a slice that is long enough, is that very text, and the bytes behind it stay
abbrev pub StoredAgain : Type 0
StoredAgain =
    (l : Lent) (text slice slice₁ : List ℕ) (code : ℕ) → Reads l.memory text l.state l.cp15 0 → length text ≤ length slice
    → Stores l slice slice₁ code → (slice₁ ≡ over slice 0 text) × (code ≡ code_of (answer.Value (length text)))

-- ---- a stop

-- A stop: what the caller holds is stored, served with the text's length (a code below 2^32), and the text is read back, giving n. "The host keeps memory
-- and cache store itself", and the map. Of states and records it is known that they are values of their types.
pub record Stopped (l k : Lent) (n : ℕ) : Type 0 where
  pub slice : List ℕ
  pub slice₁ : List ℕ
  pub long : ℕ
  pub served : long < 0x100000000
  pub typed : Typed l.state l.cp15
  pub stores : Stores l slice slice₁ (code_of (answer.Value long))
  pub places : EightPlaces k.state
  pub reads : Reads l.memory (take long slice₁) k.state k.cp15 n
  pub same_memory : k.memory ≡ l.memory
  pub same_map : k.bad ≡ l.bad
  pub same_store : k.store ≡ l.store

-- the text is read, and the caller holds what it held, to the word and the byte
abbrev pub StopSame : Type 0
StopSame = (l k : Lent) (n : ℕ) → Stopped l k n → (n ≡ 0) × SameLent k l

-- ---- uses with stops anywhere between them

-- a use, or a stop with what the reading gave and what the caller holds after it
pub data UseOrStop : Type 0 where
  use_of : Use → UseOrStop
  stop_at : ℕ → Lent → UseOrStop

-- each on what the last left
unfoldable pub ChainWithStops : Lent → List UseOrStop → Type 0
ChainWithStops l [] = Unit {0}
ChainWithStops l (use_of u ∷ parts) = (Meets l u × Fits32 u) × ChainWithStops (left u) parts
ChainWithStops l (stop_at n k ∷ parts) = Stopped l k n × ChainWithStops k parts

-- the uses among them, and what the caller holds at the end
unfoldable pub uses_in : List UseOrStop → List Use
uses_in [] = []
uses_in (use_of u ∷ parts) = u ∷ uses_in parts
uses_in (stop_at n k ∷ parts) = uses_in parts

unfoldable pub last_in : Lent → List UseOrStop → Lent
last_in l [] = l
last_in l (use_of u ∷ parts) = last_in (left u) parts
last_in l (stop_at n k ∷ parts) = last_in k parts

-- with the stops left out, the uses are a chain that ends with the same
abbrev pub StopsLeftOut : Type 0
StopsLeftOut = (l : Lent) (parts : List UseOrStop) → ChainWithStops l parts → Chain l (uses_in parts) × (last_in l parts ≡ last_of l (uses_in parts))

-- an unbroken run of a list of calls, and uses with stops that make these calls: the same answers, and state, record, memory and cache store the same
pub record SameRun (l : Lent) (parts : List UseOrStop) (answers answers₁ : List ℕ) (made : ℕ) (k : Lent) : Type 0 where
  pub same_lent : SameLent k (last_in l parts)
  pub same_answers : answers₁ ≡ codes_of (uses_in parts) ++ drop made answers
  pub same_made : made ≡ length (calls_of (uses_in parts))

abbrev pub CutRun : Type 0
CutRun =
    (l : Lent) (list answers answers₁ : List ℕ) (made : ℕ) (k : Lent) → Eight k → Meets l (many list answers answers₁ made k)
    → (parts : List UseOrStop) → Eight (last_in l parts) → ChainWithStops l parts → calls_of (uses_in parts) ≡ calls_made list answers
    → SameRun l parts answers answers₁ made k

-- term 3, from a start that was served, with stops anywhere
pub record UsedWithStops (l : Lent) (parts : List UseOrStop) : Type 0 where
  pub memory_bytes : Bytes l.memory
  pub store_bytes : Bytes l.store
  pub starts : Starts l 0
  pub chain : ChainWithStops l parts
  pub keeps : keeps_rules l.memory l.bad (calls_of (uses_in parts)) ≡ true

abbrev pub StopsAgree : Type 0
StopsAgree = (l : Lent) (parts : List UseOrStop) → UsedWithStops l parts → SameUses l (uses_in parts) × (last_in l parts ≡ last_of l (uses_in parts))

-- ---- storing after a served start

-- after a served start and any uses nothing but 15 refuses storing
abbrev pub OnlyFifteen : Type 0
OnlyFifteen =
    (l : Lent) (us : List Use) → Bytes l.memory → Bytes l.store → Starts l 0 → Chain l us → (slice slice₁ : List ℕ) (code : ℕ)
    → Stores (last_of l us) slice slice₁ code
    → code ≡ code_of (cond (ltb (length slice) (length (text_of (machine (last_of l us))))) (answer.Refused 15)
    (answer.Value (length (text_of (machine (last_of l us))))))

-- so storing into a slice of at least the longest text's length is served: the code is the text's length. With stops among the uses: `StopsLeftOut`
abbrev pub StoreServes : Type 0
StoreServes =
    (l : Lent) (us : List Use) → Bytes l.memory → Bytes l.store → Starts l 0 → Chain l us
    → Typed (last_of l us).state (last_of l us).cp15 → (slice slice₁ : List ℕ) (code : ℕ) → Stores (last_of l us) slice slice₁ code
    → longest_text ≤ length slice → code ≡ code_of (answer.Value (length (text_of (machine (last_of l us)))))
