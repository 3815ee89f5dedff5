-- R2 to R6 and the end of document 01, over positions in the list of calls: call 0 is the first after the start. Every test is computed from
-- the start's memory, the map and the list. (R1 is the threading of the machine from call to call, in a run.)
use Rattle.std.specs.Prelude.{ℕ, zero, suc, ◌+◌, ◌*◌, ◌/◌, Bool, true, false, cond, not, ◌&&◌, ◌||◌, List, eqb, ltb, length, get_or, take, Result, Ok, Err}
use Rattle.values.specs.Lists.{any}
use Rattle.values.specs.Kinds.{is_store}
use Rattle.values.specs.Addresses.{virtual_line, physical_line, word_of}
use Rattle.values.specs.declared.PhysicalAddress.{PhysicalAddress}
use Rattle.values.specs.declared.Access.{Access}
use Rattle.values.specs.declared.Transfer.{Transfer}
use Rattle.values.specs.declared.Call.{Call}
use Rattle.values.specs.declared.Call.TheVariants.{Read, Write}
use Rattle.values.specs.declared.Call.TheVariants as calls
use Rattle.words.specs.Words.{value_at}
use Rattle.bus.specs.Physical.{aborts}
use Rattle.walk.specs.Walk.{walk}
use Rattle.walk.specs.Reads.{words_read}
use Rattle.translation.specs.Alignment.{cleared}
use Rattle.cp15.specs.Operations as cp15
use Rattle.plain.specs.Plain.{Plain, plain_start, plain_final, plain_physical, plain_reach, plain_refusal}
use Rattle.terms.specs.Rules.{walks, is_large, level_two}
use Rattle.values.specs.declared.Cause.{Cause}
use Rattle.translation.specs.declared.Place.{Place}

-- ---- positions

-- at each position below n
unfoldable pub each : ℕ → (ℕ → Bool) → Bool
each zero f = true
each (suc n) f = each n f && f n

-- at some position after i and before j
unfoldable pub some : ℕ → ℕ → (ℕ → Bool) → Bool
some i zero f = false
some i (suc j) f = some i j f || (ltb i j && f j)

-- where the first holds, so does the second
abbrev pub given : Bool → Bool → Bool
given a b = cond a b true

-- ---- calls

-- of an access, and of a CP15 write and the value written; `none` and false of any other call
abbrev pub of_access : {A : Type 0} → A → (Access → A) → Call → A
of_access none f (calls.Access a) = f a
of_access none f (Read t) = none
of_access none f (Write t v) = none

abbrev pub of_write : (Transfer → ℕ → Bool) → Call → Bool
of_write f (calls.Access a) = false
of_write f (Read t) = false
of_write f (Write t v) = f t v

-- whether translation and rights pass, and the physical address that they give
abbrev pub passes : Result Place Cause → Bool
passes (Err why) = false
passes (Ok l) = true

abbrev pub address_in : Result Place Cause → PhysicalAddress
address_in (Err why) = record { 0 = 0 }
address_in (Ok l) = l.address

-- what stands behind the list's end, where no call is served
abbrev pub past_end : Call
past_end = Read (record { privileged = false; register = 0; opcode = 0; crm = 0 })

module _ (memory bad : List ℕ) (list : List Call) where
  -- call j, and the plain machine that it gets
  abbrev pub call : ℕ → Call
  call j = get_or list j past_end

  abbrev pub before : ℕ → Plain
  before j = plain_final (plain_start memory bad) (take j list)

  -- the list has call j, and it is served
  unfoldable pub served : ℕ → Bool
  served j = ltb j (length list) && eqb (plain_refusal (before j) (call j)) 0

  -- "cleans, drains and flushes are served writes": a served write of register 2, 7 or 8
  abbrev pub writes : (Transfer → Bool) → ℕ → Bool
  writes test j = served j && of_write (λ t v. test t) (call j)

  abbrev pub writes_base : ℕ → Bool
  writes_base = writes (λ t. eqb t.register 2)

  abbrev pub flushes_dcache : ℕ → Bool
  flushes_dcache = writes cp15.flushes_dcache

  abbrev pub drains : ℕ → Bool
  drains = writes cp15.drains

  abbrev pub flushes_tlb : ℕ → Bool
  flushes_tlb = writes cp15.flushes_tlb

  -- "stores (dropped ones left out), walks and lines reached are the plain machine's": "every data access whose translation and rights pass
  -- reaches a line, even one outside memory"
  unfoldable pub reaches : ℕ → Bool
  reaches j = served j && of_access false (λ a. passes (plain_reach (before j) a)) (call j)

  unfoldable pub virtual_at : ℕ → ℕ
  virtual_at j = of_access 0 (λ a. virtual_line (cleared a)) (call j)

  unfoldable pub address_at : ℕ → PhysicalAddress
  address_at j = of_access (record { 0 = 0 }) (λ a. address_in (plain_reach (before j) a)) (call j)

  abbrev pub line_at : ℕ → ℕ
  line_at j = physical_line (address_at j)

  abbrev pub word_at : ℕ → ℕ
  word_at j = word_of (address_at j)

  -- a store or a swap whose word does not abort: one that is dropped or faults is none
  unfoldable pub stores : ℕ → Bool
  stores j = reaches j && (of_access false (λ a. is_store a.kind) (call j) && not (aborts (plain_physical (before j)) (address_at j)))

  -- the plain machine walks: the access is translated
  unfoldable pub translates : ℕ → Bool
  translates j = served j && of_access false (λ a. walks (before j) a) (call j)

  -- its plain walk reads word w
  unfoldable pub reads_word : ℕ → ℕ → Bool
  reads_word w j =
      of_access false (λ a. any (λ x. eqb x w) (words_read (plain_physical (before j)) (before j).registers.base (cleared a))) (call j)

  -- a store to line l; to word w
  abbrev pub stores_line : ℕ → ℕ → Bool
  stores_line l j = stores j && eqb l (line_at j)

  abbrev pub stores_word : ℕ → ℕ → Bool
  stores_word w j = stores j && eqb w (word_at j)

  -- at i is the last store before j to its line; to its word
  abbrev pub last_to_line : ℕ → ℕ → Bool
  last_to_line i j = stores i && not (some i j (stores_line (line_at i)))

  abbrev pub last_to_word : ℕ → ℕ → Bool
  last_to_word i j = stores i && not (some i j (stores_word (word_at i)))

  -- the virtual line that line l's last store before j went through
  unfoldable pub through : ℕ → ℕ → ℕ
  through l zero = 0
  through l (suc j) = cond (stores_line l j) (virtual_at j) (through l j)

  -- "A line is cleaned, here, in R4 and at the end, under the virtual line its last store before that clean went through."
  unfoldable pub cleans : ℕ → ℕ → Bool
  cleans l j = served j && of_write (λ t v. cp15.cleans_line t && eqb (through l j) (v / 32)) (call j)

  -- a whole flush covers every line, a line flush those whose last store went through its virtual line
  unfoldable pub covers : ℕ → ℕ → Bool
  covers l j = served j && of_write (λ t v. cp15.flushes_dcache t || (cp15.flushes_line t && eqb (through l j) (v / 32))) (call j)

  -- after i and before j: the line stored to at i cleaned; cleaned, then a drain; cleaned, then a drain, then a whole TLB flush
  abbrev pub cleaned_since : ℕ → ℕ → Bool
  cleaned_since i j = some i j (cleans (line_at i))

  abbrev pub drained_since : ℕ → ℕ → Bool
  drained_since i j = some i j (λ d. drains d && cleaned_since i d)

  abbrev pub flushed_since : ℕ → ℕ → Bool
  flushed_since i j = some i j (λ t. flushes_tlb t && drained_since i t)

  -- ---- the rules, for call j

  -- "between whole Dcache flushes, the run's ends included": call i before call j
  abbrev pub both_reach : ℕ → ℕ → Bool
  both_reach i j = reaches i && (reaches j && not (some i j flushes_dcache))

  -- "each physical line is reached through one virtual line"
  unfoldable pub r2_physical : ℕ → Bool
  r2_physical j = each j (λ i. given (both_reach i j && eqb (line_at i) (line_at j)) (eqb (virtual_at i) (virtual_at j)))

  -- "and each virtual line reaches one physical line"
  unfoldable pub r2_virtual : ℕ → Bool
  r2_virtual j = each j (λ i. given (both_reach i j && eqb (virtual_at i) (virtual_at j)) (eqb (line_at i) (line_at j)))

  -- "before a Dcache flush each line it covers that was stored to since the last flush covering it has been cleaned after its last store"
  unfoldable pub r3_by : (ℕ → ℕ → Bool) → ℕ → Bool
  r3_by since j = each j (λ i. given (covers (line_at i) j && (last_to_line i j && not (some i j (covers (line_at i))))) (since i j))

  abbrev pub r3 : ℕ → Bool
  r3 = r3_by cleaned_since

  -- "a word read by the plain walk of an access has, after its last store, had its line cleaned, then a drain, then a whole TLB flush"
  unfoldable pub r4_by : (ℕ → ℕ → Bool) → ℕ → Bool
  r4_by since j = each j (λ i. given (translates j && (reads_word (word_at i) j && last_to_word i j)) (since i j))

  abbrev pub r4 : ℕ → Bool
  r4 = r4_by flushed_since

  -- "after a table base write comes a whole TLB flush before the next translated access"
  unfoldable pub r5 : ℕ → Bool
  r5 j = each j (λ i. given (writes_base i && (translates j && not (some i j translates))) (some i j flushes_tlb))

  -- "at each access for which the plain walk finds a large page, the aligned group of sixteen words round that level 2 word": a test of each,
  -- with the plain machine, its address, and that of the level 2 word
  unfoldable pub of_group : (Plain → ℕ → ℕ → Bool) → ℕ → Bool
  of_group test j =
      given (translates j)
      (of_access true
      (λ a.
      let p = before j in
      let two = level_two p.memory p.registers.base (cleared a) in
      given (is_large (walk (plain_physical p) p.registers.base (cleared a)))
      (each 16 (λ k. test p (two / 64 * 64 + 4 * k) two)))
      (call j))

  -- "lies in memory"; document 02, Five: "R6's sixteen words are good ones"
  abbrev pub r6_inside : ℕ → Bool
  r6_inside = of_group (λ p a two. not (aborts (plain_physical p) (record { 0 = a })))

  -- "and all are equal"
  abbrev pub r6_equal : ℕ → Bool
  r6_equal = of_group (λ p a two. eqb (value_at 4 p.memory a) (value_at 4 p.memory two))

  -- ---- the list

  -- a rule, at every call
  abbrev pub throughout : (ℕ → Bool) → Bool
  throughout rule = each (length list) rule

  -- R2 to R6
  unfoldable pub keeps_rules : Bool
  keeps_rules =
      throughout r2_physical
      && (throughout r2_virtual && (throughout r3 && (throughout r4 && (throughout r5 && (throughout r6_inside && throughout r6_equal)))))

  -- the end, for line l: after its last store cleaned, then a drain
  unfoldable pub settled_by : (ℕ → ℕ → Bool) → ℕ → Bool
  settled_by since l = each (length list) (λ i. given (stores_line l i && last_to_line i (length list)) (since i (length list)))

  abbrev pub settled_line : ℕ → Bool
  settled_line = settled_by drained_since

  -- and for each line stored to
  unfoldable pub all_settled_by : (ℕ → ℕ → Bool) → Bool
  all_settled_by since = each (length list) (λ i. given (stores i) (settled_by since (line_at i)))

  abbrev pub settled : Bool
  settled = all_settled_by drained_since
