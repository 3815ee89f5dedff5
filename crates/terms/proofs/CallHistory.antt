-- The history after one served call, by the tests that the positions are tested by.
use Rattle.std.specs.Prelude.{Result, Ok, Err}
use Prim.Native.Nat.{ℕ, ◌/◌}
use native.Mathlib.Omega.{arith}
use mathlib.Core.Bool.{Bool, true, false, cond, not, ◌&&◌, ◌||◌}
use mathlib.Core.Path.{◌≡◌, refl, ◌∙◌, ap}
use lib.Dec.{eqb}
use borrow.Author.Tests.{eqb-true, ne_eqb}
use Rattle.values.specs.Kinds.{is_store}
use Rattle.values.specs.Addresses.{virtual_line, physical_line, word_of}
use Rattle.values.specs.declared.VirtualAddress.{VirtualAddress}
use Rattle.values.specs.declared.PhysicalAddress.{PhysicalAddress}
use Rattle.values.specs.declared.Kind.{Kind}
use Rattle.values.specs.declared.Kind.TheVariants.{Load, SignedLoad, Store, Swap}
use Rattle.values.specs.declared.Access.{Access}
use Rattle.values.specs.declared.Transfer.{Transfer}
use Rattle.values.specs.declared.Call.{Call}
use Rattle.values.specs.declared.Call.TheVariants.{Read, Write}
use Rattle.values.specs.declared.Call.TheVariants as calls
use Rattle.values.proofs.Cases.{case}
use Rattle.bus.specs.Physical.{Physical, aborts}
use Rattle.translation.specs.Alignment.{cleared}
use Rattle.cp15.specs.Operations as cp15
use Rattle.plain.specs.Plain.{Plain, plain_physical, plain_reach}
use Rattle.terms.specs.History.{Stage, never, stored, cleaned, drained, flushed, History, after_clean}
use Rattle.terms.specs.History.{line_of_word, with_reach, with_store, after_reach, after_store, after_kind, after_write, after_served}
use Rattle.terms.specs.Positions.{of_access, of_write, passes, address_in}
use Rattle.terms.proofs.StageAt.{turned, alone}
use Rattle.values.specs.declared.Cause.{Cause}
use Rattle.translation.specs.declared.Place.{Place}

-- ---- which operation a write asks for: at most one

record Asks (t : Transfer) (base whole line drain tlb : Bool) : Type 0 where
  is_base : eqb t.register 2 ≡ base
  is_whole : cp15.flushes_dcache t ≡ whole
  is_line_lem : cp15.cleans_line t ≡ line
  is_drain : cp15.drains t ≡ drain
  is_tlb : cp15.flushes_tlb t ≡ tlb

-- a fact that holds for each operation
module _ (P : Type 0) (t : Transfer) (base : Asks t true false false false false → P) (whole : Asks t false true false false false → P)
    (line : Asks t false false true false false → P) (drain : Asks t false false false true false → P)
    (tlb : Asks t false false false false true → P) (nothing : Asks t false false false false false → P) where
  -- of register 7, by opcode 2
  seven : t.register ≡ 7 → P
  seven e =
      case (eqb t.opcode 0)
      (λ a.
      let o = eqb-true t.opcode 0 a in
      case (eqb t.crm 7 || eqb t.crm 6)
      (λ b. whole (record { is_base = rw e; is_whole = rw (e, o, b); is_line_lem = rw (e, o); is_drain = rw (e, o); is_tlb = rw e }))
      (λ b. nothing (record { is_base = rw e; is_whole = rw (e, o, b); is_line_lem = rw (e, o); is_drain = rw (e, o); is_tlb = rw e })))
      (λ a.
      case (eqb t.opcode 1)
      (λ b.
      let o = eqb-true t.opcode 1 b in
      case (eqb t.crm 10)
      (λ c. line (record { is_base = rw e; is_whole = rw (e, o); is_line_lem = rw (e, o, c); is_drain = rw (e, o); is_tlb = rw e }))
      (λ c. nothing (record { is_base = rw e; is_whole = rw (e, o); is_line_lem = rw (e, o, c); is_drain = rw (e, o); is_tlb = rw e })))
      (λ b.
      case (eqb t.opcode 4 && eqb t.crm 10)
      (λ c. drain (record { is_base = rw e; is_whole = rw (e, a); is_line_lem = rw (e, b); is_drain = rw (e, c); is_tlb = rw e }))
      (λ c. nothing (record { is_base = rw e; is_whole = rw (e, a); is_line_lem = rw (e, b); is_drain = rw (e, c); is_tlb = rw e }))))

  -- of another register
  other : eqb t.register 7 ≡ false → P
  other s =
      case (eqb t.register 2)
      (λ a.
      let r = eqb-true t.register 2 a in
      let b : eqb t.register 8 ≡ false = ne_eqb t.register 8 (λ q. omega arith) in
      base (record { is_base = a; is_whole = rw s; is_line_lem = rw s; is_drain = rw s; is_tlb = rw b }))
      (λ a.
      case (cp15.flushes_tlb t)
      (λ b. tlb (record { is_base = a; is_whole = rw s; is_line_lem = rw s; is_drain = rw s; is_tlb = b }))
      (λ b. nothing (record { is_base = a; is_whole = rw s; is_line_lem = rw s; is_drain = rw s; is_tlb = b })))

  operation : P
  operation = case (eqb t.register 7) (λ s. seven (eqb-true t.register 7 s)) other

-- ---- a served call

-- a clean under another virtual line
clean_if : (b : Bool) (s : Stage) → after_clean b s ≡ cond b (after_clean true s) s
clean_if true s = refl
clean_if false never = refl
clean_if false stored = refl
clean_if false cleaned = refl
clean_if false drained = refl
clean_if false flushed = refl

-- an access that stores
abbrev pub storing : Physical → Kind → Result Place Cause → Bool
storing memory k c = passes c && (is_store k && not (aborts memory (address_in c)))

module _ (h : History) (memory : Physical) (va : VirtualAddress) where
  reach_is : (c : Result Place Cause) → after_reach h va c ≡ cond (passes c) (with_reach h va (address_in c)) h
  unfolding after_reach
  reach_is (Err why) = refl
  reach_is (Ok p) = refl

  kind_is : (k : Kind) (c : Result Place Cause) → after_kind k h memory va c ≡ cond (storing memory k c) (with_store h va (address_in c)) h
  unfolding after_store
  kind_is Load (Err why) = refl
  kind_is Load (Ok p) = refl
  kind_is SignedLoad (Err why) = refl
  kind_is SignedLoad (Ok p) = refl
  kind_is (Store v) (Err why) = refl
  kind_is (Store v) (Ok p) = case (aborts memory p.address) (λ t. rw t) (λ t. rw t)
  kind_is (Swap v) (Err why) = refl
  kind_is (Swap v) (Ok p) = case (aborts memory p.address) (λ t. rw t) (λ t. rw t)

-- an access by whether it reaches and stores
module _ (p : Plain) (h : History) (a : Access) where
  abbrev got : Result Place Cause
  got = plain_reach p a

  abbrev writing : Bool
  writing = is_store a.kind && not (aborts (plain_physical p) (address_in got))

  -- the history once the line is reached
  abbrev arrived : History
  arrived = cond (passes got) (with_reach h (cleared a) (address_in got)) h

  access_is : after_served p h (calls.Access a) ≡ cond (passes got && writing) (with_store arrived (cleared a) (address_in got)) arrived
  access_is =
      kind_is (after_reach h (cleared a) got) (plain_physical p) (cleared a) a.kind got
      ∙ ap (λ (g : History). cond (passes got && writing) (with_store g (cleared a) (address_in got)) g) (reach_is h (plain_physical p) (cleared a) got)

  by_access : (P : Type 0) → (passes got ≡ true → writing ≡ true → P) → (passes got ≡ true → writing ≡ false → P) → (passes got ≡ false → P) → P
  by_access P f g e = case (passes got) (λ t. case writing (f t) (g t)) e

module _ (p : Plain) (h : History) where
  -- what a call reaches and stores
  abbrev pub reach_of : Call → Bool
  reach_of = of_access false (λ a. passes (plain_reach p a))

  abbrev pub virtual_of : Call → ℕ
  virtual_of = of_access 0 (λ a. virtual_line (cleared a))

  abbrev pub address_of : Call → PhysicalAddress
  address_of = of_access (record { 0 = 0 }) (λ a. address_in (plain_reach p a))

  abbrev pub store_of : Call → Bool
  store_of c = reach_of c && (of_access false (λ a. is_store a.kind) c && not (aborts (plain_physical p) (address_of c)))

  pub stale_after : (c : Call)
      → (after_served p h c).base_stale
      ≡ cond (of_write (λ t v. eqb t.register 2) c) true (cond (of_write (λ t v. cp15.flushes_tlb t) c) false h.base_stale)
  unfolding after_write
  stale_after (calls.Access a) = by_access p h a _ (λ t u. rw (access_is p h a, t, u)) (λ t u. rw (access_is p h a, t, u)) (λ t. rw (access_is p h a, t))
  stale_after (Read t) = refl
  stale_after (Write t v) =
      operation _ t (λ o. rw o.is_base) (λ o. rw (o.is_base, o.is_whole, o.is_tlb))
      (λ o. rw (o.is_base, o.is_whole, o.is_line_lem, o.is_tlb)) (λ o. rw (o.is_base, o.is_whole, o.is_line_lem, o.is_drain, o.is_tlb))
      (λ o. rw (o.is_base, o.is_whole, o.is_line_lem, o.is_drain, o.is_tlb)) (λ o. rw (o.is_base, o.is_whole, o.is_line_lem, o.is_drain, o.is_tlb))

  pub reached_after : (c : Call) (v q : ℕ)
      → (after_served p h c).reached v q
      ≡ cond (of_write (λ t x. cp15.flushes_dcache t) c) false ((reach_of c && (eqb v (virtual_of c) && eqb q (physical_line (address_of c)))) || h.reached v q)
  unfolding after_write
  reached_after (calls.Access a) v q = by_access p h a _ (λ t u. rw (access_is p h a, t, u)) (λ t u. rw (access_is p h a, t, u)) (λ t. rw (access_is p h a, t))
  reached_after (Read t) v q = refl
  reached_after (Write t x) v q =
      operation _ t (λ o. rw (o.is_base, o.is_whole)) (λ o. rw (o.is_base, o.is_whole)) (λ o. rw (o.is_base, o.is_whole, o.is_line_lem))
      (λ o. rw (o.is_base, o.is_whole, o.is_line_lem, o.is_drain)) (λ o. rw (o.is_base, o.is_whole, o.is_line_lem, o.is_drain, o.is_tlb))
      (λ o. rw (o.is_base, o.is_whole, o.is_line_lem, o.is_drain, o.is_tlb))

  pub through_after : (c : Call) (l : ℕ)
      → (after_served p h c).through l ≡ cond (store_of c && eqb l (physical_line (address_of c))) (virtual_of c) (h.through l)
  unfolding after_write
  through_after (calls.Access a) l = by_access p h a _ (λ t u. rw (access_is p h a, t, u)) (λ t u. rw (access_is p h a, t, u)) (λ t. rw (access_is p h a, t))
  through_after (Read t) l = refl
  through_after (Write t x) l =
      operation _ t (λ o. rw o.is_base) (λ o. rw (o.is_base, o.is_whole)) (λ o. rw (o.is_base, o.is_whole, o.is_line_lem))
      (λ o. rw (o.is_base, o.is_whole, o.is_line_lem, o.is_drain)) (λ o. rw (o.is_base, o.is_whole, o.is_line_lem, o.is_drain, o.is_tlb))
      (λ o. rw (o.is_base, o.is_whole, o.is_line_lem, o.is_drain, o.is_tlb))

  -- a clean of a line
  abbrev pub clean_of : ℕ → Call → Bool
  clean_of l = of_write (λ t v. cp15.cleans_line t && eqb (h.through l) (v / 32))

  pub line_after : (c : Call) (l : ℕ)
      → (after_served p h c).line_stage l
      ≡ turned (store_of c && eqb l (physical_line (address_of c))) (clean_of l c) (of_write (λ t v. cp15.drains t) c) false (h.line_stage l)
  unfolding after_write
  line_after (calls.Access a) l = by_access p h a _ (λ t u. rw (access_is p h a, t, u)) (λ t u. rw (access_is p h a, t, u)) (λ t. rw (access_is p h a, t))
  line_after (Read t) l = refl
  line_after (Write t x) l =
      operation _ t (λ o. rw (o.is_base, o.is_line_lem, o.is_drain)) (λ o. rw (o.is_base, o.is_whole, o.is_line_lem, o.is_drain))
      (λ o. rw (o.is_base, o.is_whole, o.is_line_lem, o.is_drain) (clean_if (eqb (h.through l) (x / 32)) (h.line_stage l)))
      (λ o. rw (o.is_base, o.is_whole, o.is_line_lem, o.is_drain)) (λ o. rw (o.is_base, o.is_whole, o.is_line_lem, o.is_drain, o.is_tlb))
      (λ o. rw (o.is_base, o.is_whole, o.is_line_lem, o.is_drain, o.is_tlb))

  pub word_after : (c : Call) (w : ℕ)
      → (after_served p h c).word_stage w
      ≡ turned (store_of c && eqb w (word_of (address_of c))) (clean_of (line_of_word w) c) (of_write (λ t v. cp15.drains t) c)
      (of_write (λ t v. cp15.flushes_tlb t) c) (h.word_stage w)
  unfolding after_write
  word_after (calls.Access a) w = by_access p h a _ (λ t u. rw (access_is p h a, t, u)) (λ t u. rw (access_is p h a, t, u)) (λ t. rw (access_is p h a, t))
  word_after (Read t) w = refl
  word_after (Write t x) w =
      operation _ t (λ o. rw (o.is_base, o.is_line_lem, o.is_drain, o.is_tlb)) (λ o. rw (o.is_base, o.is_whole, o.is_line_lem, o.is_drain, o.is_tlb))
      (λ o. rw (o.is_base, o.is_whole, o.is_line_lem, o.is_drain, o.is_tlb) (clean_if (eqb (h.through (line_of_word w)) (x / 32)) (h.word_stage w)))
      (λ o. rw (o.is_base, o.is_whole, o.is_line_lem, o.is_drain)) (λ o. rw (o.is_base, o.is_whole, o.is_line_lem, o.is_drain, o.is_tlb))
      (λ o. rw (o.is_base, o.is_whole, o.is_line_lem, o.is_drain, o.is_tlb))

  -- a call cleans, drains or flushes, and no two of them
  pub one_of : (f : ℕ → Bool) (c : Call)
      → alone (of_write (λ t v. cp15.cleans_line t && f v) c) (of_write (λ t v. cp15.drains t) c) (of_write (λ t v. cp15.flushes_tlb t) c) ≡ true
  one_of f (calls.Access a) = refl
  one_of f (Read t) = refl
  one_of f (Write t v) =
      operation _ t (λ o. rw (o.is_line_lem, o.is_drain)) (λ o. rw (o.is_line_lem, o.is_drain)) (λ o. rw (o.is_line_lem, o.is_drain, o.is_tlb) (either (f v)))
      (λ o. rw (o.is_line_lem, o.is_drain, o.is_tlb)) (λ o. rw (o.is_line_lem, o.is_drain)) (λ o. rw (o.is_line_lem, o.is_drain))
    where
      either : (x : Bool) → alone x false false ≡ true
      either true = refl
      either false = refl
