-- Walks, placement, flush and drop keep the TLB sound; translations and places are in range.
use Rattle.std.specs.Prelude.{Option, Some, None, Result, Ok, Err}
use Prim.Native.Nat.{ℕ, zero, suc, ◌+◌, ◌-◌, ◌*◌, ◌/◌, ◌%◌, ◌^◌, ◌<◌, ◌≤◌}
use native.Mathlib.Omega.{arith}
use native.Mathlib.Nat.{pow-suc}
use mathlib.Core.Bool.{true}
use mathlib.Core.Path.{◌≡◌, refl, sym, ◌∙◌, ap}
use mathlib.Core.List.{List}
use lib.Dec.{eqb}
use lib.ListN.{length, get_or}
use borrow.Author.Tests.{eqb-true, eqb-false}
use Rattle.values.specs.Control.{mmu, system, rom}
use Rattle.values.specs.Empty.{empty_entry}
use Rattle.values.specs.declared.VirtualAddress.{VirtualAddress}
use Rattle.values.specs.declared.PhysicalAddress.{PhysicalAddress}
use Rattle.values.specs.declared.Registers.{Registers}
use Rattle.values.specs.declared.Entry.{Entry}
use Rattle.values.specs.Addresses.{word_of}
use Rattle.values.specs.Kinds.{is_store}
use Rattle.values.specs.declared.Access.{Access}
use Rattle.values.proofs.Cases.{case, clash, and_left}
use Rattle.values.proofs.Searches.{matched}
use Rattle.words.specs.Words.{value_at, Bytes}
use Rattle.rights.specs.Rights.{rights, domain_value}
use Rattle.bus.specs.Reader.{descriptor_at}
use Rattle.bus.specs.Physical.{Physical, aborts}
use Rattle.bus.proofs.Laws.{descriptor_in, descriptor_out}
use Rattle.walk.specs.Ranges.{InRange}
use Rattle.walk.specs.Walk.{first_address, second_address, domain_of, section_entry, large_entry, small_entry, first, second, walk}
use Rattle.tlb.specs.Tlb.{base_of, covers, lookup, ap_of, placed, flushed, dropped}
use Rattle.tlb.proofs.Places.{placed_here, placed_other, length_placed, dropped_at}
use Rattle.translation.specs.declared.Translation.{Translation}
use Rattle.translation.specs.declared.Translation.TheVariants.{Flat, Held, Walked}
use Rattle.translation.specs.Ranges.{CheckedRanged}
use Rattle.translation.specs.Translation.{of_walk, of_lookup, translation, entries_after, pointer_after, judged, checked_by, checked, decided}
use Rattle.translation.specs.Alignment.{alignment_faults, cleared}
use Rattle.translation.specs.declared.Decision.{Decision}
use Rattle.translation.proofs.Laws.{translated_within}
use Rattle.soundness_laws.proofs.LowBytes.{byte_at}
use Rattle.soundness_laws.proofs.Elements.{same_at}
use Rattle.soundness_laws.proofs.TlbParts.{EntryRanges, EntryIs}
use Rattle.values.specs.declared.Cause.{Cause}

-- ---- a walk

-- a word of memory has 32 bits
pub value_low : (n : ℕ) (m : List ℕ) (a : ℕ) → Bytes m → value_at n m a < 256 ^ n
unfolding value_at
value_low zero m a f = omega arith
value_low (suc n) m a f =
    let b = byte_at m f a in
    let r = value_low n m (a + 1) f in
    let p : 256 ^ suc n ≡ 256 ^ n * 256 = pow-suc 256 n in
    omega arith

-- a valid entry in range
pub record Valid (e : Entry) : Type 0 where
  pub valid : e.valid ≡ true
  pub ranges : EntryRanges e

-- what a walk finds: a valid entry in range, or a domain in range
abbrev pub Finds : Result Entry Cause → Type 0
Finds (Ok e) = Valid e
Finds (Err why) = why.domain < 16

-- the part of an address that an entry translates: its own part, and no more than it
base_twice : (size a : ℕ) → base_of size (base_of size a) ≡ base_of size a
base_twice size a =
    case (eqb size 0) (λ t. rw t (omega arith)) (λ t. case (eqb size 1) (λ u. rw (t, u) (omega arith)) (λ u. rw (t, u) (omega arith)))

base_le : (size a : ℕ) → base_of size a ≤ a
base_le size a =
    case (eqb size 0) (λ t. rw t (omega arith)) (λ t. case (eqb size 1) (λ u. rw (t, u) (omega arith)) (λ u. rw (t, u) (omega arith)))

-- an entry of a size, made of a virtual address and a descriptor word
entry_valid : (e : Entry) (va : VirtualAddress) (w : ℕ) → va.0 < 0x100000000 → w < 0x100000000 → e.valid ≡ true → e.size < 3
    → e.vbase ≡ base_of e.size va.0 → e.pbase ≡ base_of e.size w → e.domain < 16 → e.aps < 256 → Valid e
entry_valid e va w hv hw v s eq ep d a =
    let x = base_le e.size va.0 in
    let y = base_le e.size w in
    record {
      valid = v;
      ranges = record {
        size = s;
        vbase = ap (base_of e.size) eq ∙ base_twice e.size va.0 ∙ sym eq;
        pbase = ap (base_of e.size) ep ∙ base_twice e.size w ∙ sym ep;
        vbase_low = omega arith;
        pbase_low = omega arith;
        domain = d;
        aps = a;
      };
    }

module _ (m : Physical) (f : Bytes m.bytes) (va : VirtualAddress) (hv : va.0 < 0x100000000) where
  -- a descriptor that is there is a word of 32 bits
  word_low : (pa : PhysicalAddress) (w : ℕ) → descriptor_at m pa ≡ Some w → w < 0x100000000
  word_low pa w e =
      case (aborts m pa)
      (λ t. let q : None ≡ Some w = sym (descriptor_out m pa t) ∙ e in let z : ◌≡◌ {A = ℕ} 0 1 = cc in absurd (omega arith))
      (λ t.
      let q : Some (value_at 4 m.bytes (word_of pa * 4)) ≡ Some w = sym (descriptor_in m pa t) ∙ e in
      let r : value_at 4 m.bytes (word_of pa * 4) ≡ w = cc in
      let l = value_low 4 m.bytes (word_of pa * 4) f in
      omega arith)

  second_finds : (d : ℕ) → d < 16 → (pa : PhysicalAddress) (x : Option ℕ) → descriptor_at m pa ≡ x → Finds (second d va x)
  unfolding second
  second_finds d h pa None e = h
  second_finds d h pa (Some w) e =
      case (eqb (w % 4) 1)
      (λ t. rw t (entry_valid (large_entry d w va) va w hv (word_low pa w e) refl (omega arith) refl refl h (omega arith)))
      (λ t.
      case (eqb (w % 4) 2)
      (λ u. rw (t, u) (entry_valid (small_entry d w va) va w hv (word_low pa w e) refl (omega arith) refl refl h (omega arith)))
      (λ u. rw (t, u) h))

  first_finds : (pa : PhysicalAddress) (x : Option ℕ) → descriptor_at m pa ≡ x → Finds (first m va x)
  unfolding first
  first_finds pa None e = omega arith
  first_finds pa (Some w) e =
      case (eqb (w % 4) 1)
      (λ t. rw t (second_finds (domain_of w) (omega arith) (second_address w va) (descriptor_at m (second_address w va)) refl))
      (λ t.
      case (eqb (w % 4) 2)
      (λ u. rw (t, u) (entry_valid (section_entry w va) va w hv (word_low pa w e) refl (omega arith) refl refl (omega arith) (omega arith)))
      (λ u. rw (t, u) (omega arith)))

  pub walk_finds : (base : ℕ) → Finds (walk m base va)
  unfolding walk
  walk_finds base = first_finds (first_address base va) (descriptor_at m (first_address base va)) refl

-- ---- entries

abbrev pub EntriesAre : List Entry → Type 0
EntriesAre es = (i : ℕ) → EntryIs (get_or es i empty_entry)

empty_is : EntryIs empty_entry
empty_is = record { ranges = λ v. clash v refl; empty = λ v. refl }

valid_is : (e : Entry) → Valid e → EntryIs e
valid_is e h = record { ranges = λ v. h.ranges; empty = λ v. clash h.valid v }

pub placed_kept : (es : List Entry) (p : ℕ) (e : Entry) → p < length es → EntriesAre es → Valid e → EntriesAre (placed es p e)
placed_kept es p e h f k i =
    case (eqb i p)
    (λ t. let q : i ≡ p = eqb-true i p t in rw (q, placed_here es p e h) (valid_is e k))
    (λ t. rw (placed_other es p e i (eqb-false i p t)) (f i))

pub flushed_kept : EntriesAre flushed
unfolding flushed
flushed_kept i = rw (same_at 32 empty_entry i) empty_is

pub dropped_kept : (es : List Entry) (va : VirtualAddress) → EntriesAre es → EntriesAre (dropped es va)
dropped_kept es va f i =
    rw (dropped_at es va i)
    (case (covers va (get_or es i empty_entry)) (λ t. rw t empty_is) (λ t. rw t (f i)))

-- ---- a translation

-- an entry that serves is valid and in range; a fault's domain is in range
abbrev pub Serves : Result Translation Cause → Type 0
Serves (Ok Flat) = Unit {0}
Serves (Ok (Held e)) = Valid e
Serves (Ok (Walked e)) = Valid e
Serves (Err why) = why.domain < 16

walk_serves : (x : Result Entry Cause) → Finds x → Serves (of_walk x)
walk_serves (Ok e) h = h
walk_serves (Err why) h = h

-- the entry that the lookup finds is valid
found_valid : (es : List Entry) (va : VirtualAddress) (i : ℕ) → EntriesAre es → lookup es va ≡ Some i → Valid (get_or es i empty_entry)
unfolding lookup covers
found_valid es va i f e =
    let m = matched (covers va) 0 es empty_entry i e in
    let q : i - 0 ≡ i = omega arith in
    let x = get_or es i empty_entry in
    let t : covers va x ≡ true = rw q at m.match in
    let v = and_left x.valid (eqb (base_of x.size va.0) x.vbase) t in
    record { valid = v; ranges = (f i).ranges v }

module _ (es : List Entry) (r : Registers) (m : Physical) (va : VirtualAddress) (f : EntriesAre es) (b : Bytes m.bytes) (hv : va.0 < 0x100000000) where
  lookup_serves : (x : Option ℕ) → lookup es va ≡ x → Serves (of_lookup es r m va x)
  lookup_serves (Some i) e = found_valid es va i f e
  lookup_serves None e = walk_serves (walk m r.base va) (walk_finds m b va hv r.base)

  pub translation_serves : Serves (translation es r m va)
  unfolding translation
  translation_serves = case (mmu r) (λ t. rw t (lookup_serves (lookup es va) refl)) (λ t. rw t tt)

-- the TLB after it
pub after_kept : (es : List Entry) (p : ℕ) (t : Result Translation Cause) → p < length es → EntriesAre es → Serves t → EntriesAre (entries_after es p t)
after_kept es p (Ok Flat) h f k = f
after_kept es p (Ok (Held e)) h f k = f
after_kept es p (Ok (Walked e)) h f k = placed_kept es p e h f k
after_kept es p (Err why) h f k = f

pub length_after : (es : List Entry) (p : ℕ) (t : Result Translation Cause) → length (entries_after es p t) ≡ length es
length_after es p (Ok Flat) = refl
length_after es p (Ok (Held e)) = refl
length_after es p (Ok (Walked e)) = length_placed es p e
length_after es p (Err why) = refl

pub pointer_after_lem : (p : ℕ) (t : Result Translation Cause) → p ≤ 31 → pointer_after p t ≤ 31
pointer_after_lem p (Ok Flat) h = h
pointer_after_lem p (Ok (Held e)) h = h
pointer_after_lem p (Ok (Walked e)) h = omega arith
pointer_after_lem p (Err why) h = h

-- ---- the place, or the fault

pub in_range : (e : Entry) → EntryRanges e → InRange e
in_range e r =
    record {
      size = r.size;
      domain = r.domain;
      aps = r.aps;
      vbase = page e.vbase r.vbase;
      vbase_low = r.vbase_low;
      pbase = page e.pbase r.pbase;
      pbase_low = r.pbase_low;
      section = λ s. let q = rw s at r.pbase in omega arith;
      large = λ s. let q = rw s at r.pbase in omega arith;
    }
  where
    page : (x : ℕ) → base_of e.size x ≡ x → x % 0x1000 ≡ 0
    page x h =
        case (eqb e.size 0)
        (λ t. let q : x / 0x100000 * 0x100000 ≡ x = rw t at h in omega arith)
        (λ t.
        case (eqb e.size 1)
        (λ u. let q : x / 0x10000 * 0x10000 ≡ x = rw (t, u) at h in omega arith)
        (λ u. let q : x / 0x1000 * 0x1000 ≡ x = rw (t, u) at h in omega arith))

judged_ranged : (va : VirtualAddress) (right : ℕ) (e : Entry) → Valid e → CheckedRanged va (judged right e va)
judged_ranged va right e h =
    case (eqb right 0)
    (λ t. rw t (record { domain = h.ranges.domain; within = translated_within e va (in_range e h.ranges) }))
    (λ t. case (eqb right 1) (λ u. rw (t, u) h.ranges.domain) (λ u. rw (t, u) h.ranges.domain))

module _ (r : Registers) (a : Access) where
  by_ranged : (e : Entry) → Valid e → CheckedRanged (cleared a) (checked_by r a e)
  unfolding checked_by
  by_ranged e h =
      let va = cleared a in
      judged_ranged va (rights (domain_value r.domains e.domain) (ap_of e va) (system r) (rom r) a.privileged (is_store a.kind)) e h

  pub checked_ranged : (t : Result Translation Cause) → Serves t → CheckedRanged (cleared a) (checked r a t)
  checked_ranged (Ok Flat) h = record { domain = omega arith; within = refl }
  checked_ranged (Ok (Held e)) h = by_ranged e h
  checked_ranged (Ok (Walked e)) h = by_ranged e h
  checked_ranged (Err why) h = h

-- ---- what is decided of an access

-- the mapping serves, and what the check of it gives is in range
pub record Decides (a : Access) (d : Decision) : Type 0 where
  pub serves : Serves d.mapping
  pub ranged : CheckedRanged (cleared a) d.checked

pub decided_ranged : (r : Registers) (a : Access) (t : Result Translation Cause) → Serves t → Decides a (decided r a t)
unfolding decided
decided_ranged r a t s =
    case (alignment_faults r a)
    (λ h. rw h (record { serves = tt; ranged = omega arith }))
    (λ h. rw h (record { serves = s; ranged = checked_ranged r a t s }))
