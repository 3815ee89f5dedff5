-- The TLB and the walk: the library translates as the plain machine does, and each step keeps the TLB's entries what the plain walk finds.
use Rattle.std.specs.Prelude.{Option, Some, None, Result, Ok, Err}
use Prim.Native.Nat.{ℕ, ◌+◌, ◌-◌, ◌*◌, ◌/◌, ◌%◌, ◌<◌, ◌≤◌}
use native.Mathlib.Omega.{arith}
use mathlib.Core.Bool.{Bool, true, false}
use mathlib.Core.Path.{◌≡◌, refl, sym, ◌∙◌, ap, subst}
use mathlib.Core.List.{List}
use lib.Dec.{eqb, ltb}
use lib.ListN.{length, get_or}
use lib.Seq.{set_out}
use borrow.Author.Tests.{eq-eqb, eqb-true, eqb-false, ltb-true, ltb-false}
use Rattle.values.specs.Addresses.{word_of}
use Rattle.values.specs.Control.{mmu}
use Rattle.values.specs.Empty.{empty_entry}
use Rattle.values.specs.Lists.{all}
use Rattle.values.specs.declared.VirtualAddress.{VirtualAddress}
use Rattle.values.specs.declared.PhysicalAddress.{PhysicalAddress}
use Rattle.values.specs.declared.Access.{Access}
use Rattle.values.specs.declared.Entry.{Entry}
use Rattle.values.proofs.Cases.{case, clash}
use Rattle.values.proofs.Searches.{matched}
use Rattle.words.specs.Words.{value_at, stored}
use Rattle.words.proofs.Laws.{length_stored, same_bytes, load_before, load_behind}
use Rattle.bus.specs.Physical.{Physical, physical, aborts}
use Rattle.bus.specs.Reader.{descriptor_at}
use Rattle.bus.proofs.Laws.{aborts_same, descriptor_in, descriptor_out}
use Rattle.walk.specs.Walk.{first_address, second_address, domain_of, walk}
use Rattle.walk.specs.Reads.{words_read}
use Rattle.walk.proofs.Finds.{Finds, by_section, by_large, by_small, finds}
use Rattle.tlb.specs.Tlb.{covers, lookup, placed, flushed, dropped}
use Rattle.tlb.proofs.Covered.{Equal, covered, covered_large, second_address_group}
use Rattle.tlb.proofs.Places.{empty_covers, placed_here, placed_other, dropped_at}
use Rattle.buffer.specs.Buffer.{Backing, physical_behind}
use Rattle.translation.specs.Alignment.{cleared}
use Rattle.translation.specs.Translation.{of_walk, of_lookup, translation, walked_only, checked, entries_after}
use Rattle.translation.specs.declared.Place.{Place}
use Rattle.soundness_laws.proofs.Elements.{same_at}
use Rattle.plain.specs.Plain.{Plain, plain_physical}
use Rattle.terms.specs.History.{Stage, History, with_store}
use Rattle.terms.specs.History as history
use Rattle.terms.specs.Rules.{is_flushed, is_drained, is_large, Group, R6}
use Rattle.terms.proofs.Invariant.{Staged, by_word, Readable, TlbAgrees}
use Rattle.terms.proofs.SameReads.{all_weaker, walk_where, reads_where}
use Rattle.values.specs.declared.Cause.{Cause}

-- ---- a large page

-- the word that a descriptor holds
descriptor_word : (m : Physical) (pa : PhysicalAddress) (w : ℕ) → descriptor_at m pa ≡ Some w → value_at 4 m.bytes (word_of pa * 4) ≡ w
descriptor_word m pa w e =
    case (aborts m pa)
    (λ t. let q : None ≡ Some w = sym (descriptor_out m pa t) ∙ e in let z : ◌≡◌ {A = ℕ} 0 1 = cc in absurd (omega arith))
    (λ t. let q : Some (value_at 4 m.bytes (word_of pa * 4)) ≡ Some w = sym (descriptor_in m pa t) ∙ e in cc)

-- a level 2 word that lies in a group of sixteen equal words
in_group : (m : Physical) (w : ℕ) (a b : VirtualAddress) (word : ℕ) → Group m ((second_address w a).0 / 64 * 64) word
    → (second_address w b).0 / 64 ≡ (second_address w a).0 / 64 → descriptor_at m (second_address w b) ≡ Some word
in_group m w a b word g s =
    let y = (second_address w b).0 in
    let k = g (y % 64 / 4) (omega arith) in
    let i : (second_address w a).0 / 64 * 64 + 4 * (y % 64 / 4) ≡ y = omega arith in
    let at-word : word_of (second_address w b) * 4 ≡ y = omega arith in
    descriptor_in m (second_address w b) (subst (λ (u : ℕ). aborts m (record { 0 = u }) ≡ false) i k.0)
    ∙ ap (λ (u : ℕ). Some (value_at 4 m.bytes u)) at-word ∙ ap Some (subst (λ (u : ℕ). value_at 4 m.bytes u ≡ word) i k.1)

-- what an entry found by the plain walk of an address says of another address that it covers
module _ (p : Plain) (aligned : p.registers.base % 4 ≡ 0) (a b : VirtualAddress) (e : Entry)
    (found : walk (plain_physical p) p.registers.base a ≡ Ok e) (c : covers b e ≡ true) where
  -- the two addresses lie in one large page
  one_page : e.size ≡ 1 → b.0 / 0x10000 ≡ a.0 / 0x10000
  one_page z = go (finds (plain_physical p) p.registers.base a e found)
    where
      size : (x : Entry) → e ≡ x → e.size ≡ x.size
      size x q = ap (λ (y : Entry). y.size) q

      go : Finds (plain_physical p) p.registers.base a e → b.0 / 0x10000 ≡ a.0 / 0x10000
      go (by_section w d k q) = let n = size _ q in absurd (omega arith)
      go (by_large w v d k f j q) = covered_large a b (domain_of w) v (subst (λ (x : Entry). covers b x ≡ true) q c)
      go (by_small w v d k f j q) = let n = size _ q in absurd (omega arith)

  -- their level 2 words lie in one group of sixteen equal words
  equal_words : R6 p a → e.size ≡ 1 → Equal a b (plain_physical p) p.registers.base e found c
  equal_words r6 z w d =
      let m = p.memory in
      let base = p.registers.base in
      let x = (second_address w a).0 in
      let at-word : word_of (first_address base a) * 4 ≡ (first_address base a).0 = omega arith in
      let q : value_at 4 m (first_address base a).0 ≡ w = rw at-word at (descriptor_word (plain_physical p) (first_address base a) w d) in
      let large : is_large (walk (plain_physical p) base a) ≡ true = ap is_large found ∙ eq-eqb e.size 1 z in
      let g : Group (plain_physical p) (x / 64 * 64) (value_at 4 m x) = rw q at (r6 large) in
      let s : (second_address w b).0 / 64 ≡ x / 64 = second_address_group a b w (one_page z) in
      in_group (plain_physical p) w a b (value_at 4 m x) g s ∙ sym (in_group (plain_physical p) w a a (value_at 4 m x) g refl)

-- ---- translation

-- a word that may be walked has been drained
flushed_drained : (s : Stage) → is_flushed s ≡ true → is_drained s ≡ true
flushed_drained history.never e = refl
flushed_drained history.stored e = e
flushed_drained history.cleaned e = e
flushed_drained history.drained e = refl
flushed_drained history.flushed e = refl

-- the entry that a lookup finds covers the address
found_covers : (entries : List Entry) (va : VirtualAddress) (i : ℕ) → lookup entries va ≡ Some i → covers va (get_or entries i empty_entry) ≡ true
unfolding lookup
found_covers entries va i e =
    let m = matched (covers va) 0 entries empty_entry i e in
    let q : i - 0 ≡ i = omega arith in
    rw q at m.match

module _ (b : Backing) (p : Plain) (h : History) (long : length b.memory ≡ length p.memory) (same_map : b.bad ≡ p.bad)
    (s : Staged b p.memory (by_word h)) where
  -- a word that may be walked is the plain machine's in memory
  word_agrees : (w : ℕ) → is_flushed (h.word_stage w) ≡ true → value_at 4 p.memory (w * 4) ≡ value_at 4 b.memory (w * 4)
  word_agrees w e =
      same_bytes 4 p.memory b.memory (w * 4) (w * 4)
      (λ j k.
      let q : w ≡ (w * 4 + j) / 4 = omega arith in
      let d = subst (λ (u : ℕ). is_drained (h.word_stage u) ≡ true) q (flushed_drained (h.word_stage w) e) in
      sym (s.drained_settled (w * 4 + j) d).in_memory)

  -- a walk of words that are all settled
  walk_agrees : (va : VirtualAddress) → Readable p.memory p.bad p.registers.base h va
      → walk (physical_behind b) p.registers.base va ≡ walk (plain_physical p) p.registers.base va
  walk_agrees va r =
      sym
      (walk_where (plain_physical p) (physical_behind b) (aborts_same (plain_physical p) (physical_behind b) (sym long) (sym same_map))
      (λ (w : ℕ). is_flushed (h.word_stage w)) word_agrees p.registers.base va r)

  module _ (entries : List Entry) (t : TlbAgrees entries p.registers.base p.memory p.bad h) (a : Access)
      (r4 : mmu p.registers ≡ true → Readable p.memory p.bad p.registers.base h (cleared a))
      (r5 : mmu p.registers ≡ true → h.base_stale ≡ false) where
    abbrev va : VirtualAddress
    va = cleared a

    -- whether an access passes, and where
    pub checked_agrees : checked p.registers a (translation entries p.registers (physical_behind b) (cleared a))
        ≡ checked p.registers a (walked_only p.registers (plain_physical p) (cleared a))
    unfolding translation walked_only
    checked_agrees = case (mmu p.registers) (λ m. rw m (go m (lookup entries va) refl)) (λ m. rw m)
      where
        go : mmu p.registers ≡ true → (x : Option ℕ) → lookup entries va ≡ x
            → checked p.registers a (of_lookup entries p.registers (physical_behind b) va x)
            ≡ checked p.registers a (of_walk (walk (plain_physical p) p.registers.base va))
        go m (Some i) e = sym (ap (λ (x : Result Entry Cause). checked p.registers a (of_walk x)) (t.mapped (r5 m) i va (found_covers entries va i e) (r4 m)))
        go m None e = ap (λ (x : Result Entry Cause). checked p.registers a (of_walk x)) (walk_agrees va (r4 m))

    module _ (aligned : p.registers.base % 4 ≡ 0) (pointer : ℕ) where
      -- the entries with what the plain walk finds at the pointer
      placed_agrees : (e : Entry) → walk (plain_physical p) p.registers.base va ≡ Ok e → R6 p va
          → TlbAgrees (placed entries pointer e) p.registers.base p.memory p.bad h
      unfolding placed
      placed_agrees e found r6 =
          case (ltb pointer (length entries))
          (λ k. record { mapped = λ f i u c r. at f i u r (ltb-true pointer (length entries) k) c })
          (λ k. rw (set_out entries pointer e (ltb-false pointer (length entries) k)) t)
        where
          at : h.base_stale ≡ false → (i : ℕ) (u : VirtualAddress) → Readable p.memory p.bad p.registers.base h u → pointer < length entries
              → covers u (get_or (placed entries pointer e) i empty_entry) ≡ true
              → walk (plain_physical p) p.registers.base u ≡ Ok (get_or (placed entries pointer e) i empty_entry)
          at f i u r k =
              case (eqb i pointer)
              (λ q.
              let z : i ≡ pointer = eqb-true i pointer q in
              rw (z, placed_here entries pointer e k)
              (λ c. covered va u (plain_physical p) p.registers.base e found c (equal_words p aligned va u e found c r6)))
              (λ q. rw (placed_other entries pointer e i (eqb-false i pointer q)) (λ c. t.mapped f i u c r))

      -- the entries once a mapping found by a walk has been placed
      pub tlb_committed : (mmu p.registers ≡ true → R6 p (cleared a))
          → TlbAgrees (entries_after entries pointer (translation entries p.registers (physical_behind b) (cleared a))) p.registers.base
          p.memory p.bad h
      unfolding translation
      tlb_committed r6 = case (mmu p.registers) (λ m. rw m (by_lookup m (lookup entries va))) (λ m. rw m t)
        where
          by_walk : R6 p va → (x : Result Entry Cause) → walk (plain_physical p) p.registers.base va ≡ x
              → TlbAgrees (entries_after entries pointer (of_walk x)) p.registers.base p.memory p.bad h
          by_walk r (Ok e) f = placed_agrees e f r
          by_walk r (Err why) f = t

          by_lookup : mmu p.registers ≡ true → (x : Option ℕ)
              → TlbAgrees (entries_after entries pointer (of_lookup entries p.registers (physical_behind b) va x)) p.registers.base p.memory p.bad h
          by_lookup m (Some i) = t
          by_lookup m None = by_walk (r6 m) (walk (physical_behind b) p.registers.base va) (sym (walk_agrees va (r4 m)))

-- ---- the other steps

module _ (base : ℕ) (pm bad : List ℕ) (h : History) where
  -- a whole flush of the TLB
  pub tlb_flushed : TlbAgrees flushed base pm bad h
  unfolding flushed
  tlb_flushed = record { mapped = λ f i va c r. clash (ap (covers va) (sym (same_at 32 empty_entry i)) ∙ c) (empty_covers va) }

  -- a table base that has been written
  pub tlb_stale : (entries : List Entry) → h.base_stale ≡ true → TlbAgrees entries base pm bad h
  tlb_stale entries e = record { mapped = λ f i va c r. clash e f }

  module _ (entries : List Entry) (t : TlbAgrees entries base pm bad h) where
    -- entries dropped
    pub tlb_dropped : (va : VirtualAddress) → TlbAgrees (dropped entries va) base pm bad h
    tlb_dropped va = record { mapped = λ f i u c r. kept f i u r c }
      where
        kept : h.base_stale ≡ false → (i : ℕ) (u : VirtualAddress) → Readable pm bad base h u → covers u (get_or (dropped entries va) i empty_entry) ≡ true
            → walk (physical pm bad) base u ≡ Ok (get_or (dropped entries va) i empty_entry)
        kept f i u r =
            rw (dropped_at entries va i)
            (case (covers va (get_or entries i empty_entry)) (λ k. rw k (λ c. clash c (empty_covers u))) (λ k. rw k (λ c. t.mapped f i u c r)))

    -- a history in which no more words may be walked
    pub tlb_history : (g : History) → g.base_stale ≡ h.base_stale → ((w : ℕ) → is_flushed (g.word_stage w) ≡ true → is_flushed (h.word_stage w) ≡ true)
        → TlbAgrees entries base pm bad g
    tlb_history g e f =
        let test : History → ℕ → Bool = λ k w. is_flushed (k.word_stage w) in
        record { mapped = λ k i va c r. t.mapped (sym e ∙ k) i va c (all_weaker (test g) (test h) f (words_read (physical pm bad) base va) r) }

    -- a store inside a word
    pub tlb_stored : (w v : ℕ) (va : VirtualAddress) (l : Place) → l.address.0 % 4 + w ≤ 4
        → TlbAgrees entries base (stored w pm l.address.0 v) bad (with_store h va l.address)
    tlb_stored w v va l f = record { mapped = λ k j u c r. walk_old u r ∙ t.mapped k j u c (readable_old u r) }
      where
        x : ℕ
        x = l.address.0

        new : Physical
        new = physical (stored w pm x v) bad

        same_aborts : (pa : PhysicalAddress) → aborts new pa ≡ aborts (physical pm bad) pa
        same_aborts = aborts_same new (physical pm bad) (length_stored w pm x v) refl

        test : ℕ → Bool
        test n = is_flushed ((with_store h va l.address).word_stage n)

        -- a word that may be walked after the store is not the one stored to
        other : (n : ℕ) → test n ≡ true → (n ≡ x / 4 → ⊥) × (is_flushed (h.word_stage n) ≡ true)
        other n e =
            case (eqb n (x / 4))
            (λ k. clash (rw k at e) refl)
            (λ k. (eqb-false n (x / 4) k, rw k at e))

        same : (n : ℕ) → test n ≡ true → value_at 4 new.bytes (n * 4) ≡ value_at 4 pm (n * 4)
        same n e =
            let d = (other n e).0 in
            case (ltb n (x / 4))
            (λ k. let q = ltb-true n (x / 4) k in load_before 4 w pm x (n * 4) v (omega arith))
            (λ k. let q = ltb-false n (x / 4) k in load_behind 4 w pm x (n * 4) v (omega arith))

        walk_old : (u : VirtualAddress) → Readable new.bytes bad base (with_store h va l.address) u → walk new base u ≡ walk (physical pm bad) base u
        walk_old u r = walk_where new (physical pm bad) same_aborts test same base u r

        readable_old : (u : VirtualAddress) → Readable new.bytes bad base (with_store h va l.address) u → Readable pm bad base h u
        readable_old u r =
            subst (λ (ws : List ℕ). all (λ (n : ℕ). is_flushed (h.word_stage n)) ws ≡ true) (reads_where new (physical pm bad) same_aborts test same base u r)
            (all_weaker test (λ (n : ℕ). is_flushed (h.word_stage n)) (λ n e. (other n e).1) (words_read new base u) r)
