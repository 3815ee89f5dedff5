-- Term 2, proved. Behind alignment the table's rows are three groups: of the walk, of rights, and of a place whose word aborts. Each group gives
-- what its part of an access decides.
use Rattle.std.specs.Prelude.{Option, Some, None, Result, Ok, Err}
use Prim.Native.Nat.{ℕ, zero, suc, ◌%◌, ◌≤◌}
use native.Mathlib.Omega.{arith}
use mathlib.Core.Bool.{Bool, true, false, cond, not, ◌&&◌, ◌||◌}
use mathlib.Core.Path.{◌≡◌, refl, sym, ◌∙◌, ap}
use mathlib.Core.List.{List, [], ◌∷◌}
use lib.Dec.{eqb}
use lib.ListN.{get_or}
use borrow.Author.Tests.{eq-eqb, eqb-true, eqb-false}
use Rattle.values.specs.Control.{mmu, system, rom}
use Rattle.values.specs.Counts.{counted}
use Rattle.values.specs.Empty.{empty_entry}
use Rattle.values.specs.Kinds.{is_store, is_swap}
use Rattle.values.specs.Rows.{Row, first_met}
use Rattle.values.specs.declared.VirtualAddress.{VirtualAddress}
use Rattle.values.specs.declared.Registers.{Registers}
use Rattle.values.specs.declared.Entry.{Entry}
use Rattle.values.specs.declared.Kind.{Kind}
use Rattle.values.specs.declared.Kind.TheVariants.{Load, SignedLoad, Store, Swap}
use Rattle.values.specs.declared.Access.{Access}
use Rattle.values.specs.declared.Status.{Status}
use Rattle.values.specs.declared.Status.TheVariants.{WalkFirst, WalkSecond, TranslationSection, TranslationPage, DomainSection, DomainPage}
use Rattle.values.specs.declared.Status.TheVariants.{PermissionSection, PermissionPage, FillSection, FillPage, OtherSection, OtherPage}
use Rattle.values.specs.declared.Call.{Call}
use Rattle.values.specs.declared.Call.TheVariants.{Read, Write}
use Rattle.values.specs.declared.Call.TheVariants as calls
use Rattle.values.proofs.Cases.{case}
use Rattle.words.specs.Signed.{load_answer}
use Rattle.rights.specs.Rights.{rights, permits, domain_value}
use Rattle.bus.specs.Physical.{Physical, aborts, wanted_aborts}
use Rattle.bus.specs.Reader.{descriptor_at}
use Rattle.walk.specs.Walk.{walk, first, second, first_address, second_address, domain_of}
use Rattle.tlb.specs.Tlb.{lookup, ap_of}
use Rattle.cache.specs.Dcache.{find}
use Rattle.translation.specs.Alignment.{alignment_faults, cleared}
use Rattle.translation.specs.Translation.{translation, of_lookup, of_walk, checked, checked_by, judged, decided}
use Rattle.translation.specs.Faults.{fills, buffers}
use Rattle.translation.specs.declared.Translation.{Translation}
use Rattle.translation.specs.declared.Translation.TheVariants.{Flat, Held}
use Rattle.translation.specs.declared.Place.{Place}
use Rattle.machine.specs.Machine.{Machine, physical_of, with_counts}
use Rattle.reach.specs.Reach.{decision, committed, faulted}
use Rattle.loads.specs.Loads.{load_hit, load_fill, load_uncached, load_miss, load_found, load}
use Rattle.stores.specs.Stores.{store_hit, store_buffered, store_direct, store_miss, store_found, store}
use Rattle.swaps.specs.Swaps.{swap_hit, swap_direct, swap_miss, swap_found, swap}
use Rattle.access.specs.Access.{passed, access_at, access}
use Rattle.cp15.specs.Operations as cp15
use Rattle.step.specs.Meets.{refusal}
use Rattle.step.specs.Call.{done, served}
use Rattle.terms.proofs.Callers.{fault_leaves}
use Rattle.terms.specs.Callers.{place_by}
use Rattle.terms.specs.Term2.{is_outside, word_in, has_bits, is_nothing, entry_of, rows, Faulting, faults, passes, fault_in, table_fault, Term2}
use Rattle.values.specs.declared.Cause.{Cause}

-- ---- cases

-- the low two bits of a word
low_bits : {A : Type 0} (w : ℕ) → (w % 4 ≡ 0 → A) → (w % 4 ≡ 1 → A) → (w % 4 ≡ 2 → A) → (w % 4 ≡ 3 → A) → A
low_bits w f g h k =
    case (eqb (w % 4) 0) (λ t. f (eqb-true (w % 4) 0 t))
    (λ t.
    case (eqb (w % 4) 1) (λ u. g (eqb-true (w % 4) 1 u))
    (λ u.
    case (eqb (w % 4) 2) (λ v. h (eqb-true (w % 4) 2 v))
    (λ v. k (above w (eqb-false (w % 4) 0 t) (eqb-false (w % 4) 1 u) (eqb-false (w % 4) 2 v)))))
  where
    above : (w : ℕ) → (w % 4 ≡ 0 → ⊥) → (w % 4 ≡ 1 → ⊥) → (w % 4 ≡ 2 → ⊥) → w % 4 ≡ 3
    above w x y z = omega arith

-- "Entries: 0 allowed, 1 domain fault, 2 permission fault"
rights_low : (value ap' : ℕ) (s r privileged store : Bool) → rights value ap' s r privileged store ≤ 2
unfolding rights
rights_low value ap' s r privileged store =
    case (eqb value 3) (λ t. rw t (omega arith))
    (λ t.
    case (eqb value 1)
    (λ u. case (permits ap' s r privileged store) (λ v. rw (t, u, v) (omega arith)) (λ v. rw (t, u, v) (omega arith)))
    (λ u. rw (t, u) (omega arith)))

-- ---- the rows in groups; `given` is the address given

abbrev fault_of : List (Row Faulting) → Faulting
fault_of rs = first_met passes rs

module _ (given : VirtualAddress) where
  abbrev fault_at : Status → ℕ → Faulting
  fault_at s d = faults (record { status = s; domain = d; address = given })

  abbrev row : Bool → Status → ℕ → Row Faulting
  row condition s d = record { met = condition; gives = fault_at s d }

  -- the fault of a walk that failed, else what follows
  abbrev by_mapping : Result Entry Cause → Faulting → Faulting
  by_mapping (Err why) x = fault_at why.status why.domain
  by_mapping (Ok e) x = x

  -- the fault of an access that is denied, else what its place gives
  abbrev by_checked : Result Place Cause → (Place → Faulting) → Faulting
  by_checked (Err why) k = fault_at why.status why.domain
  by_checked (Ok p) k = k p

  abbrev walk_rows : Bool → Option ℕ → Option ℕ → List (Row Faulting) → List (Row Faulting)
  walk_rows walked one two rs =
      row (walked && is_outside one) WalkFirst 0
      ∷ row (walked && (has_bits 1 one && is_outside two)) WalkSecond (domain_of (word_in one))
      ∷ row (walked && (has_bits 0 one || has_bits 3 one)) TranslationSection 0
      ∷ row (walked && (has_bits 1 one && (has_bits 0 two || has_bits 3 two))) TranslationPage (domain_of (word_in one))
      ∷ rs

  abbrev right_rows : Bool → ℕ → Entry → List (Row Faulting) → List (Row Faulting)
  right_rows on right e rs =
      row (on && (eqb right 1 && eqb e.size 0)) DomainSection e.domain
      ∷ row (on && (eqb right 1 && not (eqb e.size 0))) DomainPage e.domain
      ∷ row (on && (eqb right 2 && eqb e.size 0)) PermissionSection e.domain
      ∷ row (on && (eqb right 2 && not (eqb e.size 0))) PermissionPage e.domain
      ∷ rs

  abbrev place_rows : Registers → Physical → Option ℕ → Bool → Bool → Place → List (Row Faulting)
  place_rows r memory x store swap p =
      let on_fill : Bool = is_nothing x && (not store && (fills r p && wanted_aborts memory p.address)) in
      let other : Bool = is_nothing x && (aborts memory p.address && (swap || cond store (not (buffers r p)) (not (fills r p)))) in
      row (on_fill && not p.page) FillSection p.domain
      ∷ row (on_fill && p.page) FillPage p.domain
      ∷ row (other && not p.page) OtherSection p.domain
      ∷ row (other && p.page) OtherPage p.domain
      ∷ []

  -- ---- the walk's rows fault as the walk fails, the rows of rights as the rights deny

  module _ (rs : List (Row Faulting)) where
    walk_second : (va : VirtualAddress) (w : ℕ) → w % 4 ≡ 1 → (two : Option ℕ)
        → fault_of (walk_rows true (Some w) two rs) ≡ by_mapping (second (domain_of w) va two) (fault_of rs)
    unfolding first_met second
    walk_second va w h None = rw h
    walk_second va w h (Some v) = low_bits v (λ k. rw (h, k)) (λ k. rw (h, k)) (λ k. rw (h, k)) (λ k. rw (h, k))

    walk_first : (memory : Physical) (va : VirtualAddress) (one : Option ℕ)
        → fault_of (walk_rows true one (descriptor_at memory (second_address (word_in one) va)) rs) ≡ by_mapping (first memory va one) (fault_of rs)
    unfolding first_met first
    walk_first memory va None = refl
    walk_first memory va (Some w) =
        low_bits w (λ h. rw h) (λ h. walk_second va w h (descriptor_at memory (second_address w va)) ∙ rw h) (λ h. rw h) (λ h. rw h)

    right_rows_lem : (right : ℕ) (e : Entry) (va : VirtualAddress) (k : Place → Faulting) → right ≤ 2 → fault_of rs ≡ k (place_by va (Ok (Held e)))
        → fault_of (right_rows true right e rs) ≡ by_checked (judged right e va) k
    unfolding first_met
    right_rows_lem zero e va k h f = f
    right_rows_lem (suc zero) e va k h f = case (eqb e.size 0) (λ t. rw t) (λ t. rw t)
    right_rows_lem (suc (suc zero)) e va k h f = case (eqb e.size 0) (λ t. rw t) (λ t. rw t)
    right_rows_lem (suc (suc (suc n))) e va k h f = absurd (omega arith)

-- ---- translation and rights

module _ (r : Registers) (a : Access) (end : Place → List (Row Faulting)) where
  abbrev given : VirtualAddress
  given = a.address

  abbrev va : VirtualAddress
  va = cleared a

  abbrev right_of : Entry → ℕ
  right_of e = rights (domain_value r.domains e.domain) (ap_of e va) (system r) (rom r) a.privileged (is_store a.kind)

  abbrev ended : Place → Faulting
  ended p = fault_of (end p)

  -- the rows behind the walk's, where a mapping serves
  mapped_rows : (e : Entry) → fault_of (right_rows given true (right_of e) e (end (place_by va (Ok (Held e))))) ≡ by_checked given (checked_by r a e) ended
  unfolding checked_by
  mapped_rows e =
      right_rows_lem given (end (place_by va (Ok (Held e)))) (right_of e) e va ended
      (rights_low (domain_value r.domains e.domain) (ap_of e va) (system r) (rom r) a.privileged (is_store a.kind)) refl

  abbrev rest_rows : Bool → Result Translation Cause → List (Row Faulting)
  rest_rows on t = right_rows given on (right_of (entry_of t)) (entry_of t) (end (place_by va t))

  -- the rows behind the walk's, by what the walk gives
  walked_rows : (y : Result Entry Cause) → by_mapping given y (fault_of (rest_rows true (of_walk y))) ≡ by_checked given (checked r a (of_walk y)) ended
  walked_rows (Err why) = refl
  walked_rows (Ok e) = mapped_rows e

  module _ (es : List Entry) (memory : Physical) where
    abbrev one : Option ℕ
    one = descriptor_at memory (first_address r.base va)

    abbrev two : Option ℕ
    two = descriptor_at memory (second_address (word_in one) va)

    -- the rows of translation and rights, by M and by what the TLB's search finds
    translated_rows : (on : Bool) (x : Option ℕ)
        → fault_of (walk_rows given (on && is_nothing x) one two (rest_rows on (cond on (of_lookup es r memory va x) (Ok Flat))))
        ≡ by_checked given (checked r a (cond on (of_lookup es r memory va x) (Ok Flat))) ended
    unfolding first_met walk
    translated_rows false x = refl
    translated_rows true (Some i) = mapped_rows (get_or es i empty_entry)
    translated_rows true None =
        walk_first given (rest_rows true (of_walk (first memory va one))) memory va one ∙ walked_rows (first memory va one)

-- ---- behind translation and rights

-- a load's answer is no fault
load_passes : (k : Kind) (width v : ℕ) → fault_in (load_answer k width v) ≡ passes
load_passes Load width v = refl
load_passes SignedLoad width v = refl
load_passes (Store x) width v = refl
load_passes (Swap x) width v = refl

module _ (m : Machine) (a : Access) where
  -- the rows of a place, by what the Dcache's search finds
  abbrev search_rows : Option ℕ → Bool → Bool → Place → List (Row Faulting)
  search_rows x store swap p = place_rows a.address m.cp15.registers (physical_of m) x store swap p

  abbrev end_rows : Place → List (Row Faulting)
  end_rows p = search_rows (find m.side.cache.lines (cleared a)) (is_store a.kind) (is_swap a.kind) p

  abbrev end_of : Place → Faulting
  end_of p = fault_of (end_rows p)

  -- the table faults as alignment, translation and rights deny, and behind them as the last rows say
  table : fault_of (rows m a) ≡ by_checked a.address (decision m a).checked end_of
  unfolding rows first_met decision decided translation
  table =
      let r = m.cp15.registers in
      case (alignment_faults r a) (λ t. rw t)
      (λ t. rw t (translated_rows r a end_rows m.entries (physical_of m) (mmu r) (lookup m.entries (cleared a))))

  load_missed : (p : Place) → fault_in (load_miss m a p).answer ≡ fault_of (search_rows None false false p)
  unfolding first_met load_miss load_fill load_uncached faulted
  load_missed p =
      let wanted = wanted_aborts (physical_of m) p.address in
      let own = aborts (physical_of m) p.address in
      case (fills m.cp15.registers p)
      (λ f.
      case wanted (λ h. case p.page (λ g. rw (f, h, g)) (λ g. rw (f, h, g)))
      (λ h. case own (λ o. rw (f, h, o) (load_passes a.kind a.width _)) (λ o. rw (f, h, o) (load_passes a.kind a.width _))))
      (λ f. case own (λ h. case p.page (λ g. rw (f, h, g)) (λ g. rw (f, h, g))) (λ h. rw (f, h) (load_passes a.kind a.width _)))

  load_found_lem : (p : Place) (x : Option ℕ) → fault_in (load_found m a p x).answer ≡ fault_of (search_rows x false false p)
  unfolding first_met load_hit
  load_found_lem p (Some i) = load_passes a.kind a.width _
  load_found_lem p None = load_missed p

  store_missed : (v : ℕ) (p : Place) → fault_in (store_miss m a v p).answer ≡ fault_of (search_rows None true false p)
  unfolding first_met store_miss store_buffered store_direct faulted
  store_missed v p =
      case (aborts (physical_of m) p.address)
      (λ h. case (buffers m.cp15.registers p) (λ f. rw (f, h)) (λ f. case p.page (λ g. rw (f, h, g)) (λ g. rw (f, h, g))))
      (λ h. case (buffers m.cp15.registers p) (λ f. rw (f, h)) (λ f. rw (f, h)))

  store_found_lem : (v : ℕ) (p : Place) (x : Option ℕ) → fault_in (store_found m a v p x).answer ≡ fault_of (search_rows x true false p)
  unfolding first_met store_hit
  store_found_lem v p (Some i) = refl
  store_found_lem v p None = store_missed v p

  swap_missed : (v : ℕ) (p : Place) → fault_in (swap_miss m a v p).answer ≡ fault_of (search_rows None true true p)
  unfolding first_met swap_miss swap_direct faulted
  swap_missed v p =
      case (aborts (physical_of m) p.address) (λ h. case p.page (λ g. rw (h, g)) (λ g. rw (h, g)))
      (λ h. rw h (load_passes a.kind a.width _))

  swap_found_lem : (v : ℕ) (p : Place) (x : Option ℕ) → fault_in (swap_found m a v p x).answer ≡ fault_of (search_rows x true true p)
  unfolding first_met swap_hit load_hit
  swap_found_lem v p (Some i) = load_passes a.kind a.width _
  swap_found_lem v p None = swap_missed v p

  -- an access that passes, by its kind
  passed_fault : (p : Place) (k : Kind)
      → fault_in (passed m a p k).answer ≡ fault_of (search_rows (find m.side.cache.lines (cleared a)) (is_store k) (is_swap k) p)
  unfolding load store swap
  passed_fault p Load = load_found_lem p (find m.side.cache.lines (cleared a))
  passed_fault p SignedLoad = load_found_lem p (find m.side.cache.lines (cleared a))
  passed_fault p (Store v) = store_found_lem v p (find m.side.cache.lines (cleared a))
  passed_fault p (Swap v) = swap_found_lem v p (find m.side.cache.lines (cleared a))

  at_fault : (c : Result Place Cause) → fault_in (access_at m a c).answer ≡ by_checked a.address c end_of
  unfolding access_at faulted
  at_fault (Err why) = refl
  at_fault (Ok p) = passed_fault p a.kind

-- translation changes nothing that the last rows ask
end_kept : (m : Machine) (a : Access) (t : Result Translation Cause) → end_of (committed m t) a ≡ end_of m a
unfolding committed
end_kept m a t = refl

access_fault : (m : Machine) (a : Access) → fault_in (access m a).answer ≡ fault_of (rows m a)
unfolding access
access_fault m a =
    let d = decision m a in
    at_fault (committed m d.mapping) a d.checked
    ∙ ap (λ (k : Place → Faulting). by_checked a.address d.checked k) (end_kept m a d.mapping)
    ∙ sym (table m a)

-- ---- the term

-- a count of calls changes no row
done_fault : (m : Machine) (c : Call) → fault_in (done (with_counts m (counted m.counts)) c).answer ≡ table_fault m c
unfolding rows cp15.read cp15.write
done_fault m (calls.Access a) = access_fault (with_counts m (counted m.counts)) a
done_fault m (Read t) = refl
done_fault m (Write t v) = refl

by_table : (m : Machine) (c : Call) → refusal m c ≡ 0 → fault_in (served m c).answer ≡ table_fault m c
unfolding served
by_table m c e = rw (eq-eqb (refusal m c) 0 e) (done_fault m c)

pub term2 : Term2
term2 = record { faults_by_table = by_table; fault_leaves = fault_leaves }
