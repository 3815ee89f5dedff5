-- What alignment, translation and rights decide: no status of a fill, and the place that the mapping gives.
use Rattle.std.specs.Prelude.{Option, Some, None, Result, Ok, Err}
use Prim.Native.Nat.{ℕ, ◌%◌}
use mathlib.Core.Bool.{false}
use mathlib.Core.Path.{◌≡◌, refl}
use mathlib.Core.List.{List}
use lib.Dec.{eqb}
use Rattle.values.specs.declared.VirtualAddress.{VirtualAddress}
use Rattle.values.specs.declared.Registers.{Registers}
use Rattle.values.specs.declared.Access.{Access}
use Rattle.values.specs.declared.Entry.{Entry}
use Rattle.values.proofs.Cases.{case}
use Rattle.bus.specs.Physical.{Physical}
use Rattle.bus.specs.Reader.{descriptor_at}
use Rattle.walk.specs.Walk.{domain_of, first_address, second_address, second, first, walk}
use Rattle.tlb.specs.Tlb.{ap_of, lookup}
use Rattle.values.specs.Control.{mmu, system, rom}
use Rattle.values.specs.Kinds.{is_store}
use Rattle.rights.specs.Rights.{rights, domain_value}
use Rattle.translation.specs.Alignment.{alignment_faults, cleared}
use Rattle.translation.specs.Translation.{of_walk, of_lookup, translation, is_page, judged, checked_by, checked, decided}
use Rattle.translation.specs.declared.Translation.{Translation}
use Rattle.translation.specs.declared.Translation.TheVariants.{Flat, Held, Walked}
use Rattle.machine.specs.Machine.{Machine, physical_of}
use Rattle.reach.specs.Reach.{decision}
use Rattle.terms.specs.Callers.{on_fill, place_by}
use Rattle.values.specs.declared.Cause.{Cause}
use Rattle.translation.specs.declared.Place.{Place}

-- ---- a walk that fails has no status of a fill

abbrev Fails : Result Entry Cause → Type 0
Fails (Ok e) = Unit {0}
Fails (Err why) = on_fill why.status ≡ false

second_fails : (domain : ℕ) (va : VirtualAddress) (d : Option ℕ) → Fails (second domain va d)
unfolding second
second_fails domain va None = refl
second_fails domain va (Some w) =
    case (eqb (w % 4) 1) (λ t. rw t tt) (λ t. case (eqb (w % 4) 2) (λ u. rw (t, u) tt) (λ u. rw (t, u) refl))

first_fails : (m : Physical) (va : VirtualAddress) (d : Option ℕ) → Fails (first m va d)
unfolding first
first_fails m va None = refl
first_fails m va (Some w) =
    case (eqb (w % 4) 1) (λ t. rw t (second_fails (domain_of w) va (descriptor_at m (second_address w va))))
    (λ t. case (eqb (w % 4) 2) (λ u. rw (t, u) tt) (λ u. rw (t, u) refl))

walk_fails : (m : Physical) (base : ℕ) (va : VirtualAddress) → Fails (walk m base va)
unfolding walk
walk_fails m base va = first_fails m va (descriptor_at m (first_address base va))

abbrev Lacks : Result Translation Cause → Type 0
Lacks (Ok Flat) = Unit {0}
Lacks (Ok (Held e)) = Unit {0}
Lacks (Ok (Walked e)) = Unit {0}
Lacks (Err why) = on_fill why.status ≡ false

of_walk_lem : (x : Result Entry Cause) → Fails x → Lacks (of_walk x)
of_walk_lem (Ok e) f = tt
of_walk_lem (Err why) f = f

of_lookup_lem : (es : List Entry) (r : Registers) (m : Physical) (va : VirtualAddress) (x : Option ℕ) → Lacks (of_lookup es r m va x)
of_lookup_lem es r m va (Some i) = tt
of_lookup_lem es r m va None = of_walk_lem (walk m r.base va) (walk_fails m r.base va)

translation_lacks : (es : List Entry) (r : Registers) (m : Physical) (va : VirtualAddress) → Lacks (translation es r m va)
unfolding translation
translation_lacks es r m va = case (mmu r) (λ t. rw t (of_lookup_lem es r m va (lookup es va))) (λ t. rw t tt)

-- ---- what is decided of an access

-- denied by another status than a fill's, or passed to the mapping's place
abbrev pub Decides : VirtualAddress → Result Translation Cause → Result Place Cause → Type 0
Decides va t (Err why) = on_fill why.status ≡ false
Decides va t (Ok p) = p ≡ place_by va t

judged_decides : (right : ℕ) (e : Entry) (va : VirtualAddress) (t : Result Translation Cause) → place_by va (Ok (Held e)) ≡ place_by va t → Decides va t (judged right e va)
judged_decides right e va t q =
    case (eqb right 0) (λ u. rw u q)
    (λ u.
    case (is_page e)
    (λ p. case (eqb right 1) (λ v. rw (u, v, p) refl) (λ v. rw (u, v, p) refl))
    (λ p. case (eqb right 1) (λ v. rw (u, v, p) refl) (λ v. rw (u, v, p) refl)))

abbrev right_of : Registers → Access → Entry → ℕ
right_of r a e =
    rights (domain_value r.domains e.domain) (ap_of e (cleared a)) (system r) (rom r) a.privileged (is_store a.kind)

checked_decides : (r : Registers) (a : Access) (t : Result Translation Cause) → Lacks t → Decides (cleared a) t (checked r a t)
unfolding checked_by
checked_decides r a (Ok Flat) k = refl
checked_decides r a (Ok (Held e)) k = judged_decides (right_of r a e) e (cleared a) (Ok (Held e)) refl
checked_decides r a (Ok (Walked e)) k = judged_decides (right_of r a e) e (cleared a) (Ok (Walked e)) refl
checked_decides r a (Err why) k = k

-- of a machine's access, by the mapping that serves its address
pub decision_decides : (m : Machine) (a : Access)
    → Decides (cleared a) (translation m.entries m.cp15.registers (physical_of m) (cleared a)) (decision m a).checked
unfolding decision decided
decision_decides m a =
    let r = m.cp15.registers in
    let t = translation m.entries r (physical_of m) (cleared a) in
    case (alignment_faults r a) (λ u. rw u refl)
    (λ u. rw u (checked_decides r a t (translation_lacks m.entries r (physical_of m) (cleared a))))
