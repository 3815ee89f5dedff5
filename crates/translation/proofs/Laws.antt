-- Bounds and cases of alignment, translation and faults.
use Rattle.std.specs.Prelude.{Ok}
use Prim.Native.Nat.{ℕ, ◌+◌, ◌-◌, ◌<◌, ◌≤◌, ◌%◌}
use native.Mathlib.Omega.{arith}
use mathlib.Core.Bool.{true, false}
use mathlib.Core.Path.{◌≡◌}
use lib.Dec.{eqb}
use lib.Bits.{bit_and, and_mask, and_zero_r}
use borrow.Author.Tests.{eqb-true, eqb-false}
use Rattle.values.specs.Control.{mmu}
use Rattle.values.specs.declared.VirtualAddress.{VirtualAddress}
use Rattle.values.specs.declared.Registers.{Registers}
use Rattle.values.specs.declared.Access.{Access}
use Rattle.values.specs.declared.Entry.{Entry}
use Rattle.values.proofs.Cases.{case}
use Rattle.words.specs.Words.{is_width}
use Rattle.words.proofs.Widths.{is_one}
use Rattle.bus.specs.Physical.{Physical}
use Rattle.walk.specs.Walk.{walk}
use Rattle.walk.specs.Ranges.{InRange}
use Rattle.tlb.specs.Tlb.{translated}
use Rattle.tlb.proofs.Laws.{translated_section, translated_large, translated_small}
use Rattle.translation.specs.Alignment.{low_bits, cleared}
use Rattle.translation.specs.Translation.{of_walk, walked_only}
use Rattle.translation.specs.declared.Translation.TheVariants.{Flat}

-- the low bits are no more than the address
pub low_le : (width a : ℕ) → low_bits width a ≤ a
low_le width a =
    case (eqb width 4) (λ t. rw t (omega arith)) (λ t. case (eqb width 2) (λ u. rw (t, u) (omega arith)) (λ u. rw (t, u) (omega arith)))

-- the low bits by a mask
pub low_masked : (width a : ℕ) → is_width width ≡ true → bit_and a (width - 1) ≡ low_bits width a
low_masked width a w =
    case (eqb width 4)
    (λ t. let e : width ≡ 4 = eqb-true width 4 t in rw e (and_mask a 2))
    (λ t.
    case (eqb width 2)
    (λ u. let e : width ≡ 2 = eqb-true width 2 u in rw e (and_mask a 1))
    (λ u.
    let e : width ≡ 1 = is_one width w (eqb-false width 4 t) (eqb-false width 2 u) in
    rw e (and_zero_r a)))

-- a width of 1, 2 or 4 is some
pub width_some : (width : ℕ) → is_width width ≡ true → 1 ≤ width
width_some width w =
    case (eqb width 4)
    (λ t. let e : width ≡ 4 = eqb-true width 4 t in omega arith)
    (λ t.
    case (eqb width 2)
    (λ u. let e : width ≡ 2 = eqb-true width 2 u in omega arith)
    (λ u. let e : width ≡ 1 = is_one width w (eqb-false width 4 t) (eqb-false width 2 u) in omega arith))

-- with M set an address is walked for, with M clear it is flat
module _ (r : Registers) (memory : Physical) (va : VirtualAddress) where
  pub walked_set : mmu r ≡ true → walked_only r memory va ≡ of_walk (walk memory r.base va)
  unfolding walked_only
  walked_set h = rw h

  pub walked_clear : mmu r ≡ false → walked_only r memory va ≡ (Ok Flat)
  unfolding walked_only
  walked_clear h = rw h

-- an address and its translation are the same within a small page
pub translated_within : (e : Entry) (va : VirtualAddress) → InRange e → (translated e va).0 % 0x1000 ≡ va.0 % 0x1000
translated_within e va r =
    case (eqb e.size 0)
    (λ t. rw (translated_section e va (eqb-true e.size 0 t)) (let h = r.section (eqb-true e.size 0 t) in omega arith))
    (λ t.
    case (eqb e.size 1)
    (λ u. rw (translated_large e va (eqb-true e.size 1 u)) (let h = r.large (eqb-true e.size 1 u) in omega arith))
    (λ u. rw (translated_small e va (eqb-false e.size 0 t) (eqb-false e.size 1 u)) (omega (arith, r.pbase))))

-- an access lies in one word: its place is as far in a small page as its cleared address
pub in_word : (a : Access) (pa : ℕ) → is_width a.width ≡ true → pa % 0x1000 ≡ (cleared a).0 % 0x1000 → pa % 4 + a.width ≤ 4
unfolding cleared
in_word a pa w e =
    case (eqb a.width 4)
    (λ t. let k : a.width ≡ 4 = eqb-true a.width 4 t in let f = rw t at e in omega arith)
    (λ t.
    case (eqb a.width 2)
    (λ u. let k : a.width ≡ 2 = eqb-true a.width 2 u in let f = rw (t, u) at e in omega arith)
    (λ u. let k : a.width ≡ 1 = is_one a.width w (eqb-false a.width 4 t) (eqb-false a.width 2 u) in omega arith))

-- so one inside a memory whose length is a multiple of 32 lies in it whole
pub access_fits : (a : Access) (pa n : ℕ) → is_width a.width ≡ true → pa % 0x1000 ≡ (cleared a).0 % 0x1000 → pa < n → n % 32 ≡ 0
    → pa + a.width ≤ n
access_fits a pa n w e h m = let k = in_word a pa w e in omega arith
