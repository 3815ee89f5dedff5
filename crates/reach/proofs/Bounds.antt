-- Where an access lies: in one block of sixteen bytes, so in one line; and which lines a search finds.
use Rattle.std.specs.Prelude.{Some}
use Prim.Native.Nat.{ℕ, ◌+◌, ◌%◌, ◌<◌, ◌≤◌}
use native.Mathlib.Omega.{arith}
use mathlib.Core.Bool.{true, false}
use mathlib.Core.Path.{◌≡◌, refl}
use mathlib.Core.List.{List}
use lib.ListN.{length}
use Rattle.values.specs.declared.Access.{Access}
use Rattle.values.specs.declared.VirtualAddress.{VirtualAddress}
use Rattle.cache.specs.Dcache.{find}
use Rattle.cache.specs.Packing.{lines_of}
use Rattle.cache.proofs.Finds.{found}
use Rattle.words.specs.Words.{is_width}
use Rattle.translation.specs.Alignment.{cleared}
use Rattle.translation.specs.declared.Place.{Place}
use Rattle.translation.proofs.Laws.{in_word, access_fits}
use Rattle.bus.specs.Physical.{physical, aborts}
use Rattle.bus.proofs.Laws.{answers}
use Rattle.reach.specs.Code.{MissReady}

-- an access lies in one block of sixteen bytes, so in one line: its place is as far in a small page as its cleared address
pub in_block : (a : Access) (pa : ℕ) → is_width a.width ≡ true → pa % 0x1000 ≡ (cleared a).0 % 0x1000 → pa % 16 + a.width ≤ 16
in_block a pa w e = let h = in_word a pa w e in omega arith

pub in_line : (a : Access) → is_width a.width ≡ true → (cleared a).0 % 32 + a.width ≤ 32
in_line a w = let h = in_block a (cleared a).0 w refl in omega arith

-- an access that misses lies in memory whole, where its word answers
pub lies_inside : (memory words : List ℕ) (bytes : List (List ℕ)) (used : ℕ) (a : Access) (p : Place) → MissReady memory words bytes used a p
    → (bad : List ℕ) → aborts (physical memory bad) p.address ≡ false → p.address.0 + a.width ≤ length memory
lies_inside memory words bytes used a p k bad h =
    let i = answers (physical memory bad) p.address h in
    access_fits a p.address.0 (length memory) k.width k.place.within (omega (arith, i)) k.whole

-- the line that a search finds is one of the 512
pub find_low : (ws : List ℕ) (va : VirtualAddress) (i : ℕ) → length ws ≡ 512 → find (lines_of ws) va ≡ Some i → i < 512
find_low ws va i n e = let f = found (lines_of ws) va i e in f.low
