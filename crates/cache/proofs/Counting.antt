-- The number of dirty halves of the Dcache's lines, after each operation.
use Rattle.std.specs.Prelude.{Option, Some, None}
use Prim.Native.Nat.{ℕ, ◌+◌, ◌≤◌}
use native.Mathlib.Omega.{arith}
use mathlib.Core.Path.{◌≡◌, refl}
use lib.Dec.{ltb}
use lib.Seq.{set-set}
use Rattle.bus.specs.Physical.{line_aborts}
use Rattle.buffer.specs.Buffer.{physical_behind}
use Rattle.values.specs.Lists.{sum}
use Rattle.values.specs.Empty.{empty_line}
use Rattle.values.specs.Addresses.{offset_of, tag_of, physical_line}
use Rattle.values.specs.declared.VirtualAddress.{VirtualAddress}
use Rattle.values.specs.declared.PhysicalAddress.{PhysicalAddress}
use Rattle.values.specs.declared.Line.{Line}
use Rattle.values.proofs.Cases.{case, number_low}
use Rattle.values.proofs.Sums.{sum_more, sum_out, sum_replicate}
use Rattle.cache.specs.Dcache.{
  Dcache,
  Side,
  line_at,
  find,
  marked,
  clean_line,
  fresh_line,
  dirty_halves,
  victim,
  hit_store,
  gave_way,
  line_read,
  filled,
  cleaned_at,
  cleaned,
  flushed_at,
  line_flushed,
  all_flushed,
}

-- a line has at most two dirty halves
pub dirty_two : (l : Line) → dirty_halves l ≤ 2
dirty_two l = let p = number_low l.low in let q = number_low l.high in omega arith

-- a mark makes at most one half more dirty
pub mark_dirties : (l : Line) (offset : ℕ) → dirty_halves (marked l offset) ≤ dirty_halves l + 1
mark_dirties l offset =
    let p = number_low l.low in
    let q = number_low l.high in
    case (ltb offset 16) (λ t. rw t (omega arith)) (λ t. rw t (omega arith))

-- "a store marks its half": at most one half more is dirty
pub store_dirties : (c : Dcache) (i : ℕ) (va : VirtualAddress) (width v : ℕ)
    → sum dirty_halves (hit_store c i va width v).lines ≤ sum dirty_halves c.lines + 1
unfolding hit_store
store_dirties c i va width v =
    sum_more dirty_halves c.lines i (marked (line_at c i) (offset_of va)) empty_line 1 (mark_dirties (line_at c i) (offset_of va))

-- a fill: the victim's dirty halves are sent out
pub fill_dirties : (s : Side) (va : VirtualAddress) (pa : PhysicalAddress)
    → (filled s va pa).halves + sum dirty_halves (filled s va pa).side.cache.lines ≡ sum dirty_halves s.cache.lines
unfolding filled gave_way line_read
fill_dirties s va pa =
    let i = victim s.cache va in
    let new = fresh_line (tag_of va) (physical_line pa) in
    case (line_aborts (physical_behind s.backing) pa)
    (λ t. rw t (sum_out dirty_halves s.cache.lines i empty_line empty_line refl refl))
    (λ t. rw (t, set-set s.cache.lines i empty_line new) (sum_out dirty_halves s.cache.lines i new empty_line refl refl))

-- a clean: the line's dirty halves are sent out
pub clean_at_dirties : (s : Side) (x : Option ℕ)
    → (cleaned_at s x).halves + sum dirty_halves (cleaned_at s x).side.cache.lines ≡ sum dirty_halves s.cache.lines
unfolding cleaned_at
clean_at_dirties s None = omega arith
clean_at_dirties s (Some i) = sum_out dirty_halves s.cache.lines i (clean_line (line_at s.cache i)) empty_line refl refl

-- the same of the line of an address
pub clean_dirties : (s : Side) (va : VirtualAddress)
    → (cleaned s va).halves + sum dirty_halves (cleaned s va).side.cache.lines ≡ sum dirty_halves s.cache.lines
unfolding cleaned
clean_dirties s va = clean_at_dirties s (find s.cache.lines va)

-- a flush of one line makes no half dirty
pub flush_at_dirties : (c : Dcache) (x : Option ℕ) → sum dirty_halves (flushed_at c x).lines ≤ sum dirty_halves c.lines
unfolding flushed_at
flush_at_dirties c None = omega arith
flush_at_dirties c (Some i) = let e = sum_out dirty_halves c.lines i empty_line empty_line refl refl in omega arith

-- the same of the line of an address
pub flush_dirties : (c : Dcache) (va : VirtualAddress) → sum dirty_halves (line_flushed c va).lines ≤ sum dirty_halves c.lines
unfolding line_flushed
flush_dirties c va = flush_at_dirties c (find c.lines va)

-- a flush of all lines leaves none dirty
pub flush_all_dirties : (c : Dcache) → sum dirty_halves (all_flushed c).lines ≡ 0
unfolding all_flushed
flush_all_dirties c = sum_replicate dirty_halves 512 empty_line refl
