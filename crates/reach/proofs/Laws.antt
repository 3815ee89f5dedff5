-- Which mapping serves, by cases; the machine once TLB and misses have changed; faults.
use Rattle.std.specs.Prelude.{Some, None, Err, Result, Ok}
use Prim.Native.Nat.{ℕ, ◌+◌, ◌<◌}
use native.Mathlib.Omega.{arith}
use mathlib.Core.Bool.{true, false}
use mathlib.Core.Path.{◌≡◌, refl, ◌∙◌}
use mathlib.Core.List.{List}
use lib.ListN.{length, length-map, get_or}
use Rattle.values.specs.Control.{mmu}
use Rattle.values.specs.Empty.{empty_entry}
use Rattle.values.specs.declared.Registers.{Registers}
use Rattle.values.specs.declared.Entry.{Entry}
use Rattle.values.specs.declared.Status.{Status}
use Rattle.values.specs.declared.VirtualAddress.{VirtualAddress}
use Rattle.values.specs.declared.Access.{Access}
use Rattle.values.specs.declared.Answer.TheVariants as answer
use Rattle.values.specs.Counts.{missed}
use Rattle.values.proofs.Searches.{matched}
use Rattle.bus.specs.Physical.{Physical}
use Rattle.walk.specs.Walk.{walk}
use Rattle.tlb.specs.Tlb.{lookup, covers, placed, stepped}
use Rattle.tlb.specs.Packing.{entry_of, entries_of}
use Rattle.tlb.proofs.Packing.{entry_at}
use Rattle.translation.specs.Alignment.{alignment_faults}
use Rattle.translation.specs.Faults.{fault_set}
use Rattle.translation.specs.Translation.{translation, of_walk, decided, decision_from, checked}
use Rattle.translation.specs.declared.Translation.{Translation}
use Rattle.translation.specs.declared.Translation.TheVariants.{Flat, Held, Walked}
use Rattle.values.specs.declared.Status.TheVariants.{Alignment}
use Rattle.machine.specs.Lists.{Lists, machine_of, stepped_of}
use Rattle.machine.specs.Scalars.{with_counts, with_pointer, with_registers, outcome_from}
use Rattle.machine.specs.Ready.{SideReady}
use Rattle.machine.specs.declared.Scalars.{Scalars}
use Rattle.reach.specs.Reach.{committed, faulted}
use Rattle.reach.specs.Code.{Stay}
use Rattle.values.specs.Causes.{cause_from}
use Rattle.values.specs.declared.Cause.{Cause}

-- ---- which mapping serves

module _ (ws : List ℕ) (va : VirtualAddress) where
  -- the place that a lookup finds is one of the TLB's
  pub lookup_low : (i : ℕ) → length ws ≡ 32 → lookup (entries_of ws) va ≡ Some i → i < 32
  unfolding lookup
  lookup_low i n e =
      let m : length (entries_of ws) ≡ 32 = length-map ws entry_of ∙ n in
      let b : i < 0 + length (entries_of ws) = (matched (covers va) 0 (entries_of ws) empty_entry i e).below in
      omega arith

  module _ (r : Registers) (memory : Physical) where
    pub held : (i : ℕ) (e : Entry) → mmu r ≡ true → Some i ≡ lookup (entries_of ws) va → e ≡ entry_of (get_or ws i 0)
        → Ok (Held e) ≡ translation (entries_of ws) r memory va
    unfolding translation
    held i e m f g = rw (m, ← f, entry_at ws i, ← g)

    pub walked : (t : Result Translation Cause) → mmu r ≡ true → None ≡ lookup (entries_of ws) va → t ≡ of_walk (walk memory r.base va)
        → t ≡ translation (entries_of ws) r memory va
    unfolding translation
    walked t m f g = rw (m, ← f) g

    pub not_mapped : mmu r ≡ false → Ok Flat ≡ translation (entries_of ws) r memory va
    unfolding translation
    not_mapped m = rw m

-- ---- what is decided

module _ (r : Registers) (a : Access) (t : Result Translation Cause) where
  pub decided_unaligned : alignment_faults r a ≡ true → decided r a t ≡ decision_from (Ok Flat) (Err (cause_from Alignment 0))
  unfolding decided
  decided_unaligned h = rw h

  pub decided_by_lem : alignment_faults r a ≡ false → decided r a t ≡ decision_from t (checked r a t)
  unfolding decided
  decided_by_lem h = rw h

-- ---- the change of TLB and misses

module _ (l : Lists) (es : List ℕ) (s : Scalars) (n : ℕ) where
  pub commit_flat : machine_of l es s n ≡ committed (machine_of l es s n) (Ok Flat)
  unfolding committed
  commit_flat = refl

  pub commit_held : (e : Entry) → machine_of l es s n ≡ committed (machine_of l es s n) (Ok (Held e))
  unfolding committed
  commit_held e = refl

  pub commit_failed : (why : Cause) (r : Scalars) → r ≡ with_counts s (missed s.counts)
      → machine_of l es r n ≡ committed (machine_of l es s n) (Err why)
  unfolding committed
  commit_failed why r h = rw h

  pub commit_walked : (e : Entry) (fs : List ℕ) (p : ℕ) (q r : Scalars) → entries_of fs ≡ placed (entries_of es) s.cp15.pointer e
      → p ≡ stepped s.cp15.pointer → q ≡ with_pointer s p → r ≡ with_counts q (missed q.counts)
      → machine_of l fs r n ≡ committed (machine_of l es s n) (Ok (Walked e))
  unfolding committed
  commit_walked e fs p q r f g h k = rw (k, h, g, f)

pub stay : (s : Scalars) → Stay s s
stay s = record { used = refl; hits = refl; fills = refl; halves = refl }

pub stay_missed : (s r : Scalars) → r ≡ with_counts s (missed s.counts) → Stay r s
stay_missed s r h = record { used = rw h; hits = rw h; fills = rw h; halves = rw h }

pub stay_walked : (s q r : Scalars) (p : ℕ) → q ≡ with_pointer s p → r ≡ with_counts q (missed q.counts) → Stay r s
stay_walked s q r p h k = record { used = rw (k, h); hits = rw (k, h); fills = rw (k, h); halves = rw (k, h) }

-- what an access asks of the data side still holds after the change
pub ready_kept : (r s : Scalars) (l : Lists) → Stay r s → SideReady l s → SideReady l r
ready_kept r s l x k =
    record {
      fits = rw x.used k.fits;
      lines_long = k.lines_long;
      pointers_long = k.pointers_long;
      store_long = k.store_long;
      whole = k.whole;
      short = k.short;
      pointers_low = k.pointers_low;
      lines_inside = k.lines_inside;
      lines_dirty = k.lines_dirty;
      hits = rw x.hits k.hits;
      fills = rw x.fills k.fills;
      halves = λ i h. rw x.halves (k.halves i h);
    }

-- ---- faults

pub faulted_left : (l : Lists) (es : List ℕ) (s : Scalars) (n : ℕ) (t : Status) (d : ℕ) (va : VirtualAddress) (r : Registers) (q : Scalars)
    → r ≡ fault_set s.cp15.registers (record { status = t; domain = d; address = va }) → q ≡ with_registers s r
    → stepped_of l es n (outcome_from q (answer.Fault (record { status = t; domain = d; address = va }))) ≡ faulted (machine_of l es s n) t d va
unfolding faulted
faulted_left l es s n t d va r q e f = rw (f, e)
