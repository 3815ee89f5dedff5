-- The cases of a CP15 write's operation, and what the code of each leaves.
use Rattle.std.specs.Prelude.{Some, None}
use Prim.Native.Nat.{ℕ, ◌+◌, ◌<◌, ◌≤◌}
use native.Mathlib.Nat.{add-zero}
use mathlib.Core.Bool.{true, false, ◌||◌}
use mathlib.Core.Path.{◌≡◌, ap}
use mathlib.Core.List.{List}
use lib.ListN.{set}
use borrow.Author.Tests.{ne_eqb}
use Rattle.values.specs.Empty.{empty_line}
use Rattle.values.specs.declared.VirtualAddress.{VirtualAddress}
use Rattle.values.specs.declared.Registers.{Registers}
use Rattle.values.specs.declared.Transfer.{Transfer}
use Rattle.values.specs.declared.Answer.TheVariants as answer
use Rattle.tlb.specs.Tlb.{flushed, dropped}
use Rattle.cache.specs.Dcache.{Dcache, Side, dcache_from, find, line_flushed, flushed_at, all_flushed, cleaned, cleaned_at}
use Rattle.cache.specs.Packing.{lines_of, side_of, SentIs, HoldsLine}
use Rattle.cache.proofs.Lines.{line_at}
use Rattle.cache.proofs.Finds.{found}
use Rattle.registers.specs.Pairs.{is_pair}
use Rattle.registers.specs.Registers.{written_of}
use Rattle.values.specs.Counts.{count_limit, sent}
use Rattle.machine.specs.Machine.{Machine, with_cache, with_entries, drained_all, Stepped, answers_zero}
use Rattle.machine.specs.Machine as machines
use Rattle.machine.specs.Scalars.{with_counts, with_used, with_registers, outcome_from}
use Rattle.machine.specs.declared.Scalars.{Scalars}
use Rattle.machine.specs.Lists.{Lists, machine_of, stepped_of}
use Rattle.machine.specs.Ready.{CleanReady}
use Rattle.cp15.specs.Operations.{operated, cleaned_line, write}

-- ---- which operation a pair asks for

module _ (m : Machine) (t : Transfer) (va : VirtualAddress) where
  module _ (e : t.register ≡ 7) where
    pub seven_flush : (is_pair t 0 7 || is_pair t 0 6) ≡ true → operated m t va ≡ with_cache m (all_flushed m.side.cache)
    unfolding operated
    seven_flush f = rw (e, f)

    module _ (f : (is_pair t 0 7 || is_pair t 0 6) ≡ false) where
      pub seven_line : is_pair t 1 6 ≡ true → operated m t va ≡ with_cache m (line_flushed m.side.cache va)
      unfolding operated
      seven_line g = rw (e, f, g)

      module _ (g : is_pair t 1 6 ≡ false) where
        pub seven_clean : is_pair t 1 10 ≡ true → operated m t va ≡ cleaned_line m va
        unfolding operated
        seven_clean h = rw (e, f, g, h)

        module _ (h : is_pair t 1 10 ≡ false) where
          pub seven_drain : is_pair t 4 10 ≡ true → operated m t va ≡ drained_all m
          unfolding operated
          seven_drain i = rw (e, f, g, h, i)

          pub seven_nothing : is_pair t 4 10 ≡ false → operated m t va ≡ m
          unfolding operated
          seven_nothing i = rw (e, f, g, h, i)

  module _ (e : t.register ≡ 8) where
    pub eight_flush : (is_pair t 0 7 || is_pair t 0 6) ≡ true → operated m t va ≡ with_entries m flushed
    unfolding operated
    eight_flush f = rw (e, f)

    module _ (f : (is_pair t 0 7 || is_pair t 0 6) ≡ false) where
      pub eight_drop : is_pair t 1 6 ≡ true → operated m t va ≡ with_entries m (dropped m.entries va)
      unfolding operated
      eight_drop g = rw (e, f, g)

      pub eight_nothing : is_pair t 1 6 ≡ false → operated m t va ≡ m
      unfolding operated
      eight_nothing g = rw (e, f, g)

  pub no_operation : (t.register ≡ 7 → ⊥) → (t.register ≡ 8 → ⊥) → operated m t va ≡ m
  unfolding operated
  no_operation e f = rw (ne_eqb t.register 7 e, ne_eqb t.register 8 f)

-- ---- what the code leaves

-- the flush of one line
module _ (ws ps st : List ℕ) (va : VirtualAddress) where
  abbrev cache_of : List ℕ → Dcache
  cache_of ls = dcache_from (lines_of ls) ps st

  pub line_flushed_lem : (us : List ℕ) (i : ℕ) → find (lines_of ws) va ≡ Some i → lines_of us ≡ set (lines_of ws) i empty_line
      → cache_of us ≡ line_flushed (cache_of ws) va
  unfolding line_flushed flushed_at
  line_flushed_lem us i e f = rw (e, f)

  pub none_flushed : find (lines_of ws) va ≡ None → cache_of ws ≡ line_flushed (cache_of ws) va
  unfolding line_flushed flushed_at
  none_flushed e = rw e

-- a line that is found can be cleaned
pub can_clean : (memory words : List ℕ) (bytes : List (List ℕ)) (lines store : List ℕ) (s : Scalars) (va : VirtualAddress) (i : ℕ)
    → CleanReady memory words bytes lines store s → find (lines_of lines) va ≡ Some i → HoldsLine memory lines store i
can_clean memory words bytes lines store s va i k e =
    let f = found (lines_of lines) va i e in
    record {
      lines_long = k.lines_long;
      store_long = k.store_long;
      low = f.low;
      inside = k.lines_inside i f.low (rw (line_at lines i) at f.valid);
      short = k.short;
    }

-- the scalars with more halves sent out, and so many buffer entries
abbrev pub sent_by : Scalars → ℕ → ℕ → Scalars
sent_by s used halves = with_used (with_counts s (sent s.counts halves)) used

module _ (es : List ℕ) (s : Scalars) (n : ℕ) (l : Lists) (va : VirtualAddress) where
  abbrev side_of_lem : Side
  side_of_lem = side_of l.memory l.bad l.words l.bytes s.used l.lines l.pointers l.store

  pub clean_left : (k : Lists) (i used halves : ℕ) (r : Scalars) → find (lines_of l.lines) va ≡ Some i
      → SentIs k.memory k.bad k.words k.bytes used k.lines k.pointers k.store halves (cleaned_at side_of_lem (Some i))
      → r ≡ sent_by s used halves → machine_of k es r n ≡ cleaned_line (machine_of l es s n) va
  unfolding cleaned
  clean_left k i used halves r e f g = rw (g, f.count, e) (ap made f.side)
    where
      made : Side → Machine
      made t = machines.with_counts (machines.with_side (machine_of l es s n) t) (sent s.counts (cleaned_at side_of_lem (Some i)).halves)

  pub none_clean : find (lines_of l.lines) va ≡ None → machine_of l es s n ≡ cleaned_line (machine_of l es s n) va
  unfolding cleaned cleaned_at
  none_clean e =
      rw (e, add-zero s.counts.halves)

-- the halves of a line that is cleaned have room in their count
pub clean_room : (memory bad words : List ℕ) (bytes : List (List ℕ)) (lines store ps : List ℕ) (s : Scalars) (i halves : ℕ)
    → CleanReady memory words bytes lines store s → i < 512
    → halves ≡ (cleaned_at (side_of memory bad words bytes s.used lines ps store) (Some i)).halves → s.counts.halves + halves ≤ count_limit
unfolding cleaned_at
clean_room memory bad words bytes lines store ps s i halves k h e = rw (e, line_at lines i) (k.halves i h)

-- a write, once its operation is done
pub write_left : (es fs : List ℕ) (s u : Scalars) (n : ℕ) (l k : Lists) (t : Transfer) (v : ℕ) (r : Registers) (q : Scalars)
    → machine_of k fs u n ≡ operated (machine_of l es s n) t (record { 0 = v }) → r ≡ written_of s.cp15.registers t.register v
    → q ≡ with_registers u r → stepped_of k fs n (outcome_from q (answer.Value 0)) ≡ write (machine_of l es s n) t v
unfolding write
write_left es fs s u n l k t v r q e f g = rw (g, f) (ap made e)
  where
    made : Machine → Stepped
    made m = answers_zero (machines.with_registers m (written_of s.cp15.registers t.register v))
