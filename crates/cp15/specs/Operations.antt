-- The operations of registers 7 and 8 on the library's machine.
use Rattle.std.specs.Prelude.{ℕ, Bool, cond, ◌&&◌, ◌||◌, eqb}
use Rattle.values.specs.declared.VirtualAddress.{VirtualAddress}
use Rattle.values.specs.declared.Transfer.{Transfer}
use Rattle.tlb.specs.Tlb.{flushed, dropped}
use Rattle.cache.specs.Dcache.{cleaned, line_flushed, all_flushed}
use Rattle.values.specs.Counts.{sent}
use Rattle.machine.specs.Machine.{Machine, with_registers, with_side, with_cache, with_entries, with_counts, drained_all, Stepped, stepped_from, answers_zero}
use Rattle.values.specs.declared.Answer.TheVariants as answer
use Rattle.registers.specs.Pairs.{is_pair}
use Rattle.registers.specs.Registers.{read_of, written_of}

-- which operation a served write of register 7 or 8 asks for
module _ (t : Transfer) where
  -- "(0,7) and (0,6) flush the Dcache"
  abbrev pub flushes_dcache : Bool
  flushes_dcache = eqb t.register 7 && (is_pair t 0 7 || is_pair t 0 6)

  -- "(1,6) flushes the line of the virtual address written"
  abbrev pub flushes_line : Bool
  flushes_line = eqb t.register 7 && is_pair t 1 6

  -- "(1,10) cleans it"
  abbrev pub cleans_line : Bool
  cleans_line = eqb t.register 7 && is_pair t 1 10

  -- "(4,10) drains the buffer"
  abbrev pub drains : Bool
  drains = eqb t.register 7 && is_pair t 4 10

  -- "Register 8: (0,7) and (0,6) flush the TLB"
  abbrev pub flushes_tlb : Bool
  flushes_tlb = eqb t.register 8 && (is_pair t 0 7 || is_pair t 0 6)

  -- "(1,6) drops every entry covering the address"
  abbrev pub drops_entries : Bool
  drops_entries = eqb t.register 8 && is_pair t 1 6

-- the halves that a clean sends out are counted
abbrev pub cleaned_line : Machine → VirtualAddress → Machine
cleaned_line m va = let s = cleaned m.side va in with_counts (with_side m s.side) (sent m.counts s.halves)

-- the machine after the operation, of which the value written is the virtual address; "(0,5) does nothing"
unfoldable pub operated : Machine → Transfer → VirtualAddress → Machine
operated m t va =
    cond (flushes_dcache t) (with_cache m (all_flushed m.side.cache))
    (cond (flushes_line t) (with_cache m (line_flushed m.side.cache va))
    (cond (cleans_line t) (cleaned_line m va)
    (cond (drains t) (drained_all m)
    (cond (flushes_tlb t) (with_entries m flushed)
    (cond (drops_entries t) (with_entries m (dropped m.entries va))
    m)))))

-- a CP15 read, and a CP15 write, that are served; a write answers 0
unfoldable pub read : Machine → Transfer → Stepped
read m t = stepped_from m (answer.Value (read_of m.cp15.registers t.register))

unfoldable pub write : Machine → Transfer → ℕ → Stepped
write m t v = answers_zero (with_registers (operated m t (record { 0 = v })) (written_of m.cp15.registers t.register v))
