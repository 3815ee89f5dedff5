-- "Translation, with M set (001, figures 2-1, 2-2)": "the walk reads memory only, never cache or buffer".
use Rattle.std.specs.Prelude.{ℕ, ◌+◌, ◌*◌, ◌/◌, ◌%◌, true, cond, eqb, Option, Some, None, Result, Ok, Err}
use Rattle.values.specs.Bits.{bit}
use Rattle.values.specs.declared.VirtualAddress.{VirtualAddress}
use Rattle.values.specs.declared.PhysicalAddress.{PhysicalAddress}
use Rattle.values.specs.declared.Entry.{Entry}
use Rattle.values.specs.declared.Status.TheVariants.{WalkFirst, WalkSecond, TranslationSection, TranslationPage}
use Rattle.bus.specs.Physical.{Physical}
use Rattle.bus.specs.Reader.{descriptor_at}
use Rattle.values.specs.declared.Cause.{Cause}
use Rattle.values.specs.Causes.{cause_from}

-- "Level 1 word: table base plus four times VA[31:20]."
abbrev pub first_address : ℕ → VirtualAddress → PhysicalAddress
first_address base va = record { 0 = base + 4 * (va.0 / 0x100000) }

-- "01 second-level table at [31:10]", "Level 2 word: table plus four times VA[19:12]"
abbrev pub second_address : ℕ → VirtualAddress → PhysicalAddress
second_address w va = record { 0 = w / 0x400 * 0x400 + 4 * (va.0 / 0x1000 % 0x100) }

-- "domain [8:5]"
abbrev pub domain_of : ℕ → ℕ
domain_of w = w / 32 % 16

-- "10 section, base [31:20], AP [11:10], domain [8:5], C bit 3, B bit 2"; "a section's AP four times"
abbrev pub section_entry : ℕ → VirtualAddress → Entry
section_entry w va =
    record {
      valid = true;
      size = 0;
      vbase = va.0 / 0x100000 * 0x100000;
      pbase = w / 0x100000 * 0x100000;
      domain = domain_of w;
      aps = w / 0x400 % 4 * 0x55;
      cacheable = bit w 3;
      bufferable = bit w 2;
    }

-- "01 large page, base [31:16]"; "AP0 to AP3 from bit 4 upward, C and B as above"; the domain is the level 1 word's
abbrev pub large_entry : ℕ → ℕ → VirtualAddress → Entry
large_entry domain w va =
    record {
      valid = true;
      size = 1;
      vbase = va.0 / 0x10000 * 0x10000;
      pbase = w / 0x10000 * 0x10000;
      domain = domain;
      aps = w / 0x10 % 0x100;
      cacheable = bit w 3;
      bufferable = bit w 2;
    }

-- "10 small page, base [31:12]"
abbrev pub small_entry : ℕ → ℕ → VirtualAddress → Entry
small_entry domain w va =
    record {
      valid = true;
      size = 2;
      vbase = va.0 / 0x1000 * 0x1000;
      pbase = w / 0x1000 * 0x1000;
      domain = domain;
      aps = w / 0x10 % 0x100;
      cacheable = bit w 3;
      bufferable = bit w 2;
    }

-- the level 2 word: 01 large page, 10 small page, "00 and 11 fault"; "walk outside memory ... 14 (level 2); translation ... 7"
unfoldable pub second : ℕ → VirtualAddress → Option ℕ → Result Entry Cause
second domain va None = Err (cause_from WalkSecond domain)
second domain va (Some w) =
    cond (eqb (w % 4) 1) (Ok (large_entry domain w va))
    (cond (eqb (w % 4) 2) (Ok (small_entry domain w va))
    (Err (cause_from TranslationPage domain)))

-- the level 1 word: 01 second-level table, 10 section, "00 and 11 translation fault"; "Domain is 0 for 1, 12, 5"
unfoldable pub first : Physical → VirtualAddress → Option ℕ → Result Entry Cause
first memory va None = Err (cause_from WalkFirst 0)
first memory va (Some w) =
    cond (eqb (w % 4) 1) (second (domain_of w) va (descriptor_at memory (second_address w va)))
    (cond (eqb (w % 4) 2) (Ok (section_entry w va))
    (Err (cause_from TranslationSection 0)))

-- the walk of memory for a virtual address, by the table base
unfoldable pub walk : Physical → ℕ → VirtualAddress → Result Entry Cause
walk memory base va = first memory va (descriptor_at memory (first_address base va))
