-- A TLB entry as one number of 64 bits, every bit of which belongs to a field: bit 0 valid, 1 C, 2 B, 3 to 7 size, 8 to 15 domain, 16 to 23 AP0
-- to AP3, 24 to 43 the physical base and 44 to 63 the virtual base, both divided by 4096. 0 is the empty entry.
use Rattle.std.specs.Prelude.{ℕ, ◌+◌, ◌*◌, ◌/◌, ◌%◌, List, map}
use Rattle.values.specs.Bits.{bit, number}
use Rattle.values.specs.declared.Entry.{Entry}

unfoldable pub entry_of : ℕ → Entry
entry_of w =
    record {
      valid = bit w 0;
      size = w / 8 % 32;
      vbase = w / 0x100000000000 * 0x1000;
      pbase = w / 0x1000000 % 0x100000 * 0x1000;
      domain = w / 0x100 % 0x100;
      aps = w / 0x10000 % 0x100;
      cacheable = bit w 1;
      bufferable = bit w 2;
    }

unfoldable pub word_of : Entry → ℕ
word_of e =
    number e.valid + 2 * (number e.cacheable + 2 * (number e.bufferable + 2 * (e.size + 32 * (e.domain + 0x100 * (e.aps
    + 0x100 * (e.pbase / 0x1000 + 0x100000 * (e.vbase / 0x1000)))))))

-- the entries that words stand for
abbrev pub entries_of : List ℕ → List Entry
entries_of words = map entry_of words
