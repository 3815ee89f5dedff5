-- The part of an entry's word that says what the entry covers, and the parts that cover an address.
use Rattle.std.specs.Prelude.{ℕ, ◌+◌, ◌*◌, ◌/◌, ◌%◌}
use Rattle.values.specs.declared.VirtualAddress.{VirtualAddress}
use Rattle.tlb.specs.declared.Keys.{Keys}

-- bit 0 valid, 3 to 7 size, 44 to 63 the virtual base
abbrev pub key_of : ℕ → ℕ
key_of w = w / 0x100000000000 * 0x100000000000 + w / 8 % 32 * 8 + w % 2

-- those of a valid section, large page and small page
unfoldable pub keys_of : VirtualAddress → Keys
keys_of va =
    record {
      section = va.0 / 0x1000 / 0x100 * 0x10000000000000 + 1;
      large = va.0 / 0x1000 / 0x10 * 0x1000000000000 + 9;
      small = va.0 / 0x1000 * 0x100000000000 + 17;
    }
