-- All of a machine's soundness but the counts, with its shape: what each step of a call keeps.
use Prim.Native.Nat.{ℕ, ◌%◌, ◌≤◌}
use native.Mathlib.Omega.{arith}
use mathlib.Core.Bool.{true}
use mathlib.Core.Path.{◌≡◌, refl, ◌∙◌, ap}
use lib.ListN.{length}
use Rattle.buffer.proofs.Lengths.{BufferShape}
use Rattle.machine.specs.Machine.{Machine, memory_of}
use Rattle.soundness.specs.Soundness.{sound}
use Rattle.soundness_test.specs.Meaning.{lines_of, IsSound}
use Rattle.soundness_test.specs.Formed.{Formed}
use Rattle.soundness_laws.proofs.ScalarParts.{RegistersAre, CountsAre}
use Rattle.soundness_laws.proofs.Reader.{parts_mean, parts_of, sound_means, sound_of}
use Rattle.soundness_laws.proofs.BackingKept.{place_bytes, backing_of_lem, backing_sound}
use Rattle.soundness_laws.proofs.CacheKept.{SideIs}
use Rattle.soundness_laws.proofs.TlbKept.{EntriesAre}
use Rattle.soundness_laws.proofs.CountsKept.{Room}

-- with a memory of n bytes, and so many at the start
pub record Holding (n start : ℕ) (m : Machine) : Type 0 where
  pub size : m.size ≡ start
  pub pointer : m.cp15.pointer ≤ 31
  pub registers : RegistersAre m.cp15.registers
  pub entries_long : length m.entries ≡ 32
  pub entries : EntriesAre m.entries
  pub side : SideIs n m.side
  pub memory_lines : n % 32 ≡ 0
  pub memory_short : n ≤ 0x1000000

pub holding_of : (m : Machine) → Formed m → sound m ≡ true → Holding (length (memory_of m)) m.size m
holding_of m f s =
    let n = length (memory_of m) in
    let p = parts_mean m f.lines_long s in
    let shape : BufferShape m.side.backing.buffer = record { places = f.slots_long; low = p.buffer.used; sixteen = f.slot_long } in
    record {
      size = refl;
      pointer = p.pointer;
      registers = p.registers;
      entries_long = f.entries_long;
      entries = p.entries;
      side = record {
        cache = record {
          shape = record { lines_long = f.lines_long; pointers_long = f.pointers_long; store_long = f.store_long };
          store_bytes = f.store_bytes;
          lines = p.lines;
          apart = p.tags;
          pointers = p.pointers;
        };
        backing = backing_of_lem n m.side.backing refl f.memory_bytes shape f.slot_bytes p.buffer;
      };
      memory_lines = f.memory_lines;
      memory_short = f.memory_short;
    }

module _ (n start : ℕ) (m : Machine) (h : Holding n start m) where
  memory_is : length (memory_of m) ≡ n
  memory_is = h.side.backing.memory_long

  pub holding_formed : Formed m
  holding_formed =
      let c = h.side.cache in
      let b = h.side.backing in
      record {
        entries_long = h.entries_long;
        lines_long = c.shape.lines_long;
        pointers_long = c.shape.pointers_long;
        store_long = c.shape.store_long;
        store_bytes = c.store_bytes;
        slots_long = b.shape.places;
        slot_long = b.shape.sixteen;
        slot_bytes = place_bytes n m.side.backing b;
        memory_lines = ap (λ (k : ℕ). k % 32) memory_is ∙ h.memory_lines;
        memory_short = (let e = memory_is in let l = h.memory_short in omega arith);
        memory_bytes = b.memory_bytes;
      }

  pub holding_sound : CountsAre m.counts (lines_of m) → sound m ≡ true
  holding_sound k =
      let c = h.side.cache in
      parts_of m c.shape.lines_long
      (record {
        pointer = h.pointer;
        pointers = c.pointers;
        tags = c.apart;
        lines = rw memory_is c.lines;
        buffer = rw memory_is (backing_sound n m.side.backing h.side.backing);
        entries = h.entries;
        registers = h.registers;
        counts = k;
      })

-- ---- what a call keeps

-- a machine that a sound one of its shape, memory's length and size becomes
pub record Kept (before after : Machine) : Type 0 where
  pub formed : Formed after
  pub sound : IsSound after
  pub memory : length (memory_of after) ≡ length (memory_of before)
  pub size : after.size ≡ before.size

-- a sound machine whose counts have room for what a call counts besides itself
pub record Roomy (m : Machine) : Type 0 where
  pub formed : Formed m
  pub sound : IsSound m
  pub room : Room 1 m.counts (lines_of m)

pub roomy_holding : (m : Machine) → Roomy m → Holding (length (memory_of m)) m.size m
roomy_holding m r = holding_of m r.formed (sound_of m r.formed.lines_long r.sound)

pub holding_kept : (m a : Machine) → Holding (length (memory_of m)) m.size a → CountsAre a.counts (lines_of a) → Kept m a
holding_kept m a h k =
    let f = holding_formed (length (memory_of m)) m.size a h in
    record {
      formed = f;
      sound = sound_means a f.lines_long (holding_sound (length (memory_of m)) m.size a h k);
      memory = h.side.backing.memory_long;
      size = h.size;
    }
