-- What the tests of the registers and of the counts mean.
use Prim.Native.Nat.{◌+◌, ◌*◌, ◌/◌, ◌<◌, ◌≤◌}
use mathlib.Core.Bool.{true, ◌&&◌}
use mathlib.Core.Path.{◌≡◌}
use mathlib.Core.List.{List}
use lib.Dec.{eqb, ltb, leb}
use borrow.Author.Tests.{eqb-true, eq-eqb, lt-ltb, le-leb, ltb-true, leb-true}
use Rattle.values.specs.Control.{kept, listed}
use Rattle.values.specs.Lists.{sum}
use Rattle.values.specs.declared.Registers.{Registers}
use Rattle.values.specs.declared.Counts.{Counts}
use Rattle.values.specs.declared.Line.{Line}
use Rattle.values.proofs.Cases.{and_left, and_right}
use Rattle.cache.specs.Dcache.{dirty_halves}
use Rattle.soundness.specs.Soundness.{registers_sound, counts_sound}
use Rattle.soundness_laws.proofs.Elements.{seven}

-- ---- the registers

pub record RegistersAre (r : Registers) : Type 0 where
  pub control : kept r.control ≡ r.control
  pub combination : listed r.control ≡ true
  pub base : r.base / 0x4000 * 0x4000 ≡ r.base
  pub base_low : r.base < 0x100000000
  pub domains : r.domains < 0x100000000
  pub fsr : r.fsr < 256
  pub far : r.far < 0x100000000

pub registers_mean : (r : Registers) → registers_sound r ≡ true → RegistersAre r
unfolding registers_sound
registers_mean r h =
    let s =
    seven
    (eqb (kept r.control) r.control)
    (listed r.control)
    (eqb (r.base / 0x4000 * 0x4000) r.base)
    (ltb r.base 0x100000000)
    (ltb r.domains 0x100000000)
    (ltb r.fsr 256)
    (ltb r.far 0x100000000)
    h in
    record {
      control = eqb-true (kept r.control) r.control s.first;
      combination = s.second;
      base = eqb-true (r.base / 0x4000 * 0x4000) r.base s.third;
      base_low = ltb-true r.base 0x100000000 s.fourth;
      domains = ltb-true r.domains 0x100000000 s.fifth;
      fsr = ltb-true r.fsr 256 s.sixth;
      far = ltb-true r.far 0x100000000 s.seventh;
    }

pub registers_of : (r : Registers) → RegistersAre r → registers_sound r ≡ true
unfolding registers_sound
registers_of r h =
    rw (
      eq-eqb (kept r.control) r.control h.control,
      h.combination,
      eq-eqb (r.base / 0x4000 * 0x4000) r.base h.base,
      lt-ltb r.base 0x100000000 h.base_low,
      lt-ltb r.domains 0x100000000 h.domains,
      lt-ltb r.fsr 256 h.fsr,
      lt-ltb r.far 0x100000000 h.far,
    )

-- ---- the counts

pub record CountsAre (c : Counts) (lines : List Line) : Type 0 where
  pub misses : c.misses ≤ c.calls
  pub hits : c.hits ≤ c.calls
  pub fills : c.fills ≤ c.calls
  pub halves : c.halves + sum dirty_halves lines ≤ c.calls

pub counts_mean : (c : Counts) (lines : List Line) → counts_sound c lines ≡ true → CountsAre c lines
unfolding counts_sound
counts_mean c lines h =
    let x = leb c.misses c.calls in
    let y = leb c.hits c.calls in
    let z = leb c.fills c.calls in
    let w = leb (c.halves + sum dirty_halves lines) c.calls in
    let h1 = and_right x (y && (z && w)) h in
    let h2 = and_right y (z && w) h1 in
    record {
      misses = leb-true c.misses c.calls (and_left x (y && (z && w)) h);
      hits = leb-true c.hits c.calls (and_left y (z && w) h1);
      fills = leb-true c.fills c.calls (and_left z w h2);
      halves = leb-true (c.halves + sum dirty_halves lines) c.calls (and_right z w h2);
    }

pub counts_of : (c : Counts) (lines : List Line) → CountsAre c lines → counts_sound c lines ≡ true
unfolding counts_sound
counts_of c lines r =
    rw (
      le-leb c.misses c.calls r.misses,
      le-leb c.hits c.calls r.hits,
      le-leb c.fills c.calls r.fills,
      le-leb (c.halves + sum dirty_halves lines) c.calls r.halves,
    )
