-- The counts through a call: it is counted, then a miss, a hit, a fill and halves sent out keep them sound.
use Rattle.std.specs.Prelude.{Result, Ok, Err}
use Prim.Native.Nat.{ℕ, ◌+◌, ◌≤◌}
use native.Mathlib.Omega.{arith}
use mathlib.Core.Path.{◌≡◌}
use mathlib.Core.List.{List}
use Rattle.values.specs.Counts.{counted, missed, hit, filled, sent}
use Rattle.values.specs.Lists.{sum}
use Rattle.values.specs.declared.Counts.{Counts}
use Rattle.values.specs.declared.Line.{Line}
use Rattle.translation.specs.declared.Translation.{Translation}
use Rattle.translation.specs.declared.Translation.TheVariants.{Flat, Held, Walked}
use Rattle.translation.specs.Translation.{counts_after}
use Rattle.cache.specs.Dcache.{dirty_halves}
use Rattle.soundness_laws.proofs.ScalarParts.{CountsAre}
use Rattle.values.specs.declared.Cause.{Cause}

-- room for k misses more, and for a hit, a fill and a dirty half more
pub record Room (k : ℕ) (c : Counts) (lines : List Line) : Type 0 where
  pub misses : c.misses + k ≤ c.calls
  pub hits : c.hits + 1 ≤ c.calls
  pub fills : c.fills + 1 ≤ c.calls
  pub halves : c.halves + sum dirty_halves lines + 1 ≤ c.calls

module _ (c : Counts) (lines : List Line) where
  -- a call counted makes room
  pub counted_room : CountsAre c lines → Room 1 (counted c) lines
  counted_room a =
      let x = a.misses in
      let y = a.hits in
      let z = a.fills in
      let w = a.halves in
      record { misses = omega arith; hits = omega arith; fills = omega arith; halves = omega arith }

  -- a translation takes the room for a miss, counted or not
  idle_room : Room 1 c lines → Room 0 c lines
  idle_room r = record { misses = (let x = r.misses in omega arith); hits = r.hits; fills = r.fills; halves = r.halves }

  missed_room : Room 1 c lines → Room 0 (missed c) lines
  missed_room r = record { misses = (let x = r.misses in omega arith); hits = r.hits; fills = r.fills; halves = r.halves }

  pub after_room : (t : Result Translation Cause) → Room 1 c lines → Room 0 (counts_after c t) lines
  after_room (Ok Flat) r = idle_room r
  after_room (Ok (Held e)) r = idle_room r
  after_room (Ok (Walked e)) r = missed_room r
  after_room (Err why) r = missed_room r

  -- counts with room are sound
  pub room_are : (k : ℕ) → Room k c lines → CountsAre c lines
  room_are k r =
      let x = r.misses in
      let y = r.hits in
      let z = r.fills in
      let w = r.halves in
      record { misses = omega arith; hits = omega arith; fills = omega arith; halves = omega arith }

  -- the lines become `after`
  module _ (after : List Line) where
    -- a hit makes at most one half dirty
    pub hit_are : sum dirty_halves after ≤ sum dirty_halves lines + 1 → Room 0 c lines → CountsAre (hit c) after
    hit_are d r =
        let a = room_are 0 r in
        let w = r.halves in
        record { misses = a.misses; hits = r.hits; fills = a.fills; halves = omega arith }

    -- halves sent out are dirty no more
    module _ (n : ℕ) (d : n + sum dirty_halves after ≡ sum dirty_halves lines) where
      pub sent_are : CountsAre c lines → CountsAre (sent c n) after
      sent_are a = record { misses = a.misses; hits = a.hits; fills = a.fills; halves = (let w = a.halves in omega arith) }

      pub filled_are : Room 0 c lines → CountsAre (sent (filled c) n) after
      filled_are r =
          let a = room_are 0 r in
          record { misses = a.misses; hits = a.hits; fills = r.fills; halves = (let w = a.halves in omega arith) }

    -- lines flushed make no half dirty
    pub flushed_are : sum dirty_halves after ≤ sum dirty_halves lines → CountsAre c lines → CountsAre c after
    flushed_are d a = record { misses = a.misses; hits = a.hits; fills = a.fills; halves = (let w = a.halves in omega arith) }
