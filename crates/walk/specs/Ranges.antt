-- The ranges of what a walk finds, which a sound TLB has too. The code asks them of an entry.
use Rattle.std.specs.Prelude.{◌<◌, ◌%◌, ◌≡◌, Result, Ok, Err}
use Rattle.values.specs.declared.Entry.{Entry}
use Rattle.values.specs.declared.Cause.{Cause}

-- the ranges of an entry
pub record InRange (e : Entry) : Type 0 where
  pub size : e.size < 3
  pub domain : e.domain < 16
  pub aps : e.aps < 256
  pub vbase : e.vbase % 0x1000 ≡ 0
  pub vbase_low : e.vbase < 0x100000000
  pub pbase : e.pbase % 0x1000 ≡ 0
  pub pbase_low : e.pbase < 0x100000000
  pub section : e.size ≡ 0 → e.pbase % 0x100000 ≡ 0
  pub large : e.size ≡ 1 → e.pbase % 0x10000 ≡ 0

-- what a walk finds: a mapping in range, or a fault with a domain in range
abbrev pub Ranged : Result Entry Cause → Type 0
Ranged (Ok e) = InRange e
Ranged (Err why) = why.domain < 16

-- a mapping is this one, and in range
pub record Is (r m : Result Entry Cause) : Type 0 where
  pub same : r ≡ m
  pub ranged : Ranged r
