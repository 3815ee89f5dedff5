-- What the code of alignment, translation and rights gives, what a change of the TLB leaves as it was, and what an access that misses the Dcache asks.
use Rattle.std.specs.Prelude.{ℕ, ◌%◌, true, List, ◌≡◌, length}
use Rattle.values.specs.declared.Access.{Access}
use Rattle.translation.specs.Alignment.{cleared}
use Rattle.translation.specs.Ranges.{Ranged, PlaceRanged, CheckedRanged}
use Rattle.translation.specs.declared.Decision.{Decision}
use Rattle.translation.specs.declared.Place.{Place}
use Rattle.words.specs.Words.{is_width}
use Rattle.buffer.specs.Ranges.{Fits}
use Rattle.machine.specs.declared.Scalars.{Scalars}

-- a decision is this one, and in range
pub record DecisionIs (a : Access) (d e : Decision) : Type 0 where
  pub same : d ≡ e
  pub ranged : Ranged d.mapping
  pub checked_ranged : CheckedRanged (cleared a) d.checked

-- the number of buffer entries, the hits, fills and halves stay
pub record Stay (r s : Scalars) : Type 0 where
  pub used : r.used ≡ s.used
  pub hits : r.counts.hits ≡ s.counts.hits
  pub fills : r.counts.fills ≡ s.counts.fills
  pub halves : r.counts.halves ≡ s.counts.halves

-- an access that misses the Dcache: memory and buffer fit, and its place is in range
pub record MissReady (memory words : List ℕ) (bytes : List (List ℕ)) (used : ℕ) (a : Access) (p : Place) : Type 0 where
  pub fits : Fits memory words bytes used
  pub whole : length memory % 32 ≡ 0
  pub width : is_width a.width ≡ true
  pub place : PlaceRanged (cleared a) p
