use Rattle.std.proofs.Common.{◌≡◌, ◌-◌, ◌*◌, ◌%◌, ◌≤◌, true, length, drop}
use Rattle.cache.specs.Packing.{lines_of}
use Rattle.soundness.specs.Soundness.{tags_sound}
use Rattle.soundness.proofs.Keys.{Alone}
use Rattle.tags_test.proofs.tags_sound.Given as goal

abbrev pub invariant-loop-p : goal.invariant-loop-p
invariant-loop-p l = (l.sound ≡ true) × (l.p ≤ 32) × (l.p % 8 ≡ 0) × (length l.keys ≡ 64) × Alone l.keys 0 l.p

abbrev pub invariant-sets : goal.invariant-sets
invariant-sets l = (l.sound ≡ true) × (tags_sound (16 - l.s) (drop (l.s * 32) (lines_of l.lines)) ≡ tags_sound 16 (lines_of l.lines))
