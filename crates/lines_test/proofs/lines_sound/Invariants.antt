use Prim.Native.Nat.{◌≤◌}
use lib.Dec.{eqb, ltb}
use Rattle.soundness.proofs.Lines.{fits, inside, odd, Joined}
use Rattle.lines_test.proofs.lines_sound.Given as goal

abbrev pub invariant-loop-word : goal.invariant-loop-word
invariant-loop-word l = (l.valid ≤ 1) × Joined fits l.lines l.word-index (ltb l.tags 0x80000000000000) ×
    Joined (inside l.spare) l.lines l.word-index (ltb l.ends 0x100000000) × Joined odd l.lines l.word-index (eqb l.valid 1)
