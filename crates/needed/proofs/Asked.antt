-- The rules can be kept where each of them asks something: by computation.
use mathlib.Core.Path.{refl}
use Rattle.marked.proofs.Computing.{computing, computing_plainly}
use Rattle.needed.specs.Asked.{Asked}
use Rattle.needed.proofs.Computing.{computing_positions}
use Rattle.needed.proofs.Hypotheses.{run_under}

pub asked : Asked
unfolding computing computing_plainly computing_positions
asked =
    record {
      run = run_under refl refl refl refl;
      settled = refl;
      answered = refl;
      asks_r2 = refl;
      asks_r3_line = refl;
      asks_r3_whole = refl;
      asks_r4_lem = refl;
      asks_r5_lem = refl;
      asks_r6 = refl;
    }
