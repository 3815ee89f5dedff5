-- The rules can be kept: by computation.
use mathlib.Core.Path.{refl}
use Rattle.marked.proofs.Computing.{computing, computing_plainly}
use Rattle.needed.specs.Witness.{Witness}
use Rattle.needed.proofs.Computing.{computing_positions}
use Rattle.needed.proofs.Hypotheses.{run_under}

pub witness : Witness
unfolding computing computing_plainly computing_positions
witness =
    record {
      run = run_under refl refl refl refl;
      settled = refl;
      answered = refl;
      misses = refl;
      hits = refl;
      fills = refl;
      halves = refl;
      clean_line_lem = refl;
      dirty_line = refl;
      old_word = refl;
      cleaned_line_lem = refl;
      new_word = refl;
    }
