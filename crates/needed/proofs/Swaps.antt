-- A run with swaps, and what the rules must ask of a swap: by computation.
use mathlib.Core.Path.{refl}
use Rattle.marked.proofs.Computing.{computing, computing_plainly}
use Rattle.needed.specs.Swaps.{SwapWitness, SwapsNeeded}
use Rattle.needed.proofs.Computing.{computing_positions}
use Rattle.needed.proofs.Hypotheses.{run_under}
use Rattle.needed.proofs.Rows.{answers_differ, bytes_differ}

pub swap_witness : SwapWitness
unfolding computing computing_plainly computing_positions
swap_witness =
    record {
      run = run_under refl refl refl refl;
      settled = refl;
      answered = refl;
      waiting = refl;
      drained = refl;
      not_filled = refl;
      written = refl;
      one_hit = refl;
      memory_kept = refl;
      waiting_again = refl;
      still_waiting = refl;
      halves = refl;
      at_end = refl;
    }

pub swaps_needed : SwapsNeeded
unfolding computing computing_plainly computing_positions
swaps_needed =
    record {
      reaches =
          (record { run = run_under refl refl refl refl; broken = refl; library_last = refl; plain_last = refl; differ = answers_differ refl }, (refl, refl));
      stores_line_lem =
          (record { run = run_under refl refl refl refl; broken = refl; library_last = refl; plain_last = refl; differ = answers_differ refl }, (refl, refl));
      stores_word_lem =
          (record { run = run_under refl refl refl refl; broken = refl; library_last = refl; plain_last = refl; differ = answers_differ refl }, (refl, refl));
      stores_at_end = (
        record {
          run = run_under refl refl refl refl;
          settled_but_lem = refl;
          broken = refl;
          same_answers = refl;
          library_has = refl;
          plain_has = refl;
          differ = bytes_differ refl;
        },
        (refl, refl),
      );
    }
