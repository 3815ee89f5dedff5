-- Each of R2 to R6 is needed, and what the end asks: each row by computation, and the table of them.
use mathlib.Core.Path.{refl}
use Rattle.marked.proofs.Computing.{computing, computing_plainly}
use Rattle.needed.specs.Needed.{
  Needed,
  R2Physical,
  R2Flat,
  R2Outside,
  R3Whole,
  R3Line,
  R3Through,
  R4Clean,
  R4Through,
  R4Drain,
  R4Flush,
  R4Order,
  R5Flush,
  R6Equal,
  R6Inside,
  R6Denied,
  EndClean,
  EndThrough,
  EndDrain,
  EndOrder,
}
use Rattle.needed.proofs.Computing.{computing_positions}
use Rattle.needed.proofs.Hypotheses.{run_under}
use Rattle.needed.proofs.Rows.{bytes_differ, answers_differ}

r2_physical : R2Physical
unfolding computing computing_plainly computing_positions
r2_physical =
    record {
      run = run_under refl refl refl refl;
      broken = refl;
      library_last = refl;
      plain_last = refl;
      differ = answers_differ refl;
    }

r2_flat : R2Flat
unfolding computing computing_plainly computing_positions
r2_flat =
    record {
      run = run_under refl refl refl refl;
      broken = refl;
      library_last = refl;
      plain_last = refl;
      differ = answers_differ refl;
    }

r2_outside : R2Outside
unfolding computing computing_plainly computing_positions
r2_outside =
    record {
      run = run_under refl refl refl refl;
      broken = refl;
      library_last = refl;
      plain_last = refl;
      differ = answers_differ refl;
    }

r3_whole : R3Whole
unfolding computing computing_plainly computing_positions
r3_whole =
    record {
      run = run_under refl refl refl refl;
      broken = refl;
      library_last = refl;
      plain_last = refl;
      differ = answers_differ refl;
    }

r3_line : R3Line
unfolding computing computing_plainly computing_positions
r3_line =
    record {
      run = run_under refl refl refl refl;
      broken = refl;
      library_last = refl;
      plain_last = refl;
      differ = answers_differ refl;
    }

r3_through : R3Through
unfolding computing computing_plainly computing_positions
r3_through =
    record {
      run = run_under refl refl refl refl;
      broken = refl;
      library_last = refl;
      plain_last = refl;
      differ = answers_differ refl;
    }

r4_clean : R4Clean
unfolding computing computing_plainly computing_positions
r4_clean =
    record {
      run = run_under refl refl refl refl;
      broken = refl;
      library_last = refl;
      plain_last = refl;
      differ = answers_differ refl;
    }

r4_through : R4Through
unfolding computing computing_plainly computing_positions
r4_through =
    record {
      run = run_under refl refl refl refl;
      broken = refl;
      library_last = refl;
      plain_last = refl;
      differ = answers_differ refl;
    }

r4_drain : R4Drain
unfolding computing computing_plainly computing_positions
r4_drain =
    record {
      run = run_under refl refl refl refl;
      broken = refl;
      library_last = refl;
      plain_last = refl;
      differ = answers_differ refl;
    }

r4_flush : R4Flush
unfolding computing computing_plainly computing_positions
r4_flush =
    record {
      run = run_under refl refl refl refl;
      broken = refl;
      library_last = refl;
      plain_last = refl;
      differ = answers_differ refl;
    }

r4_order : R4Order
unfolding computing computing_plainly computing_positions
r4_order =
    record {
      run = run_under refl refl refl refl;
      broken = refl;
      library_last = refl;
      plain_last = refl;
      differ = answers_differ refl;
    }

r5_flush : R5Flush
unfolding computing computing_plainly computing_positions
r5_flush =
    record {
      run = run_under refl refl refl refl;
      broken = refl;
      library_last = refl;
      plain_last = refl;
      differ = answers_differ refl;
    }

r6_equal : R6Equal
unfolding computing computing_plainly computing_positions
r6_equal =
    record {
      run = run_under refl refl refl refl;
      broken = refl;
      library_last = refl;
      plain_last = refl;
      differ = answers_differ refl;
    }

r6_inside : R6Inside
unfolding computing computing_plainly computing_positions
r6_inside =
    record {
      run = run_under refl refl refl refl;
      broken = refl;
      library_last = refl;
      plain_last = refl;
      differ = answers_differ refl;
    }

r6_denied : R6Denied
unfolding computing computing_plainly computing_positions
r6_denied =
    record {
      run = run_under refl refl refl refl;
      broken = refl;
      library_last = refl;
      plain_last = refl;
      differ = answers_differ refl;
    }

end_clean : EndClean
unfolding computing computing_plainly computing_positions
end_clean =
    record {
      run = run_under refl refl refl refl;
      settled_but_lem = refl;
      broken = refl;
      same_answers = refl;
      library_has = refl;
      plain_has = refl;
      differ = bytes_differ refl;
    }

end_through : EndThrough
unfolding computing computing_plainly computing_positions
end_through =
    record {
      run = run_under refl refl refl refl;
      settled_but_lem = refl;
      broken = refl;
      same_answers = refl;
      library_has = refl;
      plain_has = refl;
      differ = bytes_differ refl;
    }

end_drain : EndDrain
unfolding computing computing_plainly computing_positions
end_drain =
    record {
      run = run_under refl refl refl refl;
      settled_but_lem = refl;
      broken = refl;
      same_answers = refl;
      library_has = refl;
      plain_has = refl;
      differ = bytes_differ refl;
    }

end_order : EndOrder
unfolding computing computing_plainly computing_positions
end_order =
    record {
      run = run_under refl refl refl refl;
      settled_but_lem = refl;
      broken = refl;
      same_answers = refl;
      library_has = refl;
      plain_has = refl;
      differ = bytes_differ refl;
    }

pub needed : Needed
needed =
    record {
      r2_physical = r2_physical;
      r2_flat = r2_flat;
      r2_outside = r2_outside;
      r3_whole = r3_whole;
      r3_line = r3_line;
      r3_through = r3_through;
      r4_clean = r4_clean;
      r4_through = r4_through;
      r4_drain = r4_drain;
      r4_flush = r4_flush;
      r4_order = r4_order;
      r5_flush = r5_flush;
      r6_equal = r6_equal;
      r6_inside = r6_inside;
      r6_denied = r6_denied;
      end_clean = end_clean;
      end_through = end_through;
      end_drain = end_drain;
      end_order = end_order;
    }
