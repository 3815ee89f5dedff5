-- M1 to M12 of the plain machine: each by computation, and the table of them.
use mathlib.Core.Path.{refl}
use Rattle.marked.proofs.Computing.{computing, computing_plainly}
use Rattle.marked.specs.MarkedCases.{M1, M2, M3, M4Set, M4Clear, M6, M7, M8, M9, M9Domain, M10, M11, M12}
use Rattle.marked_plain.specs.PlainCases.{plain_run, plain_run_with, PlainMarkedCases}

m1 : M1 plain_run
unfolding computing computing_plainly
m1 = refl

m2 : M2 plain_run
unfolding computing computing_plainly
m2 = refl

m3 : M3 plain_run
unfolding computing computing_plainly
m3 = refl

m4_set : M4Set plain_run_with
unfolding computing computing_plainly
m4_set = refl

m4_clear : M4Clear plain_run_with
unfolding computing computing_plainly
m4_clear = refl

m6 : M6 plain_run_with
unfolding computing computing_plainly
m6 = refl

m7 : M7 plain_run_with
unfolding computing computing_plainly
m7 = refl

m8 : M8 plain_run_with
unfolding computing computing_plainly
m8 = refl

m9 : M9 plain_run_with
unfolding computing computing_plainly
m9 = refl

m9_domain : M9Domain plain_run_with
unfolding computing computing_plainly
m9_domain = refl

m10 : M10 plain_run_with
unfolding computing computing_plainly
m10 = refl

m11 : M11 plain_run
unfolding computing computing_plainly
m11 = refl

m12 : M12 plain_run_with
unfolding computing computing_plainly
m12 = refl

pub plain_marked_cases : PlainMarkedCases
plain_marked_cases =
    record {
      m1 = m1;
      m2 = m2;
      m3 = m3;
      m4_set = m4_set;
      m4_clear = m4_clear;
      m6 = m6;
      m7 = m7;
      m8 = m8;
      m9 = m9;
      m9_domain = m9_domain;
      m10 = m10;
      m11 = m11;
      m12 = m12;
    }
