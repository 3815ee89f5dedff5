-- M1 to M12 of document 01, of the definitions: each by computation, and the table of them.
use mathlib.Core.Path.{refl}
use Rattle.marked.proofs.Computing.{computing}
use Rattle.marked.specs.MarkedCases.{
  run,
  run_with,
  MarkedCases,
  M1,
  M2,
  M3,
  M4Set,
  M4Clear,
  M5Set,
  M5Tag,
  M6Word,
  M6,
  M7,
  M8Word,
  M8,
  M9,
  M9Domain,
  M10,
  M11,
  M12,
}

m1 : M1 run
unfolding computing
m1 = refl

m2 : M2 run
unfolding computing
m2 = refl

m3 : M3 run
unfolding computing
m3 = refl

m4_set : M4Set run_with
unfolding computing
m4_set = refl

m4_clear : M4Clear run_with
unfolding computing
m4_clear = refl

m5_set : M5Set
unfolding computing
m5_set = refl

m5_tag : M5Tag
unfolding computing
m5_tag = refl

m6_word : M6Word
unfolding computing
m6_word = refl

m6 : M6 run_with
unfolding computing
m6 = refl

m7 : M7 run_with
unfolding computing
m7 = refl

m8_word : M8Word
unfolding computing
m8_word = refl

m8 : M8 run_with
unfolding computing
m8 = refl

m9 : M9 run_with
unfolding computing
m9 = refl

m9_domain : M9Domain run_with
unfolding computing
m9_domain = refl

m10 : M10 run_with
unfolding computing
m10 = refl

m11 : M11 run
unfolding computing
m11 = refl

m12 : M12 run_with
unfolding computing
m12 = refl

pub marked_cases : MarkedCases
marked_cases =
    record {
      m1 = m1;
      m2 = m2;
      m3 = m3;
      m4_set = m4_set;
      m4_clear = m4_clear;
      m5_set = m5_set;
      m5_tag = m5_tag;
      m6_word = m6_word;
      m6 = m6;
      m7 = m7;
      m8_word = m8_word;
      m8 = m8;
      m9 = m9;
      m9_domain = m9_domain;
      m10 = m10;
      m11 = m11;
      m12 = m12;
    }
