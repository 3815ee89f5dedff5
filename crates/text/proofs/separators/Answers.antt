use native.Mathlib.Omega.{arith}
use lib.ListN.{replicate}
use Rattle.form.specs.Code.{lines_separators}
use Rattle.text.proofs.Places.{commas_start, commas_on, long_1, long_2, long_3, separators_laid}
use Rattle.text.proofs.separators.Goals as goal

pub end_lines-requires-2 : goal.end_lines-requires-2
end_lines-requires-2 c = let e1 = c.end_lines.ensures in
    let g = commas_on (replicate 3085 44) _ (lines_separators 1 29) 0 29 commas_start e1 long_1 (omega arith) in
    let long = g.long in
    (omega arith, omega arith, omega arith, g.rest)

pub end_lines-requires-3 : goal.end_lines-requires-3
end_lines-requires-3 c = let e2 = c.end_lines-2.ensures in
    let e1 = c.end_lines.ensures in
    let g1 = commas_on (replicate 3085 44) _ (lines_separators 1 29) 0 29 commas_start e1 long_1 (omega arith) in
    let g = commas_on _ _ (lines_separators 32 11) 29 352 g1 e2 long_2 (omega arith) in
    let long = g.long in
    (omega arith, omega arith, omega arith, g.rest)

pub end_lines-requires-4 : goal.end_lines-requires-4
end_lines-requires-4 c = let e3 = c.end_lines-3.ensures in
    let e2 = c.end_lines-2.ensures in
    let e1 = c.end_lines.ensures in
    let g1 = commas_on (replicate 3085 44) _ (lines_separators 1 29) 0 29 commas_start e1 long_1 (omega arith) in
    let g2 = commas_on _ _ (lines_separators 32 11) 29 352 g1 e2 long_2 (omega arith) in
    let g = commas_on _ _ (lines_separators 512 5) 381 2560 g2 e3 long_3 (omega arith) in
    let long = g.long in
    (omega arith, omega arith, omega arith, g.rest)

pub returns : goal.returns
returns c = separators_laid (replicate 3085 44) _ _ _ _ commas_start.long
    c.end_lines.ensures
    c.end_lines-2.ensures
    c.end_lines-3.ensures c.end_lines-4.ensures
