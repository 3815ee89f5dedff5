use Rattle.std.proofs.Common.{rules, ◌≡◌, ℕ, List, ◌+◌, ◌*◌, ◌<◌, ◌≤◌, length, get_or, drop, arith, sym, ap, subst, ◌∙◌}
use Rattle.std.proofs.lemmas.List.{length-map}
use Rattle.values.specs.Empty.{empty_line}
use Rattle.values.specs.declared.Line.{Line}
use Rattle.cache.specs.Packing.{line_of, lines_of}
use Rattle.cache.proofs.Lines.{line_at}
use Rattle.numbers.specs.Code.{cache_line, LineHolds, ThingsRead}
use Rattle.numbers.proofs.Compared.{part_long}
use Rattle.numbers.proofs.Lines.{line_wide, line_good, line_back, line_fits, line_unread}
use Rattle.numbers.proofs.Each.{things_compared}
use Rattle.numbers.proofs.read_lines.Goals as goal

pub returns : goal.returns
returns c =
    let a = c.args in
    let ns = a.numbers.now in
    let ws = c.set_each.new.things in
    let long : length ws ≡ length a.lines.now = c.set_each.ensures.0 in
    let at = λ (i : ℕ). ap (λ (x : Line). cache_line.numbers x) (sym (line_at ws i)) in
    let good = λ (i : ℕ). let low : get_or ws i 0 < 0x10000000000000000 = search rules in line_good (get_or ws i 0) low in
    let room = λ (i : ℕ) (h : i < length ws). let q : a.from + i * 5 + 5 ≤ length ns = omega (arith, c.requires.0) in q in
    subst (λ (n : ℕ). ThingsRead cache_line LineHolds empty_line n (drop a.from ns) (lines_of ws) c.same_rows.result) long
    (things_compared cache_line 5 line_wide (length ws) ns a.from LineHolds empty_line (lines_of ws) _ c.same_rows.result c.same_rows.ensures
    (length-map ws line_of)
    (λ i row h w. sym w.2 ∙ w.1 ∙ at i)
    (λ i h. subst (λ (x : Line). cache_line.thing (cache_line.numbers x) ≡ x) (sym (line_at ws i)) (line_back (line_of (get_or ws i 0))))
    (λ i h. ap (λ (ns : List ℕ). cache_line.fits ns) (sym (at i)) ∙ line_fits (line_of (get_or ws i 0)) (good i))
    (λ i h z. line_unread _ (get_or ws i 0) (part_long ns (a.from + i * 5) 5 (room i h)) (c.set_each.ensures.1 i 0 (omega arith)) (λ q. z (q ∙ at i))))
