use Rattle.std.proofs.Common.{rules, ◌≡◌, ℕ, List, ◌+◌, ◌*◌, ◌<◌, ◌≤◌, length, get_or, drop, arith, sym, ap, subst, ◌∙◌}
use Rattle.std.proofs.lemmas.List.{length-map}
use Rattle.values.specs.Empty.{empty_entry}
use Rattle.values.specs.declared.Entry.{Entry}
use Rattle.walk.specs.Ranges.{InRange}
use Rattle.tlb.specs.Packing.{entry_of, entries_of}
use Rattle.tlb.proofs.Packing.{entry_at}
use Rattle.numbers.specs.Code.{entry_line, ThingsRead}
use Rattle.numbers.proofs.Compared.{part_long}
use Rattle.numbers.proofs.Entries.{entry_wide, entry_good, entry_back, entry_fits, entry_unread}
use Rattle.numbers.proofs.Each.{things_compared}
use Rattle.numbers.proofs.read_entries.Goals as goal

pub returns : goal.returns
returns c =
    let a = c.args in
    let ns = a.numbers.now in
    let ws = c.set_each.new.things in
    let long : length ws ≡ length a.entries.now = c.set_each.ensures.0 in
    let at = λ (i : ℕ). ap (λ (x : Entry). entry_line.numbers x) (sym (entry_at ws i)) in
    let good = λ (i : ℕ). let low : get_or ws i 0 < 0x10000000000000000 = search rules in entry_good (get_or ws i 0) low in
    let room = λ (i : ℕ) (h : i < length ws). let q : a.from + i * 11 + 11 ≤ length ns = omega (arith, c.requires.0) in q in
    subst (λ (n : ℕ). ThingsRead entry_line InRange empty_entry n (drop a.from ns) (entries_of ws) c.same_rows.result) long
    (things_compared entry_line 11 entry_wide (length ws) ns a.from InRange empty_entry (entries_of ws) _ c.same_rows.result c.same_rows.ensures
    (length-map ws entry_of)
    (λ i row h w. sym w.2 ∙ w.1 ∙ at i)
    (λ i h. subst (λ (x : Entry). entry_line.thing (entry_line.numbers x) ≡ x) (sym (entry_at ws i)) (entry_back (entry_of (get_or ws i 0)) (good i)))
    (λ i h. ap (λ (ns : List ℕ). entry_line.fits ns) (sym (at i)) ∙ entry_fits (entry_of (get_or ws i 0)) (good i))
    (λ i h z. entry_unread _ (get_or ws i 0) (part_long ns (a.from + i * 11) 11 (room i h)) (c.set_each.ensures.1 i 0 (omega arith)) (λ q. z (q ∙ at i))))
