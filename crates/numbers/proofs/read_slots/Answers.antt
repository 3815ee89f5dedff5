use Rattle.std.proofs.Common.{rules, ◌≡◌, ℕ, List, ◌+◌, ◌*◌, ◌<◌, ◌≤◌, length, get_or, drop, replicate, arith, sym, ap, subst, ◌∙◌}
use Rattle.values.specs.Empty.{empty_slot}
use Rattle.values.specs.declared.Slot.{Slot}
use Rattle.buffer.specs.Packing.{slot_of, slots_of}
use Rattle.buffer.proofs.Slots.{slot_at, length_slots}
use Rattle.numbers.specs.Code.{buffer_line, SlotHolds, ThingsRead}
use Rattle.numbers.proofs.Slots.{slot_wide, slot_long, slot_good, slot_back, slot_fits, slot_unread}
use Rattle.numbers.proofs.Each.{things_compared}
use Rattle.numbers.proofs.read_slots.Goals as goal

pub same_rows-requires-clause-wide : goal.same_rows-requires-clause-wide
same_rows-requires-clause-wide c = λ i r h e. ap length e ∙ slot_long _

pub returns : goal.returns
returns c =
    let a = c.args in
    let ns = a.numbers.now in
    let ws = c.set_each.new.things in
    let bs = c.set_each-2.new.things in
    let long : length ws ≡ length a.words.now = c.set_each.ensures.0 in
    let both : length ws ≡ length bs = long ∙ c.requires.0 ∙ sym c.set_each-2.ensures.0 in
    let slot = λ (i : ℕ). slot_of (get_or ws i 0) (get_or bs i (replicate 16 0)) in
    let is = λ (i : ℕ). slot_at ws bs i both in
    let at = λ (i : ℕ). ap (λ (x : Slot). buffer_line.numbers x) (sym (is i)) in
    let room = λ (i : ℕ) (h : i < length ws). let q : a.from + i * 18 + 18 ≤ length ns = omega (arith, c.requires.1) in q in
    let word = λ (i : ℕ) (h : i < length ws). c.set_each.ensures.1 i 0 (omega arith) in
    let low = λ (i : ℕ) (h : i < length ws). c.set_each-2.ensures.1 i (replicate 16 0) (omega (arith, c.requires.0)) in
    let good = λ (i : ℕ) (h : i < length ws).
    let wide : get_or ws i 0 < 0x10000000000000000 = search rules in
    slot_good ns (a.from + i * 18) (get_or ws i 0) (get_or bs i (replicate 16 0)) (room i h) (low i h) wide
    in
    subst (λ (n : ℕ). ThingsRead buffer_line SlotHolds empty_slot n (drop a.from ns) (slots_of ws bs) c.same_rows.result) long
    (things_compared buffer_line 18 slot_wide (length ws) ns a.from SlotHolds empty_slot (slots_of ws bs) _ c.same_rows.result c.same_rows.ensures
    (length_slots ws bs both)
    (λ i row h w. sym w.2 ∙ w.1 ∙ at i)
    (λ i h. subst (λ (x : Slot). buffer_line.thing (buffer_line.numbers x) ≡ x) (sym (is i)) (slot_back (slot i) (good i h)))
    (λ i h. ap (λ (l : List ℕ). buffer_line.fits l) (sym (at i)) ∙ slot_fits (slot i) (good i h))
    (λ i h z fits holds. slot_unread ns (a.from + i * 18) (get_or ws i 0) _ (room i h) (word i h) (low i h) (λ q. z (q ∙ at i)) fits))
