use mathlib.Core.Path.{◌≡◌, refl, ◌∙◌, ap}
use Prim.Native.Nat.{ℕ}
use lib.ListN.{length}
use mathlib.Core.List.{List}
use Rattle.printed.specs.Code.{over}
use Rattle.state.specs.State.{machine_in}
use Rattle.text.proofs.Storing.{room_short, room_enough, numbers_text, numbers_size}
use borrow.Author.Rules.{rules}
use Rattle.text.proofs.store_sound.Goals as goal

pub put_all-requires : goal.put_all-requires
put_all-requires c = let good = c.well_formed.0 in
    let s = c.args.state in
    let e : length s.entries ≡ 32 = search (rules, good) in
    let ls : length s.lines ≡ 512 = search (rules, good) in
    let ps : length s.pointers ≡ 16 = search (rules, good) in
    let ws : length s.words ≡ 8 = search (rules, good) in (
      refl,
      record { entries_long = e; lines_long = ls; pointers_long = ps; words_long = ws; bytes_long = c.unpacked-bytes.type_inv.1.0.1 },
      c.requires.0,
      c.requires.1,
    )

pub returns-then-size-text : goal.returns-then-size-text
returns-then-size-text c = let a = c.args in
    let e = c.put_all.ensures in
    λ m bad st. let M = machine_in m bad st a.state a.cp15 in
    let q = rw c.unpacked-bytes.ensures at e in
    room_short M a.text.now _ (c.text_size-size.ensures.0 ∙ numbers_size M _ q (search rules)) c.if-size-text.true

pub returns : goal.returns
returns c = let a = c.args in
    let e = c.put_all.ensures in
    λ m bad st. let M = machine_in m bad st a.state a.cp15 in
    let q = rw c.unpacked-bytes.ensures at e in
    room_enough M a.text.now _ _ (c.text_size-size.ensures.0 ∙ numbers_size M _ q (search rules)) c.if-size-text.false
    (c.put_numbers.ensures ∙ ap (λ (l : List ℕ). over a.text.now 0 l) (numbers_text M _ _ q c.separators-behind.ensures))
