use Prim.Native.Nat.{ℕ}
use mathlib.Core.Path.{◌≡◌, refl, sym, ◌∙◌}
use mathlib.Core.Bool.{Bool, true, false, ◌&&◌}
use mathlib.Core.List.{List}
use lib.ListN.{length}
use borrow.Author.Tests.{le-leb, lt-leb}
use Rattle.values.specs.Lists.{all}
use Rattle.values.proofs.Cases.{and_right}
use Rattle.tlb.specs.Packing.{entries_of}
use Rattle.buffer.specs.Buffer.{buffer_from}
use Rattle.buffer.specs.Packing.{slots_of}
use Rattle.cache.specs.Packing.{lines_of, side_of}
use Rattle.machine.specs.Machine.{machine_from}
use Rattle.soundness.specs.Soundness.{pointer_sound, line_sound, tags_sound, buffer_sound, entry_sound, registers_sound, counts_sound, sound}
use Rattle.soundness_test.proofs.Ands.{and_then, and_else}
use Rattle.soundness_test.proofs.sound.Goals as goal
use Rattle.soundness_test.proofs.sound.Goals.{
  Joined-entries_sound,
  then-cp15-le31,
  else-cp15-le31,
  then-pointers_sound,
  else-pointers_sound,
  then-lines_sound,
  else-lines_sound,
  then-tags_sound,
  else-tags_sound,
  then-buffer_sound,
  else-buffer_sound,
  then-entries_sound,
  else-entries_sound,
}

-- the tests before the last, in the code's order
tested : (c : Joined-entries_sound) → let a = c.args in c.if-entries_sound.value
    ≡ ((((((pointer_sound a.cp15.pointer && all pointer_sound a.pointers.now) && all (line_sound a.n) (lines_of a.lines.now))
    && tags_sound 16 (lines_of a.lines.now)) && buffer_sound a.n (buffer_from (slots_of a.words.now a.bytes.now) a.used))
    && all entry_sound (entries_of a.entries.now)) && registers_sound a.cp15.registers)
tested c =
    let a = c.args in
    let p = pointer_sound a.cp15.pointer in
    let q = all pointer_sound a.pointers.now in
    let l = all (line_sound a.n) (lines_of a.lines.now) in
    let t = tags_sound 16 (lines_of a.lines.now) in
    let b = buffer_sound a.n (buffer_from (slots_of a.words.now a.bytes.now) a.used) in
    let e = all entry_sound (entries_of a.entries.now) in
    let to_pointers : c.if-cp15-le31.value ≡ (p && q) = elim c.if-cp15-le31.branch [
      | then-cp15-le31 w ↦ and_then refl (le-leb a.cp15.pointer 31 w.if-cp15-le31.true) (w.value-is ∙ w.pointers_sound.ensures)
      | else-cp15-le31 w ↦ and_else q refl (lt-leb a.cp15.pointer 31 w.if-cp15-le31.false) w.value-is
    ] in
    let to_lines : c.if-pointers_sound.value ≡ ((p && q) && l) = elim c.if-pointers_sound.branch [
      | then-pointers_sound w ↦ and_then to_pointers w.if-pointers_sound.true (w.value-is ∙ w.lines_sound.ensures)
      | else-pointers_sound w ↦ and_else l to_pointers w.if-pointers_sound.false w.value-is
    ] in
    let to_tags : c.if-lines_sound.value ≡ (((p && q) && l) && t) = elim c.if-lines_sound.branch [
      | then-lines_sound w ↦ and_then to_lines w.if-lines_sound.true
          (w.value-is ∙ w.tags_sound.ensures a.n (and_right (p && q) l (sym to_lines ∙ w.if-lines_sound.true)))
      | else-lines_sound w ↦ and_else t to_lines w.if-lines_sound.false w.value-is
    ] in
    let to_buffer : c.if-tags_sound.value ≡ ((((p && q) && l) && t) && b) = elim c.if-tags_sound.branch [
      | then-tags_sound w ↦ and_then to_tags w.if-tags_sound.true (w.value-is ∙ w.buffer_sound.ensures)
      | else-tags_sound w ↦ and_else b to_tags w.if-tags_sound.false w.value-is
    ] in
    let to_entries : c.if-buffer_sound.value ≡ (((((p && q) && l) && t) && b) && e) = elim c.if-buffer_sound.branch [
      | then-buffer_sound w ↦ and_then to_buffer w.if-buffer_sound.true (w.value-is ∙ w.entries_sound.ensures)
      | else-buffer_sound w ↦ and_else e to_buffer w.if-buffer_sound.false w.value-is
    ] in
    elim c.if-entries_sound.branch [
      | then-entries_sound w ↦ and_then to_entries w.if-entries_sound.true (w.value-is ∙ w.registers_sound.ensures)
      | else-entries_sound w ↦ and_else (registers_sound a.cp15.registers) to_entries w.if-entries_sound.false w.value-is
    ]

-- all tests, in the order of the definition
regroup : (p q l t b e r c : Bool) → (((((((p && q) && l) && t) && b) && e) && r) && c) ≡ (p && (q && (t && (l && (b && (e && (r && c)))))))
regroup false q l t b e r c = refl
regroup true false l t b e r c = refl
regroup true true false true b e r c = refl
regroup true true false false b e r c = refl
regroup true true true false b e r c = refl
regroup true true true true false e r c = refl
regroup true true true true true false r c = refl
regroup true true true true true true r c = refl

sound_of : (c : Joined-entries_sound) (x : Bool) → let a = c.args in (memory bad store : List ℕ) (size : ℕ) → length memory ≡ a.n
    → x ≡ ((((((((pointer_sound a.cp15.pointer && all pointer_sound a.pointers.now) && all (line_sound a.n) (lines_of a.lines.now))
    && tags_sound 16 (lines_of a.lines.now)) && buffer_sound a.n (buffer_from (slots_of a.words.now a.bytes.now) a.used))
    && all entry_sound (entries_of a.entries.now)) && registers_sound a.cp15.registers)) && counts_sound a.counts (lines_of a.lines.now))
    → x ≡ sound (machine_from a.cp15 (entries_of a.entries.now) (side_of memory bad a.words.now a.bytes.now a.used a.lines.now a.pointers.now store) a.counts size)
unfolding sound
sound_of c x memory bad store size h f =
    let a = c.args in
    let lines = lines_of a.lines.now in
    let slots = buffer_from (slots_of a.words.now a.bytes.now) a.used in
    rw h
    (f ∙ regroup (pointer_sound a.cp15.pointer) (all pointer_sound a.pointers.now) (all (line_sound a.n) lines) (tags_sound 16 lines) (buffer_sound a.n slots)
    (all entry_sound (entries_of a.entries.now)) (registers_sound a.cp15.registers) (counts_sound a.counts lines))

pub returns-then-registers_sound : goal.returns-then-registers_sound
returns-then-registers_sound c =
    let j = (goal.at.returns-then-registers_sound c).Joined-entries_sound in
    λ memory bad store size h. sound_of j c.counts_sound.result memory bad store size h
    (and_then (tested j) c.if-registers_sound.true (c.counts_sound.ensures (lines_of c.args.lines.now) c.dirty_halves.ensures.0))

pub returns-else-registers_sound : goal.returns-else-registers_sound
returns-else-registers_sound c =
    let j = (goal.at.returns-else-registers_sound c).Joined-entries_sound in
    λ memory bad store size h. sound_of j c.if-entries_sound.value memory bad store size h
    (and_else (counts_sound c.args.counts (lines_of c.args.lines.now)) (tested j) c.if-registers_sound.false refl)
