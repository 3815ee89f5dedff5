-- Words and Dcache lines correspond one to one.
use Prim.Native.Nat.{ℕ, ◌+◌, ◌*◌, ◌/◌, ◌%◌, ◌<◌}
use native.Mathlib.Nat.{div-one}
use mathlib.Core.Path.{◌≡◌}
use mathlib.Core.List.{List}
use Rattle.values.specs.Bits.{number}
use Rattle.values.specs.declared.Line.{Line}
use Rattle.values.proofs.Cases.{number_low}
use Rattle.values.proofs.Fields.{bit_number, bit_is, field_and_above, field_is, above_is}
use Rattle.values.proofs.Inverses.{injective, map_injective}
use Rattle.cache.specs.Packing.{line_of, word_of, lines_of}

-- unpacked and packed, every word
pub word_line : (w : ℕ) → word_of (line_of w) ≡ w
unfolding line_of word_of
word_line w =
    rw (
      bit_number w 0,
      bit_number w 1,
      bit_number w 2,
      field_and_above w 8 0x20000000,
      field_and_above w 4 2,
      field_and_above w 2 2,
      field_and_above w 1 2,
    ) (div-one w)

-- packed and unpacked, every line with a physical line number of 29 bits
pub line_word : (l : Line) → l.frame < 0x20000000 → line_of (word_of l) ≡ l
unfolding line_of word_of
line_word l h =
    let v = number l.valid in
    let d = number l.low in
    let u = number l.high in
    let w3 = l.frame + 0x20000000 * l.tag in
    let w2 = u + 2 * w3 in
    let w1 = d + 2 * w2 in
    let w = v + 2 * w1 in
    let e0 : w / 1 ≡ v + 2 * w1 = div-one w in
    let e1 : w / 2 ≡ d + 2 * w2 = above_is w 1 2 v w1 (number_low l.valid) e0 in
    let e2 : w / 4 ≡ u + 2 * w3 = above_is w 2 2 d w2 (number_low l.low) e1 in
    let e3 : w / 8 ≡ w3 = above_is w 4 2 u w3 (number_low l.high) e2 in
    let f0 = bit_is (w / 1 % 2) l.valid (field_is w 1 2 v w1 (number_low l.valid) e0) in
    let f1 = bit_is (w / 2 % 2) l.low (field_is w 2 2 d w2 (number_low l.low) e1) in
    let f2 = bit_is (w / 4 % 2) l.high (field_is w 4 2 u w3 (number_low l.high) e2) in
    let f3 = field_is w 8 0x20000000 l.frame l.tag h e3 in
    let f4 : w / 0x100000000 ≡ l.tag = above_is w 8 0x20000000 l.frame l.tag h e3 in
    rw (f0, f1, f2, f3, f4)

-- no two words stand for one line, no two lists of words for one list of lines
pub line_injective : (w x : ℕ) → line_of w ≡ line_of x → w ≡ x
line_injective = injective line_of word_of word_line

pub lines_injective : (ws xs : List ℕ) → lines_of ws ≡ lines_of xs → ws ≡ xs
lines_injective = map_injective line_of word_of word_line
