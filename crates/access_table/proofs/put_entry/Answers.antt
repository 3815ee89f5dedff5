use mathlib.Core.Path.{refl}
use native.Mathlib.Omega.{arith}
use borrow.Author.Rules.{rules}
use Rattle.access_table.proofs.Listing.{decimal_three, laid_entry}
use Rattle.access_table.proofs.put_entry.Goals as goal

pub put_number-a-requires : goal.put_number-a-requires
put_number-a-requires c = let h = decimal_three c.args.index c.requires.0 in (omega (arith, c.requires.0), omega (arith, c.requires.1, h))

pub put_byte-b-requires : goal.put_byte-b-requires
put_byte-b-requires c = let h = decimal_three c.args.index c.requires.0 in search (rules, h)

pub put_number-c-requires : goal.put_number-c-requires
put_number-c-requires c = let h = decimal_three c.args.index c.requires.0 in
    let k = decimal_three c.args.entry (omega (arith, c.ranges.entry)) in search (rules, h, k)

pub put_byte-requires : goal.put_byte-requires
put_byte-requires c = let h = decimal_three c.args.index c.requires.0 in
    let k = decimal_three c.args.entry (omega (arith, c.ranges.entry)) in search (rules, h, k)

pub returns : goal.returns
returns c = let a = c.args in
    let p₁ = c.put_number-a in
    let p₂ = c.put_byte-b in
    let p₃ = c.put_number-c in
    let p₄ = c.put_byte in
    laid_entry a.out.now p₁.new.out p₂.new.out p₃.new.out p₄.new.out a.at p₁.result p₂.result p₃.result p₄.result _ _
    a.index a.entry c.requires.0 (omega (arith, c.ranges.entry)) c.requires.1 p₁.ensures p₂.ensures refl p₃.ensures p₄.ensures refl
