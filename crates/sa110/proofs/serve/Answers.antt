use Rattle.sa110.proofs.Shapes.{rows_of, serves_of, called_by_lem}
use Rattle.machine.specs.Lists.{lists_of}
use lib.ListN.{length}
use native.Mathlib.Omega.{arith}
use mathlib.Core.Path.{◌≡◌, sym}
use borrow.Author.Rules.{rules}
use Rattle.sa110.proofs.serve.Goals as goal

pub slice_bounds-step-end : goal.slice_bounds-step-end
slice_bounds-step-end c =
    let good = c.well_formed.0 in
    search (rules, good)

pub slice_bounds-side-end : goal.slice_bounds-side-end
slice_bounds-side-end c =
    let good = c.well_formed.0 in
    search (rules, good)

pub slice_bounds-side-end-2 : goal.slice_bounds-side-end-2
slice_bounds-side-end-2 c =
    let good = c.well_formed.0 in
    search (rules, good)

pub slice_bounds-side-end-3 : goal.slice_bounds-side-end-3
slice_bounds-side-end-3 c =
    let good = c.well_formed.0 in
    search (rules, good)

pub step-o-requires : goal.step-o-requires
step-o-requires c =
    let good = c.well_formed.0 in
    let a = c.args in
    let s = a.state in
    let e : length s.entries ≡ 32 = search (rules, good) in
    let ls : length s.lines ≡ 512 = search (rules, good) in
    let ps : length s.pointers ≡ 16 = search (rules, good) in
    let ws : length s.words ≡ 8 = search (rules, good) in
    let bs = c.unpacked-bytes.result in
    let z = c.unpacked-bytes.type_inv in
    let h = serves_of a.memory.now a.bad.now a.store.now s a.cp15 bs c.unpacked-bytes.ensures c.requires e ls ps ws z.1.0.1
    (rows_of bs z.0 z.1.1) (λ i h. search (rules, h)) (λ i h. search (rules, h)) in
    (c.table-table.ensures, ws, z.1.0.1, rw c.scalars_of-scalars.ensures h)

pub returns : goal.returns
returns c =
    let a = c.args in
    let st = c.step-o in
    let h = st.ensures.1 in
    called_by_lem a.memory.now a.bad.now a.store.now a.state a.cp15 c.unpacked-bytes.result c.unpacked-bytes.ensures c.requires
    (lists_of st.new.side) st.new.entries st.result a.c c.packed-held.result (rw c.scalars_of-scalars.ensures at st.ensures.0.0)
    (grind (arith, c.packed-held.ensures, h.bytes)) (search (rules, h.memory)) (sym h.bad)
    (search (rules, h.store)) (search (rules, h.lines)) (search (rules, h.pointers)) (search (rules, h.words))
