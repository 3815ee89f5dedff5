use native.Mathlib.Omega.{arith}
use mathlib.Core.Path.{◌≡◌, sym}
use Prim.Native.Nat.{◌≤◌, ◌-◌}
use lib.ListN.{length, drop, take, length-drop, length-take}
use lib.Seq.{length-take-le}
use Rattle.replay.proofs.Bounds.{left_bounded}
use Rattle.replay_main.proofs.replay_from.Goals as goal

pub slice_bounds-write_all-end-2 : goal.slice_bounds-write_all-end-2
slice_bounds-write_all-end-2 c = let a = c.args in
    let p = c.replay_part-p in
    let b = left_bounded _ _ _ _ _ p.ensures in
    let written : p.result.replay.written ≤ length a.out.now = b.written_low in
    let same : length p.new.out ≡ length a.out.now = p.auto.out in
    omega arith

pub slice_bounds-write_all-end-3 : goal.slice_bounds-write_all-end-3
slice_bounds-write_all-end-3 c = let a = c.args in
    let p = c.replay_part-p in
    let b = left_bounded _ _ _ _ _ p.ensures in
    let written : p.result.replay.written ≤ length a.out.now = b.written_low in
    let same : length p.new.out ≡ length a.out.now = p.auto.out in
    sym (length-take-le _ _ (omega arith))

pub returns : goal.returns
returns c = let a = c.args in
    let p = c.replay_part-p in
    let b = left_bounded _ _ _ _ _ p.ensures in
    let taken : p.result.replay.taken ≤ length (take (length a.block.now - a.at) (drop a.at a.block.now)) = b.taken_low in
    let n = length-drop a.at a.block.now in
    let most = length-take (length a.block.now - a.at) (drop a.at a.block.now) in
    let low = c.requires in
    omega arith
