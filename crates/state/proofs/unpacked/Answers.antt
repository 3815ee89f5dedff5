use Prim.Native.Nat.{ℕ}
use native.Mathlib.Omega.{arith}
use borrow.Author.Rules.{rules}
use mathlib.Core.Path.{◌≡◌, refl, ◌∙◌, subst}
use lib.ListN.{length, length-map, replicate}
use Rattle.values.proofs.Toward.{Toward, toward_start, toward_all}
use Rattle.state.proofs.Packs.{unpack_step}
use Rattle.state.specs.State.{bytes_of}
use Rattle.state.specs.declared.SlotBytes.{SlotBytes}
use Rattle.state.proofs.unpacked.Goals as goal

pub loop-i-init : goal.loop-i-init
loop-i-init c = toward_start _ _

pub loop-i-preserved : goal.loop-i-preserved
loop-i-preserved c = let l = c.loop-i in
    let slots = c.args.slots in
    let n : length slots ≡ 8 = search rules in
    unpack_step slots (replicate 8 (replicate 16 0)) l.out l.i n refl (omega arith) l.invariant

pub returns : goal.returns
returns c = let l = c.loop-i in
    let slots = c.args.slots in
    let n : length slots ≡ 8 = search rules in
    let e : l.i ≡ 8 = omega arith in
    toward_all (bytes_of slots) (replicate 8 (replicate 16 0)) l.out 8
    (subst (λ (n : ℕ). Toward (bytes_of slots) (replicate 8 (replicate 16 0)) l.out n) e l.invariant) refl
    (length-map slots (λ (s : SlotBytes). s.bytes) ∙ n)
