use Prim.Native.Nat.{ℕ}
use native.Mathlib.Omega.{arith}
use borrow.Author.Rules.{rules}
use mathlib.Core.Path.{◌≡◌, refl, subst}
use mathlib.Core.List.{List}
use lib.ListN.{length, replicate}
use Rattle.values.proofs.Toward.{Toward, toward_start, toward_all}
use Rattle.state.proofs.Packs.{pack_step}
use Rattle.state.specs.State.{bytes_of}
use Rattle.state.specs.declared.SlotBytes.{SlotBytes}
use Rattle.state.proofs.packed.Goals as goal

pub loop-i-init : goal.loop-i-init
loop-i-init c = toward_start _ _

pub loop-i-preserved : goal.loop-i-preserved
loop-i-preserved c = let l = c.loop-i in
    let bs = c.args.bytes in
    let n : length bs ≡ 8 = search rules in
    pack_step bs (replicate 8 (record { bytes = replicate 16 0 })) l.out l.i n refl (omega arith) l.invariant

pub returns : goal.returns
returns c = let l = c.loop-i in
    let bs = c.args.bytes in
    let n : length bs ≡ 8 = search rules in
    let e : l.i ≡ 8 = omega arith in
    let o : List SlotBytes = replicate 8 (record { bytes = replicate 16 0 }) in
    toward_all bs (bytes_of o) (bytes_of l.out) 8 (subst (λ (n : ℕ). Toward bs (bytes_of o) (bytes_of l.out) n) e l.invariant) refl n
