use Rattle.words.specs.Signed.{load_answer}
use Rattle.plain.proofs.Laws.{inside_fits}
use mathlib.Core.Path.{◌∙◌, ap}
use Prim.Native.Nat.{ℕ}
use Rattle.plain.proofs.loaded.Goals as goal

pub load-v-requires : goal.load-v-requires
load-v-requires c =
    let a = c.args in
    (c.requires.placed.width, inside_fits a.memory.now a.a a.p c.requires)

pub returns : goal.returns
returns c =
    let a = c.args in
    c.load_answer.ensures ∙ ap (λ (v : ℕ). load_answer a.a.kind a.a.width v) c.load-v.ensures.value
