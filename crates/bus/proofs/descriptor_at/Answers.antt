use Rattle.std.specs.Prelude.{Some}
use mathlib.Core.Path.{sym, ◌∙◌, ap}
use Rattle.bus.proofs.Laws.{answers, descriptor_in, descriptor_out}
use Rattle.bus.proofs.descriptor_at.Goals as goal

pub word-requires : goal.word-requires
word-requires c =
    let else1 = c.before in
    let after-aborts = else1.before in
    let start = after-aborts.before.before.before in
    answers _ start.args.at (sym after-aborts.aborts.ensures ∙ else1.if-aborts.false)

pub returns-then-aborts : goal.returns-then-aborts
returns-then-aborts c =
    let after-aborts = c.before in
    let start = after-aborts.before.before.before in
    sym (descriptor_out _ start.args.at (sym after-aborts.aborts.ensures ∙ c.if-aborts.true))

pub returns-else-aborts : goal.returns-else-aborts
returns-else-aborts c =
    let else1 = c.before.before in
    let after-aborts = else1.before in
    let start = after-aborts.before.before.before in
    ap Some c.word.ensures.value
    ∙ sym (descriptor_in _ start.args.at (sym after-aborts.aborts.ensures ∙ else1.if-aborts.false))
