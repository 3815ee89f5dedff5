use Rattle.std.proofs.Common.{rules, [], ◌∙◌, sym, take}
use Rattle.std.proofs.lemmas.Iterator.{YieldsList-from_slice}
use Rattle.std.proofs.lemmas.Iterator.Search.{any_from_yields_List}
use borrow.Author.Tests.{tests}
use Rattle.buffer.specs.Buffer.{meets}
use Rattle.buffer.specs.Packing.{slot_of}
use Rattle.buffer.proofs.Holding.{any_word}
use Rattle.buffer.proofs.Closing.{ready_drained, ready_kept}
use Rattle.masks.proofs.ready.Goals as goal

pub returns-then-any : goal.returns-then-any
returns-then-any g c = λ a n h.
    let x = c.args in
    let f = c.requires.fits in
    let any = any_from_yields_List (λ w. meets n a (slot_of w [])) _ _ c.any.result c.any.ensures.ran (YieldsList-from_slice (take x.used x.words.now) cc)
    (λ w r q k. (search (rules, tests), h w.now r [] (search (rules, tests)))) in
    ready_drained x.memory.now x.bad.now x.words.now x.bytes.now x.used a n
    (sym (any_word n a x.words.now x.bytes.now x.used (f.words_long ∙ sym f.bytes_long)) ∙ sym any ∙ c.if-any.true) _ _ _ _ c.drain.ensures

pub returns : goal.returns
returns g c = λ a n h.
    let x = c.args in
    let f = c.requires.fits in
    let any = any_from_yields_List (λ w. meets n a (slot_of w [])) _ _ c.any.result c.any.ensures.ran (YieldsList-from_slice (take x.used x.words.now) cc)
    (λ w r q k. (search (rules, tests), h w.now r [] (search (rules, tests)))) in
    ready_kept x.memory.now x.bad.now x.words.now x.bytes.now x.used a n
    (sym (any_word n a x.words.now x.bytes.now x.used (f.words_long ∙ sym f.bytes_long)) ∙ sym any ∙ c.if-any.false) f
