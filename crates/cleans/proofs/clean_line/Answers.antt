use Rattle.cache.proofs.Sending.{clean_left}
use Rattle.cleans.proofs.clean_line.Goals as goal

pub returns : goal.returns
returns c = let a = c.args in
    λ ps. clean_left a.memory.now a.bad.now a.words.now a.bytes.now a.used a.lines.now ps a.store.now a.i
    c.line_of-l.result c.line_of-l.ensures _ _ _ _ c.send_halves-n.ensures
    c.cleaned_word.result c.dirty_halves.result c.cleaned_word.ensures c.dirty_halves.ensures
