use Rattle.tlb.proofs.Laws.{place_at}
use Rattle.tlb.proofs.place.Goals as goal

pub returns : goal.returns
returns c = place_at c.args.entries.now c.args.pointer c.word_of.result c.args.e c.requires.2 c.word_of.ensures
