use Rattle.cache.proofs.Lines.{clean_word}
use Rattle.cleans.proofs.cleaned_word.Goals as goal

pub returns : goal.returns
returns c = clean_word c.args.w
