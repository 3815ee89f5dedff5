use Rattle.cp15.proofs.Laws.{line_flushed_lem, none_flushed}
use Rattle.cache.proofs.Finds.{found}
use Rattle.cache.specs.Packing.{lines_of}
use mathlib.Core.Path.{sym, ◌∙◌}
use Rattle.cp15.proofs.flush_line.Goals as goal

pub empty_line-requires : goal.empty_line-requires
empty_line-requires c =
    (c.requires.0, (found (lines_of c.args.lines.now) c.args.va _ (sym c.find-found.ensures ∙ c.in-Some.is)).low)

pub returns-in-Some : goal.returns-in-Some
returns-in-Some c =
    let a = c.args in λ ps st. line_flushed_lem a.lines.now ps st a.va c.empty_line.new.lines _
    (sym c.find-found.ensures ∙ c.in-Some.is) c.empty_line.ensures

pub returns-in-None : goal.returns-in-None
returns-in-None c =
    let a = c.args in λ ps st. none_flushed a.lines.now ps st a.va (sym c.find-found.ensures ∙ c.in-None.is)
