use Rattle.cp15.proofs.Laws.{can_clean, clean_room, clean_left, none_clean}
use Rattle.cache.proofs.Finds.{found}
use Rattle.cache.specs.Packing.{lines_of}
use Rattle.machine.specs.Lists.{lists}
use mathlib.Core.List.{[]}
use mathlib.Core.Path.{sym, ◌∙◌}
use Rattle.cp15.proofs.clean.Goals as goal

pub clean_line-n-requires : goal.clean_line-n-requires
clean_line-n-requires c =
    let a = c.args in (
      c.requires.1.fits,
      can_clean a.memory.now a.words.now a.bytes.now a.lines.now a.store.now
          a.s a.va _ c.requires.1 (sym c.find-found.ensures ∙ c.in-Some.is),
    )

pub sent-requires : goal.sent-requires
sent-requires c =
    let a = c.args in
    let e = sym c.find-found.ensures ∙ c.in-Some.is in
    clean_room a.memory.now a.bad.now a.words.now a.bytes.now a.lines.now a.store.now [] a.s _ _ c.requires.1
    (found (lines_of a.lines.now) a.va _ e).low (c.clean_line-n.ensures []).count

pub returns-in-Some : goal.returns-in-Some
returns-in-Some c =
    let a = c.args in
    λ ps. record {
      same = λ es n. clean_left es a.s n (lists a.memory.now a.bad.now a.words.now a.bytes.now a.lines.now ps a.store.now)
          a.va _
          _ _ _ _ (sym c.find-found.ensures ∙ c.in-Some.is) (c.clean_line-n.ensures ps)
          (rw c.sent.ensures at c.with_used.ensures);
      bytes_long = (c.clean_line-n.ensures []).fits.bytes_long;
    }

pub returns-in-None : goal.returns-in-None
returns-in-None c =
    let a = c.args in
    λ ps. record {
      same = λ es n. none_clean es a.s n (lists a.memory.now a.bad.now a.words.now a.bytes.now a.lines.now ps a.store.now)
          a.va
          (sym c.find-found.ensures ∙ c.in-None.is);
      bytes_long = c.requires.1.fits.bytes_long;
    }
