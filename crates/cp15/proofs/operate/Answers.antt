use Rattle.cp15.proofs.Laws.{no_operation}
use Rattle.machine.specs.Lists.{lists, machine_of}
use mathlib.Core.Path.{sym}
use Rattle.cp15.proofs.operate.Goals as goal

pub returns-then-t-eq7 : goal.returns-then-t-eq7
returns-then-t-eq7 c =
    let a = c.args in (
      (λ ps n. (c.operate_seven.ensures ps).same a.entries.now n),
      (c.operate_seven.ensures a.lines.now).bytes_long,
    )

pub returns-then-t-eq8 : goal.returns-then-t-eq8
returns-then-t-eq8 c =
    let a = c.args in (
      (λ ps n. c.operate_eight.ensures
          (lists a.memory.now a.bad.now a.words.now a.bytes.now a.lines.now ps a.store.now) a.s n),
      c.requires.2.fits.bytes_long,
    )

pub returns : goal.returns
returns c =
    let a = c.args in (
      (λ ps n. sym (no_operation
          (machine_of (lists a.memory.now a.bad.now a.words.now a.bytes.now a.lines.now ps a.store.now) a.entries.now
          a.s n) a.t
          a.va c.if-t-eq7.false c.if-t-eq8.false)),
      c.requires.2.fits.bytes_long,
    )
