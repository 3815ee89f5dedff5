use Rattle.cp15.proofs.Laws.{write_left}
use Rattle.machine.specs.Lists.{lists}
use Rattle.cp15.proofs.write.Goals as goal

pub returns : goal.returns
returns c =
    let a = c.args in (
      (λ ps n. write_left a.entries.now c.operate-u.new.entries a.s c.operate-u.result n
          (lists a.memory.now a.bad.now a.words.now a.bytes.now a.lines.now ps a.store.now)
          (lists c.operate-u.new.memory a.bad.now c.operate-u.new.words c.operate-u.new.bytes c.operate-u.new.lines ps a.store.now) a.t a.v _ _
          (c.operate-u.ensures.0 ps n)
          c.written-after.ensures c.with_registers.ensures),
      c.operate-u.ensures.1,
    )
