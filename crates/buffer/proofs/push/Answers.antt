use Rattle.buffer.proofs.Closing.{pushed_in, pushed_full}
use mathlib.Core.Path.{◌≡◌}
use lib.ListN.{length}
use Rattle.buffer.proofs.push.Goals as goal

pub returns-then-used-lt8 : goal.returns-then-used-lt8
returns-then-used-lt8 c = let a = c.args in
    pushed_in a.memory.now a.bad.now a.words.now a.bytes.now a.used c.requires.0 a.w a.b c.if-used-lt8.true c.requires.1

pub returns : goal.returns
returns c = let a = c.args in
    let o = c.oldest_leaves in
    let n : length o.new.memory ≡ length a.memory.now = o.auto.memory in
    pushed_full a.memory.now a.bad.now a.words.now a.bytes.now a.used c.requires.0.used_low c.if-used-lt8.false o.new.memory
    o.new.words o.new.bytes o.ensures a.w a.b (rw n c.requires.1)
