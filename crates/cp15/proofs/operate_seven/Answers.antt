use Rattle.cp15.proofs.Laws.{seven_flush, seven_line, seven_clean, seven_drain, seven_nothing}
use Rattle.machine.specs.Machine.{with_cache}
use Rattle.machine.proofs.Laws.{drain_left}
use Rattle.cache.specs.Dcache.{Dcache, dcache_from, all_flushed}
use Rattle.values.specs.declared.Line.{Line}
use Rattle.machine.specs.Lists.{lists, machine_of}
use mathlib.Core.List.{List}
use Rattle.registers.specs.Pairs.{is_pair}
use mathlib.Core.Bool.{true, false, ◌||◌}
use mathlib.Core.Path.{◌≡◌, sym, ◌∙◌, ap}
use Rattle.cp15.proofs.operate_seven.Goals as goal

pub returns-then-is_flush : goal.returns-then-is_flush
unfolding all_flushed
returns-then-is_flush c =
    let a = c.args in
    let f : (is_pair a.t 0 7 || is_pair a.t 0 6) ≡ true = sym c.is_flush.ensures ∙ c.if-is_flush.true in
    λ ps. record {
      same = λ es n. ap (λ (x : List Line). with_cache (machine_of
          (lists a.memory.now a.bad.now a.words.now a.bytes.now a.lines.now ps a.store.now) es a.s n)
          (dcache_from x ps a.store.now)) c.flush.ensures
          ∙ sym (seven_flush (machine_of (lists a.memory.now a.bad.now a.words.now a.bytes.now a.lines.now ps a.store.now) es
          a.s n)
          a.t a.va c.requires.0 f);
      bytes_long = c.requires.2.fits.bytes_long;
    }

pub returns-then-is_pair : goal.returns-then-is_pair
returns-then-is_pair c =
    let a = c.args in
    let f : (is_pair a.t 0 7 || is_pair a.t 0 6) ≡ false = sym c.is_flush.ensures ∙ c.if-is_flush.false in
    let g : is_pair a.t 1 6 ≡ true = sym c.is_pair.ensures ∙ c.if-is_pair.true in
    λ ps. record {
      same = λ es n. ap (λ (x : Dcache). with_cache (machine_of
          (lists a.memory.now a.bad.now a.words.now a.bytes.now a.lines.now ps a.store.now) es a.s n) x)
          (c.flush_line.ensures ps a.store.now) ∙ sym
          (seven_line (machine_of (lists a.memory.now a.bad.now a.words.now a.bytes.now a.lines.now ps a.store.now) es
          a.s n) a.t
          a.va c.requires.0 f g);
      bytes_long = c.requires.2.fits.bytes_long;
    }

pub returns-then-is_pair-2 : goal.returns-then-is_pair-2
returns-then-is_pair-2 c =
    let a = c.args in
    let f : (is_pair a.t 0 7 || is_pair a.t 0 6) ≡ false = sym c.is_flush.ensures ∙ c.if-is_flush.false in
    let g : is_pair a.t 1 6 ≡ false = sym c.is_pair.ensures ∙ c.if-is_pair.false in
    let h : is_pair a.t 1 10 ≡ true = sym c.is_pair-2.ensures ∙ c.if-is_pair-2.true in
    λ ps. record {
      same = λ es n. (c.clean.ensures ps).same es n ∙ sym
          (seven_clean (machine_of (lists a.memory.now a.bad.now a.words.now a.bytes.now a.lines.now ps a.store.now) es
          a.s n) a.t
          a.va c.requires.0 f g h);
      bytes_long = (c.clean.ensures ps).bytes_long;
    }

pub returns-then-is_pair-3 : goal.returns-then-is_pair-3
returns-then-is_pair-3 c =
    let a = c.args in
    let f : (is_pair a.t 0 7 || is_pair a.t 0 6) ≡ false = sym c.is_flush.ensures ∙ c.if-is_flush.false in
    let g : is_pair a.t 1 6 ≡ false = sym c.is_pair.ensures ∙ c.if-is_pair.false in
    let h : is_pair a.t 1 10 ≡ false = sym c.is_pair-2.ensures ∙ c.if-is_pair-2.false in
    let i : is_pair a.t 4 10 ≡ true = sym c.is_pair-3.ensures ∙ c.if-is_pair-3.true in
    let d = c.drain in
    λ ps. let l = lists a.memory.now a.bad.now a.words.now a.bytes.now a.lines.now ps a.store.now in record {
      same = λ es n. drain_left es a.s _ n l d.new.memory d.new.words d.new.bytes d.ensures.0 d.ensures.1
          ∙ sym (seven_drain (machine_of l es a.s n) a.t a.va c.requires.0 f g h i);
      bytes_long = d.ensures.1.fits.bytes_long;
    }

pub returns : goal.returns
returns c =
    let a = c.args in
    let f : (is_pair a.t 0 7 || is_pair a.t 0 6) ≡ false = sym c.is_flush.ensures ∙ c.if-is_flush.false in
    let g : is_pair a.t 1 6 ≡ false = sym c.is_pair.ensures ∙ c.if-is_pair.false in
    let h : is_pair a.t 1 10 ≡ false = sym c.is_pair-2.ensures ∙ c.if-is_pair-2.false in
    let i : is_pair a.t 4 10 ≡ false = sym c.is_pair-3.ensures ∙ c.if-is_pair-3.false in
    λ ps. record {
      same = λ es n. sym (seven_nothing (machine_of (lists a.memory.now a.bad.now a.words.now a.bytes.now a.lines.now ps
          a.store.now) es
          a.s n) a.t a.va c.requires.0 f g h i);
      bytes_long = c.requires.2.fits.bytes_long;
    }
