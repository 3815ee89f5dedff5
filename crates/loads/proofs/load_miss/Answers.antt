use Rattle.loads.proofs.Laws.{miss_fill, miss_uncached, miss_aborts}
use Rattle.translation.specs.Faults.{fills}
use Rattle.machine.proofs.Kept.{kept}
use Rattle.machine.specs.Lists.{lists_of, machine_of}
use mathlib.Core.Bool.{true, false}
use mathlib.Core.Path.{◌≡◌, refl, sym, ◌∙◌}
use Rattle.loads.proofs.load_miss.Goals as goal

pub load_fill-requires : goal.load_fill-requires
load_fill-requires c =
    (c.requires.0, c.requires.1, c.requires.2)

pub returns-then-fills : goal.returns-then-fills
returns-then-fills c =
    let a = c.args in
    let l = lists_of a.side.now in
    let f : fills a.s.cp15.registers a.p ≡ true = sym c.fills.ensures ∙ c.if-fills.true in (
      record {
        same = λ es n. c.load_fill.ensures.0.same es n ∙ sym (miss_fill (machine_of l es a.s n) a.a a.p f);
        bytes_long = c.load_fill.ensures.0.bytes_long;
      },
      c.load_fill.ensures.1,
    )

pub faulted-requires : goal.faulted-requires
faulted-requires c =
    c.requires.2.domain

pub returns-then-aborts : goal.returns-then-aborts
returns-then-aborts c =
    let a = c.args in
    let l = lists_of a.side.now in
    let f : fills a.s.cp15.registers a.p ≡ false = sym c.fills.ensures ∙ c.if-fills.false in (
      record {
        same = λ es n. rw (c.faulted.ensures l es n, c.other_status.ensures)
            (sym (miss_aborts (machine_of l es a.s n) a.a a.p f (sym c.aborts.ensures ∙ c.if-aborts.true)));
        bytes_long = c.requires.0.fits.bytes_long;
      },
      kept refl refl refl refl refl refl,
    )

pub load_uncached-requires : goal.load_uncached-requires
load_uncached-requires c = (
  record { fits = c.requires.0.fits; whole = c.requires.0.whole; width = c.requires.1; place = c.requires.2 },
  sym c.aborts.ensures ∙ c.if-aborts.false,
)

pub returns : goal.returns
returns c =
    let a = c.args in
    let l = lists_of a.side.now in
    let f : fills a.s.cp15.registers a.p ≡ false = sym c.fills.ensures ∙ c.if-fills.false in
    let u = c.load_uncached.ensures.0 in (
      record {
        same = λ es n. u.same es n ∙ sym
            (miss_uncached (machine_of l es a.s n) a.a a.p f (sym c.aborts.ensures ∙ c.if-aborts.false));
        bytes_long = u.bytes_long;
      },
      c.load_uncached.ensures.1,
    )
