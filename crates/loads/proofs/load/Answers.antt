use Rattle.loads.proofs.Laws.{found_hit, found_none}
use Rattle.reach.proofs.Bounds.{find_low}
use Rattle.machine.proofs.Kept.{kept}
use Rattle.machine.specs.Lists.{lists_of, machine_of}
use mathlib.Core.Path.{refl, sym, ◌∙◌}
use Rattle.loads.proofs.load.Goals as goal

pub load_hit-requires : goal.load_hit-requires
load_hit-requires c = (
  c.requires.0.store_long,
  find_low c.args.side.now.lines.now _ _ c.requires.0.lines_long
      (sym c.find-found.ensures ∙ c.in-Some.is),
  c.requires.1,
  c.requires.0.hits,
)

pub returns-in-Some : goal.returns-in-Some
returns-in-Some c =
    let a = c.args in
    let l = lists_of a.side.now in (
      record {
        same = λ es n. c.load_hit.ensures l es n refl ∙ sym
            (found_hit (machine_of l es a.s n) a.a a.p _ _ c.cleared-va.ensures
            (sym c.find-found.ensures ∙ c.in-Some.is));
        bytes_long = c.requires.0.fits.bytes_long;
      },
      kept refl refl refl refl refl refl,
    )

pub returns-in-None : goal.returns-in-None
returns-in-None c =
    let a = c.args in
    let l = lists_of a.side.now in (
      record {
        same = λ es n. c.load_miss.ensures.0.same es n ∙ sym
            (found_none (machine_of l es a.s n) a.a a.p _ c.cleared-va.ensures
            (sym c.find-found.ensures ∙ c.in-None.is));
        bytes_long = c.load_miss.ensures.0.bytes_long;
      },
      c.load_miss.ensures.1,
    )
