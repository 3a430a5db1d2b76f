-- `report::report` meets its contract. Assumes nothing.
use mathlib.Core.Path.{◌≡◌, sym, ◌∙◌}
use Rattle.std.proofs.Common.{rules, take}
use Rattle.report.proofs.Reported.{found_held, too_few, written}
use Rattle.report.proofs.report.Goals as goal

pub returns-in-Some-of_lot : goal.returns-in-Some-of_lot
returns-in-Some-of_lot c =
    let t = c.args.t in
    let held : c.in-Some.held.now ≡ take t.held t.results = search rules in
    let found = found_held t c.from-attribute.result _ c.in-Some.ensures.lookup.0.1 held in
    written t _ c.from-attribute.ensures _ _ _ _ (sym found ∙ sym c.of_lot.ensures ∙ c.in-Some-of_lot.is) c.five_lines.ensures

pub returns-in-None : goal.returns-in-None
returns-in-None c =
    let t = c.args.t in
    let held : c.in-Some.held.now ≡ take t.held t.results = search rules in
    let found = found_held t c.from-attribute.result _ c.in-Some.ensures.lookup.0.1 held in
    too_few t _ c.from-attribute.ensures _ (sym found ∙ sym c.of_lot.ensures ∙ c.in-None.is)
