-- `findings::of_lot` meets its contract. Assumes nothing.
use mathlib.Core.Path.{refl, sym, ap, ◌∙◌}
use native.Mathlib.Omega.{arith}
use mathlib.Core.Bool.{true}
use borrow.Author.Tests.{lt-leb}
use Rattle.std.specs.Prelude.{Some}
use Rattle.held_lists.proofs.InOrder.{count_in_order}
use Rattle.findings.proofs.ReportableLaws.{is_reportable, found_is}
use Rattle.findings.proofs.of_lot.Goals as goal
use Rattle.rules.proofs.Capacity.{capacity}

pub returns-then-results-gt-MOST_HELD : goal.returns-then-results-gt-MOST_HELD
returns-then-results-gt-MOST_HELD c = rw (count_in_order _ _, capacity, lt-leb _ _ c.if-results-gt-MOST_HELD.true) refl

pub of_figures-requires : goal.of_figures-requires
of_figures-requires c =
    let within = sym c.are_within_limits.ensures ∙ c.if-are_within_limits.true in
    is_reportable _ _ _ _ _ c.figures_of-f.ensures _ (omega (arith, c.if-results-gt-MOST_HELD.false, capacity)) within

pub returns-then-are_within_limits : goal.returns-then-are_within_limits
returns-then-are_within_limits c =
    let within = sym c.are_within_limits.ensures ∙ c.if-are_within_limits.true in
    ap Some c.of_figures.ensures ∙ found_is _ _ _ _ _ c.figures_of-f.ensures _ (omega (arith, c.if-results-gt-MOST_HELD.false, capacity)) _ true within
