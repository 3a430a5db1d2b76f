-- A sound tally: the figures that a report is made from are those of the map that its results stand for, and the tests of results, sums
-- and card pass. Assumes nothing.
use Prim.Native.Nat.{◌≤◌}
use native.Mathlib.Omega.{arith}
use mathlib.Core.Path.{◌≡◌, sym, ◌∙◌, subst}
use mathlib.Core.Bool.{true}
use borrow.Author.Tests.{le-leb}
use Rattle.rules.specs.Limits.{least_reported, highest_x, most_held, most_rows, least_factor, most_factor, most_seeds}
use Rattle.rules.specs.Figures.{figures}
use Rattle.rules.specs.Spread.{Spread}
use Rattle.rules.specs.declared.Figures.{Figures}
use Rattle.rules.proofs.Bounds.{opened_head}
use Rattle.rules.proofs.SpreadLaws.{spread_of}
use Rattle.held_lists.specs.Places.{in_order}
use Rattle.held_lists.proofs.InOrder.{count_in_order}
use Rattle.tally.specs.declared.Tally.{Tally}
use Rattle.tally.specs.View.{view}
use Rattle.tally.specs.Calls.{Sound}
use Rattle.tally.proofs.Sums.{walked, figures_are, low_results}
use Rattle.findings.specs.Reportable.{with_sums, reportable}
use Rattle.findings.proofs.ReportableLaws.{sums_within_of}

-- the figures of the stored results, in the order of storing, with the sums that the tally keeps
abbrev pub kept : Tally → Figures
kept t = with_sums t.sum t.squares (walked t)

pub kept_are : (t : Tally) → Sound t → figures (view t) ≡ kept t
kept_are t s =
    let e = figures_are t s in
    λ i. record { count = (e i).count; sum = sym s.sum i; squares = sym s.squares i; smallest = (e i).smallest; largest = (e i).largest }

kept_spread : (t : Tally) → Sound t → Spread highest_x (kept t)
kept_spread t s = subst (Spread highest_x) (sym (figures_are t s) ∙ kept_are t s) (spread_of highest_x t.held (in_order t.results) (low_results t s))

pub sound_reportable : (t : Tally) → Sound t → least_reported ≤ t.held → reportable t.card (kept t) ≡ true
sound_reportable t s h =
    let c = t.card in
    let n = t.held in
    let k = opened_head t.lot c (s.good (omega (arith, s.above 0 (omega arith), s.inside 0 (omega arith)))) in
    rw (
      sums_within_of (kept t) (kept_spread t s),
      count_in_order t.results n,
      le-leb n most_held s.small,
      le-leb least_reported n h,
      le-leb least_factor c.head.factor k.factor,
      le-leb c.head.factor most_factor k.factor_high,
      le-leb c.head.seeds most_seeds k.seeds,
    )
    (le-leb c.rows most_rows s.rows)
