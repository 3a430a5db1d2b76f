-- `tolerance_tables::tolerated_difference` meets its contract. Assumes nothing.
use Rattle.std.proofs.Common.{ap, ◌∙◌}
use Rattle.std.specs.Prelude.{Some}
use borrow.Author.Tests.{le-ltb}
use Rattle.tolerance_tables.proofs.Counting.{chosen}
use Rattle.tolerance_tables.proofs.tolerated_difference.Goals as goal

pub returns : goal.returns
returns c =
    let inside = c.if-average-gt-LAST_AVERAGE.false in
    let found = chosen c.args.average inside c.rows_14h-rows.ensures (c.from.ensures ∙ c.rows_below-below.ensures) in
    rw (le-ltb 501 c.args.average inside) (ap Some (c.from-2.ensures ∙ found))
