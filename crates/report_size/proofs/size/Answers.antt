-- `report_size::size` meets its contract: N is a number with no decimal places. Assumes nothing.
use Rattle.std.proofs.Common.{arith, ap, length, length-append}
use Rattle.rules.specs.Report.{count_line, mean_line, findings_text}
use Rattle.rules.proofs.TextLaws.{pointed_none}
use Rattle.report_size.proofs.size.Goals as goal

pub returns : goal.returns
unfolding count_line mean_line findings_text
returns c =
    let count = simp (c.from.ensures, pointed_none) at c.number_size-count.ensures.0 in
    simp length-append (omega (arith, ap length c.mark.ensures.0))
