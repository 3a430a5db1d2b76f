-- `report_lines::lines` meets its contract: each line in the rest of the buffer behind the one before it. Assumes nothing.
use mathlib.Core.Path.{refl}
use Rattle.rules.specs.Report.{mean_line, findings_text}
use Rattle.decimal.proofs.LayingLaws.{then_line}
use Rattle.report_lines.proofs.Pieces.{count_is}
use Rattle.report_lines.proofs.lines.Goals as goal

pub returns : goal.returns
unfolding mean_line findings_text
returns c =
    let count = rw c.from.ensures at c.number_line-a.ensures in
    let both = then_line _ _ _ _ _ _ _ _ count refl c.number_line.ensures in
    rw (count_is _) (then_line _ _ _ _ _ _ _ _ both refl c.judgement_lines.ensures)
