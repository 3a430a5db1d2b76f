-- `report_lines::lot_line` meets its contract: its pieces, one behind the other. Assumes nothing.
use Rattle.rules.specs.Report.{lot_verdict_line}
use Rattle.report_lines.proofs.Pieces.{starts, goes_on, ends}
use Rattle.report_lines.proofs.lot_line.Goals as goal

pub returns : goal.returns
unfolding lot_verdict_line
returns c =
    let one = starts c.bytes-a.ensures c.bytes-a.auto.buf in
    let two = goes_on one c.bytes-b.ensures c.bytes-b.auto.buf in
    rw (← c.lot.ensures.0) (ends two c.bytes.ensures c.bytes.auto.buf)
