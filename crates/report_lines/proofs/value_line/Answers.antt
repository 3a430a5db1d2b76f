-- `report_lines::value_line` meets its contract: its pieces, one behind the other. Assumes nothing.
use Rattle.rules.specs.Report.{value_line}
use Rattle.report_lines.proofs.Pieces.{starts, goes_on, ends}
use Rattle.report_lines.proofs.value_line.Goals as goal

pub returns : goal.returns
unfolding value_line
returns c =
    let one = starts c.bytes-a.ensures c.bytes-a.auto.buf in
    let two = goes_on one c.pointed-b.ensures c.pointed-b.auto.buf in
    let three = goes_on two c.bytes-c.ensures c.bytes-c.auto.buf in
    let four = goes_on three c.bytes-d.ensures c.bytes-d.auto.buf in
    let five = goes_on four c.limit-e.ensures c.limit-e.auto.buf in
    let six = goes_on five c.bytes-f.ensures c.bytes-f.auto.buf in
    let seven = goes_on six c.bytes-g.ensures c.bytes-g.auto.buf in
    rw (← c.mark.ensures.0, ← c.verdict.ensures.0) (ends seven c.bytes.ensures c.bytes.auto.buf)
