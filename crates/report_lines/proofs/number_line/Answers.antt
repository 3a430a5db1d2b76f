-- `report_lines::number_line` meets its contract: its pieces, one behind the other. Assumes nothing.
use Rattle.report_lines.proofs.Pieces.{starts, goes_on, ends}
use Rattle.report_lines.proofs.number_line.Goals as goal

pub returns : goal.returns
returns c =
    let one = starts c.bytes-a.ensures c.bytes-a.auto.buf in
    let two = goes_on one c.pointed-b.ensures c.pointed-b.auto.buf in
    let three = goes_on two c.bytes-c.ensures c.bytes-c.auto.buf in
    rw (← c.mark.ensures.0) (ends three c.bytes.ensures c.bytes.auto.buf)
