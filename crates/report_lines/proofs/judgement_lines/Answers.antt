-- `report_lines::judgement_lines` meets its contract: each line in the rest of the buffer behind the one before it. Assumes nothing.
use mathlib.Core.Path.{refl}
use Rattle.rules.specs.Report.{judgement_text}
use Rattle.decimal.proofs.LayingLaws.{piece, a_line, then_line}
use Rattle.report_lines.proofs.judgement_lines.Goals as goal

pub returns-in-None : goal.returns-in-None
unfolding judgement_text
returns-in-None c = rw c.in-None.is (a_line _ _ _ _ (piece _ _ _ _ _ c.bytes.ensures c.bytes.auto.buf))

pub returns-in-Some : goal.returns-in-Some
unfolding judgement_text
returns-in-Some c =
    let both = then_line _ _ _ _ _ _ _ _ c.value_line-a.ensures refl c.value_line.ensures in
    rw c.in-Some.is (then_line _ _ _ _ _ _ _ _ both refl c.lot_line.ensures)
