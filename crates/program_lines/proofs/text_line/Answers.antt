use Rattle.decimal.proofs.LayingLaws.{piece, then_piece}
use Rattle.program_lines.proofs.LineLaws.{ended_fits}
use Rattle.program_lines.proofs.text_line.Goals as goal

pub returns : goal.returns
returns c =
    ended_fits c.args.text.now _ _ _ c.if-buf-text.false
    (then_piece _ _ _ _ _ _ _ _ (piece _ _ _ _ _ c.bytes-behind.ensures c.bytes-behind.auto.buf) c.bytes.ensures c.bytes.auto.buf)
