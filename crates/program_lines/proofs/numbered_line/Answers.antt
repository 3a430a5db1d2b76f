use Rattle.std.proofs.Common.{◌++◌, length-append, arith}
use Rattle.rules.specs.Text.{decimal}
use Rattle.rules.proofs.TextLaws.{length_decimal}
use Rattle.decimal.proofs.LayingLaws.{piece, then_piece}
use Rattle.program_lines.proofs.LineLaws.{ended_fits}
use Rattle.program_lines.proofs.numbered_line.Goals as goal

pub overflow_add-text : goal.overflow_add-text
overflow_add-text c = omega (arith, length_decimal c.args.n)

pub overflow_add-text-2 : goal.overflow_add-text-2
overflow_add-text-2 c = omega (arith, length_decimal c.args.n)

pub returns : goal.returns
returns c =
    ended_fits (c.args.text.now ++ decimal c.args.n) _ _ _ (simp length-append (omega arith))
    (then_piece _ _ _ _ _ _ _ _
    (then_piece _ _ _ _ _ _ _ _ (piece _ _ _ _ _ c.bytes-digits.ensures c.bytes-digits.auto.buf) c.number-end.ensures c.number-end.auto.buf)
    c.bytes.ensures c.bytes.auto.buf)
