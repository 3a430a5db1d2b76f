use Rattle.std.proofs.Common.{arith}
use Rattle.refusal_lines.proofs.Numbers.{one_number, line_end}
use Rattle.refusal_lines.proofs.numbers_line.Goals as goal

pub loop-n-preserved : goal.loop-n-preserved
loop-n-preserved c =
    let space = c.bytes-at-in-loop-n in
    one_number c.args.numbers.now _ _ _ _ _ _ _ _ (omega arith) c.loop-n.invariant space.ensures space.auto.buf c.number-at.ensures c.number-at.auto.buf

pub returns : goal.returns
returns c =
    line_end c.args.numbers.now _ _ _ _ _ _ (omega arith) c.loop-n.invariant c.bytes.ensures c.bytes.auto.buf
