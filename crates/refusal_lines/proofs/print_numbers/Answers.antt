use Rattle.std.proofs.Common.{arith}
use Rattle.refusal_lines.proofs.Numbers.{widths_few, line_short, line_laid}
use Rattle.refusal_lines.proofs.print_numbers.Goals as goal

pub overflow_add-size : goal.overflow_add-size
overflow_add-size c = omega (arith, widths_few c.args.numbers.now)

pub returns-then-buf-size : goal.returns-then-buf-size
returns-then-buf-size c = line_short _ _ _ c.spaced_widths-size.ensures c.if-buf-size.true

pub returns : goal.returns
returns c = line_laid _ _ _ _ _ c.spaced_widths-size.ensures c.if-buf-size.false c.numbers_line.ensures
