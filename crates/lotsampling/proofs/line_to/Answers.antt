use Rattle.std.proofs.Common.{rules, arith}
use Rattle.rules.specs.Text.{text, decimal}
use Rattle.rules.proofs.TextLaws.{length_decimal}
use Rattle.program_words.specs.Saying.{number_said}
use Rattle.program_lines.specs.Printing.{sampling_prints}
use Rattle.program_lines.proofs.LineLaws.{line_answers}
use Rattle.lotsampling.proofs.line_to.Goals as goal

pub returns-clause-text : goal.returns-clause-text
unfolding sampling_prints
returns-clause-text c =
    let line = line_answers (text "usage: lotsampling CONTAINERS KILOGRAMS") decimal (number_said c.said_to-said.result) c.number_line.ensures (search rules) (omega arith)
    (λ v. omega (arith, length_decimal v)) in
    line.0 _ (rw c.two_numbers-words.ensures at c.said_to-said.ensures)
