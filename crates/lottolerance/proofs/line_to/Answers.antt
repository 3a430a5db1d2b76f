use Rattle.std.proofs.Common.{rules, arith}
use Rattle.rules.specs.Text.{text}
use Rattle.program_words.specs.Saying.{test_said}
use Rattle.program_lines.specs.Lines.{yes_or_no}
use Rattle.program_lines.specs.Printing.{tolerance_prints}
use Rattle.program_lines.proofs.LineLaws.{yes_or_no_most, line_answers}
use Rattle.lottolerance.proofs.line_to.Goals as goal

pub returns-clause-text : goal.returns-clause-text
unfolding tolerance_prints
returns-clause-text c =
    let line = line_answers (text "usage: lottolerance label LABELLED FOUND, or lottolerance pair FIRST SECOND") (yes_or_no (text "within") (text "out"))
    (test_said c.said_to-said.result) c.verdict_line.ensures (search rules) (omega arith) (yes_or_no_most (text "within") (text "out") (omega arith) (omega arith)) in
    line.0 _ (rw c.two_numbers-words.ensures at c.said_to-said.ensures)
