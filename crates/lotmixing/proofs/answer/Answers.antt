use Rattle.std.proofs.Common.{rules, arith}
use Rattle.rules.specs.Text.{text}
use Rattle.program_words.specs.Saying.{test_said}
use Rattle.program_lines.specs.Lines.{yes_or_no}
use Rattle.program_lines.specs.Printing.{mixing_prints}
use Rattle.program_lines.proofs.LineLaws.{yes_or_no_most, line_answers}
use Rattle.lotmixing.proofs.answer.Goals as goal

pub returns-clause-by_index : goal.returns-clause-by_index
unfolding mixing_prints
returns-clause-by_index c =
    let line = line_answers (text "usage: lotmixing TOLERATED X X ..") (yes_or_no (text "mixable") (text "not mixable")) (test_said c.said_to.result) c.verdict_line.ensures
    (search rules) (omega arith) (yes_or_no_most (text "mixable") (text "not mixable") (omega arith) (omega arith)) in
    λ words kept. line.0 _ (c.said_to.ensures words kept)
