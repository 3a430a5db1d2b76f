use Rattle.std.proofs.Common.{◌++◌, take}
use Rattle.rules.specs.Text.{text}
use Rattle.decimal.specs.Laying.{Fitting}
use Rattle.refusal_lines.specs.Numbered.{spaced}
use Rattle.refusal_lines.proofs.numbers_line.Given as goal

abbrev pub invariant-loop-n : goal.invariant-loop-n
invariant-loop-n l = Fitting (text "REFUSED" ++ spaced (take l.n-index l.numbers)) 0 l.fn.buf l.buf l.at
