-- `list_reader::read_list` meets its promise: the tally as the lines left it, or the very tally. Assumes nothing.
use mathlib.Core.Path.{sym, ◌∙◌}
use Rattle.list_reader.proofs.Entering.{list_refused, list_accepted}
use Rattle.list_reader.proofs.read_list.Goals as goal

pub returns-then-is_err : goal.returns-then-is_err
returns-then-is_err c = list_refused _ _ _ _ c.take_lines-answer.ensures (sym c.is_err.ensures.value ∙ c.if-is_err.true)

pub returns-else-is_err : goal.returns-else-is_err
returns-else-is_err c = list_accepted _ _ _ _ c.take_lines-answer.ensures (sym c.is_err.ensures.value ∙ c.if-is_err.false)
