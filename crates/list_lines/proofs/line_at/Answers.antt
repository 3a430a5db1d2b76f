-- `list_lines::line_at` meets its contract. Assumes nothing.
use Rattle.list_lines.proofs.LineLaws.{read_line}
use Rattle.list_lines.proofs.line_at.Goals as goal

pub returns : goal.returns
returns c =
    read_line _ _ _ _ _ _ _ c.min-start.ensures c.place.ensures c.unwrap_or-length.ensures c.line_of.ensures
