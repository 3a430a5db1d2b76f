-- `list_reader::take_lines` meets its contract: the lines before `at` are entered, and the next one has the number `line`. Assumes nothing.
use Rattle.list_reader.proofs.Entering.{taken_unended, taken_stopped, reached_more}
use Rattle.list_reader.proofs.take_lines.Goals as goal

pub returns-then-list-l : goal.returns-then-list-l
returns-then-list-l c =
    taken_unended _ _ _ _ _ c.loop-at.invariant _ c.from.ensures _ c.line_at-l.ensures c.loop-at-test.true c.if-list-l.true

pub returns-in-Err : goal.returns-in-Err
returns-in-Err c =
    taken_stopped _ _ _ _ _ c.loop-at.invariant _ c.from.ensures _ c.line_at-l.ensures c.loop-at-test.true c.if-list-l.false _ _
    c.in-Err.ensures

pub loop-at-preserved : goal.loop-at-preserved
loop-at-preserved c =
    reached_more _ _ _ _ _ c.loop-at.invariant _ c.from.ensures _ c.line_at-l.ensures c.loop-at-test.true c.if-list-l.false _ _
    c.in_default.ensures
