-- `list_reader::take_lines` meets its contract: the lines before `at` are entered, and the next one has the number `line`. Assumes nothing.
use Prim.Native.Nat.{◌-◌}
use lib.ListN.{length}
use Rattle.list_reader.proofs.Entering.{Reached}
use Rattle.list_reader.proofs.take_lines.Given as goal

abbrev pub invariant-loop-at : goal.invariant-loop-at
invariant-loop-at l = Reached l.initial.t l.list l.t l.at l.line

abbrev pub decreases-loop-at : goal.decreases-loop-at
decreases-loop-at l = length l.list - l.at
