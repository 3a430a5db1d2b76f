-- `sheet::take_head` meets its contract.
use mathlib.Core.Path.{◌≡◌}
use mathlib.Core.Bool.{false}
use Prim.Native.Nat.{◌-◌}
use lib.ListN.{length}
use Rattle.rules.specs.Stages.{is_opened}
use Rattle.head_steps.specs.Promise.{state_of}
use Rattle.sheet.specs.Promise.{Starts, read_rest, read_with}
use Rattle.sheet.proofs.take_head.Given as goal

abbrev pub invariant-loop-at : goal.invariant-loop-at
invariant-loop-at l =
    Starts l.sheet l.at l.line × (is_opened l.p.stage ≡ false)
    × (read_with l.sheet l.initial.card ≡ read_rest l.sheet l.at (state_of l.p l.card) l.line)

abbrev pub decreases-loop-at : goal.decreases-loop-at
decreases-loop-at l = length l.sheet - l.at
