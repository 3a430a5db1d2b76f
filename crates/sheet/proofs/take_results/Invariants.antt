-- `sheet::take_results` meets its contract.
use mathlib.Core.Path.{◌≡◌}
use Prim.Native.Nat.{ℕ, ◌-◌}
use lib.ListN.{length}
use Rattle.rules.specs.declared.Stage.TheVariants as stage
use Rattle.tally.specs.Calls.{Sound}
use Rattle.result_steps.specs.Promise.{opened_state, Proper}
use Rattle.sheet.specs.Promise.{Starts, read_rest}
use Rattle.sheet.proofs.take_results.Given as goal

abbrev pub invariant-loop-at : goal.invariant-loop-at
invariant-loop-at l =
    Starts l.sheet l.at l.line
    × (Sound l.initial.t → Proper l.stage l.t
    × ((last : ℕ) → read_rest l.sheet l.at-2 (opened_state last stage.Result l.initial.t) l.line-2 ≡ read_rest l.sheet l.at (opened_state last l.stage l.t) l.line))

abbrev pub decreases-loop-at : goal.decreases-loop-at
decreases-loop-at l = length l.sheet - l.at
