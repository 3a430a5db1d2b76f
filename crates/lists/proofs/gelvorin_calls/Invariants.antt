-- `lists::gelvorin_calls` meets its contract.
use mathlib.Core.Path.{◌≡◌}
use Prim.Native.Nat.{◌-◌, ◌≤◌}
use lib.ListN.{length}
use Rattle.lists.proofs.gelvorin_calls.Given as goal

abbrev pub invariant-loop-call : goal.invariant-loop-call
invariant-loop-call l = (l.at ≤ length l.buf) × (length l.buf ≡ length l.initial.buf)

abbrev pub decreases-loop-call : goal.decreases-loop-call
decreases-loop-call l = length l.buf - l.at
