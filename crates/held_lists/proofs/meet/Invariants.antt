-- `held_lists::meet` meets its promise: the loop keeps whether one of the places passed is held. Assumes nothing.
use mathlib.Core.List.{List}
use mathlib.Core.Path.{◌≡◌}
use Prim.Native.Nat.{ℕ}
use lib.ListN.{length}
use Rattle.held_lists.specs.Places.{stored, meets}
use Rattle.held_lists.proofs.meet.Given as goal

abbrev pub invariant-loop-other : goal.invariant-loop-other
invariant-loop-other l = (vs : List ℕ) → l.found ≡ meets (stored l.containers vs (length l.containers)) l.others l.other-index
