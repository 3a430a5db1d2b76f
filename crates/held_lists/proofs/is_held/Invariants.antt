-- `held_lists::is_held` meets its promise: the loop keeps whether one of the places passed has the container. Assumes nothing.
use mathlib.Core.List.{List}
use mathlib.Core.Path.{◌≡◌}
use Prim.Native.Nat.{ℕ}
use Rattle.rules.specs.Contents.{is_held}
use Rattle.held_lists.specs.Places.{stored}
use Rattle.held_lists.proofs.is_held.Given as goal

abbrev pub invariant-loop-container : goal.invariant-loop-container
invariant-loop-container l = (vs : List ℕ) → l.found ≡ is_held (stored l.containers vs l.container-index l.k)
