-- `held_lists::is_held` meets its promise: the loop keeps whether one of the places passed has the container. Assumes nothing.
use mathlib.Core.Path.{refl}
use Rattle.held_lists.specs.Places.{stored}
use Rattle.held_lists.proofs.Stored.{held_turn}
use Rattle.held_lists.proofs.is_held.Goals as goal

pub loop-container-init : goal.loop-container-init
unfolding stored
loop-container-init c = λ vs. refl

pub loop-container-preserved : goal.loop-container-preserved
loop-container-preserved c = λ vs. held_turn _ vs _ _ (c.loop-container.invariant vs)
