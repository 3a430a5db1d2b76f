-- `held_lists::meet` meets its promise: the loop keeps whether one of the places passed is held. Assumes nothing.
use mathlib.Core.Path.{refl}
use Rattle.held_lists.specs.Places.{meets}
use Rattle.held_lists.proofs.Meeting.{meets_turn}
use Rattle.held_lists.proofs.meet.Goals as goal

pub loop-other-init : goal.loop-other-init
unfolding meets
loop-other-init c = λ vs. refl

pub loop-other-preserved : goal.loop-other-preserved
loop-other-preserved c = λ vs. meets_turn _ _ _ refl (c.loop-other.invariant vs) (c.is_held-found.ensures vs)
