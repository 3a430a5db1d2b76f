-- `held_lists::first_place` meets its promise: the place is the first that has the container. Assumes nothing.
use Rattle.std.proofs.Common.{rules, tests}
use mathlib.Core.Path.{◌≡◌}
use Rattle.std.proofs.lemmas.Iterator.{IsFirst-from_position, YieldsList-from_slice}
use Rattle.held_lists.proofs.Stored.{found_first}
use Rattle.held_lists.proofs.first_place.Goals as goal

pub returns : goal.returns
returns c =
    found_first c.args.containers.now c.args.k _
    (IsFirst-from_position _ _ _ (λ x. x ≡ c.args.k) (λ x. x ≡ c.args.k → ⊥) c.position.ensures.ran (YieldsList-from_slice c.args.containers.now cc)
    (λ x q k. search (rules, tests)) (λ x q k. search (rules, tests)))
