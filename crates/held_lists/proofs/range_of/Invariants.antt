-- `held_lists::range_of` meets its promise: the loop keeps the two ends of the places passed. Assumes nothing.
use mathlib.Core.Path.{◌≡◌}
use Rattle.rules.specs.Contents.{smallest, largest}
use Rattle.held_lists.specs.Places.{in_order}
use Rattle.held_lists.proofs.range_of.Given as goal

abbrev pub invariant-loop-x : goal.invariant-loop-x
invariant-loop-x l = (l.smallest ≡ smallest l.x-index (in_order l.results)) × (l.largest ≡ largest l.x-index (in_order l.results))
