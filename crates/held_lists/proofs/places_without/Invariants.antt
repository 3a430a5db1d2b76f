-- `held_lists::places_without` meets its promise: the loop keeps that the blocks passed do not have the container. Assumes nothing.
use Prim.Native.Nat.{◌*◌}
use Rattle.held_lists.specs.Places.{Without}
use Rattle.held_lists.specs.declared.TheConstants.{BLOCK}
use Rattle.held_lists.proofs.places_without.Given as goal

abbrev pub invariant-loop-block : goal.invariant-loop-block
invariant-loop-block l = Without l.containers (BLOCK * l.block) l.k
