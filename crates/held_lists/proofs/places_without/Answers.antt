-- `held_lists::places_without` meets its promise: one block more does not have the container. Assumes nothing.
use Rattle.std.proofs.Common.{sym, ◌∙◌, arith}
use Prim.Native.Nat.{◌*◌}
use Rattle.held_lists.specs.declared.TheConstants.{BLOCK}
use Rattle.held_lists.proofs.Blocks.{block_passed}
use Rattle.held_lists.proofs.places_without.Goals as goal

pub loop-block-preserved : goal.loop-block-preserved
loop-block-preserved c =
    let l = c.args.containers.now in
    let at = c.loop-block in
    let none = sym (c.is_held.ensures l) ∙ c.if-is_held.false in
    let passed = block_passed l l (BLOCK * at.block) BLOCK c.args.k (omega (arith, c.loop-block-test.true)) at.invariant none in
    λ i h e. passed i (omega (arith, h)) e
