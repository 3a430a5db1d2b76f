-- `held_lists::place_of` meets its promise: what is found behind the blocks that are passed. Assumes nothing.
use Rattle.held_lists.proofs.Blocks.{none_behind, found_behind}
use Rattle.held_lists.proofs.place_of.Goals as goal

pub returns-in_default : goal.returns-in_default
returns-in_default c =
    let from = c.places_without-from in
    none_behind c.args.containers.now from.result c.args.k from.ensures.0 from.ensures.1 c.in_default.ensures

pub returns : goal.returns
returns c =
    let from = c.places_without-from in
    found_behind c.args.containers.now from.result c.args.k from.ensures.0 from.ensures.1 c.in-Some.at c.in-Some.ensures
