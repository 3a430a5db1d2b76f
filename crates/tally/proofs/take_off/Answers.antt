-- `tally::take_off` meets its promise: one place less, or the very lists. Assumes nothing.
use Rattle.std.proofs.Common.{arith}
use Rattle.tally.proofs.Steps.{found_in, not_found, goes, goes_not}
use Rattle.tally.proofs.take_off.Goals as goal
use Rattle.rules.proofs.Capacity.{capacity}

pub returns-in_default : goal.returns-in_default
returns-in_default c =
    let a = c.args in
    let look = c.held_containers.ensures in
    goes_not _ _ a.held a.container _ (not_found a.containers.now a.held c.held_containers.result.now look.0 look.1 a.container c.in_default.ensures)
    (omega (arith, look.1))

pub returns : goal.returns
returns c =
    let a = c.args in
    let look = c.held_containers.ensures in
    let found = c.in-Some.ensures in
    goes _ _ a.held a.container c.in-Some.at (found_in a.containers.now a.held c.held_containers.result.now look.0 look.1 a.container c.in-Some.at found.1)
    c.min-n.result (rw (← capacity) at c.min-n.ensures) (omega (arith, found.0, look.1, c.min-n.ensures, capacity))
