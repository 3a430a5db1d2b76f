-- `findings::figures::figures_of` meets its contract. Assumes nothing.
use Prim.Native.Nat.{min}
use mathlib.Core.Path.{◌≡◌}
use native.Mathlib.Omega.{arith}
use lib.ListN.{length}
use Rattle.rules.specs.Limits.{widest, most_held}
use Rattle.held_lists.proofs.InOrder.{largest_in_order, range_is}
use Rattle.findings.proofs.figures.figures_of.Goals as goal

pub returns : goal.returns
returns c =
    let vs = c.args.results.now in
    let held : min (length vs) most_held ≡ length vs = omega arith in
    let low = largest_in_order widest vs (length vs) (λ i h. omega (arith, c.type_inv.results i)) in
    let range = range_is vs (length vs) _ (rw held at c.range_of-range.ensures) low in
    λ i. record { count = (range i).read; sum = c.args.sum; squares = c.args.squares; smallest = (range i).smallest; largest = (range i).largest }
