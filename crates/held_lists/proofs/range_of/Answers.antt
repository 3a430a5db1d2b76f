-- `held_lists::range_of` meets its promise: the loop keeps the two ends of the places passed. Assumes nothing.
use Prim.Native.Nat.{min, max}
use mathlib.Core.Path.{◌≡◌, refl, ◌∙◌}
use native.Mathlib.Omega.{arith}
use lib.ListN.{get_or, length, take}
use lib.Seq.{get_or-take, length-take-le}
use Rattle.rules.specs.Limits.{most_held, widest}
use Rattle.rules.specs.Contents.{smallest, largest}
use Rattle.rules.proofs.Capacity.{capacity}
use Rattle.held_lists.proofs.InOrder.{smallest_turn, largest_turn, largest_in_order, range_read}
use borrow.Author.Rules.{rules}
use Rattle.held_lists.proofs.range_of.Goals as goal

pub loop-x-init : goal.loop-x-init
unfolding smallest largest
loop-x-init c = (refl, refl)

pub loop-x-preserved : goal.loop-x-preserved
loop-x-preserved c =
    let l = c.loop-x in
    let vs = c.args.results.now in
    let all : length (take c.min-held.result vs) ≡ c.min-held.result = length-take-le c.min-held.result vs (search rules) in
    let here : get_or (take c.min-held.result vs) l.x-index 0 ≡ get_or vs l.x-index 0 = get_or-take c.min-held.result vs l.x-index 0 (omega (arith, all)) in
    let x : c.from.result ≡ get_or vs l.x-index 0 = grind (arith, here) in
    let y : c.from-in-loop-x.result ≡ get_or vs l.x-index 0 = grind (arith, here) in
    let least : c.min-smallest.result ≡ min l.smallest c.from.result = search rules in
    let most : c.max-largest.result ≡ max l.largest c.from-in-loop-x.result = search rules in (
      least ∙ (rw (l.invariant.0, x) (smallest_turn vs l.x-index)),
      most ∙ (rw (l.invariant.1, y) (largest_turn vs l.x-index)),
    )

pub returns : goal.returns
returns c =
    let l = c.loop-x in
    let vs = c.args.results.now in
    let n : c.min-held.result ≡ min (length vs) most_held = search (rules, capacity) in
    let all : length (take c.min-held.result vs) ≡ c.min-held.result = length-take-le c.min-held.result vs (search rules) in
    let e : l.x-index ≡ c.min-held.result = omega (arith, all) in
    let low = largest_in_order widest vs c.min-held.result (λ i h. omega (arith, c.type_inv.results i)) in
    rw (← n) (range_read vs c.min-held.result _ refl (rw (← e) l.invariant.0) (rw (← e) l.invariant.1) low)
