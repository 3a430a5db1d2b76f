-- The figures of a sound tally are those of a walk over its stored results, and how far its sums go. Assumes nothing.
use Prim.Native.Nat.{◌*◌, ◌≤◌}
use native.Mathlib.Omega.{arith}
use mathlib.Core.Path.{◌≡◌, ap, ◌∙◌}
use Rattle.rules.specs.Limits.{highest_x, most_held}
use Rattle.rules.specs.Figures.{figures_of, figures}
use Rattle.rules.specs.declared.Figures.{Figures}
use Rattle.rules.proofs.SpreadLaws.{spread_of}
use Rattle.held_lists.specs.Places.{in_order, Different}
use Rattle.held_lists.proofs.InOrder.{count_in_order, largest_in_order, figures_stored}
use Rattle.tally.specs.declared.Tally.{Tally}
use Rattle.tally.specs.View.{view}
use Rattle.tally.specs.Calls.{Sound}

-- the figures of the stored results, in the order of storing
abbrev pub walked : Tally → Figures
walked t = figures_of t.held (in_order t.results)

-- the places that count have containers of the lot, no two the same
pub different : (t : Tally) → Sound t → Different t.lot.containers t.containers t.held
different t s = record { apart = s.apart; above = s.above; inside = s.inside }

pub figures_are : (t : Tally) → Sound t → figures (view t) ≡ walked t
figures_are t s = figures_stored t.lot.containers t.containers t.results t.held (different t s) (λ i h. omega (arith, s.low i h))

pub low_results : (t : Tally) → Sound t → (walked t).largest ≤ highest_x
low_results t s = largest_in_order highest_x t.results t.held s.low

-- neither sum comes near what its field has room for
pub sums_low : (t : Tally) → Sound t → (t.sum ≤ highest_x * most_held) × (t.squares ≤ highest_x * highest_x * most_held)
sums_low t s =
    let p = spread_of highest_x t.held (in_order t.results) (low_results t s) in
    let n = count_in_order t.results t.held in
    let sum : t.sum ≡ (walked t).sum = s.sum ∙ ap (λ (f : Figures). f.sum) (figures_are t s) in
    let squares : t.squares ≡ (walked t).squares = s.squares ∙ ap (λ (f : Figures). f.squares) (figures_are t s) in
    (omega (arith, sum, p.sum_high, n, s.small), omega (arith, squares, p.squares_high, p.sum_high, n, s.small))
