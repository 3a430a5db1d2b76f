-- What the tests of card, results and sums show. Assumes nothing.
use Prim.Native.Nat.{ℕ, zero, suc, ◌*◌, ◌≤◌}
use native.Mathlib.Omega.{arith}
use mathlib.Core.Path.{◌≡◌, refl, ap, ◌∙◌}
use mathlib.Core.Bool.{Bool, true, ◌&&◌}
use mathlib.Core.List.{List}
use lib.Dec.{leb}
use Rattle.std.specs.Prelude.{Some, None}
use borrow.Author.Tests.{leb-true, le-leb}
use Rattle.rules.specs.Choice.{pick}
use Rattle.rules.specs.Limits.{least_reported, most_held, most_rows, highest_x, least_factor, most_factor, most_seeds}
use Rattle.rules.specs.Contents.{largest, smallest}
use Rattle.rules.specs.Figures.{figures_of}
use Rattle.rules.specs.Report.{findings_of}
use Rattle.rules.specs.declared.Attribute.{Attribute}
use Rattle.rules.specs.declared.Card.{Card}
use Rattle.rules.specs.declared.Figures.{Figures}
use Rattle.rules.proofs.Tests.{and_left, and_right}
use Rattle.rules.specs.Spread.{Spread}
use Rattle.held_lists.specs.Places.{in_order}
use Rattle.held_lists.proofs.InOrder.{count_in_order}
use Rattle.findings.specs.Reportable.{with_sums, sums_within, within_limits, reportable, found_of, IsReportable}

ends_in_order : (vs : List ℕ) (n : ℕ) → 1 ≤ n → smallest n (in_order vs) ≤ largest n (in_order vs)
unfolding smallest largest
ends_in_order vs zero h = absurd (omega arith)
ends_in_order vs (suc n) h = omega arith

le_and : (a b : ℕ) (q : Bool) → leb a b && q ≡ true → (a ≤ b) × (q ≡ true)
le_and a b q e = (leb-true a b (and_left (leb a b) q e), and_right (leb a b) q e)

-- ---- the test of the two sums
sums_are : (f : Figures) → sums_within f ≡ true → Spread highest_x f
sums_are f w =
    let sum = le_and f.sum (highest_x * f.count) _ w in
    let squares = le_and f.squares (highest_x * f.sum) _ sum.1 in
    record { sum_high = sum.0; squares_high = squares.0; low = leb-true (f.sum * f.sum) (f.count * f.squares) squares.1 }

pub sums_within_of : (f : Figures) → Spread highest_x f → sums_within f ≡ true
sums_within_of f s =
    rw (le-leb f.sum (highest_x * f.count) s.sum_high, le-leb f.squares (highest_x * f.sum) s.squares_high, le-leb (f.sum * f.sum) (f.count * f.squares) s.low)
    refl

-- ---- the figures of the first n stored results, with the sums s and q
module _ (vs : List ℕ) (n s q : ℕ) (f : Figures) (e : f ≡ with_sums s q (figures_of n (in_order vs))) where
  count_is : f.count ≡ n
  count_is = ap (λ (g : Figures). g.count) e ∙ count_in_order vs n

  module _ (c : Card) (hi : n ≤ most_held) where
    pub is_reportable : within_limits c.head c.rows f ≡ true → IsReportable c f
    is_reportable w =
        let enough = le_and least_reported f.count _ w in
        let sums = and_left (sums_within f) _ enough.1 in
        let factor = le_and least_factor c.head.factor _ (and_right (sums_within f) _ enough.1) in
        let factor_high = le_and c.head.factor most_factor _ factor.1 in
        let seeds = le_and c.head.seeds most_seeds _ factor_high.1 in
        let some : 1 ≤ n = omega (arith, count_is) in
        record {
          served = record {
            enough = enough.0;
            few = omega (arith, count_is);
            spread = sums_are f sums;
            ends = rw e (ends_in_order vs n some);
          };
          head = record { seeds = seeds.0; factor = factor.0; factor_high = factor_high.0 };
          rows = leb-true c.rows most_rows seeds.1;
        }

    pub found_is : (a : Attribute) (b : Bool) → within_limits c.head c.rows f ≡ b
        → pick b (Some (findings_of a c f)) None ≡ found_of a c (with_sums s q (figures_of n (in_order vs)))
    found_is a b w =
        let here : pick b (Some (findings_of a c f)) None ≡ found_of a c f = rw (le-leb f.count most_held (omega (arith, count_is)), w) refl in
        here ∙ ap (found_of a c) e

-- ---- for the caller
pub reportable_enough : (c : Card) (f : Figures) → reportable c f ≡ true → least_reported ≤ f.count
reportable_enough c f e = (le_and least_reported f.count _ (and_right (leb f.count most_held) _ e)).0
