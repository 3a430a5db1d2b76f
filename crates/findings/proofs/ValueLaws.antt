-- The bounds of the numbers on the way to H, and H from its division. Assumes nothing.
use Prim.Native.Nat.{ℕ, ◌+◌, ◌-◌, ◌*◌, ◌^◌, ◌≤◌, ◌<◌}
use native.Mathlib.Omega.{arith}
use native.Mathlib.Decide.{dec_le}
use native.Mathlib.Nat.{mul-le-mul, mul-le-mul_right, div-le_self, div-lt_iff_lt-mul}
use mathlib.Core.Path.{◌≡◌, refl, ap}
use mathlib.Core.Bool.{Bool, true, false}
use Rattle.rules.specs.Limits.{most_held, highest_x, most_factor, most_seeds}
use Rattle.rules.specs.Attributes.{is_void, mean_scale}
use Rattle.rules.specs.Figures.{deviation, mean_of, ratio, less_whole, reported_h, exceeds, verdict_by, verdict_on}
use Rattle.rules.specs.Spread.{HeadWithin}
use Rattle.rules.specs.declared.Attribute.{Attribute}
use Rattle.rules.specs.declared.Attribute.TheVariants.{Purity, Germination, Count}
use Rattle.rules.specs.declared.Head.{Head}
use Rattle.rules.specs.declared.Figures.{Figures}
use Rattle.rules.specs.declared.Fraction.{Fraction}
use Rattle.std.specs.Prelude.{Option, None, Some}
use Rattle.rules.proofs.RoundingLaws.{low}
use Rattle.rules.proofs.SpreadLaws.{highest_most, ratio_le, under_positive}
use Rattle.rules.proofs.Capacity.{capacity}
use Rattle.rounding.specs.Dividing.{Workable, workable, division_of, is_above}
use Rattle.rounding.proofs.DividingLaws.{workable_of, above_is}
use Rattle.rounding.specs.declared.Division.{Division}
use Rattle.findings.specs.Reportable.{Served}

-- ---- the numbers on the way to H
abbrev most_sum : ℕ
most_sum = highest_x * most_held

module _ (f : Figures) (m : Served f) where
  sum_most : f.sum ≤ most_sum
  sum_most = omega (arith, m.spread.sum_high, m.few)

  -- N·Q and S², and so D
  pub product_most : f.count * f.squares ≤ most_sum * most_sum
  product_most = rw capacity (omega (arith, rw capacity at (mul-le-mul m.few m.spread.squares_high), rw capacity at sum_most))

  pub square_most : f.sum * f.sum ≤ most_sum * most_sum
  square_most = mul-le-mul sum_most sum_most

  pub deviation_most : deviation f ≤ most_sum * most_sum
  deviation_most = omega (arith, product_most)

  -- (N-1)·S
  pub part_most : (f.count - 1) * f.sum ≤ most_held * most_sum
  part_most = mul-le-mul (let k : f.count - 1 ≤ most_held = omega (arith, m.few) in k) sum_most

  -- (N-1)·S·(10000·N - S)
  pub parts_most : (f.count - 1) * f.sum * (highest_x * f.count - f.sum) ≤ most_held * most_sum * most_sum
  parts_most = mul-le-mul part_most (let k : highest_x * f.count - f.sum ≤ most_sum = omega (arith, m.few) in k)

  module _ (h : Head) (w : HeadWithin h) where
    -- 10·n·N
    pub seeds_most : 10 * h.seeds * f.count ≤ 10 * most_seeds * most_held
    seeds_most = mul-le-mul (let k : 10 * h.seeds ≤ 10 * most_seeds = omega (arith, w.seeds) in k) m.few

    pub over_most : 10 * h.seeds * f.count * deviation f ≤ 10 * most_seeds * most_held * (most_sum * most_sum)
    over_most = mul-le-mul seeds_most deviation_most

    pub percentages_most : (f.count - 1) * f.sum * (highest_x * f.count - f.sum) * h.factor ≤ most_held * most_sum * most_sum * most_factor
    percentages_most = mul-le-mul parts_most w.factor_high

    pub counts_most : (f.count - 1) * f.sum * h.factor ≤ most_held * most_sum * most_factor
    counts_most = mul-le-mul part_most w.factor_high

    under_most : (a : Attribute) → (ratio a h f).under ≤ most_held * most_sum * most_sum * most_factor
    unfolding ratio
    under_most Purity = percentages_most
    under_most Germination = percentages_most
    under_most Count = rw capacity (omega (arith, rw capacity at counts_most))

    -- 100·V/W can be worked out where the mean is not void
    pub h_workable : (a : Attribute) → is_void a f.count f.sum ≡ false → Workable 100 (ratio a h f).over (ratio a h f).under
    h_workable a e =
        let q = ratio a h f in
        let k = under_positive a h f e (omega (arith, m.enough)) (omega (arith, w.factor)) in
        record {
          scale = omega arith;
          positive = k;
          under = omega (arith, rw capacity at (under_most a));
          whole =
              (div-lt_iff_lt-mul k).1
              (omega (arith, ratio_le a h f m.spread m.enough w, mul-le-mul_right q.under (highest_most a)));
        }

-- ---- what the mean and H are, from the division
pub mean_workable : (scale s n : ℕ) → scale ≤ 100 → 1 ≤ n → s < 2 ^ 32 → n < 2 ^ 16 → workable scale s n ≡ true
mean_workable scale s n h k a b =
    workable_of scale s n (record { scale = h; positive = k; under = omega arith; whole = omega (arith, div-le_self s n) })

-- the mean is at most the highest result, and has no more than two places beside those of X
pub mean_most : (a : Attribute) (f : Figures) → Served f → mean_scale a f.count ≤ 100 → (mean_of a f).nearest ≤ 100 * highest_x
unfolding mean_of
mean_most a f m h = by (dec_le (mean_of a f).nearest (100 * highest_x))
  where
    by : Dec ((mean_of a f).nearest ≤ 100 * highest_x) → (mean_of a f).nearest ≤ 100 * highest_x
    by (yes p) = p
    by (no p) =
        let k : 100 * highest_x + 1 ≤ (mean_of a f).nearest = omega arith in
        absurd
        (omega
        (arith, low (mean_scale a f.count * f.sum) f.count (omega (arith, m.enough)), mul-le-mul_right f.count k, mul-le-mul h m.spread.sum_high))

-- what the check needs to know of the mean
pub ruleset mean_laws = (mean_workable, mean_most)

verdict_same : (p q : ℕ → Bool) (l : Option ℕ) → ((v : ℕ) → p v ≡ q v) → verdict_on p l ≡ verdict_on q l
verdict_same p q None h = refl
verdict_same p q (Some v) h = ap verdict_by (h v)

module _ (q : Fraction) (d : Division) (offset : ℕ) (w : Workable 100 q.over q.under) (k : d ≡ division_of 100 q.over q.under) where
  workable_is : workable 100 q.over q.under ≡ true
  workable_is = workable_of 100 q.over q.under w

  pub h_value : less_whole d.rounded (10 * offset) ≡ reported_h q offset
  unfolding reported_h
  h_value = rw (k, workable_is) refl

  pub h_verdict : (l : Option ℕ) → verdict_on (λ v. is_above d (v + 10 * offset)) l ≡ verdict_on (λ v. exceeds q offset v) l
  unfolding exceeds
  h_verdict l = verdict_same _ _ l (λ v. rw k (above_is 100 q.over q.under (v + 10 * offset) workable_is))
