-- The sum of squares against the square of the sum, and what follows for V/W: D is no number below zero, the number under V/W is
-- not zero where the mean is not void, and H has its bounds. Assumes nothing.
use mathlib.Core.Path.{◌≡◌, refl, ap}
use mathlib.Core.Bool.{Bool, true, false, ◌||◌, true≢false}
use Prim.Native.Nat.{ℕ, suc, zero, ◌+◌, ◌*◌, ◌-◌, ◌≤◌, ◌<◌}
use native.Mathlib.Nat.{mul-le-mul_left, mul-le-mul_right, mul-le-mul, mul-pos}
use native.Mathlib.Decide.{dec_le}
use native.Mathlib.Omega.{arith}
use lib.Dec.{ltb}
use borrow.Author.Tests.{ltb-false}
use Rattle.rules.specs.Limits.{highest_x, least_reported}
use Rattle.rules.specs.Contents.{Content, Contents, free, holds, total, one, value, square, largest}
use Rattle.rules.specs.Attributes.{is_void}
use Rattle.rules.specs.Figures.{figures_of, deviation, of_percentages, of_counts, ratio}
use Rattle.rules.specs.declared.Figures.{Figures}
use Rattle.rules.specs.declared.Attribute.{Attribute}
use Rattle.rules.specs.declared.Attribute.TheVariants.{Purity, Germination, Count}
use Rattle.rules.specs.Spread.{Spread, HeadWithin}
use Rattle.rules.specs.declared.Head.{Head}

-- 2ab ≤ a² + b²
two : (a b : ℕ) → 2 * (a * b) ≤ a * a + b * b
two a b = by (dec_le a b)
  where
    up : (a d : ℕ) → 2 * (a * (a + d)) ≤ a * a + (a + d) * (a + d)
    up a d = omega arith

    by : Dec (a ≤ b) → 2 * (a * b) ≤ a * a + b * b
    by (yes p) = let e : b ≡ a + (b - a) = omega arith in rw e (up a (b - a))
    by (no p) = let e : a ≡ b + (a - b) = omega arith in rw e (omega (arith, up b (a - b)))

cross_more : (n s q x : ℕ) (p : Content) → 2 * (s * x) ≤ n * (x * x) + q → 2 * ((s + value p) * x) ≤ (n + one p) * (x * x) + (q + square p)
cross_more n s q x free h = omega (arith, h)
cross_more n s q x (holds y) h = omega (arith, h, two y x)

cross : (n : ℕ) (f : Contents) (x : ℕ) → 2 * (total value n f * x) ≤ total one n f * (x * x) + total square n f
unfolding total
cross zero f x = omega arith
cross (suc n) f x = cross_more (total one n f) (total value n f) (total square n f) x (f (suc n)) (cross n f x)

spread_more : (n s q : ℕ) (p : Content) → ((x : ℕ) → 2 * (s * x) ≤ n * (x * x) + q) → s * s ≤ n * q → (s + value p) * (s + value p) ≤ (n + one p) * (q + square p)
spread_more n s q free c h = omega (arith, h)
spread_more n s q (holds y) c h = omega (arith, h, c y)

-- S² is at most N·Q
pub spread : (n : ℕ) (f : Contents) → total value n f * total value n f ≤ total one n f * total square n f
unfolding total
spread zero f = omega arith
spread (suc n) f = spread_more (total one n f) (total value n f) (total square n f) (f (suc n)) (cross n f) (spread n f)

squares_more : (m s q : ℕ) (p : Content) → value p ≤ m → q ≤ m * s → q + square p ≤ m * (s + value p)
squares_more m s q free g h = omega (arith, h)
squares_more m s q (holds y) g h = omega (arith, h, mul-le-mul_right y g)

-- where no result is above m, Q is at most m·S
pub squares_le : (m n : ℕ) (f : Contents) → largest n f ≤ m → total square n f ≤ m * total value n f
unfolding total largest
squares_le m zero f h = omega arith
squares_le m (suc n) f h = squares_more m (total value n f) (total square n f) (f (suc n)) (omega arith) (squares_le m n f (omega arith))

sum_more : (m n s : ℕ) (p : Content) → value p ≤ m → s ≤ m * n → s + value p ≤ m * (n + one p)
sum_more m n s free g h = omega (arith, h)
sum_more m n s (holds y) g h = omega (arith, h)

-- and S at most m·N
pub sum_le : (m n : ℕ) (f : Contents) → largest n f ≤ m → total value n f ≤ m * total one n f
unfolding total largest
sum_le m zero f h = omega arith
sum_le m (suc n) f h = sum_more m (total one n f) (total value n f) (f (suc n)) (omega arith) (sum_le m n f (omega arith))

-- ---- of figures
pub spread_of : (m n : ℕ) (f : Contents) → largest n f ≤ m → Spread m (figures_of n f)
spread_of m n f h = record { low = spread n f; squares_high = squares_le m n f h; sum_high = sum_le m n f h }

-- D is at most S·(m·N - S)
pub deviation_le : (m : ℕ) (f : Figures) → Spread m f → deviation f ≤ f.sum * (m * f.count - f.sum)
deviation_le m f h =
    let e : m * f.count ≡ f.sum + (m * f.count - f.sum) = omega (arith, h.sum_high) in
    omega (arith, mul-le-mul_left f.count h.squares_high, ap (λ (z : ℕ). f.sum * z) e)

-- ---- the number under V/W is not zero where the mean is not void
within : (lowest highest n s : ℕ) → (ltb (highest * n) s || ltb s (lowest * n)) ≡ false → (s ≤ highest * n) × (lowest * n ≤ s)
within lowest highest n s e = by (ltb (highest * n) s) (ltb s (lowest * n)) refl refl e
  where
    by : (a b : Bool) → ltb (highest * n) s ≡ a → ltb s (lowest * n) ≡ b → (a || b) ≡ false → (s ≤ highest * n) × (lowest * n ≤ s)
    by false false p q e = (ltb-false (highest * n) s p, ltb-false s (lowest * n) q)
    by false true p q e = absurd (true≢false e)
    by true b p q e = absurd (true≢false e)

percentages_positive : (h : Head) (f : Figures) → 2 ≤ f.count → 1 ≤ h.factor → 0 < f.sum → f.sum < highest_x * f.count → 0 < (of_percentages h f).under
percentages_positive h f n k p q =
    let a : 0 < f.count - 1 = omega arith in
    let b : 0 < highest_x * f.count - f.sum = omega arith in
    mul-pos (mul-pos (mul-pos a p) b) k

pub under_positive : (a : Attribute) (h : Head) (f : Figures) → is_void a f.count f.sum ≡ false → 2 ≤ f.count → 1 ≤ h.factor → 0 < (ratio a h f).under
unfolding is_void ratio
under_positive Purity h f e n k =
    let w = within 20 9980 f.count f.sum e in
    percentages_positive h f n k (omega arith) (omega arith)
under_positive Germination h f e n k =
    let w = within 100 9900 f.count f.sum e in
    percentages_positive h f n k (omega arith) (omega arith)
under_positive Count h f e n k =
    let w : 2 * f.count ≤ f.sum = ltb-false f.sum (2 * f.count) e in
    let a : 0 < f.count - 1 = omega arith in
    let b : 0 < f.sum = omega arith in
    mul-pos (mul-pos a b) k

-- ---- H never exceeds 1,250 for percentages and 12,500 for counts
abbrev pub highest_h : Attribute → ℕ
highest_h Purity = 1250
highest_h Germination = 1250
highest_h Count = 12500

pub highest_most : (a : Attribute) → highest_h a ≤ 12500
highest_most Purity = omega arith
highest_most Germination = omega arith
highest_most Count = omega arith

percentages_le : (h : Head) (f : Figures) → Spread highest_x f → least_reported ≤ f.count → HeadWithin h → (of_percentages h f).over ≤ 1250 * (of_percentages h f).under
percentages_le h f s n w =
    let p = f.sum * (highest_x * f.count - f.sum) in
    let k = f.count - 1 in
    let u : 10 * h.seeds * f.count ≤ 1250 * (k * h.factor) =
    let a = mul-le-mul_right f.count w.seeds in let b = mul-le-mul_left k w.factor in omega arith in
    omega (arith, mul-le-mul u (deviation_le highest_x f s))

counts_le : (h : Head) (f : Figures) → Spread highest_x f → least_reported ≤ f.count → HeadWithin h → (of_counts h f).over ≤ 12500 * (of_counts h f).under
counts_le h f s n w =
    let k = f.count - 1 in
    let u : 100000 * f.count ≤ 12500 * (k * h.factor) = let b = mul-le-mul_left k w.factor in omega arith in
    let v : f.sum * (highest_x * f.count - f.sum) ≤ f.sum * (highest_x * f.count) = mul-le-mul_left f.sum (omega arith) in
    omega (arith, mul-le-mul_left f.sum u, v, deviation_le highest_x f s)

pub ratio_le : (a : Attribute) (h : Head) (f : Figures) → Spread highest_x f → least_reported ≤ f.count → HeadWithin h → (ratio a h f).over ≤ highest_h a * (ratio a h f).under
unfolding ratio
ratio_le Purity h f s n w = percentages_le h f s n w
ratio_le Germination h f s n w = percentages_le h f s n w
ratio_le Count h f s n w = counts_le h f s n w
