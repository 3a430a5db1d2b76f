-- The first row that serves, and what the row by the printed mean changes against the exact mean. Assumes nothing.
use mathlib.Core.Path.{◌≡◌, refl, sym, ap, ◌∙◌}
use mathlib.Core.Bool.{Bool, true, false, true≢false}
use Rattle.std.specs.Prelude.{None, Some}
use Prim.Native.Nat.{ℕ, zero, suc, ◌+◌, ◌-◌, ◌*◌, ◌^◌, ◌≤◌, ◌<◌}
use native.Mathlib.Nat.{mul-le-mul_left, mul-le-mul_right}
use native.Mathlib.Numerals.{add-one}
use native.Mathlib.Decide.{dec_le}
use native.Mathlib.Omega.{arith}
use lib.Dec.{leb}
use lib.ListN.{get_or}
use borrow.Author.Tests.{le-leb, lt-leb, leb-true}
use Rattle.rules.specs.Choice.{pick}
use Rattle.rules.specs.Limits.{most_held}
use Rattle.rules.specs.Attributes.{places_of_x, places_of_mean, mean_places, mean_scale}
use Rattle.rules.specs.Figures.{mean_of, printed_mean, row_serves, tolerated_upto}
use Rattle.rules.specs.Rows.{Serves, FirstRow, exact_mean, JustBelow, RowByPrintedMean}
use Rattle.rules.specs.declared.Attribute.{Attribute}
use Rattle.rules.specs.declared.Attribute.TheVariants.{Purity, Germination, Count}
use Rattle.rules.specs.declared.Card.{Card}
use Rattle.rules.specs.declared.Figures.{Figures}
use Rattle.rules.specs.declared.Fraction.{Fraction}
use Rattle.rules.proofs.Capacity.{capacity}
use Rattle.rules.proofs.Tests.{and_left, and_right, and_both}
use Rattle.rules.proofs.RoundingLaws.{low, high}

-- ---- the first row that serves
module _ (c : Card) (n : ℕ) (mean : Fraction) where
  pub none_yet : None ≡ tolerated_upto c n mean 0
  unfolding tolerated_upto
  none_yet = refl

  pub row_passed : (k : ℕ) (b : Bool) → None ≡ tolerated_upto c n mean k → b ≡ row_serves c k n mean → b ≡ false → None ≡ tolerated_upto c n mean (k + 1)
  unfolding tolerated_upto
  row_passed k b e t f = rw (add-one k, ← e, ← t, f) refl

  -- further rows change nothing
  row_further : (v k : ℕ) → Some v ≡ tolerated_upto c n mean k → Some v ≡ tolerated_upto c n mean (suc k)
  unfolding tolerated_upto
  row_further v k e = rw (← e) refl

  stays : (v k m : ℕ) → Some v ≡ tolerated_upto c n mean k → k ≤ m → Some v ≡ tolerated_upto c n mean m
  stays v k zero e h = let z : k ≡ 0 = omega arith in rw z at e
  stays v k (suc m) e h = by (dec_le k m) (stays v k m e)
    where
      by : Dec (k ≤ m) → (k ≤ m → Some v ≡ tolerated_upto c n mean m) → Some v ≡ tolerated_upto c n mean (suc m)
      by (yes p) r = row_further v m (r p)
      by (no p) r = let z : k ≡ suc m = omega arith in rw z at e

  pub row_found : (k m : ℕ) (b : Bool) → None ≡ tolerated_upto c n mean k → b ≡ row_serves c k n mean → b ≡ true → k < m
      → Some (get_or c.tolerated k 0) ≡ tolerated_upto c n mean m
  row_found k m b e t f h = stays (get_or c.tolerated k 0) (suc k) m (unfold tolerated_upto in rw (← e, ← t, f) refl) h

  -- the test in words
  serves_tells : (k : ℕ) → row_serves c k n mean ≡ true → Serves c n mean k
  serves_tells k e =
      let t = and_right (leb (get_or c.lowest k 0) n) _ e in
      record {
        lowest = leb-true (get_or c.lowest k 0) n (and_left (leb (get_or c.lowest k 0) n) _ e);
        highest = leb-true n (get_or c.highest k 0) (and_left (leb n (get_or c.highest k 0)) _ t);
        bound = leb-true mean.over (get_or c.bound k 0 * mean.under) (and_right (leb n (get_or c.highest k 0)) _ t);
      }

  row_serves_lem : (k : ℕ) → Serves c n mean k → row_serves c k n mean ≡ true
  row_serves_lem k s = and_both (le-leb _ _ s.lowest) (and_both (le-leb _ _ s.highest) (le-leb _ _ s.bound))

  not_served : (k : ℕ) → (Serves c n mean k → ⊥) → row_serves c k n mean ≡ false
  not_served k h = by (row_serves c k n mean) refl
    where
      by : (t : Bool) → row_serves c k n mean ≡ t → t ≡ false
      by true e = absurd (h (serves_tells k e))
      by false e = refl

  passed_by : (j : ℕ) → ((i : ℕ) → i < j → Serves c n mean i → ⊥) → None ≡ tolerated_upto c n mean j
  passed_by zero h = none_yet
  passed_by (suc j) h = rw (← add-one j) (row_passed j (row_serves c j n mean) (passed_by j (λ i l. h i (omega arith))) refl (not_served j (h j (omega arith))))

  pub first_row : (k : ℕ) → FirstRow c n mean k → tolerated_upto c n mean c.rows ≡ Some (get_or c.tolerated k 0)
  first_row k f = sym (row_found k c.rows true (passed_by k f.before) (sym (row_serves_lem k f.serves)) refl f.row)

  pub no_row : ((k : ℕ) → k < c.rows → Serves c n mean k → ⊥) → tolerated_upto c n mean c.rows ≡ None
  no_row h = sym (passed_by c.rows h)

-- ---- a bound is at least the printed mean exactly where the exact mean is less than half a unit above it
module _ (a : Attribute) (f : Figures) (bound : ℕ) (pos : 1 ≤ f.count) where
  abbrev scale : ℕ
  scale = mean_scale a f.count

  served : (mean_of a f).nearest ≤ bound * scale → 2 * (scale * f.sum) < 2 * (scale * (bound * f.count)) + f.count
  unfolding mean_of
  served h = omega (arith, high (scale * f.sum) f.count pos, mul-le-mul_right f.count h)

  serves : 2 * (scale * f.sum) < 2 * (scale * (bound * f.count)) + f.count → (mean_of a f).nearest ≤ bound * scale
  unfolding mean_of
  serves h = by (dec_le (mean_of a f).nearest (bound * scale))
    where
      by : Dec ((mean_of a f).nearest ≤ bound * scale) → (mean_of a f).nearest ≤ bound * scale
      by (yes p) = p
      by (no p) =
          let k : bound * scale + 1 ≤ (mean_of a f).nearest = omega arith in
          absurd (omega (arith, low (scale * f.sum) f.count pos, mul-le-mul_right f.count k))

  -- the mean by its distance from the bound
  from_bound : bound * f.count ≤ f.sum → scale * f.sum ≡ scale * (bound * f.count) + scale * (f.sum - bound * f.count)
  from_bound h =
      let e : f.sum ≡ bound * f.count + (f.sum - bound * f.count) = omega arith in
      omega (arith, ap (λ (x : ℕ). scale * x) e)

  exact_serves : f.sum ≤ bound * f.count → (mean_of a f).nearest ≤ bound * scale
  exact_serves h = serves (omega (arith, mul-le-mul_left scale h))

  just_below : (mean_of a f).nearest ≤ bound * scale → bound * f.count < f.sum → JustBelow a f bound
  just_below h k = record { below = k; near = omega (arith, served h, from_bound (omega arith)) }

  just_below_serves : JustBelow a f bound → (mean_of a f).nearest ≤ bound * scale
  just_below_serves j = serves (omega (arith, j.near, from_bound (omega (arith, j.below))))

-- ---- rows by the printed mean and by the exact one
module _ (a : Attribute) (c : Card) (f : Figures) (k : ℕ) (pos : 1 ≤ f.count) where
  abbrev bound : ℕ
  bound = get_or c.bound k 0

  -- a row that serves by one mean serves by each that its bound is at least
  by_other : (m e : Fraction) → row_serves c k f.count m ≡ true → e.over ≤ bound * e.under → row_serves c k f.count e ≡ true
  by_other m e t h =
      let s = serves_tells c f.count m k t in row_serves_lem c f.count e k (record { lowest = s.lowest; highest = s.highest; bound = h })

  row_still : row_serves c k f.count (exact_mean f) ≡ true → row_serves c k f.count (printed_mean a f) ≡ true
  row_still e = by_other (exact_mean f) (printed_mean a f) e (exact_serves a f bound pos (serves_tells c f.count (exact_mean f) k e).bound)

  row_gained : row_serves c k f.count (printed_mean a f) ≡ true → row_serves c k f.count (exact_mean f) ≡ false → JustBelow a f bound
  row_gained e n = by (dec_le f.sum (bound * f.count))
    where
      by : Dec (f.sum ≤ bound * f.count) → JustBelow a f bound
      by (yes p) = absurd (true≢false (sym (by_other (printed_mean a f) (exact_mean f) e p) ∙ n))
      by (no p) = just_below a f bound pos (serves_tells c f.count (printed_mean a f) k e).bound (omega arith)

  row_every : get_or c.lowest k 0 ≤ f.count → f.count ≤ get_or c.highest k 0 → JustBelow a f bound
      → (row_serves c k f.count (printed_mean a f) ≡ true) × (row_serves c k f.count (exact_mean f) ≡ false)
  row_every l h j = (
    row_serves_lem c f.count (printed_mean a f) k (record { lowest = l; highest = h; bound = just_below_serves a f bound pos j }),
    not_served c f.count (exact_mean f) k (λ s. omega (arith, s.bound, j.below)),
  )

  row_same : (JustBelow a f bound → ⊥) → row_serves c k f.count (printed_mean a f) ≡ row_serves c k f.count (exact_mean f)
  row_same h = by (row_serves c k f.count (printed_mean a f)) (row_serves c k f.count (exact_mean f)) refl refl
    where
      by : (x y : Bool) → row_serves c k f.count (printed_mean a f) ≡ x → row_serves c k f.count (exact_mean f) ≡ y → x ≡ y
      by true true p q = refl
      by true false p q = absurd (h (row_gained p q))
      by false true p q = absurd (true≢false (sym (row_still q) ∙ p))
      by false false p q = refl

-- ---- the tolerated R
upto_same : (c : Card) (n : ℕ) (m e : Fraction) (j : ℕ) → ((k : ℕ) → k < j → row_serves c k n m ≡ row_serves c k n e)
    → tolerated_upto c n m j ≡ tolerated_upto c n e j
unfolding tolerated_upto
upto_same c n m e zero h = refl
upto_same c n m e (suc j) h = rw (upto_same c n m e j (λ k l. h k (omega arith)), h j (omega arith)) refl

-- ---- where no bound lies just below the mean
never : (a : Attribute) (f : Figures) (bound : ℕ) → f.count ≤ 2 * mean_scale a f.count → JustBelow a f bound → ⊥
never a f bound h j =
    let k : 1 ≤ f.sum - bound * f.count = omega (arith, j.below) in
    omega (arith, j.near, mul-le-mul_left (2 * mean_scale a f.count) k)

scale_of_counts : (n : ℕ) → n ≤ most_held → n ≤ 2 * mean_scale Count n
unfolding mean_scale
scale_of_counts n h = by (dec_le 10 n)
  where
    by : Dec (10 ≤ n) → n ≤ 2 * mean_scale Count n
    by (yes p) = rw (le-leb 10 n p) (omega (arith, h, capacity))
    by (no p) = rw (lt-leb 10 n (omega arith)) (omega arith)

scale_from_ten : (a : Attribute) (n : ℕ) → 10 ≤ n → 10 ≤ mean_scale a n
unfolding mean_scale
scale_from_ten Purity n h = rw (le-leb 10 n h) (omega arith)
scale_from_ten Germination n h = rw (le-leb 10 n h) (omega arith)
scale_from_ten Count n h = rw (le-leb 10 n h) (omega arith)

-- ---- the scale is that of the places printed
scale_of_places : (a : Attribute) (n : ℕ) → mean_scale a n * 10 ^ places_of_x a ≡ 10 ^ mean_places a n
unfolding mean_scale
scale_of_places a n = by a (leb 10 n)
  where
    by : (a : Attribute) (more : Bool) → let places = pick more (places_of_mean a + 1) (places_of_mean a) in 10 ^ (places - places_of_x a) * 10 ^ places_of_x a ≡ 10 ^ places
    by Purity true = refl
    by Purity false = refl
    by Germination true = refl
    by Germination false = refl
    by Count true = refl
    by Count false = refl

pub row_by_printed_mean : RowByPrintedMean
row_by_printed_mean =
    record {
      places = scale_of_places;
      still = row_still;
      gained = row_gained;
      every = row_every;
      same = λ a c f pos none. upto_same c f.count (printed_mean a f) (exact_mean f) c.rows (λ k l. row_same a c f k pos (none k l));
      counts = λ f bound h. never Count f bound (scale_of_counts f.count h);
      tens = λ a f bound h l. never a f bound (omega (arith, scale_from_ten a f.count h));
    }
