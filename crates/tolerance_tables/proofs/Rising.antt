-- The order of the tables 14G and 14H, by one computed test and one law. Assumes nothing.
use mathlib.Core.Bool.{Bool, true, false, ◌&&◌}
use mathlib.Core.List.{List, [], ◌∷◌}
use Prim.Native.Nat.{ℕ, zero, suc, ◌+◌, ◌≤◌, ◌<◌}
use native.Mathlib.Nat.{le_of_suc-le-suc, not-suc-le-zero}
use native.Mathlib.Omega.{arith}
use lib.Dec.{T, leb, leb→le}
use lib.ListN.{length, get_or}
use Rattle.rules.specs.Tolerance.{Row, row, table14_g, table14_h}

both : (a b : Bool) → T (a && b) → T a × T b
both true b t = (tt, t)
both false b t = absurd t

module _ {A : Type 0} (step : ℕ) (column : A → ℕ) where
  -- the test: from the number n on, each row's column is at least one step above that before it
  abbrev pub rises_from : ℕ → List A → Bool
  rises_from n [] = true
  rises_from n (x ∷ xs) = leb (n + step) (column x) && rises_from (column x) xs

  abbrev pub rises : List A → Bool
  rises [] = true
  rises (x ∷ xs) = rises_from (column x) xs

  next : (n : ℕ) (x : A) (xs : List A) → T (rises_from n (x ∷ xs)) → (n + step ≤ column x) × T (rises_from (column x) xs)
  next n x xs t =
      let parts : _ = both (leb (n + step) (column x)) (rises_from (column x) xs) t in
      (leb→le (n + step) (column x) parts.0, parts.1)

  module _ (none : A) where
    above : (n : ℕ) (l : List A) → T (rises_from n l) → (k : ℕ) → k < length l → n + step ≤ column (get_or l k none)
    above n [] t k h = absurd (not-suc-le-zero h)
    above n (x ∷ xs) t zero h = (next n x xs t).0
    above n (x ∷ xs) t (suc k) h =
        omega (arith, (next n x xs t).0, above (column x) xs (next n x xs t).1 k (le_of_suc-le-suc h))

    -- the law: whatever stands later is at least one step above
    pub rising :
        (l : List A) → T (rises l) → (j k : ℕ) → j < k → k < length l → column (get_or l j none) + step ≤ column (get_or l k none)
    rising l t j zero h g = absurd (not-suc-le-zero h)
    rising [] t j (suc k) h g = absurd (not-suc-le-zero g)
    rising (x ∷ xs) t zero (suc k) h g = above (column x) xs t k (le_of_suc-le-suc g)
    rising (x ∷ []) t (suc j) (suc k) h g = absurd (not-suc-le-zero (le_of_suc-le-suc g))
    rising (x ∷ y ∷ ys) t (suc j) (suc k) h g =
        rising (y ∷ ys) (next (column x) y ys t).1 j k (le_of_suc-le-suc h) (le_of_suc-le-suc g)

-- ---- the tables: the test is computed over each

-- Table 14H: a row's top and its tolerance are above those of every row before it
pub tops_rise : (j k : ℕ) → j < k → k < 58 → (get_or table14_h j (row 0 0)).top < (get_or table14_h k (row 0 0)).top
tops_rise j k h g = omega (arith, rising 1 (λ (r : Row). r.top) (row 0 0) table14_h tt j k h g)

pub tolerances_rise :
    (j k : ℕ) → j < k → k < 58 → (get_or table14_h j (row 0 0)).tolerated < (get_or table14_h k (row 0 0)).tolerated
tolerances_rise j k h g = omega (arith, rising 1 (λ (r : Row). r.tolerated) (row 0 0) table14_h tt j k h g)

-- Table 14G: column B does not fall (0 and 1 labelled have the same)
pub found_does_not_fall : (j k : ℕ) → j < k → k < 101 → get_or table14_g j 0 ≤ get_or table14_g k 0
found_does_not_fall j k h g = omega (arith, rising 0 (λ (n : ℕ). n) 0 table14_g tt j k h g)
