-- What a division comes to where it can be worked out. Assumes nothing.
use mathlib.Core.Path.{◌≡◌, refl, ap}
use mathlib.Core.Bool.{true}
use Prim.Native.Nat.{ℕ, ◌+◌, ◌*◌, ◌/◌, ◌%◌, ◌^◌, ◌≤◌, ◌<◌}
use native.Mathlib.Nat.{div-add-mod', mod-lt, div-lt_iff_lt-mul, mul-le-mul, mul-le-mul_right, le_of_lt}
use native.Mathlib.Omega.{arith}
use lib.Dec.{ltb}
use Rattle.std.proofs.lemmas.Bool.Decides.{nat_tests}
use Rattle.rules.specs.Rounding.{rounded_of}
use Rattle.rules.specs.declared.Rounded.{Rounded}
use Rattle.rules.specs.declared.Side.TheVariants.{Equal, Larger, Smaller}
use Rattle.rules.proofs.RoundingLaws.{Split, split_of, split_is, split_scaled, up_is, down_is, up_side, down_side, no_rest_side, whole_over, whole_kept, rest_is}
use Rattle.rounding.specs.declared.Division.{Division}
use Rattle.rounding.specs.Dividing.{workable, Workable, Parted, division_of, is_above}

pub workable_is : (m a b : ℕ) → workable m a b ≡ true → Workable m a b
workable_is m a b e = grind (arith, nat_tests)

pub workable_of : (m a b : ℕ) → Workable m a b → workable m a b ≡ true
workable_of m a b w = grind (arith, nat_tests)

-- the code's whole and rest
pub whole_is : (m a b : ℕ) → 0 < b → m * (a / b) + m * (a % b) / b ≡ m * a / b
whole_is m a b pos = (split_is (m * a) b _ _ (split_scaled m a b pos)).0

pub left_is : (m a b : ℕ) → 0 < b → m * (a % b) % b ≡ m * a % b
left_is m a b pos = (split_is (m * a) b _ _ (split_scaled m a b pos)).1

-- the quotient is above t exactly when t·b is less than m·a
pub above_is : (m a b t : ℕ) → workable m a b ≡ true → is_above (division_of m a b) t ≡ ltb (t * b) (m * a)
above_is m a b t e =
    let s = split_of (m * a) b (workable_is m a b e).positive in
    rw e (grind (arith, nat_tests, whole_over _ _ _ _ s t, whole_kept _ _ _ _ s t, rest_is _ _ _ _ s t))

-- ---- the rounding step on a whole number and a rest
module _ (w r b : ℕ) (p : Parted w r b) where
  parts : Split (w * b + r) b w r
  parts = record { sum = refl; small = p.less }

  pub rounded_up : b ≤ 2 * r → ◌≡◌ {A = Rounded} (record { nearest = w + 1; side = Smaller }) (rounded_of (w * b + r) b)
  rounded_up h = rw (up_side _ _ _ _ parts h, up_is _ _ _ _ parts h) refl

  pub rounded_down : 2 * r < b → 0 < r → ◌≡◌ {A = Rounded} (record { nearest = w; side = Larger }) (rounded_of (w * b + r) b)
  rounded_down h k = rw (down_side _ _ _ _ parts h k, down_is _ _ _ _ parts h) refl

  pub rounded_equal : 2 * r < b → r ≤ 0 → ◌≡◌ {A = Rounded} (record { nearest = w; side = Equal }) (rounded_of (w * b + r) b)
  rounded_equal h k = rw (no_rest_side _ _ _ _ parts h k, down_is _ _ _ _ parts h) refl

pub ruleset rounding = (rounded_up, rounded_down, rounded_equal)

-- ---- the answers of the code
module _ (m a b w r : ℕ) (e : workable m a b ≡ true) (p : (w ≡ m * a / b) × (r ≡ m * a % b)) where
  here : Split (m * a) b w r
  here = rw (p.0, p.1) (split_of (m * a) b (workable_is m a b e).positive)

  -- the rest is less than the divisor, and the whole can have one more
  pub parted : Parted w r b
  parted =
      let k = workable_is m a b e in
      let s = here in
      let q : m * a / b < 2 ^ 60 =
      (div-lt_iff_lt-mul k.positive).1
      (omega (
        arith,
        ap (λ (x : ℕ). m * x) (div-add-mod' a b),
        mul-le-mul k.scale (le_of_lt (mod-lt a k.positive)),
        mul-le-mul k.scale (mul-le-mul_right b (le_of_lt k.whole)),
      )) in
      record { less = s.small; under = k.under; high = omega (arith, p.0, q) }

  pub divided : (d : Rounded) → d ≡ rounded_of (w * b + r) b → ◌≡◌ {A = Division} (record { whole = w; rest = r; rounded = d }) (division_of m a b)
  divided d q = rw (q, here.sum, e, p.0, p.1) refl
