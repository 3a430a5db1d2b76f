-- What the code's steps come to. Assumes nothing.
use mathlib.Core.Path.{◌≡◌, sym, ap, ◌∙◌}
use mathlib.Core.Bool.{true}
use Prim.Native.Nat.{ℕ, ◌+◌, ◌-◌, ◌*◌, ◌/◌, ◌%◌, ◌^◌, ◌≤◌, ◌<◌}
use native.Mathlib.Nat.{div-le_self, one-mul, lt_of_le_of_lt}
use native.Mathlib.Omega.{arith}
use lib.Dec.{lit<}
use lib.Pow.{pow_pos, pow_mono, shl_exact}
use lib.Ieee.{Float, binary32, is_nan, to_bits}
use Rattle.std.specs.Prelude.{Ok, Err}
use Rattle.rules.specs.Rounding.{nearest_of}
use Rattle.rules.specs.Floats.{exact_of}
use Rattle.rules.specs.Weights.{nearest_tenths, tenths_of, ratio_of}
use Rattle.rules.specs.declared.Refusal.TheVariants.{BadWeight}
use Rattle.rules.proofs.FloatLaws.{nan_of}
use Rattle.rules.proofs.WeightLaws.{bad_weight_lem, good_weight, tenths_none, tenths_some, tenths_most, ratio_none, ratio_some, ratio_most, nan_weight}
use Rattle.rounding.specs.Dividing.{division_of}
use Rattle.rounding.proofs.DividingLaws.{workable_of}

-- ---- a quotient that can be worked out
divided : (n d : ℕ) → 1 ≤ d → d < 2 ^ 56 → n / d < 2 ^ 50 → (division_of 1 n d).rounded.nearest ≡ nearest_of n d
divided n d p u w = rw (workable_of 1 n d (record { scale = omega arith; positive = p; under = u; whole = w })) (ap (λ (x : ℕ). nearest_of x d) (one-mul n))

weight_nearest : (b : ℕ) → 939524096 ≤ b → b ≤ 1148846080
    → (division_of 1 (10000 * (8388608 + b % 8388608)) (1 * 2 ^ (150 - b / 8388608) % 2 ^ 64)).rounded.nearest ≡ nearest_tenths (exact_of b)
weight_nearest b h g =
    let n = 10000 * (8388608 + b % 8388608) in
    let s = 150 - b / 8388608 in
    let k : s ≤ 38 = omega arith in
    let small : n < 2 ^ 50 = omega arith in
    let shifted : 1 * 2 ^ s % 2 ^ 64 ≡ 2 ^ s = shl_exact {a = 1} 1 s 64 (lit< tt) (omega arith) ∙ one-mul (2 ^ s) in
    rw shifted
    (divided n (2 ^ s) (pow_pos s) (lt_of_le_of_lt (pow_mono k) (lit< tt)) (lt_of_le_of_lt (div-le_self n (2 ^ s)) small)
    ∙ sym (tenths_some b h g))

share_nearest : (c r : ℕ) → c < 2 ^ 32 → r < 2 ^ 32 → 1 ≤ c + r → (division_of 1 (10000 * c) (c + r)).rounded.nearest ≡ nearest_of (10000 * c) (c + r)
share_nearest c r h k p = divided (10000 * c) (c + r) p (omega arith) (lt_of_le_of_lt (div-le_self (10000 * c) (c + r)) (omega arith))

-- ---- a weight, by its bits
pub too_light : (b : ℕ) → b < 939524096 → tenths_of b ≡ Ok 0
too_light b h = good_weight b (omega arith) ∙ ap Ok (tenths_none b h)

pub weight_divided : (b : ℕ) → 939524096 ≤ b → b ≤ 1148846080
    → tenths_of b ≡ Ok (division_of 1 (10000 * (8388608 + b % 8388608)) (1 * 2 ^ (150 - b / 8388608) % 2 ^ 64)).rounded.nearest
weight_divided b h g = good_weight b g ∙ ap Ok (sym (weight_nearest b h g))

pub weight_within : (b : ℕ) → 939524096 ≤ b → b ≤ 1148846080
    → (division_of 1 (10000 * (8388608 + b % 8388608)) (1 * 2 ^ (150 - b / 8388608) % 2 ^ 64)).rounded.nearest ≤ 10000000
weight_within b h g = omega (arith, weight_nearest b h g, tenths_most b g)

pub ruleset of_weights = (bad_weight_lem, too_light, weight_divided, weight_within)

-- ---- a share, by two weights
pub share_divided : (c r : ℕ) → c < 2 ^ 32 → r < 2 ^ 32 → 1 ≤ c + r → ratio_of c r ≡ Ok (division_of 1 (10000 * c) (c + r)).rounded.nearest
share_divided c r h k p = ratio_some c r p ∙ ap Ok (sym (share_nearest c r h k p))

pub share_within : (c r : ℕ) → c < 2 ^ 32 → r < 2 ^ 32 → 1 ≤ c + r → (division_of 1 (10000 * c) (c + r)).rounded.nearest ≤ 10000
share_within c r h k p = omega (arith, share_nearest c r h k p, ratio_most c r p)

pub ruleset of_shares = (ratio_none, share_divided, share_within)

-- ---- what is not a number
pub no_weight : (x : Float) → is_nan x ≡ true → tenths_of (to_bits binary32 x) ≡ Err BadWeight
no_weight x e = nan_weight x (nan_of x e)
