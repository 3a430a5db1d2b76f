-- What the definitions of a weight and of a share come to. Assumes nothing.
use mathlib.Core.Path.{◌≡◌, refl, sym, ap, ◌∙◌, subst}
use mathlib.Core.List.{List}
use mathlib.Core.Logic.{◌⊎◌, inl, inr}
use Rattle.std.specs.Prelude.{Result, Ok, Err}
use mathlib.Core.Bool.{Bool, true, false, not, ◌||◌}
use Prim.Native.Nat.{ℕ, ◌+◌, ◌-◌, ◌*◌, ◌/◌, ◌%◌, ◌^◌, ◌≤◌, ◌<◌}
use native.Mathlib.Nat.{mul_comm, le_of_mul-le-mul_right, le_trans, le_of_lt, lt_of_lt_of_le, mul-le-mul, mul-le-mul_right, div-eq_of_lt, div-lt_iff_lt-mul, mul-div-mul_right, mul_assoc}
use native.Mathlib.Decide.{dec_le}
use native.Mathlib.Omega.{arith}
use lib.Dec.{T, eqb, leb, ltb, lit<, lit≤}
use lib.IntN.{ℤ}
use lib.Ieee.{Float, nan, fin, binary32, up, down, fits, is_nan, of_bits, to_bits}
use lib.Ieee.Fits.{down_pos}
use lib.Ieee.Exact.{HasValue}
use lib.Ieee.Bits.{nan_bits_is, nan_bits_above, to_bits-of_bits, of_bits-to_bits}
use lib.Pow.{pow_pos, pow_mono, pow-add}
use borrow.Author.Tests.{ltb-true, lt-ltb, le-ltb, le-leb, lt-leb, ne_eqb, eq-eqb, eqb-true, eqb-false}
use Rattle.rules.specs.Choice.{pick, unless}
use Rattle.rules.specs.Rounding.{Nearest, nearest_of, rounded_of}
use Rattle.rules.specs.Fields.{field_of}
use Rattle.rules.specs.Frames.{float_of}
use Rattle.rules.specs.Limits.{most_held, highest_x}
use Rattle.rules.specs.Numbers.{number_of, answer_of}
use Rattle.rules.specs.Attributes.{is_weighed}
use Rattle.rules.specs.Contents.{is_held}
use Rattle.rules.specs.Ledger.{Ledger, containers, held, weigh_number}
use Rattle.rules.specs.Floats.{negative, exponent_field, fraction_field, finite, significand, exact_of}
use Rattle.rules.specs.Weighing.{Shared, EveryWeight}
use Rattle.rules.specs.Weights.{too_heavy, bad_weight, nearest_tenths, tenths_of, ratio_of, share_by, share_of, weighed_of, weighing_of}
use Rattle.rules.specs.declared.Pans.{Pans}
use Rattle.rules.specs.declared.Refusal.{Refusal}
use Rattle.rules.specs.declared.Refusal.TheVariants.{NotSteady, BadWeight}
use Rattle.rules.proofs.FieldLaws.{field_lt}
use Rattle.rules.proofs.FloatLaws.{exact_value, nan_of, nan_bits}
use Rattle.rules.proofs.RoundingLaws.{nearest_is}

-- ---- the size of a significand
sig_small : (x t : ℕ) → t < 8388608 → significand x t < 16777216
sig_small x t h = by (eqb x 0)
  where
    by : (e : Bool) → pick e t (8388608 + t) < 16777216
    by true = omega arith
    by false = omega arith

sig_most : (x t n : ℕ) → 8388608 + t ≤ n → significand x t ≤ n
sig_most x t n h = by (eqb x 0)
  where
    by : (e : Bool) → pick e t (8388608 + t) ≤ n
    by true = omega arith
    by false = omega arith

sig_normal : (x t : ℕ) → 1 ≤ x → significand x t ≡ 8388608 + t
sig_normal x t h = rw (ne_eqb x 0 (λ e. omega arith)) refl

scaled_le : (m x n k : ℕ) → m ≤ n → x ≤ k → m * 2 ^ x ≤ n * 2 ^ k
scaled_le m x n k h g = mul-le-mul h (pow_mono g)

-- ---- 1000 g: from zero up a larger number has larger bits, and whatever else is refused has larger ones still
light_is : (b : ℕ) → b ≤ 1148846080 → (exact_of b).over ≤ 1000 * (exact_of b).under
unfolding exact_of
light_is b h = by (dec_le (exponent_field b) 135)
  where
    by : Dec (exponent_field b ≤ 135) → significand (exponent_field b) (fraction_field b) * 2 ^ (exponent_field b - 1) ≤ 1000 * 2 ^ 149
    by (yes p) =
        let g = sig_small (exponent_field b) (fraction_field b) (omega arith) in
        le_trans (scaled_le (significand (exponent_field b) (fraction_field b)) (exponent_field b - 1) 16777216 134 (le_of_lt g) (omega arith)) (lit≤ tt)
    by (no p) =
        let g = sig_most (exponent_field b) (fraction_field b) 16384000 (omega arith) in
        le_trans (scaled_le (significand (exponent_field b) (fraction_field b)) (exponent_field b - 1) 16384000 135 g (omega arith)) (lit≤ tt)

heavy_is : (b : ℕ) → 1148846080 < b → b < 2147483648 → 1000 * (exact_of b).under < (exact_of b).over
unfolding exact_of
heavy_is b h k = rw (sig_normal (exponent_field b) (fraction_field b) (omega arith)) (by (dec_le (exponent_field b) 136))
  where
    by : Dec (exponent_field b ≤ 136) → 1000 * 2 ^ 149 < (8388608 + fraction_field b) * 2 ^ (exponent_field b - 1)
    by (yes p) = lt_of_lt_of_le (lit< tt) (scaled_le 16384001 135 (8388608 + fraction_field b) (exponent_field b - 1) (omega arith) (omega arith))
    by (no p) = lt_of_lt_of_le (lit< tt) (scaled_le 8388608 136 (8388608 + fraction_field b) (exponent_field b - 1) (omega arith) (omega arith))

pub bad_is : (b : ℕ) → bad_weight b ≡ ltb 1148846080 b
unfolding bad_weight
bad_is b = by (dec_le b 1148846080) (dec_le 2147483648 b) (dec_le 2139095040 b)
  where
    by : Dec (b ≤ 1148846080) → Dec (2147483648 ≤ b) → Dec (2139095040 ≤ b) → (negative b || (not (finite b) || too_heavy (exact_of b))) ≡ ltb 1148846080 b
    by (yes p) q r = rw (lt-leb 2147483648 b (omega arith), lt-ltb (exponent_field b) 255 (omega arith), le-ltb _ _ (light_is b p), le-ltb 1148846080 b p) refl
    by (no p) (yes q) r = rw (le-leb 2147483648 b q, lt-ltb 1148846080 b (omega arith)) refl
    by (no p) (no q) (yes r) = rw (lt-leb 2147483648 b (omega arith), le-ltb (exponent_field b) 255 (omega arith), lt-ltb 1148846080 b (omega arith)) refl
    by (no p) (no q) (no r) = rw (lt-leb 2147483648 b (omega arith), lt-ltb (exponent_field b) 255 (omega arith), lt-ltb _ _ (heavy_is b (omega arith) (omega arith)), lt-ltb 1148846080 b (omega arith)) refl

pub bad_weight_lem : (b : ℕ) → 1148846080 < b → tenths_of b ≡ (Err BadWeight)
unfolding tenths_of
bad_weight_lem b h = rw (bad_is b, lt-ltb 1148846080 b h) refl

pub good_weight : (b : ℕ) → b ≤ 1148846080 → tenths_of b ≡ Ok (nearest_tenths (exact_of b))
unfolding tenths_of
good_weight b h = rw (bad_is b, le-ltb 1148846080 b h) refl

-- ---- the rounded weight
-- below 2 ^ -15 g it is 0
none : (o u k : ℕ) → 1 ≤ k → o ≤ k → u ≡ 32768 * k → nearest_of (10000 * o) u ≡ 0
unfolding nearest_of
none o u k p h e = div-eq_of_lt (omega arith)

pub tenths_none : (b : ℕ) → b < 939524096 → nearest_tenths (exact_of b) ≡ 0
unfolding exact_of
tenths_none b h =
    let g = sig_small (exponent_field b) (fraction_field b) (omega arith) in
    none _ (2 ^ 149) (16777216 * 2 ^ 110) (lit≤ tt)
    (scaled_le (significand (exponent_field b) (fraction_field b)) (exponent_field b - 1) 16777216 110 (le_of_lt g) (omega arith)) refl

-- a factor of both sides of a fraction goes
nearest_reduced : (a d k : ℕ) → 0 < k → nearest_of (a * k) (d * k) ≡ nearest_of a d
unfolding nearest_of
nearest_reduced a d k p =
    let e : 2 * (a * k) + d * k ≡ (2 * a + d) * k = omega arith in
    let f : 2 * (d * k) ≡ 2 * d * k = omega arith in
    rw (e, f) (mul-div-mul_right (2 * a + d) (2 * d) p)

-- from there on it is a quotient of two numbers that 64 bits hold
pub tenths_some : (b : ℕ) → 939524096 ≤ b → b ≤ 1148846080 → nearest_tenths (exact_of b) ≡ nearest_of (10000 * (8388608 + b % 8388608)) (2 ^ (150 - b / 8388608))
unfolding exact_of
tenths_some b h g =
    let x = b / 8388608 in
    let e : exponent_field b ≡ x = omega arith in
    let s : 150 - x + (x - 1) ≡ 149 = omega arith in
    let m = 8388608 + b % 8388608 in
    rw (e, sig_normal x (b % 8388608) (omega arith))
    (ap (nearest_of (10000 * (m * 2 ^ (x - 1)))) (ap (λ (n : ℕ). 2 ^ n) (sym s) ∙ pow-add 2 (150 - x) (x - 1))
    ∙ ap (λ (n : ℕ). nearest_of n (2 ^ (150 - x) * 2 ^ (x - 1))) (sym (mul_assoc 10000 m (2 ^ (x - 1))))
    ∙ nearest_reduced (10000 * m) (2 ^ (150 - x)) (2 ^ (x - 1)) (pow_pos (x - 1)))

-- at most n where the exact number is
nearest_most : (a d n : ℕ) → 0 < d → a ≤ n * d → nearest_of a d ≤ n
unfolding nearest_of
nearest_most a d n p h = let k : (2 * a + d) / (2 * d) < n + 1 = (div-lt_iff_lt-mul {k = 2 * d} (omega arith)).1 (omega arith) in omega arith

under_pos : (b : ℕ) → 0 < (exact_of b).under
unfolding exact_of
under_pos b = pow_pos 149

pub tenths_most : (b : ℕ) → b ≤ 1148846080 → nearest_tenths (exact_of b) ≤ 10000000
tenths_most b h = nearest_most (10000 * (exact_of b).over) (exact_of b).under 10000000 (under_pos b) (omega (arith, light_is b h))

-- the rounded weight is the nearest whole tenth of a milligram to the exact number that the bits mean, the larger of two equally near
tenths_of_lem : (b t : ℕ) → Dec (b ≤ 1148846080) → tenths_of b ≡ Ok t → (b ≤ 1148846080) × (t ≡ nearest_tenths (exact_of b))
tenths_of_lem b t (yes p) e = (p, cc (good_weight b p))
tenths_of_lem b t (no p) e = let w = bad_weight_lem b (omega arith) in let z : ◌≡◌ {A = ℕ} 0 1 = cc in absurd (omega arith)

pub tenths_nearest : (b t : ℕ) → tenths_of b ≡ Ok t → Nearest (10000 * (exact_of b).over) (exact_of b).under t
tenths_nearest b t e = rw (tenths_of_lem b t (dec_le b 1148846080) e).1 (nearest_is (10000 * (exact_of b).over) (exact_of b).under (under_pos b))

pub tenths_within : (b t : ℕ) → tenths_of b ≡ Ok t → t ≤ 10000000
tenths_within b t e = let k = tenths_of_lem b t (dec_le b 1148846080) e in omega (arith, tenths_most b k.0)

-- ---- the share
pub ratio_none : (c r : ℕ) → c + r ≡ 0 → ratio_of c r ≡ Err BadWeight
unfolding ratio_of
ratio_none c r h = rw (eq-eqb (c + r) 0 h) refl

pub ratio_some : (c r : ℕ) → 1 ≤ c + r → ratio_of c r ≡ Ok (nearest_of (10000 * c) (c + r))
unfolding ratio_of
ratio_some c r h = rw (ne_eqb (c + r) 0 (λ e. omega arith)) refl

pub ratio_most : (c r : ℕ) → 1 ≤ c + r → nearest_of (10000 * c) (c + r) ≤ 10000
ratio_most c r h = nearest_most (10000 * c) (c + r) 10000 h (omega arith)

ratio_of_lem : (c r x : ℕ) → Dec (1 ≤ c + r) → ratio_of c r ≡ Ok x → (1 ≤ c + r) × (x ≡ nearest_of (10000 * c) (c + r))
ratio_of_lem c r x (yes p) e = (p, cc (ratio_some c r p))
ratio_of_lem c r x (no p) e = let w = ratio_none c r (omega arith) in let z : ◌≡◌ {A = ℕ} 0 1 = cc in absurd (omega arith)

pub share_is : (b d x : ℕ) → share_of b d ≡ Ok x → Shared b d x
unfolding share_of
share_is b d x e = by (tenths_of b) (tenths_of d) refl refl e
  where
    by : (v w : Result ℕ Refusal) → tenths_of b ≡ v → tenths_of d ≡ w → share_by v w ≡ Ok x → Shared b d x
    by (Ok c) (Ok r) p q h =
        let k = ratio_of_lem c r x (dec_le 1 (c + r)) h in
        record { component = c; remainder = r; first = p; second = q; some = k.0; nearest = rw k.1 (nearest_is (10000 * c) (c + r) k.0); within = omega (arith, k.1, ratio_most c r k.0) }
    by (Ok c) (Err w) p q h = let z : ◌≡◌ {A = ℕ} 0 1 = cc in absurd (omega arith)
    by (Err v) w p q h = let z : ◌≡◌ {A = ℕ} 0 1 = cc in absurd (omega arith)

-- a frame gives an X only with status 0
pub weighed_is : (status b d x : ℕ) → weighed_of status b d ≡ Ok x → (status ≡ 0) × Shared b d x
unfolding weighed_of
weighed_is status b d x e = by (eqb status 0) refl e
  where
    by : (t : Bool) → eqb status 0 ≡ t → pick t (share_of b d) (Err NotSteady) ≡ Ok x → (status ≡ 0) × Shared b d x
    by true p h = (eqb-true status 0 p, share_is b d x h)
    by false p h = let z : ◌≡◌ {A = ℕ} 0 1 = cc in absurd (omega arith)

-- ---- what a weighing is refused with
tenths_refused : (b : ℕ) (e : Refusal) → tenths_of b ≡ Err e → e ≡ BadWeight
unfolding tenths_of
tenths_refused b e h = by (bad_weight b) h
  where
    by : (t : Bool) → pick t (Err BadWeight) (Ok (nearest_tenths (exact_of b))) ≡ Err e → e ≡ BadWeight
    by true q = cc
    by false q = let z : ◌≡◌ {A = ℕ} 0 1 = cc in absurd (omega arith)

ratio_refused : (c r : ℕ) (e : Refusal) → ratio_of c r ≡ Err e → e ≡ BadWeight
unfolding ratio_of
ratio_refused c r e h = by (eqb (c + r) 0) h
  where
    by : (t : Bool) → pick t (Err BadWeight) (Ok (rounded_of (highest_x * c) (c + r)).nearest) ≡ Err e → e ≡ BadWeight
    by true q = cc
    by false q = let z : ◌≡◌ {A = ℕ} 0 1 = cc in absurd (omega arith)

share_refused : (b d : ℕ) (e : Refusal) → share_of b d ≡ Err e → e ≡ BadWeight
unfolding share_of
share_refused b d e h = by (tenths_of b) (tenths_of d) refl refl h
  where
    by : (v w : Result ℕ Refusal) → tenths_of b ≡ v → tenths_of d ≡ w → share_by v w ≡ Err e → e ≡ BadWeight
    by (Ok c) (Ok r) p q h = ratio_refused c r e h
    by (Ok c) (Err w) p q h = tenths_refused d e (q ∙ h)
    by (Err v) w p q h = tenths_refused b e (p ∙ h)

-- not steady, or a bad weight
pub weighed_refused : (status b d : ℕ) (e : Refusal) → weighed_of status b d ≡ Err e → (e ≡ NotSteady) ⊎ (e ≡ BadWeight)
unfolding weighed_of
weighed_refused status b d e h = by (eqb status 0) h
  where
    by : (t : Bool) → pick t (share_of b d) (Err NotSteady) ≡ Err e → (e ≡ NotSteady) ⊎ (e ≡ BadWeight)
    by true q = inr (share_refused b d e q)
    by false q = inl cc

pub every_weight : EveryWeight
every_weight = record { exact = exact_value; nearest = tenths_nearest; most = tenths_within; share = weighed_is }

-- ---- the same in the words of the library's account of IEEE 754
nearest_same : (a b c d : ℕ) → 0 < b → 0 < d → a * d ≡ c * b → nearest_of a b ≡ nearest_of c d
nearest_same a b c d p q e =
    sym (nearest_reduced a b d q) ∙ ap (λ (x : ℕ). nearest_of x (b * d)) e ∙ ap (nearest_of (c * b)) (mul_comm b d) ∙ nearest_reduced c d b p

-- of an f32, which is m * 2 ^ e with the sign s: no sign, at most 1000 g, and the nearest whole tenth of a milligram
pub float_tenths : (s : Bool) (m : ℕ) (e : ℤ) (t : ℕ) → T (fits binary32 (fin s m e)) → tenths_of (to_bits binary32 (fin s m e)) ≡ Ok t
    → (s ≡ false) × (m * up e ≤ 1000 * down e) × Nearest (10000 * (m * up e)) (down e) t
float_tenths s m e t f h = (
  v.0 ∙ lt-leb 2147483648 b (omega (arith, k.0)),
  le_of_mul-le-mul_right (omega (arith, v.1, mul-le-mul_right (down e) (light_is b k.0))) (under_pos b),
  rw
      (k.1
      ∙ nearest_same (10000 * (exact_of b).over) (exact_of b).under (10000 * (m * up e)) (down e) (under_pos b) (down_pos e) (omega (arith, v.1)))
      (nearest_is (10000 * (m * up e)) (down e) (down_pos e)),
)
  where
    b : ℕ
    b = to_bits binary32 (fin s m e)

    k : (b ≤ 1148846080) × (t ≡ nearest_tenths (exact_of b))
    k = tenths_of_lem b t (dec_le b 1148846080) h

    v : HasValue (fin s m e) (negative b) (exact_of b).over (exact_of b).under
    v = subst (λ (x : Float). HasValue x (negative b) (exact_of b).over (exact_of b).under) (of_bits-to_bits binary32 (fin s m e) f) (exact_value b (lt-ltb (exponent_field b) 255 (omega (arith, k.0))))

-- ---- bits that became a float and bits again weigh the same
pub nan_weight : (x : Float) → x ≡ nan → tenths_of (to_bits binary32 x) ≡ (Err BadWeight)
nan_weight x e = rw (e, nan_bits) (bad_weight_lem 2143289344 (lit< tt))

pub bits_back : (b : ℕ) → b < 2 ^ 32 → tenths_of (to_bits binary32 (of_bits binary32 b)) ≡ tenths_of b
bits_back b h = by (is_nan (of_bits binary32 b)) refl
  where
    by : (t : Bool) → is_nan (of_bits binary32 b) ≡ t → tenths_of (to_bits binary32 (of_bits binary32 b)) ≡ tenths_of b
    by true e =
        let k : 2139095040 < b % 2147483648 = ltb-true 2139095040 (b % 2147483648) (sym (nan_bits_above binary32 b) ∙ nan_bits_is binary32 b ∙ e) in
        nan_weight (of_bits binary32 b) (nan_of (of_bits binary32 b) e) ∙ sym (bad_weight_lem b (omega arith))
    by false e = ap tenths_of (to_bits-of_bits binary32 b h (subst (λ (t : Bool). T (not t)) (sym e) tt))

pub weighed_back : (status c r : ℕ) → c < 2 ^ 32 → r < 2 ^ 32
    → weighed_of status (to_bits binary32 (of_bits binary32 c)) (to_bits binary32 (of_bits binary32 r)) ≡ weighed_of status c r
unfolding weighed_of share_of
weighed_back status c r h k = rw (bits_back c h, bits_back r k) refl

-- what a line's pans come to, by the digits of the line
pub line_weighs : (d : List ℕ) (status a b : ℕ)
    → weighing_of status (record { component = float_of d a; remainder = float_of d b }) ≡ answer_of (weighed_of status (field_of d a 8) (field_of d b 8))
line_weighs d status a b = ap answer_of (weighed_back status (field_of d a 8) (field_of d b 8) (field_lt d a 8) (field_lt d b 8))

-- ---- a weighing as its answer
-- X is at most 10000, and 0 where there is none
pub weighing_low : (status : ℕ) (p : Pans) → (weighing_of status p).value ≤ highest_x
weighing_low status p = by (weighed_of status b d) refl
  where
    b : ℕ
    b = to_bits binary32 p.component

    d : ℕ
    d = to_bits binary32 p.remainder

    by : (r : Result ℕ Refusal) → weighed_of status b d ≡ r → (answer_of r).value ≤ highest_x
    by (Ok x) e = (weighed_is status b d x e).1.within
    by (Err w) e = omega arith

-- so a weigh is never refused with 7
other_number : (a b c d : Bool) (w : ℕ) → (w ≡ 7 → ⊥) → let n = pick {A = ℕ} b 6 (pick false 7 (pick c 8 (pick d 9 0))) in unless a 2 (pick (eqb n 0) w n) ≡ 7 → ⊥
other_number false b c d w h e = eqb-false 2 7 refl e
other_number true true c d w h e = eqb-false 6 7 refl e
other_number true false true d w h e = eqb-false 8 7 refl e
other_number true false false true w h e = eqb-false 9 7 refl e
other_number true false false false w h e = h e

weighing_other : (status b d : ℕ) → (answer_of (weighed_of status b d)).number ≡ 7 → ⊥
weighing_other status b d = by (weighed_of status b d) refl
  where
    refused : (w : Refusal) → (w ≡ NotSteady) ⊎ (w ≡ BadWeight) → number_of w ≡ 7 → ⊥
    refused w (inl p) e = eqb-false 18 7 refl (sym (ap number_of p) ∙ e)
    refused w (inr p) e = eqb-false 19 7 refl (sym (ap number_of p) ∙ e)

    by : (r : Result ℕ Refusal) → weighed_of status b d ≡ r → (answer_of r).number ≡ 7 → ⊥
    by (Ok x) q e = eqb-false 0 7 refl e
    by (Err w) q e = refused w (weighed_refused status b d w q) e

pub never_too_high : (g : Ledger) (c status : ℕ) (p : Pans) → weigh_number g c (weighing_of status p) ≡ 7 → ⊥
never_too_high g c status p e =
    let low = le-ltb highest_x (weighing_of status p).value (weighing_low status p) in
    other_number (is_weighed g.lot.attribute) (eqb c 0 || ltb (containers g) c) (is_held (g.contents c)) (leb most_held (held g)) (weighing_of status p).number
    (weighing_other status (to_bits binary32 p.component) (to_bits binary32 p.remainder)) (rw low at e)
