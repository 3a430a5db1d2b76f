-- What a balance sends of a sample: a status and two weights, each as the 32 float bits of a number of grams. Each weight becomes whole
-- tenths of a milligram, and both together X, the component's share in hundredths of a percent.
use Rattle.std.specs.Prelude.{Bool, not, ◌||◌, ℕ, ◌+◌, ◌*◌, eqb, ltb, Float, Result, Ok, Err}
use Rattle.std.specs.Float.{binary32}
use Rattle.std.specs.Float.Ieee.{to_bits}
use Rattle.rules.specs.Choice.{pick}
use Rattle.rules.specs.Limits.{highest_x, most_grams, tenths_per_gram}
use Rattle.rules.specs.Rounding.{rounded_of}
use Rattle.rules.specs.Floats.{negative, finite, exact_of}
use Rattle.rules.specs.Numbers.{Answered, answer_of}
use Rattle.rules.specs.declared.Fraction.{Fraction}
use Rattle.rules.specs.declared.Pans.{Pans}
use Rattle.rules.specs.declared.Reading.{Reading}
use Rattle.rules.specs.declared.Reading.TheVariants.{Steady, Unsteady, Overload}
use Rattle.rules.specs.declared.Refusal.{Refusal}
use Rattle.rules.specs.declared.Refusal.TheVariants.{NotSteady, BadWeight}

-- ---- one weight
-- above 1000 g, exactly
abbrev pub too_heavy : Fraction → Bool
too_heavy q = ltb (most_grams * q.under) q.over

-- a sign bit, no finite number, or above 1000 g
unfoldable pub bad_weight : ℕ → Bool
bad_weight b = negative b || (not (finite b) || too_heavy (exact_of b))

-- the nearest whole tenth of a milligram to a number of grams, half up; its side is not used
abbrev pub nearest_tenths : Fraction → ℕ
nearest_tenths q = (rounded_of (tenths_per_gram * q.over) q.under).nearest

unfoldable pub tenths_of : ℕ → Result ℕ Refusal
tenths_of b = pick (bad_weight b) (Err BadWeight) (Ok (nearest_tenths (exact_of b)))

-- ---- both weights, rounded
-- the share of c in c + r, half up; there is none where both are zero
unfoldable pub ratio_of : ℕ → ℕ → Result ℕ Refusal
ratio_of c r = pick (eqb (c + r) 0) (Err BadWeight) (Ok (rounded_of (highest_x * c) (c + r)).nearest)

-- the refusal of the component goes before that of the remainder
abbrev pub share_by : Result ℕ Refusal → Result ℕ Refusal → Result ℕ Refusal
share_by (Ok c) (Ok r) = ratio_of c r
share_by (Ok c) (Err e) = Err e
share_by (Err e) r = Err e

-- of the bits of component and remainder
unfoldable pub share_of : ℕ → ℕ → Result ℕ Refusal
share_of c r = share_by (tenths_of c) (tenths_of r)

-- ---- with the status: 00 steady, 01 unsteady, 02 overload
-- a reading of one pan; nothing but 00 is steady
unfoldable pub reading_of : ℕ → Float → Reading
reading_of status w = pick (eqb status 0) (Steady w) (pick (eqb status 1) (Unsteady w) Overload)

-- not steady before bad weight: with a status other than 00 the weights are not looked at
unfoldable pub weighed_of : ℕ → ℕ → ℕ → Result ℕ Refusal
weighed_of status c r = pick (eqb status 0) (share_of c r) (Err NotSteady)

-- what a status and both pans come to: X, or the number of a refusal
abbrev pub weighing_of : ℕ → Pans → Answered
weighing_of status p = answer_of (weighed_of status (to_bits binary32 p.component) (to_bits binary32 p.remainder))
