-- The exact number that the 32 bits of an IEEE float mean: a sign (0x8000_0000 is 2 ^ 31), an exponent's field of 8 bits and a
-- fraction of 23 (0x0080_0000 is 2 ^ 23).
use Rattle.std.specs.Prelude.{Bool, ℕ, ◌+◌, ◌-◌, ◌*◌, ◌/◌, ◌%◌, ◌^◌, eqb, leb, ltb}
use Rattle.rules.specs.Choice.{pick}
use Rattle.rules.specs.declared.Fraction.{Fraction}

-- the sign bit is set, also in minus zero
abbrev pub negative : ℕ → Bool
negative b = leb 0x8000_0000 b

abbrev pub exponent_field : ℕ → ℕ
exponent_field b = b % 0x8000_0000 / 0x0080_0000

abbrev pub fraction_field : ℕ → ℕ
fraction_field b = b % 0x0080_0000

-- 255 is the field of the infinities and of what is not a number
abbrev pub finite : ℕ → Bool
finite b = ltb (exponent_field b) 255

-- a leading digit stands before the 23 of the fraction, but not in a subnormal number, whose field is 0
abbrev pub significand : ℕ → ℕ → ℕ
significand x t = pick (eqb x 0) t (0x0080_0000 + t)

-- How large a finite number is, its sign aside: its significand times 2 ^ (field - 150). A field of 0 counts as 1: here 0 - 1 is 0, as
-- is 1 - 1.
unfoldable pub exact_of : ℕ → Fraction
exact_of b = record { over = significand (exponent_field b) (fraction_field b) * 2 ^ (exponent_field b - 1); under = 2 ^ 149 }
