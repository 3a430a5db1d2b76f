-- Division of m·a by b with whole and rest, and rounded.
use Rattle.std.specs.Prelude.{Bool, ◌&&◌, ◌||◌, ℕ, ◌*◌, ◌/◌, ◌%◌, ◌^◌, ◌≤◌, ◌<◌, eqb, leb, ltb}
use Rattle.rules.specs.Choice.{pick}
use Rattle.rules.specs.Rounding.{rounded_of}
use Rattle.rules.specs.declared.Side.TheVariants.{Unrounded}
use Rattle.rounding.specs.declared.Division.{Division}

-- m is at most 100, b neither 0 nor too large, and a / b not too large: no number on the way then needs more than 64 bits
abbrev pub workable : ℕ → ℕ → ℕ → Bool
workable m a b = leb m 100 && (leb 1 b && (ltb b (2 ^ 56) && ltb (a / b) (2 ^ 50)))

-- the same, as facts
pub record Workable (m a b : ℕ) : Type 0 where
  pub scale : m ≤ 100
  pub positive : 1 ≤ b
  pub under : b < 2 ^ 56
  pub whole : a / b < 2 ^ 50

-- a whole number and a rest of b parts that make one more, neither too large
pub record Parted (whole rest b : ℕ) : Type 0 where
  pub less : rest < b
  pub under : b < 2 ^ 56
  pub high : whole < 2 ^ 60

-- m·a / b; nothing but zeros, and no side, where it is not workable
abbrev pub division_of : ℕ → ℕ → ℕ → Division
division_of m a b =
    pick (workable m a b)
    (record { whole = m * a / b; rest = m * a % b; rounded = rounded_of (m * a) b })
    (record { whole = 0; rest = 0; rounded = record { nearest = 0; side = Unrounded } })

-- whether a quotient is above t
abbrev pub is_above : Division → ℕ → Bool
is_above d t = ltb t d.whole || (eqb t d.whole && ltb 0 d.rest)
