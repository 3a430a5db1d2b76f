-- What is shown of every weight and of every sample that is taken, whatever its bits.
use Rattle.std.specs.Prelude.{◌≡◌, true, ℕ, ◌+◌, ◌*◌, ◌≤◌, Ok}
use Rattle.std.specs.Float.{binary32}
use Rattle.std.specs.Float.Ieee.{of_bits}
use Rattle.std.specs.Float.Ieee.Exact.{HasValue}
use Rattle.rules.specs.Limits.{highest_x, most_grams, tenths_per_gram}
use Rattle.rules.specs.Rounding.{Nearest}
use Rattle.rules.specs.Floats.{negative, finite, exact_of}
use Rattle.rules.specs.Weights.{tenths_of, weighed_of}

-- x is the nearest hundredth of a percent to the share of two rounded weights, and at most 10000
pub record Shared (c r x : ℕ) : Type 0 where
  pub component : ℕ
  pub remainder : ℕ
  pub first : tenths_of c ≡ Ok component
  pub second : tenths_of r ≡ Ok remainder
  pub some : 1 ≤ component + remainder
  pub nearest : Nearest (highest_x * component) (component + remainder) x
  pub within : x ≤ highest_x

pub record EveryWeight : Type 0 where
  -- the fraction of finite bits, with their sign, is the value that the library's account of IEEE 754 gives to them
  pub exact : (b : ℕ) → finite b ≡ true → HasValue (of_bits binary32 b) (negative b) (exact_of b).over (exact_of b).under
  -- a weight that is taken is the nearest whole tenth of a milligram to the exact number of grams, the larger of two equally near
  pub nearest : (b t : ℕ) → tenths_of b ≡ Ok t → Nearest (tenths_per_gram * (exact_of b).over) (exact_of b).under t
  pub most : (b t : ℕ) → tenths_of b ≡ Ok t → t ≤ tenths_per_gram * most_grams
  -- a sample that is taken is steady, and X is the component's share
  pub share : (status c r x : ℕ) → weighed_of status c r ≡ Ok x → (status ≡ 0) × Shared c r x
