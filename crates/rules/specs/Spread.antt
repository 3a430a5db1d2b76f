-- What bounds the figures of results that are not too high, and the head of a good card; with it no number on the way to H needs
-- more than 64 bits.
use Rattle.std.specs.Prelude.{ℕ, ◌*◌, ◌≤◌}
use Rattle.rules.specs.Limits.{least_factor, most_factor, most_seeds}
use Rattle.rules.specs.declared.Figures.{Figures}
use Rattle.rules.specs.declared.Head.{Head}

-- the figures of results that are at most m
pub record Spread (m : ℕ) (f : Figures) : Type 0 where
  pub low : f.sum * f.sum ≤ f.count * f.squares
  pub squares_high : f.squares ≤ m * f.sum
  pub sum_high : f.sum ≤ m * f.count

-- F and n of a good card
pub record HeadWithin (h : Head) : Type 0 where
  pub seeds : h.seeds ≤ most_seeds
  pub factor : least_factor ≤ h.factor
  pub factor_high : h.factor ≤ most_factor
