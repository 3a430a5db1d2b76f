-- The row for R in words; and what it changes that it goes by the printed mean and not by the exact one, for every card and for the
-- figures of one result and more.
use Rattle.std.specs.Prelude.{◌≡◌, true, false, ℕ, ◌-◌, ◌*◌, ◌^◌, ◌≤◌, ◌<◌, get_or}
use Rattle.rules.specs.Limits.{most_held}
use Rattle.rules.specs.Attributes.{places_of_x, mean_places, mean_scale}
use Rattle.rules.specs.Figures.{printed_mean, row_serves, tolerated_upto, tolerated_for}
use Rattle.rules.specs.declared.Attribute.{Attribute}
use Rattle.rules.specs.declared.Attribute.TheVariants.{Count}
use Rattle.rules.specs.declared.Card.{Card}
use Rattle.rules.specs.declared.Figures.{Figures}
use Rattle.rules.specs.declared.Fraction.{Fraction}

-- row k of a card serves n results with a mean: n is within its two bounds, and its mean bound is at least the mean
pub record Serves (c : Card) (n : ℕ) (mean : Fraction) (k : ℕ) : Type 0 where
  pub lowest : get_or c.lowest k 0 ≤ n
  pub highest : n ≤ get_or c.highest k 0
  pub bound : mean.over ≤ get_or c.bound k 0 * mean.under

-- the first row in sheet order that serves
pub record FirstRow (c : Card) (n : ℕ) (mean : Fraction) (k : ℕ) : Type 0 where
  pub row : k < c.rows
  pub serves : Serves c n mean k
  pub before : (j : ℕ) → j < k → Serves c n mean j → ⊥

-- ---- the printed mean against the exact one
-- the exact mean, S / N
abbrev pub exact_mean : Figures → Fraction
exact_mean f = record { over = f.sum; under = f.count }

-- a mean bound lies below the exact mean, by less than half a unit of the mean's last printed place: S/N - bound < 1/(2·scale)
pub record JustBelow (a : Attribute) (f : Figures) (bound : ℕ) : Type 0 where
  pub below : bound * f.count < f.sum
  pub near : 2 * mean_scale a f.count * (f.sum - bound * f.count) < f.count

pub record RowByPrintedMean : Type 0 where
  -- the scale of the printed mean is that of the MEAN line, which has mean_places decimal places where X has places_of_x
  pub places : (a : Attribute) (n : ℕ) → mean_scale a n * 10 ^ places_of_x a ≡ 10 ^ mean_places a n
  -- a row that serves by the exact mean still serves
  pub still : (a : Attribute) (c : Card) (f : Figures) (k : ℕ) → 1 ≤ f.count
      → row_serves c k f.count (exact_mean f) ≡ true → row_serves c k f.count (printed_mean a f) ≡ true
  -- one that serves, and does not by the exact mean, has a bound just below that mean
  pub gained : (a : Attribute) (c : Card) (f : Figures) (k : ℕ) → 1 ≤ f.count
      → row_serves c k f.count (printed_mean a f) ≡ true → row_serves c k f.count (exact_mean f) ≡ false
      → JustBelow a f (get_or c.bound k 0)
  -- and every row with such a bound and N within its two is one of these
  pub every : (a : Attribute) (c : Card) (f : Figures) (k : ℕ) → 1 ≤ f.count
      → get_or c.lowest k 0 ≤ f.count → f.count ≤ get_or c.highest k 0 → JustBelow a f (get_or c.bound k 0)
      → (row_serves c k f.count (printed_mean a f) ≡ true) × (row_serves c k f.count (exact_mean f) ≡ false)
  -- so on a card without such a bound the tolerated R is the one by the exact mean
  pub same : (a : Attribute) (c : Card) (f : Figures) → 1 ≤ f.count → ((k : ℕ) → k < c.rows → JustBelow a f (get_or c.bound k 0) → ⊥)
      → tolerated_for a c f ≡ tolerated_upto c f.count (exact_mean f) c.rows
  -- no bound lies just below the mean of counts, of as many as may be held, nor of 10 to 20 results
  pub counts : (f : Figures) (bound : ℕ) → f.count ≤ most_held → JustBelow Count f bound → ⊥
  pub tens : (a : Attribute) (f : Figures) (bound : ℕ) → 10 ≤ f.count → f.count ≤ 20 → JustBelow a f bound → ⊥
