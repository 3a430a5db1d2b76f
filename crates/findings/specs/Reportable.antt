-- When figures are reported, and what is found then.
use Rattle.std.specs.Prelude.{ℕ, ◌*◌, ◌≤◌, Bool, ◌&&◌, leb, Option, Some, None}
use Rattle.rules.specs.Choice.{pick}
use Rattle.rules.specs.Limits.{least_reported, most_held, most_rows, highest_x, least_factor, most_factor, most_seeds}
use Rattle.rules.specs.Report.{findings_of}
use Rattle.rules.specs.Spread.{Spread, HeadWithin}
use Rattle.rules.specs.declared.Attribute.{Attribute}
use Rattle.rules.specs.declared.Head.{Head}
use Rattle.rules.specs.declared.Card.{Card}
use Rattle.rules.specs.declared.Figures.{Figures}
use Rattle.rules.specs.declared.Findings.{Findings}

-- these figures with S and Q as a tally keeps them
abbrev pub with_sums : ℕ → ℕ → Figures → Figures
with_sums s q f = record { count = f.count; sum = s; squares = q; smallest = f.smallest; largest = f.largest }

-- what S and Q of N results that are not too high always keep to: `Spread`, as tests
abbrev pub sums_within : Figures → Bool
sums_within f = leb f.sum (highest_x * f.count) && (leb f.squares (highest_x * f.sum) && leb (f.sum * f.sum) (f.count * f.squares))

-- There are enough results, their sums keep to this, and the card's F, n and rows to what an open accepts. On those of a tally made in
-- some other way numbers on the way to H could wrap, so this is looked at first.
abbrev pub within_limits : Head → ℕ → Figures → Bool
within_limits h rows f =
    leb least_reported f.count
    && (sums_within f
    && (leb least_factor h.factor && (leb h.factor most_factor && (leb h.seeds most_seeds && leb rows most_rows))))

-- the same, of no more results than a tally has room for
abbrev pub reportable : Card → Figures → Bool
reportable c f = leb f.count most_held && within_limits c.head c.rows f

-- what is found by attribute, card and figures, where these are reportable
abbrev pub found_of : Attribute → Card → Figures → Option Findings
found_of a c f = pick (reportable c f) (Some (findings_of a c f)) None

-- ---- as facts
-- the figures of enough results and not too many, whose sums keep to Spread
pub record Served (f : Figures) : Type 0 where
  pub enough : least_reported ≤ f.count
  pub few : f.count ≤ most_held
  pub spread : Spread highest_x f
  pub ends : f.smallest ≤ f.largest

pub record IsReportable (c : Card) (f : Figures) : Type 0 where
  pub served : Served f
  pub head : HeadWithin c.head
  pub rows : c.rows ≤ most_rows
