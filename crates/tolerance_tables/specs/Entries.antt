-- What the tables 14G and 14H have for a number, and a row as the code has it.
use Rattle.std.specs.Prelude.{ℕ, leb, ltb, get_or, Option, Some, None}
use Rattle.rules.specs.Choice.{pick}
use Rattle.rules.specs.Tolerance.{table14_g, table14_h, difference_for}
use Rattle.rules.specs.Tolerance as rules
use Rattle.tolerance_tables.specs.declared.tables.Row.{Row}

-- 14G, by the number labelled: the most seeds found, or nothing, where the number is outside the table
abbrev pub most_found : ℕ → Option ℕ
most_found labelled = pick (leb labelled 100) (Some (get_or table14_g labelled 0)) None

-- 14H, by the average of two tests: their tolerated difference, or nothing, where the average is outside the table
abbrev pub tolerated_difference : ℕ → Option ℕ
tolerated_difference average = pick (ltb 501 average) None (Some (difference_for table14_h average))

-- a row of the definition, as the code has it
abbrev pub coded : rules.Row → Row
coded r = record { top = r.top; tolerated = r.tolerated }
