-- Which component lots may be mixed (002, 10.3): the range of their results against a tolerated R.
use Rattle.std.specs.Prelude.{◌&&◌, List, [], ◌∷◌, ℕ, ◌-◌, max, min, leb, length}
use Rattle.rules.specs.Choice.{pick, unless}
use Rattle.rules.specs.Limits.{highest_x, fewest_mixed, most_mixed}
use Rattle.rules.specs.Numbers.{Answered, gives, refuses}

-- the largest and the smallest of the results; of none, 0 and the highest X
unfoldable pub largest_of : List ℕ → ℕ
largest_of [] = 0
largest_of (x ∷ xs) = max x (largest_of xs)

unfoldable pub smallest_of : List ℕ → ℕ
smallest_of [] = highest_x
smallest_of (x ∷ xs) = min x (smallest_of xs)

-- outside the table, result too high, and then the range against the tolerated one
abbrev pub mixing_of : List ℕ → ℕ → Answered
mixing_of xs tolerated =
    unless (leb fewest_mixed (length xs) && leb (length xs) most_mixed) (refuses 17)
    (unless (leb (largest_of xs) highest_x) (refuses 7)
    (gives (pick (leb (largest_of xs - smallest_of xs) tolerated) 1 0)))
