-- The line that lotsampling, lottolerance and lotmixing print for what they say.
use Rattle.std.specs.Prelude.{List, ◌++◌, ℕ, eqb}
use Rattle.rules.specs.Choice.{pick}
use Rattle.rules.specs.Text.{text, decimal}
use Rattle.program_words.specs.Saying.{Said, usage, refused, value}

-- places for a line: each line of the three programs is shorter
abbrev pub line_places : ℕ
line_places = 128

-- a text with the byte that ends a line
abbrev pub ended : List ℕ → List ℕ
ended t = t ++ text "\n"

-- REFUSED 17
abbrev pub refusal_line : ℕ → List ℕ
refusal_line e = ended (text "REFUSED " ++ decimal e)

-- The line of what is said: how the program is used, the refusal, or the value in the program's own words.
abbrev pub line_of : List ℕ → (ℕ → List ℕ) → Said → List ℕ
line_of how worded usage = ended how
line_of how worded (refused e) = refusal_line e
line_of how worded (value v) = ended (worded v)

-- the values 1 and 0 as words
abbrev pub yes_or_no : List ℕ → List ℕ → ℕ → List ℕ
yes_or_no y n v = pick (eqb v 1) y n
