-- The line of a refusal, by the numbers that it has.
use Rattle.std.specs.Prelude.{List, [], ◌∷◌, ◌++◌, ℕ, ◌+◌, length}
use Rattle.rules.specs.Text.{text, decimal}

-- each number behind a space
abbrev pub spaced : List ℕ → List ℕ
spaced [] = []
spaced (n ∷ ns) = text " " ++ decimal n ++ spaced ns

abbrev pub spaced_length : ℕ → ℕ
spaced_length n = length (decimal n) + 1

-- REFUSED 8 6 for 8 and 6
unfoldable pub numbers_line : List ℕ → List ℕ
numbers_line ns = text "REFUSED" ++ spaced ns ++ text "\n"
