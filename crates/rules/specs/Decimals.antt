-- A word of bytes as a decimal number, however many digits it has.
use Rattle.std.specs.Prelude.{Bool, true, ◌&&◌, List, [], ◌∷◌, ℕ, ◌+◌, ◌-◌, ◌*◌, leb, length}

-- bytes 48 to 57 are the digits 0 to 9
abbrev pub is_decimal : ℕ → Bool
is_decimal c = leb 48 c && leb c 57

unfoldable pub all_decimal : List ℕ → Bool
all_decimal [] = true
all_decimal (c ∷ cs) = is_decimal c && all_decimal cs

-- the number that digits mean, behind those whose number is n
unfoldable pub value_behind : ℕ → List ℕ → ℕ
value_behind n [] = n
value_behind n (c ∷ cs) = value_behind (10 * n + (c - 48)) cs

-- the exact value of a word of digits, most significant first
unfoldable pub decimal_value : List ℕ → ℕ
decimal_value word = value_behind 0 word

-- a word is a number where it has one digit or more and nothing else: no sign, no blank, no letter
abbrev pub is_number : List ℕ → Bool
is_number word = leb 1 (length word) && all_decimal word
