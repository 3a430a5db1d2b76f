-- A word read as a decimal number of 32 bits.
use Rattle.std.specs.Prelude.{Bool, List, ℕ, min, Option, Some, None}
use Rattle.rules.specs.Choice.{pick}
use Rattle.rules.specs.Decimals.{decimal_value, is_number}

-- the largest number of 32 bits
abbrev pub largest32 : ℕ
largest32 = 4294967295

-- A number above the largest of 32 bits is handed back as that one: every limit that a number is held to lies far below it, and
-- every call beside the tally answers it like any other number above its limit (shown in proofs/Largest.antt).
abbrev pub capped : ℕ → ℕ
capped n = min n largest32

abbrev pub word_value : List ℕ → ℕ
word_value word = capped (decimal_value word)

-- a number where the test holds, or none
abbrev pub when : Bool → ℕ → Option ℕ
when b n = pick b (Some n) None

abbrev pub word_of : List ℕ → Option ℕ
word_of word = when (is_number word) (word_value word)
