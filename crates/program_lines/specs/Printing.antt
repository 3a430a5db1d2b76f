-- What lotsampling, lottolerance and lotmixing print to their words, to the byte. `arguments` is how many words there are, the
-- program's own name counted. With other words than the usage line names, that line is printed.
use Rattle.std.specs.Prelude.{Bool, true, false, ◌&&◌, List, [], ◌∷◌, map, ℕ, eqb}
use Rattle.rules.specs.Choice.{pick}
use Rattle.rules.specs.Text.{text, decimal}
use Rattle.rules.specs.Sampling.{sampling_of}
use Rattle.rules.specs.Tolerance.{label_of, pair_of}
use Rattle.rules.specs.Mixing.{mixing_of}
use Rattle.rules.specs.Decimals.{is_number, decimal_value}
use Rattle.decimal_words.specs.Words.{word_of}
use Rattle.program_words.specs.Saying.{Said, usage, said_of, two_numbers, said_to_two}
use Rattle.program_lines.specs.Lines.{line_of, yes_or_no}

-- ---- lotsampling CONTAINERS KILOGRAMS: the number of primary samples
abbrev pub said_to_sampling : ℕ → ℕ → Said
said_to_sampling k c = said_of (sampling_of k c)

unfoldable pub sampling_prints : ℕ → List ℕ → List ℕ → List ℕ
sampling_prints arguments containers kilograms =
    line_of (text "usage: lotsampling CONTAINERS KILOGRAMS") decimal
    (said_to_two said_to_sampling (two_numbers (eqb arguments 3) (word_of containers) (word_of kilograms)))

-- ---- lottolerance label LABELLED FOUND, lottolerance pair FIRST SECOND: `within` or `out`
-- whether two words have the same bytes
unfoldable pub same : List ℕ → List ℕ → Bool
same [] [] = true
same [] (d ∷ w) = false
same (c ∷ v) [] = false
same (c ∷ v) (d ∷ w) = eqb c d && same v w

-- `label` compares a label with a test, `pair` two tests; there is no other kind
abbrev pub said_to_kind : List ℕ → ℕ → ℕ → Said
said_to_kind kind a b =
    pick (same kind (text "label")) (said_of (label_of a b))
    (pick (same kind (text "pair")) (said_of (pair_of a b)) usage)

unfoldable pub tolerance_prints : ℕ → List ℕ → List ℕ → List ℕ → List ℕ
tolerance_prints arguments kind first second =
    line_of (text "usage: lottolerance label LABELLED FOUND, or lottolerance pair FIRST SECOND") (yes_or_no (text "within") (text "out"))
    (said_to_two (said_to_kind kind) (two_numbers (eqb arguments 4) (word_of first) (word_of second)))

-- ---- lotmixing TOLERATED X X ..: `mixable` or `not mixable`
unfoldable pub all_numbers : List (List ℕ) → Bool
all_numbers [] = true
all_numbers (w ∷ ws) = is_number w && all_numbers ws

-- to the words behind the program's name: a tolerated R, and a result in each word behind it
unfoldable pub said_to_mixing : List (List ℕ) → Said
said_to_mixing [] = usage
said_to_mixing (tolerated ∷ results) =
    pick (all_numbers (tolerated ∷ results)) (said_of (mixing_of (map decimal_value results) (decimal_value tolerated))) usage

abbrev pub mixing_line : Said → List ℕ
mixing_line said = line_of (text "usage: lotmixing TOLERATED X X ..") (yes_or_no (text "mixable") (text "not mixable")) said

unfoldable pub mixing_prints : List (List ℕ) → List ℕ
mixing_prints words = mixing_line (said_to_mixing words)
