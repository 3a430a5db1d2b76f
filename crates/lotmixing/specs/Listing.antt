-- What lotmixing keeps of its words, and what its functions promise of it.
use Rattle.std.specs.Prelude.{◌≡◌, true, false, List, [], ◌∷◌, ◌++◌, map, ℕ, ◌+◌, length, take, Option, Some, None}
use Rattle.rules.specs.Limits.{most_mixed}
use Rattle.rules.specs.Mixing.{mixing_of}
use Rattle.decimal_words.specs.Words.{word_value}
use Rattle.program_words.specs.Saying.{Said, usage, said_of}
use Rattle.program_lines.specs.Printing.{all_numbers}
use Rattle.lotmixing.specs.declared.numbers.Numbers.{Numbers}

-- The tolerated R, and one result more than may be mixed: longer lists are answered alike (shown in proofs/Exact.antt).
abbrev pub most_kept : ℕ
most_kept = most_mixed + 2

abbrev pub numbers_in : Numbers → List ℕ
numbers_in n = take n.count n.values

-- l is what is kept of these words: the first of their numbers, or nothing where one of the words is no number
abbrev pub KeptOf : List (List ℕ) → Option Numbers → Type 0
KeptOf words None = all_numbers words ≡ false
KeptOf words (Some n) = (all_numbers words ≡ true) × (numbers_in n ≡ take most_kept (map word_value words))

-- m keeps this word behind those that l keeps
abbrev pub Adds : List ℕ → Option Numbers → Option Numbers → Type 0
Adds word l m = (words : List (List ℕ)) → KeptOf words l → KeptOf (words ++ (word ∷ [])) m

-- m keeps one word more than l, whichever it was
pub record OneMore (l m : Option Numbers) : Type 0 where
  pub word : List ℕ
  pub right : Adds word l m

-- l is what is kept of so many words, whichever they were
pub record ReadOf (many : ℕ) (l : Option Numbers) : Type 0 where
  pub words : List (List ℕ)
  pub count : length words ≡ many
  pub right : KeptOf words l

-- what is said to numbers, of which the first is the tolerated R
abbrev pub said_to_numbers : List ℕ → Said
said_to_numbers [] = usage
said_to_numbers (tolerated ∷ results) = said_of (mixing_of results tolerated)
