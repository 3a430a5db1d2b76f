-- What is left of a program's word by the system's call that hands it over.
use Rattle.std.specs.Prelude.{◌≡◌, List, ℕ, ◌<◌, leb, length, take}
use Rattle.rules.specs.Choice.{pick}

-- places for a word: the longest that Linux hands to a program, and the byte that ends it
abbrev pub word_places : ℕ
word_places = 131072

-- The word, no longer than Linux hands over, was put at the front of a buffer, and n was answered: its length, or 0 where it does
-- not fit. A word that is missing is left as one with no bytes is.
pub record GivenAs (word buffer : List ℕ) (n : ℕ) : Type 0 where
  pub short : length word < word_places
  pub size : n ≡ pick (leb (length word) (length buffer)) (length word) 0
  pub bytes : take n buffer ≡ take n word
