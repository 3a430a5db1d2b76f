-- What is known of an input of which a part was read.
use Rattle.std.specs.Prelude.{◌≡◌, List, ℕ, ◌≤◌, ◌<◌, length, take}
use Rattle.program_input.specs.declared.TheConstants.{SHEET}

-- The first n bytes of an input were read to the front of a buffer; where they do not fill the buffer, they are all of it.
pub record BeginsWith (input buffer : List ℕ) (n : ℕ) : Type 0 where
  pub begins : take n input ≡ take n buffer
  pub whole : n < length buffer → length input ≤ n

-- what a program has of an input: as many of its first bytes as there are places for a sheet, or all of it
abbrev pub IsSheetOf : List ℕ → List ℕ → Type 0
IsSheetOf input sheet = sheet ≡ take SHEET input
