-- What lotenter enters of what it read, and what it prints for that.
use Rattle.std.specs.Prelude.{◌≡◌, Bool, true, ◌||◌, not, List, ℕ, ◌≤◌, eqb, ltb, length, take}
use Rattle.rules.specs.Choice.{pick}
use Rattle.rules.specs.Limits.{list_places}
use Rattle.rules.specs.Text.{text}
use Rattle.rules.specs.Reading.{SheetOutcome, accepted, refused, read_of}
use Rattle.rules.specs.ListReading.{list_on}
use Rattle.rules.specs.Printing.{entered, ended_lines}
use Rattle.reading_theorems.specs.Lengths.{longest_written}
use Rattle.buffers.specs.Counts.{IsPrefixLen}

-- of the bytes that were read of a list these are entered: all of them, or, where they fill their places, the lines that end among them
abbrev pub entered_part : List ℕ → List ℕ
entered_part read = pick (ltb (length read) list_places) read (ended_lines read)

-- how lotenter is used
abbrev pub usage_line : List ℕ
usage_line = text "usage: lotenter SHEET LIST\n"

-- whether what is printed for these lines is printed for the whole list: they are all of it, or sheet or lines have a fault
abbrev pub is_decided : SheetOutcome → List ℕ → Bool → Bool
is_decided (accepted g n) lines whole = whole || not (eqb (list_on g lines).number 0)
is_decided (refused e line) lines whole = true

-- what is printed for a sheet and these lines of a list
unfoldable pub text_of : SheetOutcome → List ℕ → Bool → List ℕ
text_of o lines whole = pick (is_decided o lines whole) (entered o lines) usage_line

-- the text t stands in the first r bytes of a buffer
pub record Shows (t e : List ℕ) (r : ℕ) : Type 0 where
  pub bytes : take r e ≡ t
  pub counts : IsPrefixLen r e

-- a text for these lines was laid in a buffer that had the bytes d and has the bytes e now; it has room for every sheet
abbrev pub ShowsEntered : List ℕ → List ℕ → Bool → List ℕ → List ℕ → ℕ → Type 0
ShowsEntered sheet lines whole d e r = longest_written ≤ length d → Shows (text_of (read_of sheet) lines whole) e r
