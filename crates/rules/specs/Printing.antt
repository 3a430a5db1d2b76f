-- What lotreport, lotlist and lotenter print for any bytes at all. lotreport: five lines, or one line of REFUSED, number and sheet line.
use Rattle.std.specs.Prelude.{Bool, true, ◌||◌, not, List, [], ◌∷◌, ◌++◌, ℕ, suc, eqb, ltb, length, take}
use Rattle.rules.specs.Choice.{pick}
use Rattle.rules.specs.Limits.{least_reported, list_places}
use Rattle.rules.specs.Numbers.{TextAnswer}
use Rattle.rules.specs.Text.{text, decimal, laid_in}
use Rattle.rules.specs.Ledger.{Ledger, held}
use Rattle.rules.specs.Report.{report_of}
use Rattle.rules.specs.Reading.{SheetOutcome, accepted, refused, read_of}
use Rattle.rules.specs.Writing.{sheet_of}
use Rattle.rules.specs.ListReading.{has, Listed, list_on}
use Rattle.rules.specs.ListWriting.{list_of}

-- REFUSED 8 6
unfoldable pub refused_line : ℕ → ℕ → List ℕ
refused_line e line = text "REFUSED " ++ decimal e ++ text " " ++ decimal line ++ text "\n"

-- too few results are refused at the last line, that of the 06 frame
abbrev pub printed : SheetOutcome → List ℕ
printed (accepted g lines) = pick (ltb (held g) least_reported) (refused_line 15 lines) (report_of g)
printed (refused e line) = refused_line e line

unfoldable pub printed_for : List ℕ → List ℕ
printed_for sheet = printed (read_of sheet)

-- the same into a buffer
abbrev pub print_on : List ℕ → List ℕ → TextAnswer
print_on sheet d = laid_in (printed_for sheet) d

-- ---- lotlist: the held results as a comma list, or the sheet's fault as lotreport has it
abbrev pub listed : SheetOutcome → List ℕ
listed (accepted g lines) = list_of g
listed (refused e line) = refused_line e line

unfoldable pub listed_for : List ℕ → List ℕ
listed_for sheet = listed (read_of sheet)

-- ---- lotenter: the sheet with a list entered
-- REFUSED 20 2 3: number, file (1 the sheet, 2 the list) and line
unfoldable pub fault_line : ℕ → ℕ → ℕ → List ℕ
fault_line e file line = text "REFUSED " ++ decimal e ++ text " " ++ decimal file ++ text " " ++ decimal line ++ text "\n"

abbrev pub after_list : Listed → List ℕ
after_list r = pick (eqb r.number 0) (sheet_of r.ledger) (fault_line r.number 2 r.line)

abbrev pub entered : SheetOutcome → List ℕ → List ℕ
entered (accepted g lines) list = after_list (list_on g list)
entered (refused e line) list = fault_line e 1 line

unfoldable pub entered_for : List ℕ → List ℕ → List ℕ
entered_for sheet list = entered (read_of sheet) list

-- lotenter reads the first list_places bytes of a list. Of a list of as many or more it has the lines that end among them: how many
-- bytes they take, and these bytes.
unfoldable pub ended_bytes : List ℕ → ℕ
ended_bytes [] = 0
ended_bytes (x ∷ xs) = pick (has 10 (x ∷ xs)) (suc (ended_bytes xs)) 0

abbrev pub ended_lines : List ℕ → List ℕ
ended_lines list = take (ended_bytes list) list

-- the first bytes of the list tell what is printed: they are all of it, or one of the lines that end among them is faulty
abbrev pub is_told : Ledger → List ℕ → Bool
is_told g list = ltb (length list) list_places || not (eqb (list_on g (ended_lines (take list_places list))).number 0)

abbrev pub outcome_told : SheetOutcome → List ℕ → Bool
outcome_told (accepted g lines) list = is_told g list
outcome_told (refused e line) list = true

-- where they do not, its first faulty line does not end among them, and how lotenter is used is printed
unfoldable pub enter_prints : List ℕ → List ℕ → List ℕ
enter_prints sheet list = pick (outcome_told (read_of sheet) list) (entered_for sheet list) (text "usage: lotenter SHEET LIST\n")
