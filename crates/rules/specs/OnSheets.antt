-- Calls on a sheet: it is read, a call is made on its ledger, and the sheet after the call is written.
use Rattle.std.specs.Prelude.{List, ℕ, eqb, Result, Ok, Err}
use Rattle.rules.specs.Choice.{pick}
use Rattle.rules.specs.Numbers.{TextAnswer, number_of}
use Rattle.rules.specs.Ledger.{Ledger, Judged, enter_on, withdraw_on}
use Rattle.rules.specs.Reading.{SheetOutcome, accepted, refused, read_of}
use Rattle.rules.specs.Writing.{write_on}
use Rattle.rules.specs.ListReading.{Listed, list_on}
use Rattle.rules.specs.declared.Fault.{Fault}
use Rattle.rules.specs.declared.Place.{Place}
use Rattle.rules.specs.declared.Place.TheVariants as place
use Rattle.rules.specs.declared.Refusal.{Refusal}

-- What such a call is answered: the refusal's number, 0 for none, with the file and the line of a fault in a text, else 0 and 0; the
-- length of the sheet after it; and the whole buffer afterwards.
pub record SheetAnswer : Type 0 where
  pub number : ℕ
  pub file : ℕ
  pub line : ℕ
  pub size : ℕ
  pub bytes : List ℕ

-- a fault: file 1 is the sheet, 2 the list, 0 neither; the buffer stays as it was
abbrev pub faulty : ℕ → ℕ → ℕ → List ℕ → SheetAnswer
faulty e file line d = record { number = e; file = file; line = line; size = 0; bytes = d }

-- as the sheet writer has it
abbrev pub as_written : TextAnswer → SheetAnswer
as_written t = record { number = t.number; file = 0; line = 0; size = t.size; bytes = t.bytes }

-- the file and the line where a fault stands; 0 and 0 where it stands in the call itself
abbrev pub file_of : Place → ℕ
file_of place.Call = 0
file_of (place.Sheet line) = 1
file_of (place.List line) = 2

abbrev pub line_of : Place → ℕ
line_of place.Call = 0
line_of (place.Sheet line) = line
line_of (place.List line) = line

-- a refusal of the call itself, which stands in no line
abbrev pub in_call : Refusal → Fault
in_call e = record { refusal = e; place = place.Call }

-- the code's answer, and the buffer afterwards
abbrev pub on_sheet_answer : Result ℕ Fault → List ℕ → SheetAnswer
on_sheet_answer (Ok n) b = record { number = 0; file = 0; line = 0; size = n; bytes = b }
on_sheet_answer (Err f) b = faulty (number_of f.refusal) (file_of f.place) (line_of f.place) b

-- a call's own refusal has no line
abbrev pub without_line : Judged → Listed
without_line j = record { number = j.number; line = 0; ledger = j.ledger }

-- the call's refusal, with the file that its line is of; or the sheet after it
abbrev pub after_call : ℕ → Listed → List ℕ → SheetAnswer
after_call file r d = pick (eqb r.number 0) (as_written (write_on r.ledger d)) (faulty r.number file r.line d)

-- the sheet's first fault, which is of file 1; else the call on its ledger
abbrev pub call_on : ℕ → SheetOutcome → (Ledger → Listed) → List ℕ → SheetAnswer
call_on file (refused e line) call d = faulty e 1 line d
call_on file (accepted g lines) call d = after_call file (call g) d

-- ---- the calls: an enter, a withdraw, and a list, which is file 2
unfoldable pub enter_sheet : List ℕ → ℕ → ℕ → List ℕ → SheetAnswer
enter_sheet sheet k x d = call_on 0 (read_of sheet) (λ g. without_line (enter_on g k x)) d

unfoldable pub withdraw_sheet : List ℕ → ℕ → List ℕ → SheetAnswer
withdraw_sheet sheet k d = call_on 0 (read_of sheet) (λ g. without_line (withdraw_on g k)) d

unfoldable pub enter_list_sheet : List ℕ → List ℕ → List ℕ → SheetAnswer
enter_list_sheet sheet list d = call_on 2 (read_of sheet) (λ g. list_on g list) d
