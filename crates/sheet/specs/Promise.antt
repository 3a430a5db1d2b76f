-- What the reader promises.
use Rattle.std.specs.Prelude.{◌≡◌, List, ℕ, ◌+◌, ◌-◌, ◌≤◌, eqb, length, drop, Result, Ok, Err}
use Rattle.rules.specs.Choice.{unless}
use Rattle.rules.specs.Numbers.{number_of}
use Rattle.rules.specs.Cards.{open_number}
use Rattle.rules.specs.Lines.{lines_of}
use Rattle.rules.specs.Reading.{State, SheetOutcome, accepted, refused, read_from}
use Rattle.rules.specs.OnSheets.{file_of, line_of}
use Rattle.rules.specs.declared.Fault.{Fault}
use Rattle.rules.specs.declared.Lot.{Lot}
use Rattle.rules.specs.declared.Card.{Card}
use Rattle.tally.specs.View.{view}
use Rattle.tally.specs.Calls.{Sound}
use Rattle.tally.specs.declared.Tally.{Tally}
use Rattle.head_steps.specs.Promise.{state_of, at_first, just_opened}
use Rattle.sheet.specs.declared.Reading.{Reading}
use Rattle.sheet.specs.declared.ResultsBegin.{ResultsBegin}

-- the fault f is what a sheet whose outcome is o is refused with: its number, and its line, which is one of the sheet
pub record FaultOf (o : SheetOutcome) (f : Fault) : Type 0 where
  pub right : o ≡ refused (number_of f.refusal) (line_of f.place)
  pub file : file_of f.place ≡ 1

-- a sheet whose outcome is o has the tally t and so many lines
pub record TallyOf (o : SheetOutcome) (t : Tally) (lines : ℕ) : Type 0 where
  pub right : o ≡ accepted (view t) lines
  pub sound : Sound t

-- A sheet whose outcome is o is read as r; on a refusal there is no tally.
abbrev pub ReadAs : SheetOutcome → Result Reading Fault → Type 0
ReadAs o (Ok r) = TallyOf o r.tally r.lines
ReadAs o (Err f) = FaultOf o f

-- ---- a sheet from a place on
-- what the sheet s comes to, read from a on in the state t, where the n-th line starts
unfoldable pub read_rest : List ℕ → ℕ → State → ℕ → SheetOutcome
read_rest s a t n = read_from (lines_of (drop a s)) t (n - 1)

-- the n-th line may start at a: each line before it has an end byte
pub record Starts (s : List ℕ) (a n : ℕ) : Type 0 where
  pub within : a ≤ length s
  pub first : 1 ≤ n
  pub few : n ≤ a + 1

-- the sheet s, with this card at the start
abbrev pub read_with : List ℕ → Card → SheetOutcome
read_with s c = read_from (lines_of s) (state_of at_first c) 0

-- the lot is opened where the n-th line starts, and the sheet read from there on
abbrev pub read_opened : List ℕ → ℕ → Lot → Card → ℕ → ℕ → SheetOutcome
read_opened s a l c last n =
    unless (eqb (open_number l c) 0) (refused (open_number l c) n) (read_rest s a (just_opened l c last) n)

-- the results of the sheet s, whose outcome is o, begin with the n-th line, at a: lot and card are read
pub record HeadRead (o : SheetOutcome) (s : List ℕ) (l : Lot) (c : Card) (last a n : ℕ) : Type 0 where
  pub right : o ≡ read_opened s a l c last n
  pub starts : Starts s a n

-- r is what the lines of lot and card of the sheet s come to, with the card c before them and d after them
abbrev pub HeadLinesAre : List ℕ → Card → Result ResultsBegin Fault → Card → Type 0
HeadLinesAre s c (Ok b) d = HeadRead (read_with s c) s b.head.lot d b.head.last b.at b.line
HeadLinesAre s c (Err f) d = FaultOf (read_with s c) f

-- r is what the lines of results come to, with the tally t after them
abbrev pub ResultLinesAre : SheetOutcome → Result ℕ Fault → Tally → Type 0
ResultLinesAre o (Ok lines) t = TallyOf o t lines
ResultLinesAre o (Err f) t = FaultOf o f
