-- Lists of the calls open, enter, weigh, withdraw, join and comma list, and the ledger that is kept of them on paper. Nothing here
-- knows the program's tally.
use Rattle.std.specs.Prelude.{ℕ, ◌+◌, List, [], ◌∷◌, eqb, length}
use Rattle.rules.specs.Choice.{pick}
use Rattle.rules.specs.declared.Lot.{Lot}
use Rattle.rules.specs.declared.Card.{Card}
use Rattle.rules.specs.declared.Pans.{Pans}
use Rattle.reading_theorems.specs.Spelling.{Entry, sheet_lot, sheet_card, entries_of}
use Rattle.rules.specs.Lines.{lines_of}
use Rattle.rules.specs.Ledger.{Ledger, Judged, fresh_ledger, held, open_on, enter_on, weigh_on, withdraw_on, join_on}
use Rattle.rules.specs.ListReading.{Listed, list_on}

-- a list of calls, the last one outermost; a join has the list of the calls that made the other tally, a comma list its bytes
pub data Calls : Type 0 where
  start : Calls
  opens : Calls → Lot → Card → Calls
  enters : Calls → ℕ → ℕ → Calls
  weighs : Calls → ℕ → ℕ → Pans → Calls
  withdraws : Calls → ℕ → Calls
  joins : Calls → Calls → Calls
  lists : Calls → List ℕ → Calls

-- what a comma list is answered, its line left aside
abbrev pub line_aside : Listed → Judged
line_aside r = record { number = r.number; ledger = r.ledger }

-- what the last call is answered, and the ledger after it
unfoldable pub judge : Calls → Judged
judge start = record { number = 0; ledger = fresh_ledger }
judge (opens cs l c) = open_on (judge cs).ledger l c
judge (enters cs k x) = enter_on (judge cs).ledger k x
judge (weighs cs k s p) = weigh_on (judge cs).ledger k s p
judge (withdraws cs k) = withdraw_on (judge cs).ledger k
judge (joins cs ds) = join_on (judge cs).ledger (judge ds).ledger
judge (lists cs s) = line_aside (list_on (judge cs).ledger s)

abbrev pub ledger : Calls → Ledger
ledger cs = (judge cs).ledger

-- an answer: its number, 0 for accepted, and the line of a refused comma list, else 0
pub record Answer : Type 0 where
  pub number : ℕ
  pub line : ℕ

-- the answer of a call that has no lines
abbrev pub numbered : ℕ → Answer
numbered n = record { number = n; line = 0 }

-- and of a comma list
abbrev pub with_line : Listed → Answer
with_line r = record { number = r.number; line = r.line }

-- the answers to all the calls, the last one first
unfoldable pub answers : Calls → List Answer
answers start = []
answers (opens cs l c) = numbered (judge (opens cs l c)).number ∷ answers cs
answers (enters cs k x) = numbered (judge (enters cs k x)).number ∷ answers cs
answers (weighs cs k s p) = numbered (judge (weighs cs k s p)).number ∷ answers cs
answers (withdraws cs k) = numbered (judge (withdraws cs k)).number ∷ answers cs
answers (joins cs ds) = numbered (judge (joins cs ds)).number ∷ answers cs
answers (lists cs s) = with_line (list_on (ledger cs) s) ∷ answers cs

-- Counted since the last accepted open, or from the start where there is none: accepted enters, a weigh counting as one and an
-- accepted comma list as one for each of its lines, accepted withdraws, and the results added by accepted joins.
pub record Counts : Type 0 where
  pub entered : ℕ
  pub withdrawn : ℕ
  pub joined : ℕ

abbrev pub no_counts : Counts
no_counts = record { entered = 0; withdrawn = 0; joined = 0 }

abbrev pub more_entered : ℕ → Counts → Counts
more_entered n c = record { entered = c.entered + n; withdrawn = c.withdrawn; joined = c.joined }

-- a call counts where it is accepted
abbrev pub if_accepted : ℕ → Counts → Counts → Counts
if_accepted n after before = pick (eqb n 0) after before

unfoldable pub counts : Calls → Counts
counts start = no_counts
counts (opens cs l c) = if_accepted (judge (opens cs l c)).number no_counts (counts cs)
counts (enters cs k x) = if_accepted (judge (enters cs k x)).number (more_entered 1 (counts cs)) (counts cs)
counts (weighs cs k s p) = if_accepted (judge (weighs cs k s p)).number (more_entered 1 (counts cs)) (counts cs)
counts (withdraws cs k) =
    if_accepted (judge (withdraws cs k)).number
    (record { entered = (counts cs).entered; withdrawn = (counts cs).withdrawn + 1; joined = (counts cs).joined })
    (counts cs)
counts (joins cs ds) =
    if_accepted (judge (joins cs ds)).number
    (record { entered = (counts cs).entered; withdrawn = (counts cs).withdrawn; joined = (counts cs).joined + held (ledger ds) })
    (counts cs)
counts (lists cs s) = if_accepted (judge (lists cs s)).number (more_entered (length (lines_of s)) (counts cs)) (counts cs)

-- a list of calls, and then an enter for each entry, in their order
unfoldable pub enters_all : Calls → List Entry → Calls
enters_all cs [] = cs
enters_all cs (e ∷ es) = enters_all (enters cs e.container e.x) es

-- the calls that a sheet says: an open of its lot with its card, and an enter for each of its results
abbrev pub calls_of : List ℕ → Calls
calls_of sheet = enters_all (opens start (sheet_lot sheet) (sheet_card sheet)) (entries_of sheet)
