-- What the reading of a comma list into a tally promises.
use Rattle.std.specs.Prelude.{◌≡◌, List, ℕ, Option, Result, Ok, Err, ⊤}
use Rattle.rules.specs.Numbers.{number_of}
use Rattle.rules.specs.Ledger.{Ledger}
use Rattle.rules.specs.ListReading.{Listed, list_on}
use Rattle.rules.specs.OnSheets.{file_of, line_of}
use Rattle.rules.specs.declared.Fault.{Fault}
use Rattle.rules.specs.declared.Refusal.{Refusal}
use Rattle.list_lines.specs.Lines.{entry_on}
use Rattle.list_lines.specs.declared.Entry.{Entry}
use Rattle.tally.specs.View.{outcome_of, view}
use Rattle.tally.specs.Calls.{Sound, Answers}
use Rattle.tally.specs.declared.Tally.{Tally}

-- an answer, with the ledger after it, as the definition has it: accepted with line 0, or what the list's first faulty line is refused with
-- and that line's number
abbrev pub listed : Result ⊤ Fault → Ledger → Listed
listed (Ok _) g = record { number = 0; line = 0; ledger = g }
listed (Err f) g = record { number = number_of f.refusal; line = line_of f.place; ledger = g }

-- a fault is one of the list
abbrev pub in_list : Result ⊤ Fault → Type 0
in_list (Ok _) = Unit
in_list (Err f) = file_of f.place ≡ 2

-- a refused list leaves the tally u as it was, t
abbrev pub unchanged : Result ⊤ Fault → Tally → Tally → Type 0
unchanged (Ok _) t u = Unit
unchanged (Err f) t u = u ≡ t

-- The list s read into t: number, line and ledger are those of the definition where t is sound. A refused list leaves the very tally,
-- on any tally.
pub record Lists (t : Tally) (s : List ℕ) (e : Result ⊤ Fault) (u : Tally) : Type 0 where
  pub kept : unchanged e t u
  pub right : Sound t → listed e (view u) ≡ list_on (view t) s
  pub sound : Sound t → Sound u
  pub file : in_list e

-- ---- one line after another
-- a line
abbrev pub EntersEntry : Tally → Option Entry → Result ⊤ Refusal → Tally → Type 0
EntersEntry t n e u = Answers (Sound t) t (entry_on (view t) n) (outcome_of e u)

-- what the lines that were taken say of the list on the ledger `was`, where that of the tally afterwards is `after`
unfoldable pub told_by : Result ⊤ Fault → Ledger → Ledger → Listed
told_by (Ok a) was after = listed (Ok a) after
told_by (Err f) was after = listed (Err f) was

-- the lines of the list s
pub record Takes (t : Tally) (s : List ℕ) (e : Result ⊤ Fault) (u : Tally) : Type 0 where
  pub right : Sound t → list_on (view t) s ≡ told_by e (view t) (view u)
  pub sound : Sound t → Sound u
  pub file : in_list e
