-- The line of a fault has 16 bits: each line of a sheet that is taken takes room, and a list has no more lines than results can be
-- entered, and one more. Assumes nothing.
use mathlib.Core.Path.{◌≡◌, refl, sym}
use mathlib.Core.Bool.{Bool, true, false}
use mathlib.Core.List.{List, [], ◌∷◌}
use Prim.Native.Nat.{ℕ, ◌+◌, ◌≤◌}
use native.Mathlib.Omega.{arith}
use lib.Dec.{eqb}
use lib.ListN.{length}
use Rattle.rules.specs.Choice.{pick}
use Rattle.rules.specs.Limits.{widest}
use Rattle.rules.specs.Ledger.{Ledger, enter_on, withdraw_on}
use Rattle.rules.specs.Stages.{is_ended}
use Rattle.rules.specs.Lines.{Line, ended, unended, lines_of}
use Rattle.rules.specs.Frames.{frame_of}
use Rattle.rules.specs.Reading.{State, Next, goes, stops, SheetOutcome, accepted, refused, step_of, after, read_from, at_start, read_of}
use Rattle.rules.specs.Writing.{write_on}
use Rattle.rules.specs.ListReading.{Listed, list_on}
use Rattle.rules.specs.OnSheets.{faulty, as_written, without_line, after_call, call_on, enter_sheet, withdraw_sheet, enter_list_sheet}
use Rattle.rules.proofs.Taken.{taken}
use Rattle.rules.proofs.ListLaws.{list_few}
use Rattle.rules.proofs.Capacity.{capacity}
use Rattle.reading_theorems.specs.Lengths.{longest_read}
use Rattle.reading_theorems.proofs.Accepted.{refused_not}
use Rattle.reading_theorems.proofs.Fitting.{frame_fits}
use Rattle.reading_theorems.proofs.Falling.{room, falls, room_start}

-- ---- a sheet
same_line : {e f m n : ℕ} → refused e m ≡ refused f n → m ≡ n
same_line q = cc

lines_within : (ls : List Line) (t : State) (n e line : ℕ) → read_from ls t n ≡ refused e line → line ≤ n + room t + 1
unfolding read_from
lines_within [] t n e line q = by (is_ended t.stage) q
  where
    by : (b : Bool) → pick b (accepted t.ledger n) (refused 2 (n + 1)) ≡ refused e line → line ≤ n + room t + 1
    by true q = refused_not (sym q)
    by false q = omega (arith, same_line q)
lines_within (unended ∷ ls) t n e line q = omega (arith, same_line q)
lines_within (ended d ∷ ls) t n e line q = by (step_of (frame_of d) t) refl (λ u. lines_within ls u (n + 1) e line) q
  where
    by : (x : Next) → step_of (frame_of d) t ≡ x → ((u : State) → read_from ls u (n + 1) ≡ refused e line → line ≤ n + 1 + room u + 1)
        → after x (n + 1) (λ u. read_from ls u (n + 1)) ≡ refused e line → line ≤ n + room t + 1
    by (goes u) w rest q = omega (arith, rest u q, falls (length d) t u (frame_fits d) (taken (frame_of d) t u w))
    by (stops f) w rest q = omega (arith, same_line q)

pub sheet_lines : (sheet : List ℕ) (e line : ℕ) → read_of sheet ≡ refused e line → line ≤ longest_read + 1
unfolding read_of
sheet_lines sheet e line q = omega (arith, lines_within (lines_of sheet) at_start 0 e line q, room_start)

-- ---- a call on a sheet
after_few : (file n : ℕ) (r : Listed) (d : List ℕ) → r.line ≤ n → (after_call file r d).line ≤ n
after_few file n r d h = by (eqb r.number 0)
  where
    by : (b : Bool) → (pick b (as_written (write_on r.ledger d)) (faulty r.number file r.line d)).line ≤ n
    by true = omega arith
    by false = h

call_few : (sheet d : List ℕ) (file : ℕ) (call : Ledger → Listed) → ((g : Ledger) → (call g).line ≤ widest) → (call_on file (read_of sheet) call d).line ≤ widest
call_few sheet d file call h = by (read_of sheet) (sheet_lines sheet)
  where
    by : (o : SheetOutcome) → ((e line : ℕ) → o ≡ refused e line → line ≤ longest_read + 1) → (call_on file o call d).line ≤ widest
    by (accepted g lines) f = after_few file widest (call g) d (h g)
    by (refused e line) f = omega (arith, f e line refl)

pub enter_few : (sheet : List ℕ) (k x : ℕ) (d : List ℕ) → (enter_sheet sheet k x d).line ≤ widest
unfolding enter_sheet
enter_few sheet k x d = call_few sheet d 0 (λ g. without_line (enter_on g k x)) (λ g. omega arith)

pub withdraw_few : (sheet : List ℕ) (k : ℕ) (d : List ℕ) → (withdraw_sheet sheet k d).line ≤ widest
unfolding withdraw_sheet
withdraw_few sheet k d = call_few sheet d 0 (λ g. without_line (withdraw_on g k)) (λ g. omega arith)

pub list_lines_few : (sheet list d : List ℕ) → (enter_list_sheet sheet list d).line ≤ widest
unfolding enter_list_sheet
list_lines_few sheet list d = call_few sheet d 2 (λ g. list_on g list) (λ g. omega (arith, list_few g list, capacity))
