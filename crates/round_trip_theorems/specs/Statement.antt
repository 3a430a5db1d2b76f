-- Sheets are read, and written back, so that lot, card and held results return unchanged (demand 2); and how long a sheet is. Each step
-- is what the called function's own contract promises.
use Rattle.std.specs.Prelude.{◌≡◌, List, [], ◌++◌, ℕ, zero, suc, ◌+◌, ◌-◌, ◌≤◌, length, take, replicate, Result, Ok}
use base.Fml.{Lft}
use Rattle.std.specs.Borrow.{Bor, MutBor}
use Rattle.rules.specs.Limits.{most_held, criticals, least_reported, most_rows, least_factor, most_digits}
use Rattle.rules.specs.Cards.{head_of, card_of}
use Rattle.rules.specs.Ledger.{Ledger, containers}
use Rattle.rules.specs.Lines.{lines_of}
use Rattle.rules.specs.Reading.{accepted, read_of}
use Rattle.rules.specs.Fields.{digits}
use Rattle.rules.specs.Writing.{ending, sheet_with, sheet_of}
use Rattle.rules.specs.Printing.{printed_for}
use Rattle.rules.specs.declared.Lot.{Lot}
use Rattle.rules.specs.declared.Card.{Card}
use Rattle.rules.specs.declared.Refusal.{Refusal}
use Rattle.rules.specs.declared.Fault.{Fault}
use Rattle.reading_theorems.specs.Lengths.{longest_written, longest_read}
use Rattle.tally.specs.View.{view}
use Rattle.tally.specs.declared.Tally.{Tally}
use Rattle.sheet.specs.declared.Reading.{Reading}
use Rattle.history.specs.Calls.{Calls, start, opens, enters, judge, ledger, Answer}
use Rattle.history.specs.Run.{Run}
use Rattle.history.specs.Steps.{WriteStep, ReadStep}

-- by the definition, the sheet is read to its last line as g: its lot, its card and its map
abbrev pub ReadsAs : List ℕ → Ledger → Type 0
ReadsAs sheet g = read_of sheet ≡ accepted g (length (lines_of sheet))

-- a reading accepts the sheet, to its last line, and yields g
pub record Yields (sheet : List ℕ) (r : Result Reading Fault) (g : Ledger) : Type 0 where
  pub reading : Reading
  pub accepted : r ≡ Ok reading
  pub lines : reading.lines ≡ length (lines_of sheet)
  pub same : view reading.tally ≡ g

-- what was written has so many bytes
pub record WrittenAs (w : Result ℕ Refusal) : Type 0 where
  pub bytes : ℕ
  pub is : w ≡ Ok bytes

-- ---- the longest sheet that is written
-- a lot with as many containers as results are held, and a card with a critical value for each N that may have one and with the most rows
abbrev pub full_lot : Lot
full_lot = record { attribute = 0; containers = most_held }

abbrev pub full_card : Card
full_card =
    card_of
    (head_of least_factor 0 1)
    (replicate least_reported 0 ++ replicate (criticals - least_reported) 1)
    most_rows
    (replicate most_rows least_reported)
    (replicate most_rows most_held)
    (replicate most_rows 0)
    (replicate most_rows 0)

-- an open of them, and after it an enter for each of the containers 1 to n
unfoldable pub filling : ℕ → Calls
filling zero = opens start full_lot full_card
filling (suc n) = enters (filling n) (suc n) 0

-- ---- the longest sheet that is accepted
-- a line of frame 07: container, status, and the bits of component and remainder
unfoldable pub balance_line : ℕ → ℕ → ℕ → ℕ → List ℕ
balance_line c s a b = digits 2 7 ++ digits 4 c ++ digits 2 s ++ digits 8 a ++ ending 8 b

-- 0 g of the component and 1 g of the remainder, steady: X is 0
abbrev pub zero_line : ℕ → List ℕ
zero_line c = balance_line c 0 0 0x3f80_0000

-- for each of the containers 1 to n
unfoldable pub zero_lines : ℕ → List ℕ
zero_lines zero = []
zero_lines (suc n) = zero_lines n ++ zero_line (suc n)

-- the lot, the card and the results of the calls above, each result as it was weighed
abbrev pub weighed_sheet : List ℕ
weighed_sheet = sheet_with (ledger (filling most_held)) (zero_lines most_held)

-- one line more behind it, of the most bytes
abbrev pub one_line_more : List ℕ
one_line_more = weighed_sheet ++ zero_line 1

-- its bytes but the last do not decide what is printed for it
abbrev pub LastByteNeeded : Type 0
LastByteNeeded = printed_for (take (longest_read + most_digits) one_line_more) ≡ printed_for one_line_more → ⊥

-- ---- all that is said
pub record Trip : Type 0 where
  -- what the writer's call laid down for a tally that a list of calls ends with, one read from a sheet among them: the reader's call
  -- accepts it, and what it yields is the list's ledger
  pub back : (cs : Calls) (ns : List Answer) (t : Tally) → Run cs ns t → (κ₁ : Lft) (b : MutBor (List ℕ)) (n : ℕ) (a : MutBor (List ℕ)) → WriteStep κ₁ t b (Ok n) a
      → (κ₂ : Lft) (sheet : Bor (List ℕ)) (r : Result Reading Fault) → sheet.now ≡ take n a.now → ReadStep κ₂ sheet r → Yields sheet.now r (ledger cs)
  -- such a tally is written, in whatever order its results are stored, once a lot is opened and where the buffer has room for the
  -- longest sheet that is written
  pub written : (cs : Calls) (ns : List Answer) (t : Tally) → Run cs ns t → 1 ≤ containers (ledger cs) → (κ : Lft) (b : MutBor (List ℕ)) (w : Result ℕ Refusal) (a : MutBor (List ℕ)) → longest_written ≤ length b.now → WriteStep κ t b w a → WrittenAs w
  -- by the definitions: what any sheet is read as, the sheet that is written of it is read as again
  pub again : (sheet : List ℕ) (g : Ledger) (lines : ℕ) → read_of sheet ≡ accepted g lines → ReadsAs (sheet_of g) g
  -- no sheet that is written is longer than 5,429 bytes
  pub short : (cs : Calls) (ns : List Answer) (t : Tally) → Run cs ns t → (κ : Lft) (b : MutBor (List ℕ)) (n : ℕ) (a : MutBor (List ℕ)) → WriteStep κ t b (Ok n) a → n ≤ longest_written
  -- and one has that length: each of these calls is accepted, and the sheet of what they end with is accepted
  pub calls : (n : ℕ) → n ≤ most_held → (judge (filling n)).number ≡ 0
  pub long : length (sheet_of (ledger (filling most_held))) ≡ longest_written
  pub reached : (κ : Lft) (sheet : Bor (List ℕ)) (r : Result Reading Fault) → sheet.now ≡ sheet_of (ledger (filling most_held)) → ReadStep κ sheet r → Yields sheet.now r (ledger (filling most_held))
  -- no sheet that is accepted is longer than 8,229 bytes
  pub most : (κ : Lft) (sheet : Bor (List ℕ)) (r : Reading) → ReadStep κ sheet (Ok r) → length sheet.now ≤ longest_read
  -- and one has that length, with the same lot, card and results
  pub heavy : length weighed_sheet ≡ longest_read
  pub weighed : (κ : Lft) (sheet : Bor (List ℕ)) (r : Result Reading Fault) → sheet.now ≡ weighed_sheet → ReadStep κ sheet r → Yields sheet.now r (ledger (filling most_held))
  -- one byte fewer than the longest accepted sheet and one line more have (reading_theorems: bytes_that_decide) does not decide what is printed
  pub needed : LastByteNeeded
