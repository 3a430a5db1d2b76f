-- The buyer's line: the verdict shall be shown to be the rule's on every sheet, those of next harvest included. From the bytes of
-- a sheet to the verdict printed.
use Rattle.std.specs.Prelude.{ℕ, ◌≤◌, ◌<◌, ◌≡◌, List, take, drop, Ok}
use base.Fml.{Lft}
use Rattle.std.specs.Borrow.{Bor, MutBor}
use Rattle.rules.specs.Limits.{least_reported}
use Rattle.rules.specs.Ledger.{Ledger, held}
use Rattle.rules.specs.Report.{report_of}
use Rattle.rules.specs.Reading.{accepted, refused, read_of}
use Rattle.rules.specs.Printing.{refused_line}
use Rattle.reading_theorems.specs.Spelling.{Spelled}
use Rattle.history.specs.Steps.{JudgeStep}
use Rattle.history.specs.Verdict.{ReportLines}

-- what is printed for a sheet
pub data Prints (sheet text : List ℕ) : Type 0 where
  -- it has a fault: the number and the line of the first one
  faulty : (e line : ℕ) → read_of sheet ≡ refused e line → text ≡ refused_line e line → Prints sheet text
  -- it has too few results
  few : (g : Ledger) (lines : ℕ) → read_of sheet ≡ accepted g lines → held g < least_reported → text ≡ refused_line 15 lines → Prints sheet text
  -- it is judged: the ledger is that of an open of its lot with its card and of an enter for each of its results, all of them
  -- accepted; the text is the report of that ledger, its mean and its H, where that is worked out, are the nearest decimals with their
  -- marks, and over and kept are by the exact fraction
  judged : (g : Ledger) (lines : ℕ) → read_of sheet ≡ accepted g lines → Spelled sheet g → least_reported ≤ held g → text ≡ report_of g → ReportLines g text → Prints sheet text

pub record EverySheet : Type 0 where
  -- all bytes at all, and any buffer that the text fits
  pub printed : (κ₁ κ₂ : Lft) (sheet : Bor (List ℕ)) (before : MutBor (List ℕ)) (n : ℕ) (after : MutBor (List ℕ)) → JudgeStep κ₁ κ₂ sheet before (Ok n) after → Prints sheet.now (take n after.now)
  -- the bytes behind the text stay
  pub behind : (κ₁ κ₂ : Lft) (sheet : Bor (List ℕ)) (before : MutBor (List ℕ)) (n : ℕ) (after : MutBor (List ℕ)) → JudgeStep κ₁ κ₂ sheet before (Ok n) after → drop n after.now ≡ drop n before.now
