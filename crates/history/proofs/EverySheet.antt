-- What is printed for every sheet. Assumes nothing.
use Prim.Native.Nat.{ℕ, ◌≤◌}
use native.Mathlib.Omega.{arith}
use native.Mathlib.Decide.{dec_le}
use mathlib.Core.Path.{◌≡◌, refl, ap, ◌∙◌}
use mathlib.Core.List.{List}
use lib.ListN.{take}
use borrow.Author.Tests.{lt-ltb, le-ltb}
use Rattle.rules.specs.Limits.{least_reported}
use Rattle.rules.specs.Ledger.{held}
use Rattle.rules.specs.Report.{report_of}
use Rattle.rules.specs.Reading.{SheetOutcome, accepted, refused, read_of}
use Rattle.rules.specs.Printing.{printed, printed_for}
use Rattle.reading_theorems.proofs.Spelt.{spelled}
use Rattle.history.specs.EverySheet.{Prints, faulty, few, judged, EverySheet}
use Rattle.history.proofs.Texts.{laid_text}
use Rattle.history.proofs.Reached.{made_reached}
use Rattle.history.proofs.Printed.{lines}

module _ (sheet text : List ℕ) (p : text ≡ printed_for sheet) where
  is : (o : SheetOutcome) → read_of sheet ≡ o → text ≡ printed o
  unfolding printed_for
  is o q = p ∙ ap printed q

  prints : (o : SheetOutcome) → read_of sheet ≡ o → Prints sheet text
  prints (refused e line) q = faulty e line q (is (refused e line) q)
  prints (accepted g n) q = by (dec_le least_reported (held g))
    where
      by : Dec (least_reported ≤ held g) → Prints sheet text
      by (yes h) =
          let t : text ≡ report_of g = is (accepted g n) q ∙ rw (le-ltb (held g) least_reported h) refl in
          let s = spelled sheet g n q in
          judged g n q s h t (rw t (lines g h (made_reached s)))
      by (no h) = few g n q (omega arith) (is (accepted g n) q ∙ rw (lt-ltb (held g) least_reported (omega arith)) refl)

pub every_sheet : EverySheet
every_sheet =
    record {
      printed = λ κ₁ κ₂ sheet before n after x.
          let t = laid_text (printed_for sheet.now) before.now n after.now x in prints sheet.now (take n after.now) t.0 (read_of sheet.now) refl;
      behind = λ κ₁ κ₂ sheet before n after x. (laid_text (printed_for sheet.now) before.now n after.now x).1;
    }
