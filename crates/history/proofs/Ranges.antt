-- What the text of a report says of the mean and of R. Assumes nothing.
use Prim.Native.Nat.{ℕ, ◌≤◌}
use mathlib.Core.Path.{◌≡◌, refl, ap, ◌∙◌}
use mathlib.Core.Bool.{Bool, true, false}
use mathlib.Core.List.{List, ◌++◌, append-nil}
use lib.ListN.{take}
use borrow.Author.Tests.{lt-ltb, le-ltb}
use Rattle.rules.specs.Limits.{least_reported}
use Rattle.rules.specs.Text.{text, pointed}
use Rattle.rules.specs.Attributes.{is_void}
use Rattle.rules.specs.Figures.{figures, mean_of, printed_mean}
use Rattle.rules.specs.Report.{mark_text, verdict_word, limit_text, findings_of, report_of}
use Rattle.rules.specs.Ledger.{Ledger, held}
use Rattle.rules.specs.Printing.{printed, printed_for}
use Rattle.rules.proofs.RowLaws.{first_row, no_row}
use Rattle.tally.specs.View.{view}
use Rattle.history.specs.Verdict.{attribute}
use Rattle.history.specs.Ranges.{range_line, RangeLines, EveryRange}
use Rattle.history.proofs.Agreement.{agrees}
use Rattle.history.proofs.Texts.{laid_text}
use Rattle.history.proofs.Reporting.{enough, text_is}
use Rattle.history.proofs.Printed.{valued, h, r, count_line_lem, mean_line_lem, mean_shown, lot_line_lem, text_by, void_lines, worked_lines}

-- R has no mark
no_mark : (g : Ledger) → valued (text "R ") (r g) ≡ range_line g (r g).limit (verdict_word (r g).verdict)
unfolding valued mark_text
no_mark g =
    ap (λ (l : List ℕ). l ++ text " " ++ limit_text (r g).places (r g).limit ++ text " " ++ verdict_word (r g).verdict) (append-nil (text "R " ++ pointed (r g).places (r g).value))

module _ (g : Ledger) (many : least_reported ≤ held g) where
  ranges_by : (b : Bool) → is_void (attribute g) (held g) (figures g).sum ≡ b → RangeLines g (text_by g b)
  unfolding mean_of verdict_word mean_shown
  ranges_by true e =
      record {
        count = count_line_lem g;
        mean = mean_line_lem g;
        h = text "H void";
        r = text "R void";
        lot = text "LOT void";
        five = void_lines g;
        shown = mean_shown g many;
        over = λ n k f l. absurd (n e);
        kept = λ n k f l. absurd (n e);
        without = λ n f. absurd (n e);
      }
  ranges_by false e =
      let m = printed_mean (attribute g) (figures g) in
      record {
        count = count_line_lem g;
        mean = mean_line_lem g;
        h = valued (text "H ") (h g);
        r = valued (text "R ") (r g);
        lot = lot_line_lem g;
        five = worked_lines g;
        shown = mean_shown g many;
        over = λ n k f l. no_mark g ∙ rw (first_row g.card (held g) m k f, lt-ltb _ _ l) refl;
        kept = λ n k f l. no_mark g ∙ rw (first_row g.card (held g) m k f, le-ltb _ _ l) refl;
        without = λ n f. no_mark g ∙ rw (no_row g.card (held g) m f) refl;
      }

  pub ranges : RangeLines g (report_of g)
  unfolding findings_of
  ranges = ranges_by (is_void (attribute g) (held g) (figures g).sum) refl

pub every_range : EveryRange
unfolding printed_for
every_range =
    record {
      reports = λ cs ns t p κ b n a x.
          let i = agrees p in
          let e = x.right i.sound in
          rw (text_is (view t) b.now n a.now e, ← i.same) (ranges (view t) (enough (view t) b.now n a.now e));
      sheets = λ κ₁ κ₂ sheet before n after x g lines q many.
          let t : take n after.now ≡ report_of g = (laid_text (printed_for sheet.now) before.now n after.now x).0 ∙ (ap printed q ∙ rw (le-ltb (held g) least_reported many) refl) in
          rw t (ranges g many);
    }
