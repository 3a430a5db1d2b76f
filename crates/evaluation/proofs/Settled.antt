-- What the quicker way shows for the bytes of a sheet is what is printed for it; and so of lotreport. Assumes nothing.
use Prim.Native.Nat.{ℕ, ◌+◌, ◌≤◌}
use native.Mathlib.Omega.{arith}
use mathlib.Core.Bool.{Bool, true, false, true≢false}
use mathlib.Core.Path.{◌≡◌, refl, sym, ap, ap₂, ◌∙◌}
use mathlib.Core.List.{List, [], ◌∷◌, ◌++◌, append-nil}
use lib.Dec.{eqb, leb, ltb}
use lib.ListN.{length, length-append}
use borrow.Author.Tests.{leb-true, leb-false}
use Rattle.rules.specs.Choice.{pick}
use Rattle.rules.specs.Limits.{least_reported, most_digits}
use Rattle.rules.specs.Ledger.{Ledger}
use Rattle.rules.specs.Stages.{is_ended}
use Rattle.rules.specs.Text.{byte}
use Rattle.rules.specs.Report.{report_text}
use Rattle.rules.specs.Lines.{ended, cut_from, lines_of}
use Rattle.rules.specs.Frames.{frame_of}
use Rattle.rules.specs.Reading.{State, Next, goes, stops, SheetOutcome, accepted, refused, step_of, after, read_from, read_of, at_start}
use Rattle.rules.specs.Printing.{refused_line, printed, printed_for}
use Rattle.rules.specs.declared.Lot.{Lot}
use Rattle.rules.specs.declared.Card.{Card}
use Rattle.rules.specs.declared.Figures.{Figures}
use Rattle.rules.specs.declared.Frame.{Frame}
use Rattle.rules.proofs.Taken.{taken}
use Rattle.reading_theorems.specs.Spelling.{Entry, Made, entry_of}
use Rattle.reading_theorems.proofs.Prefix.{long_line}
use Rattle.reading_theorems.proofs.Spelt.{made_held, ResultsSoFar, none_at_start, results_taken, ended_made}
use Rattle.evaluation.specs.Quick.{Evaluated, shows, Printing, evaluated_after, at_end, step_at, quick_from, quickly, report, reporting, quick_report}
use Rattle.evaluation.proofs.EntryLaws.{figures_are}
use Rattle.evaluation.proofs.Steps.{step_same}

-- print is what p says, of a fault and of a ledger with the results that make it
pub record PrintedBy (print : SheetOutcome → List ℕ) (p : Printing) : Type 0 where
  pub fault : (e line : ℕ) → print (refused e line) ≡ p.fault e line
  pub result : (l : Lot) (c : Card) (es : List Entry) (g : Ledger) (n : ℕ) → Made l c es g → print (accepted g n) ≡ p.result g es n

shown_is : (a b : List ℕ) → shows a ≡ shows b → a ≡ b
shown_is a b e = cc

module _ (print : SheetOutcome → List ℕ) (p : Printing) (same : PrintedBy print p) where
  -- ---- the end of the bytes
  end_shows : (sofar : List ℕ) (s : State) (es : List Entry) (n : ℕ) → ResultsSoFar s es → print (read_from (cut_from sofar []) s n) ≡ at_end p sofar s es n
  unfolding cut_from read_from
  end_shows [] s es n h = by (is_ended s.stage) refl
    where
      by : (b : Bool) → is_ended s.stage ≡ b → print (pick b (accepted s.ledger n) (refused 2 (n + 1))) ≡ pick b (p.result s.ledger es n) (p.fault 2 (n + 1))
      by true e = same.result s.lot s.card es s.ledger n (ended_made s es h e)
      by false e = same.fault 2 (n + 1)
  end_shows (x ∷ xs) s es n h = same.fault 1 (n + 1)

  -- ---- a line, and what follows it
  line_shows : (f : Frame) (s : State) (es : List Entry) (line : ℕ) (k : State → Evaluated) (m : State → SheetOutcome) (out : List ℕ) → ResultsSoFar s es
      → ((t : State) → ResultsSoFar t (es ++ entry_of f) → k t ≡ shows out → print (m t) ≡ out)
      → evaluated_after p (step_at f s) line k ≡ shows out → print (after (step_of f s) line m) ≡ out
  line_shows f s es line k m out h next e = by (step_of f s) refl (rw (step_same f s es h) at e)
    where
      by : (x : Next) → step_of f s ≡ x → evaluated_after p x line k ≡ shows out → print (after x line m) ≡ out
      by (goes t) q e = next t (results_taken s t es h (taken f s t q)) e
      by (stops n) q e = same.fault n line ∙ shown_is (p.fault n line) out e

  -- bytes b with rest behind them, of which there is nothing where b is whole
  settled : (b : List ℕ) (whole : Bool) (rest sofar : List ℕ) (s : State) (es : List Entry) (n : ℕ) (out : List ℕ)
      → (whole ≡ true → rest ≡ []) → length sofar ≤ most_digits → ResultsSoFar s es
      → quick_from p whole sofar b s es n ≡ shows out → print (read_from (cut_from sofar (b ++ rest)) s n) ≡ out
  unfolding quick_from cut_from read_from
  settled [] true rest sofar s es n out w l h e = rw (w refl) (end_shows sofar s es n h ∙ shown_is _ out e)
  settled [] false rest sofar s es n out w l h e = let z : ◌≡◌ {A = ℕ} 0 1 = cc in absurd (omega arith)
  settled (x ∷ xs) whole rest sofar s es n out w l h e =
      by (eqb x 10) e
      (λ t i d. settled xs whole rest [] t (es ++ entry_of (frame_of sofar)) (n + 1) out w (omega arith) i d)
      (λ k. settled xs whole rest (sofar ++ byte x) s es n out w k h)
    where
      by : (b : Bool)
          → elim b [
            | true ↦ evaluated_after p (step_at (frame_of sofar) s) (n + 1) (λ t. quick_from p whole [] xs t (es ++ entry_of (frame_of sofar)) (n + 1))
            | false ↦ elim (leb most_digits (length sofar)) [ true ↦ shows (p.fault 1 (n + 1)) | false ↦ quick_from p whole (sofar ++ byte x) xs s es n ]
          ] ≡ shows out
          → ((t : State) → ResultsSoFar t (es ++ entry_of (frame_of sofar)) → quick_from p whole [] xs t (es ++ entry_of (frame_of sofar)) (n + 1) ≡ shows out
          → print (read_from (lines_of (xs ++ rest)) t (n + 1)) ≡ out)
          → (length (sofar ++ byte x) ≤ most_digits → quick_from p whole (sofar ++ byte x) xs s es n ≡ shows out
          → print (read_from (cut_from (sofar ++ byte x) (xs ++ rest)) s n) ≡ out)
          → print (read_from (pick b (ended sofar ∷ lines_of (xs ++ rest)) (cut_from (sofar ++ byte x) (xs ++ rest))) s n) ≡ out
      by true e f g = line_shows (frame_of sofar) s es (n + 1) _ (λ t. read_from (lines_of (xs ++ rest)) t (n + 1)) out h f e
      by false e f g = more (leb most_digits (length sofar)) refl e
        where
          more : (c : Bool) → leb most_digits (length sofar) ≡ c
              → elim c [ true ↦ shows (p.fault 1 (n + 1)) | false ↦ quick_from p whole (sofar ++ byte x) xs s es n ] ≡ shows out
              → print (read_from (cut_from (sofar ++ byte x) (xs ++ rest)) s n) ≡ out
          more true b d =
              let long = leb-true most_digits (length sofar) b in
              ap print (long_line (xs ++ rest) (sofar ++ byte x) s n (simp length-append (omega arith))) ∙ (same.fault 1 (n + 1) ∙ shown_is _ out d)
          more false b d = let short = leb-false most_digits (length sofar) b in g (simp length-append (omega arith)) d

  -- ---- a sheet, and every sheet that begins with these bytes
  pub whole_printed : (sheet out : List ℕ) → quickly p true sheet ≡ shows out → print (read_of sheet) ≡ out
  unfolding read_of quickly
  whole_printed sheet out h = rw append-nil at (settled sheet true [] [] at_start [] 0 out (λ e. refl) (omega arith) none_at_start h)

  pub begun_printed : (bytes out : List ℕ) → quickly p false bytes ≡ shows out → (rest : List ℕ) → print (read_of (bytes ++ rest)) ≡ out
  unfolding read_of quickly
  begun_printed bytes out h rest =
      settled bytes false rest [] at_start [] 0 out (λ e. absurd (true≢false (sym e))) (omega arith) none_at_start h

-- ---- lotreport
report_is : PrintedBy printed reporting
unfolding report
report_is =
    record {
      fault = λ e line. refl;
      result = λ l c es g n made.
          ap₂ (λ (k : ℕ) (f : Figures). pick (ltb k least_reported) (refused_line 15 n) (report_text g.lot g.card f)) (made_held made) (figures_are l c es g made);
    }

pub prints : (sheet out : List ℕ) → quick_report true sheet ≡ shows out → printed_for sheet ≡ out
unfolding printed_for quick_report
prints = whole_printed printed reporting report_is

pub prints_whatever_follows : (bytes out : List ℕ) → quick_report false bytes ≡ shows out → (rest : List ℕ) → printed_for (bytes ++ rest) ≡ out
unfolding printed_for quick_report
prints_whatever_follows = begun_printed printed reporting report_is
