-- What the text of a report says of N, of the mean and of H. Assumes nothing.
use Rattle.std.specs.Prelude.{None, Some}
use Prim.Native.Nat.{ℕ, ◌+◌, ◌*◌, ◌^◌, ◌≤◌, ◌<◌}
use native.Mathlib.Decide.{dec_le}
use native.Mathlib.Omega.{arith}
use mathlib.Core.Path.{◌≡◌, refl, sym, ap, ◌∙◌}
use mathlib.Core.Bool.{Bool, true, false, true≢false}
use mathlib.Core.List.{List, [], ◌∷◌, ◌++◌, append_assoc}
use lib.Dec.{eqb, ltb}
use lib.ListN.{get_or}
use borrow.Author.Tests.{lt-ltb, le-ltb, ltb-true, eqb-false}
use Rattle.rules.specs.Choice.{pick}
use Rattle.rules.specs.Limits.{least_reported}
use Rattle.rules.specs.Rounding.{side_of}
use Rattle.rules.specs.Text.{text, byte, decimal, pointed}
use Rattle.rules.specs.Attributes.{is_void, mean_places, mean_scale}
use Rattle.rules.specs.Figures.{figures, mean_of, exceeds, critical_for, verdict_by, together}
use Rattle.rules.specs.Report.{count_line, mark_text, mean_line, verdict_word, limit_text, value_line, lot_word, lot_verdict_line, value_h, value_r, judgement_of, judgement_text, found_with, findings_of, findings_text, report_of}
use Rattle.rules.specs.Lines.{ended, lines_of}
use Rattle.rules.specs.Ledger.{Ledger, held}
use Rattle.rules.specs.declared.Rounded.{Rounded}
use Rattle.rules.specs.declared.Value.{Value}
use Rattle.rules.specs.declared.Verdict.{Verdict}
use Rattle.rules.proofs.RoundingLaws.{nearest_is, side_equal, side_larger, side_smaller, reported_nearest, reported_zero, reported_side, above_over, below_kept}
use Rattle.rules.proofs.SpreadLaws.{under_positive}
use Rattle.history.specs.Verdict.{attribute, Marked, MeanShown, quotient, upper, lower, NearestH, Against, WorkedOut, ReportLines}
use Rattle.history.proofs.OccursLaws.{occurs, Lacks, written, joined, end_apart, decimal_lacks, pointed_lacks, limit_lacks, verdict_lacks, mark_endless, lot_endless, five_lines}
use Rattle.history.proofs.FigureLaws.{pointed_first}
use Rattle.history.proofs.Conclusions.{concluded}
use Rattle.history.proofs.Reached.{Reached, value_high, critical_high}

-- ---- a line of H or of R that is worked out, without its end byte
unfoldable pub valued : List ℕ → Value → List ℕ
valued name v =
    name ++ pointed v.places v.value ++ mark_text v.side ++ text " " ++ limit_text v.places v.limit ++ text " " ++ verdict_word v.verdict

valued_endless : (name : List ℕ) (v : Value) → Lacks 10 name → Lacks 10 (valued name v)
unfolding valued
valued_endless name v e =
    let blank : Lacks 10 (text " ") = written (text " ") (unfold occurs in refl) in
    let value = joined (joined (joined e (pointed_lacks end_apart v.places v.value)) (mark_endless v.side)) blank in
    joined (joined (joined value (limit_lacks end_apart v.places v.limit)) blank) (verdict_lacks end_apart v.verdict)

-- ---- no value reads void
never_void : (v : Value) → valued (text "H ") v ≡ text "H void" → ⊥
unfolding valued
never_void v e =
    let behind = mark_text v.side ++ (text " " ++ (limit_text v.places v.limit ++ (text " " ++ verdict_word v.verdict))) in
    let whole : text "H " ++ (pointed v.places v.value ++ behind) ≡ text "H void" = simp append_assoc at e in
    omega (arith, ap (λ (l : List ℕ). get_or l 2 0) whole, pointed_first v.places v.value behind)

-- ---- the mark of a number
-- the mark of the side of k on which a / b is
pub marked_by : (a b k : ℕ) → Marked a (k * b) (mark_text (side_of a b k))
unfolding mark_text
marked_by a b k = by (dec_le a (k * b)) (dec_le (k * b) a)
  where
    differ : {x y : ℕ} → eqb x y ≡ false → {A : Type 0} → byte x ≡ byte y → A
    differ {x} {y} q e = absurd (eqb-false x y q (ap (λ (l : List ℕ). get_or l 0 0) e))

    by : Dec (a ≤ k * b) → Dec (k * b ≤ a) → Marked a (k * b) (mark_text (side_of a b k))
    by (yes p) (yes q) =
        rw (side_equal a b k (omega arith))
        (record {
          equal = λ e. refl;
          larger = λ e. absurd (omega arith);
          smaller = λ e. absurd (omega arith);
          only_equal = λ e. omega arith;
          only_larger = λ e. differ refl e;
          only_smaller = λ e. differ refl e;
        })
    by (yes p) (no q) =
        rw (side_smaller a b k (omega arith))
        (record {
          equal = λ e. absurd (omega arith);
          larger = λ e. absurd (omega arith);
          smaller = λ e. refl;
          only_equal = λ e. differ refl e;
          only_larger = λ e. differ refl e;
          only_smaller = λ e. omega arith;
        })
    by (no p) q =
        rw (side_larger a b k (omega arith))
        (record {
          equal = λ e. absurd (omega arith);
          larger = λ e. refl;
          smaller = λ e. absurd (omega arith);
          only_equal = λ e. differ refl e;
          only_larger = λ e. omega arith;
          only_smaller = λ e. differ refl e;
        })

-- ---- H against a critical value
word_by : (b : Bool) → verdict_word (verdict_by b) ≡ text "over" → b ≡ true
unfolding verdict_word
word_by true e = refl
word_by false e = let z : ◌≡◌ {A = ℕ} 107 111 = ap (λ (l : List ℕ). get_or l 0 0) e in absurd (eqb-false 107 111 refl z)

-- what is found of a ledger
abbrev pub h : Ledger → Value
h g = value_h (attribute g) g.card (figures g)

abbrev pub r : Ledger → Value
r g = value_r (attribute g) g.card (figures g)

abbrev pub lot : Ledger → Verdict
lot g = together (h g).verdict (r g).verdict

module _ (g : Ledger) (pos : 0 < (quotient g).under) where
  against_is : (v : ℕ) → Against g (h g).value v (verdict_word (verdict_by (exceeds (quotient g) g.card.head.offset v)))
  unfolding verdict_word exceeds
  against_is v =
      let offset = g.card.head.offset in
      let limit = (v + 10 * offset) * (quotient g).under in
      record {
        over = λ e. rw (lt-ltb limit (upper g) e);
        only = λ e. ltb-true limit (upper g) (word_by (ltb limit (upper g)) e);
        kept = λ n. rw (le-ltb limit (upper g) (omega arith));
        above = λ e. rw (above_over (quotient g) offset pos v e);
        below = λ e. rw (below_kept (quotient g) offset pos v e);
      }

  rounded : lower g ≤ upper g → NearestH g (h g).value
  rounded e =
      let n = reported_nearest (quotient g) g.card.head.offset pos e in
      record { nearest = n; never = λ k. omega (arith, n.near 0) }

  h_marked : Marked (upper g) ((h g).value * (quotient g).under + lower g) (mark_text (h g).side)
  h_marked =
      let offset = g.card.head.offset in
      let sum : ((h g).value + 10 * offset) * (quotient g).under ≡ (h g).value * (quotient g).under + lower g = omega arith in
      rw (reported_side (quotient g) offset pos, ← sum) (marked_by (upper g) (quotient g).under ((h g).value + 10 * offset))

  against_limit : (v : ℕ) → critical_for g.card (held g) ≡ Some v → Against g (h g).value v (verdict_word (h g).verdict)
  against_limit v e = rw e (against_is v)

  worked_out : (h g).value < 10 ^ 22 → ((v : ℕ) → critical_for g.card (held g) ≡ Some v → v < 10 ^ 22) → WorkedOut g (valued (text "H ") (h g))
  unfolding valued
  worked_out high critical_high =
      record {
        value = (h g).value;
        mark = mark_text (h g).side;
        word = verdict_word (h g).verdict;
        reads = refl;
        exact = pos;
        rounded = rounded;
        marked = h_marked;
        zero = λ e. (reported_zero (quotient g) g.card.head.offset pos e, h_marked.smaller (omega arith));
        against = against_limit;
        without = λ e. rw e (unfold verdict_word in refl);
        concludes = concluded g (h g).value (mark_text (h g).side) (verdict_word (h g).verdict) h_marked against_limit high critical_high (λ b a. verdict_lacks a (h g).verdict);
      }

-- ---- the five lines
pub count_line_lem : Ledger → List ℕ
count_line_lem g = text "N " ++ decimal (held g)

count_endless : (g : Ledger) → Lacks 10 (count_line_lem g)
unfolding count_line_lem occurs
count_endless g = joined (written (text "N ") refl) (decimal_lacks end_apart.digit (held g))

-- the mean of what a ledger holds, rounded
abbrev mean : Ledger → Rounded
mean g = mean_of (attribute g) (figures g)

unfoldable pub mean_line_lem : Ledger → List ℕ
mean_line_lem g = text "MEAN " ++ pointed (mean_places (attribute g) (held g)) (mean g).nearest ++ mark_text (mean g).side

mean_endless : (g : Ledger) → Lacks 10 (mean_line_lem g)
unfolding mean_line_lem occurs
mean_endless g = joined (joined (written (text "MEAN ") refl) (pointed_lacks end_apart _ _)) (mark_endless _)

unfoldable pub mean_shown : (g : Ledger) → least_reported ≤ held g → MeanShown g (mean_line_lem g)
unfolding mean_line_lem mean_of
mean_shown g many =
    record {
      value = (mean g).nearest;
      mark = mark_text (mean g).side;
      reads = refl;
      nearest = nearest_is _ _ (omega arith);
      marked = marked_by (mean_scale (attribute g) (held g) * (figures g).sum) (held g) (mean g).nearest;
    }

-- the text of a report, by a test whether the mean is void
abbrev pub text_by : Ledger → Bool → List ℕ
text_by g b =
    findings_text (found_with (attribute g) (figures g) (pick b None (Some (judgement_of (attribute g) g.card (figures g)))))

-- a line more at a time
one_by_one : (a b c d : List ℕ) → a ++ (b ++ c ++ d) ≡ a ++ b ++ c ++ d
one_by_one a b c d = simp append_assoc

abbrev front : Ledger → List ℕ
front g = count_line_lem g ++ text "\n" ++ (mean_line_lem g ++ text "\n")

pub void_lines : (g : Ledger)
    → lines_of (text_by g true) ≡ ended (count_line_lem g) ∷ ended (mean_line_lem g) ∷ ended (text "H void") ∷ ended (text "R void") ∷ ended (text "LOT void") ∷ []
unfolding findings_text judgement_text count_line mean_line count_line_lem mean_line_lem occurs
void_lines g =
    ap lines_of (one_by_one (front g) (text "H void\n") (text "R void\n") (text "LOT void\n"))
    ∙ five_lines (count_endless g) (mean_endless g) (written (text "H void") refl) (written (text "R void") refl) (written (text "LOT void") refl)

pub lot_line_lem : Ledger → List ℕ
lot_line_lem g = text "LOT " ++ lot_word (lot g)

pub worked_lines : (g : Ledger)
    → lines_of (text_by g false) ≡ ended (count_line_lem g) ∷ ended (mean_line_lem g) ∷ ended (valued (text "H ") (h g)) ∷ ended (valued (text "R ") (r g)) ∷ ended (lot_line_lem g) ∷ []
unfolding findings_text judgement_text count_line mean_line value_line lot_verdict_line count_line_lem mean_line_lem valued lot_line_lem occurs
worked_lines g =
    ap lines_of (one_by_one (front g) (value_line (text "H ") (h g)) (value_line (text "R ") (r g)) (lot_verdict_line (lot g)))
    ∙ five_lines (count_endless g) (mean_endless g)
    (valued_endless (text "H ") (h g) (written (text "H ") refl))
    (valued_endless (text "R ") (r g) (written (text "R ") refl))
    (joined (written (text "LOT ") refl) (lot_endless (lot g)))

-- of at least five results, judged by a good card
module _ (g : Ledger) (many : least_reported ≤ held g) (reached : Reached g) where
  lines_by : (b : Bool) → is_void (attribute g) (held g) (figures g).sum ≡ b → ReportLines g (text_by g b)
  unfolding count_line_lem
  lines_by true e =
      record {
        count = count_line_lem g;
        mean = mean_line_lem g;
        h = text "H void";
        r = text "R void";
        lot = text "LOT void";
        five = void_lines g;
        number = refl;
        shown = mean_shown g many;
        void = λ q. e;
        beyond = λ q. (refl, refl, refl);
        worked = λ n. absurd (n refl);
      }
  lines_by false e =
      record {
        count = count_line_lem g;
        mean = mean_line_lem g;
        h = valued (text "H ") (h g);
        r = valued (text "R ") (r g);
        lot = lot_line_lem g;
        five = worked_lines g;
        number = refl;
        shown = mean_shown g many;
        void = λ q. absurd (never_void (h g) q);
        beyond = λ q. absurd (true≢false (sym q ∙ e));
        worked = λ n.
            let pos = under_positive (attribute g) g.card.head (figures g) e (omega arith) (omega (arith, reached.head.factor)) in
            worked_out g pos (value_high g reached many e) (critical_high g reached many);
      }

  pub lines : ReportLines g (report_of g)
  unfolding findings_of
  lines = lines_by (is_void (attribute g) (held g) (figures g).sum) refl
