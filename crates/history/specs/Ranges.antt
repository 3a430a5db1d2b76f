-- The row for R on what is printed: the tolerated range on the line of R is that of the first row in sheet order with N within its two
-- bounds and a mean bound of at least the mean that the MEAN line shows. On the text of every report, and on that of every sheet.
use Rattle.std.specs.Prelude.{ℕ, ◌≤◌, ◌<◌, ◌≡◌, List, [], ◌∷◌, ◌++◌, get_or, take, Option, None, Some, Ok}
use base.Fml.{Lft}
use Rattle.std.specs.Borrow.{Bor, MutBor}
use Rattle.rules.specs.Limits.{least_reported}
use Rattle.rules.specs.Text.{text, pointed}
use Rattle.rules.specs.Attributes.{places_of_x, mean_scale}
use Rattle.rules.specs.Figures.{figures, range_of}
use Rattle.rules.specs.Rows.{Serves, FirstRow}
use Rattle.rules.specs.Report.{limit_text}
use Rattle.rules.specs.Lines.{ended, lines_of}
use Rattle.rules.specs.Ledger.{Ledger, held}
use Rattle.rules.specs.Reading.{accepted, read_of}
use Rattle.rules.specs.declared.Fraction.{Fraction}
use Rattle.tally.specs.declared.Tally.{Tally}
use Rattle.history.specs.Calls.{Calls, ledger, Answer}
use Rattle.history.specs.Run.{Run}
use Rattle.history.specs.Steps.{ReportStep, JudgeStep}
use Rattle.history.specs.Verdict.{attribute, MeanShown, MeanIsBeyond}

-- a mean that a ledger's MEAN line shows, given in units of its last place: in units of X
abbrev pub as_shown : Ledger → ℕ → Fraction
as_shown g mean = record { over = mean; under = mean_scale (attribute g) (held g) }

-- largest less smallest result of a ledger, and the tolerated range of row k of its card
abbrev pub range : Ledger → ℕ
range g = range_of (figures g)

abbrev pub tolerated : Ledger → ℕ → ℕ
tolerated g k = get_or g.card.tolerated k 0

-- a line of R: the range, what it is set against, and a word
abbrev pub range_line : Ledger → Option ℕ → List ℕ → List ℕ
range_line g limit word =
    text "R " ++ pointed (places_of_x (attribute g)) (range g) ++ text " " ++ limit_text (places_of_x (attribute g)) limit ++ text " " ++ word

-- The text of a report: its second line has the mean, the fourth R. Where the exact mean is within its limits, R is set against the
-- first row that serves N and the mean shown, and is over exactly where it exceeds the row's tolerated range; without a row it is open.
pub record RangeLines (g : Ledger) (report : List ℕ) : Type 0 where
  pub count : List ℕ
  pub mean : List ℕ
  pub h : List ℕ
  pub r : List ℕ
  pub lot : List ℕ
  pub five : lines_of report ≡ ended count ∷ ended mean ∷ ended h ∷ ended r ∷ ended lot ∷ []
  pub shown : MeanShown g mean
  pub over : (MeanIsBeyond g → ⊥) → (k : ℕ) → FirstRow g.card (held g) (as_shown g shown.value) k → tolerated g k < range g → r ≡ range_line g (Some (tolerated g k)) (text "over")
  pub kept : (MeanIsBeyond g → ⊥) → (k : ℕ) → FirstRow g.card (held g) (as_shown g shown.value) k → range g ≤ tolerated g k → r ≡ range_line g (Some (tolerated g k)) (text "kept")
  pub without : (MeanIsBeyond g → ⊥) → ((k : ℕ) → k < g.card.rows → Serves g.card (held g) (as_shown g shown.value) k → ⊥) → r ≡ range_line g None (text "open")

pub record EveryRange : Type 0 where
  -- the report of every tally that a list of calls ends with
  pub reports : (cs : Calls) (ns : List Answer) (t : Tally) → Run cs ns t → (κ : Lft) (b : MutBor (List ℕ)) (n : ℕ) (a : MutBor (List ℕ)) → ReportStep κ t b (Ok n) a → RangeLines (ledger cs) (take n a.now)
  -- what is printed for every sheet that is accepted and has enough results
  pub sheets : (κ₁ κ₂ : Lft) (sheet : Bor (List ℕ)) (before : MutBor (List ℕ)) (n : ℕ) (after : MutBor (List ℕ)) → JudgeStep κ₁ κ₂ sheet before (Ok n) after
      → (g : Ledger) (lines : ℕ) → read_of sheet.now ≡ accepted g lines → least_reported ≤ held g → RangeLines g (take n after.now)
