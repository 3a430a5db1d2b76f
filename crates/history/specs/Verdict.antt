-- What a report says of N, of the mean and of H, read off the lines of its text; what H is, exact; and what a user concludes.
use Rattle.std.specs.Prelude.{ℕ, ◌+◌, ◌-◌, ◌*◌, ◌≤◌, ◌<◌, ◌≡◌, true, List, [], ◌∷◌, ◌++◌, None, Some}
use Rattle.rules.specs.Rounding.{distance, Nearest}
use Rattle.rules.specs.Text.{text, decimal, pointed}
use Rattle.rules.specs.Attributes.{attribute_of, is_void, mean_places, mean_scale}
use Rattle.rules.specs.Figures.{figures, ratio, critical_for}
use Rattle.rules.specs.Report.{limit_text}
use Rattle.rules.specs.Lines.{ended, lines_of}
use Rattle.rules.specs.Ledger.{Ledger, held}
use Rattle.rules.specs.declared.Attribute.{Attribute}
use Rattle.rules.specs.declared.Fraction.{Fraction}

abbrev pub attribute : Ledger → Attribute
attribute g = attribute_of g.lot.attribute

-- A mark directly behind a printed number: = exactly where the exact number equals the printed one, + where it is larger, - where it
-- is smaller. Both numbers are given times the one under the exact fraction, so that they are whole.
pub record Marked (exact printed : ℕ) (mark : List ℕ) : Type 0 where
  pub equal : exact ≡ printed → mark ≡ text "="
  pub larger : printed < exact → mark ≡ text "+"
  pub smaller : exact < printed → mark ≡ text "-"
  pub only_equal : mark ≡ text "=" → exact ≡ printed
  pub only_larger : mark ≡ text "+" → printed < exact
  pub only_smaller : mark ≡ text "-" → exact < printed

-- ---- the mean
-- A line of the mean: in units of its last place the nearest to S / N, the larger of two equally near, and a mark.
pub record MeanShown (g : Ledger) (line : List ℕ) : Type 0 where
  pub value : ℕ
  pub mark : List ℕ
  pub reads : line ≡ text "MEAN " ++ pointed (mean_places (attribute g) (held g)) value ++ mark
  pub nearest : Nearest (mean_scale (attribute g) (held g) * (figures g).sum) (held g) value
  pub marked : Marked (mean_scale (attribute g) (held g) * (figures g).sum) (value * held g) mark

-- ---- H
-- V/W of what a ledger holds, exact
abbrev pub quotient : Ledger → Fraction
quotient g = ratio (attribute g) g.card.head (figures g)

-- Exact H is V/W - G/10. With V/W = over / under it has (100·over - 10·G·under) / under hundredths.
abbrev pub upper : Ledger → ℕ
upper g = 100 * (quotient g).over

abbrev pub lower : Ledger → ℕ
lower g = 10 * g.card.head.offset * (quotient g).under

-- exact H exceeds a critical value of v hundredths
abbrev pub Exceeds : Ledger → ℕ → Type 0
Exceeds g v = (v + 10 * g.card.head.offset) * (quotient g).under < upper g

-- Where exact H is not below zero: of all two-place decimals, h hundredths is nearest to it, the larger of two equally near;
-- k hundredths below zero are never nearer.
pub record NearestH (g : Ledger) (h : ℕ) : Type 0 where
  pub nearest : Nearest (upper g - lower g) (quotient g).under h
  pub never : (k : ℕ) → distance (upper g - lower g) (h * (quotient g).under) ≤ upper g - lower g + k * (quotient g).under

-- A word behind a reported H of h hundredths and a critical value of v: over stands exactly where exact H exceeds it, otherwise
-- kept; so a reported H above it always has over, and one below it never.
pub record Against (g : Ledger) (h v : ℕ) (word : List ℕ) : Type 0 where
  pub over : Exceeds g v → word ≡ text "over"
  pub only : word ≡ text "over" → Exceeds g v
  pub kept : (Exceeds g v → ⊥) → word ≡ text "kept"
  pub above : v < h → word ≡ text "over"
  pub below : h < v → word ≡ text "kept"

-- What a user concludes from the bytes of a line of H where its two figures are the same: over behind +, kept behind = and behind -.
pub record Concludes (line : List ℕ) : Type 0 where
  pub larger : (figure word : List ℕ) → line ≡ text "H " ++ figure ++ text "+ " ++ figure ++ text " " ++ word → word ≡ text "over"
  pub equal : (figure word : List ℕ) → line ≡ text "H " ++ figure ++ text "= " ++ figure ++ text " " ++ word → word ≡ text "kept"
  pub smaller : (figure word : List ℕ) → line ≡ text "H " ++ figure ++ text "- " ++ figure ++ text " " ++ word → word ≡ text "kept"

-- A line of H that is worked out: the value and its mark, the critical value for N or none, and a word.
pub record WorkedOut (g : Ledger) (line : List ℕ) : Type 0 where
  pub value : ℕ
  pub mark : List ℕ
  pub word : List ℕ
  pub reads : line ≡ text "H " ++ pointed 2 value ++ mark ++ text " " ++ limit_text 2 (critical_for g.card (held g)) ++ text " " ++ word
  pub exact : 0 < (quotient g).under
  pub rounded : lower g ≤ upper g → NearestH g value
  -- of H against its value, with G/10 added to both: V/W against value and G/10 together, also where H is below zero
  pub marked : Marked (upper g) (value * (quotient g).under + lower g) mark
  pub zero : upper g < lower g → (value ≡ 0) × (mark ≡ text "-")
  pub against : (v : ℕ) → critical_for g.card (held g) ≡ Some v → Against g value v word
  pub without : critical_for g.card (held g) ≡ None → word ≡ text "open"
  pub concludes : Concludes line

-- the mean of what a ledger holds is beyond the limits of its attribute
abbrev pub MeanIsBeyond : Ledger → Type 0
MeanIsBeyond g = is_void (attribute g) (held g) (figures g).sum ≡ true

-- The text of a report: five lines, the first with the number held as N, the second with the mean, the third with H. H void stands
-- exactly where the mean is beyond its limits, with R void and LOT void; otherwise H is worked out.
pub record ReportLines (g : Ledger) (report : List ℕ) : Type 0 where
  pub count : List ℕ
  pub mean : List ℕ
  pub h : List ℕ
  pub r : List ℕ
  pub lot : List ℕ
  pub five : lines_of report ≡ ended count ∷ ended mean ∷ ended h ∷ ended r ∷ ended lot ∷ []
  pub number : count ≡ text "N " ++ decimal (held g)
  pub shown : MeanShown g mean
  pub void : h ≡ text "H void" → MeanIsBeyond g
  pub beyond : MeanIsBeyond g → (h ≡ text "H void") × (r ≡ text "R void") × (lot ≡ text "LOT void")
  pub worked : (h ≡ text "H void" → ⊥) → WorkedOut g h
