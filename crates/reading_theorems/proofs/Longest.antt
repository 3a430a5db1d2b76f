-- No text that is printed for a sheet is longer than 256 bytes, so a buffer of that length is never short. Assumes nothing.
use mathlib.Core.Bool.{Bool, true, false}
use mathlib.Core.List.{List}
use Prim.Native.Nat.{ℕ, ◌+◌, ◌≤◌}
use native.Mathlib.Omega.{arith}
use lib.Dec.{leb, ltb}
use lib.ListN.{length, length-append}
use Rattle.std.specs.Prelude.{Option, Some, None, ⊤}
use Rattle.rules.specs.Choice.{pick}
use Rattle.rules.specs.Limits.{least_reported}
use Rattle.rules.specs.Text.{text}
use Rattle.rules.specs.Attributes.{attribute_of, is_void, places_of_x, places_of_mean, mean_places}
use Rattle.rules.specs.Figures.{figures}
use Rattle.rules.specs.Ledger.{held}
use Rattle.rules.specs.Report.{judgement_of, found_with, findings_of, count_line, mark_text, mean_line, verdict_word, limit_text, value_line, lot_word, lot_verdict_line, judgement_text, findings_text, report_of}
use Rattle.rules.specs.Reading.{SheetOutcome, accepted, refused, read_of}
use Rattle.rules.specs.Printing.{refused_line, printed, printed_for}
use Rattle.rules.specs.declared.Attribute.{Attribute}
use Rattle.rules.specs.declared.Attribute.TheVariants.{Purity, Germination, Count}
use Rattle.rules.specs.declared.Card.{Card}
use Rattle.rules.specs.declared.Figures.{Figures}
use Rattle.rules.specs.declared.Findings.{Findings}
use Rattle.rules.specs.declared.Judgement.{Judgement}
use Rattle.rules.specs.declared.Side.{Side}
use Rattle.rules.specs.declared.Side.TheVariants.{Unrounded, Equal, Larger, Smaller}
use Rattle.rules.specs.declared.Value.{Value}
use Rattle.rules.specs.declared.Verdict.{Verdict}
use Rattle.rules.specs.declared.Verdict.TheVariants.{Kept, Over, Undecided}
use Rattle.rules.proofs.TextLaws.{length_decimal, length_pointed_le}

pick_most : (b : Bool) (x y : List ℕ) (n : ℕ) → length x ≤ n → length y ≤ n → length (pick b x y) ≤ n
pick_most true x y n h k = h
pick_most false x y n h k = k

pub refused_most : (e line : ℕ) → length (refused_line e line) ≤ 50
unfolding refused_line
refused_most e line = simp length-append (omega (arith, length_decimal e, length_decimal line))

-- ---- the five lines
count_most : (n : ℕ) → length (count_line n) ≤ 23
unfolding count_line
count_most n = simp length-append (omega (arith, length_decimal n))

mark_most : (s : Side) → length (mark_text s) ≤ 1
unfolding mark_text
mark_most Unrounded = omega arith
mark_most Equal = omega arith
mark_most Larger = omega arith
mark_most Smaller = omega arith

mean_most : (k n : ℕ) (s : Side) → k ≤ 3 → length (mean_line k n s) ≤ 31
unfolding mean_line
mean_most k n s h = simp length-append (omega (arith, length_pointed_le k n, mark_most s))

limit_most : (k : ℕ) (l : Option ℕ) → k ≤ 2 → length (limit_text k l) ≤ 23
unfolding limit_text
limit_most k None h = omega arith
limit_most k (Some v) h = omega (arith, length_pointed_le k v)

verdict_most : (w : Verdict) → length (verdict_word w) ≤ 4
unfolding verdict_word
verdict_most Kept = omega arith
verdict_most Over = omega arith
verdict_most Undecided = omega arith

value_most : (name : List ℕ) (v : Value) → length name ≤ 2 → v.places ≤ 2 → length (value_line name v) ≤ 56
unfolding value_line
value_most name v h k =
    simp length-append (omega (arith, length_pointed_le v.places v.value, mark_most v.side, limit_most v.places v.limit k, verdict_most v.verdict))

lot_word_most : (v : Verdict) → length (lot_word v) ≤ 13
unfolding lot_word
lot_word_most Kept = omega arith
lot_word_most Over = omega arith
lot_word_most Undecided = omega arith

lot_most : (v : Verdict) → length (lot_verdict_line v) ≤ 18
unfolding lot_verdict_line
lot_most v = simp length-append (omega (arith, lot_word_most v))

-- the places of what is found
abbrev FewIn : Option Judgement → Type 0
FewIn None = ⊤
FewIn (Some j) = (j.h.places ≤ 2) × (j.r.places ≤ 2)

record FewPlaces (s : Findings) : Type 0 where
  mean : s.places ≤ 3
  judgement : FewIn s.judgement

judgement_most : (j : Option Judgement) → FewIn j → length (judgement_text j) ≤ 130
unfolding judgement_text
judgement_most None few = omega arith
judgement_most (Some j) few =
    simp length-append
    (omega (arith, value_most (text "H ") j.h (omega arith) few.0, value_most (text "R ") j.r (omega arith) few.1, lot_most j.lot))

places_most : (a : Attribute) → places_of_x a ≤ 2
places_most Purity = omega arith
places_most Germination = omega arith
places_most Count = omega arith

mean_places_most : (a : Attribute) (n : ℕ) → mean_places a n ≤ 3
mean_places_most a n = by a (leb 10 n)
  where
    by : (a : Attribute) (b : Bool) → pick b (places_of_mean a + 1) (places_of_mean a) ≤ 3
    by Purity true = omega arith
    by Purity false = omega arith
    by Germination true = omega arith
    by Germination false = omega arith
    by Count true = omega arith
    by Count false = omega arith

found_few : (a : Attribute) (c : Card) (f : Figures) → FewPlaces (findings_of a c f)
unfolding findings_of
found_few a c f = by (is_void a f.count f.sum)
  where
    by : (b : Bool) → FewPlaces (found_with a f (pick b None (Some (judgement_of a c f))))
    by true = record { mean = mean_places_most a f.count; judgement = tt }
    by false = record { mean = mean_places_most a f.count; judgement = (omega arith, places_most a) }

lines_most : (s : Findings) → FewPlaces s → length (findings_text s) ≤ 256
unfolding findings_text
lines_most s few =
    simp length-append
    (omega (
      arith,
      count_most s.count,
      mean_most s.places s.mean s.side few.mean,
      judgement_most s.judgement few.judgement,
    ))

-- ---- whatever is printed
outcome_most : (o : SheetOutcome) → length (printed o) ≤ 256
outcome_most (accepted g lines) =
    pick_most (ltb (held g) least_reported) (refused_line 15 lines) (report_of g) 256
    (omega (arith, refused_most 15 lines))
    (lines_most _ (found_few (attribute_of g.lot.attribute) g.card (figures g)))
outcome_most (refused e line) = omega (arith, refused_most e line)

pub printed_most : (s : List ℕ) → length (printed_for s) ≤ 256
unfolding printed_for
printed_most s = outcome_most (read_of s)
