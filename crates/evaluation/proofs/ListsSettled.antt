-- What the quicker way shows for the bytes of a sheet is what lotlist prints, and with a list what lotenter prints. Assumes nothing.
use Prim.Native.Nat.{ℕ, ◌+◌}
use mathlib.Core.Bool.{Bool, true, false}
use mathlib.Core.Path.{◌≡◌, refl, sym, ap, ◌∙◌}
use mathlib.Core.List.{List, [], ◌∷◌, ◌++◌}
use lib.Dec.{eqb, ltb}
use lib.ListN.{length}
use borrow.Author.Tests.{eqb-true, eqb-false}
use Rattle.rules.specs.Choice.{pick}
use Rattle.rules.specs.Limits.{list_places}
use Rattle.rules.specs.Lines.{Line, lines_of}
use Rattle.rules.specs.Attributes.{attribute_of}
use Rattle.rules.specs.Ledger.{Ledger, Judged}
use Rattle.rules.specs.Reading.{SheetOutcome, accepted, refused, read_of}
use Rattle.rules.specs.ListReading.{Says, bad, says, line_says, line_on, enter_lines, list_on}
use Rattle.rules.specs.Printing.{listed, listed_for, fault_line, after_list, entered, entered_for, outcome_told, enter_prints}
use Rattle.rules.specs.declared.Lot.{Lot}
use Rattle.rules.specs.declared.Card.{Card}
use Rattle.rules.proofs.ListLaws.{line_step, lines_go, lines_stop, lines_over}
use Rattle.reading_theorems.specs.Spelling.{Entry, Made}
use Rattle.reading_theorems.specs.Spelling as spelling
use Rattle.reading_theorems.proofs.Spelt.{made_held}
use Rattle.evaluation.specs.Quick.{shows, enter_at}
use Rattle.evaluation.specs.QuickLists.{listing, quick_list, line_at, entry_said, entered_after, enter_from, entering, quick_enter}
use Rattle.evaluation.proofs.Ascending.{list_is, sheet_is}
use Rattle.evaluation.proofs.Settled.{PrintedBy, whole_printed, begun_printed}

-- ---- lotlist
list_printed : PrintedBy listed listing
list_printed = record { fault = λ e line. refl; result = λ l c es g n made. list_is made }

pub lists : (sheet out : List ℕ) → quick_list true sheet ≡ shows out → listed_for sheet ≡ out
unfolding listed_for quick_list
lists = whole_printed listed listing list_printed

pub lists_whatever_follows : (bytes out : List ℕ) → quick_list false bytes ≡ shows out → (rest : List ℕ) → listed_for (bytes ++ rest) ≡ out
unfolding listed_for quick_list
lists_whatever_follows = begun_printed listed listing list_printed

-- ---- a line of a list, told how many results are held
line_same : {l : Lot} {c : Card} {es : List Entry} {g : Ledger} (s : Says) → Made l c es g → line_at (length es) g s ≡ line_on g s
line_same bad m = refl
line_same {g} (says k x) m = ap (λ (n : ℕ). enter_at n g k x) (sym (made_held m))

line_made : {l : Lot} {c : Card} {es : List Entry} {g : Ledger} (s : Says) → Made l c es g → (line_on g s).number ≡ 0 → Made l c (es ++ entry_said s) (line_on g s).ledger
line_made bad m e = absurd (eqb-false 20 0 refl e)
line_made (says k x) m e = spelling.enters k x m e

-- the lines of a list on a ledger that these results make
lines_printed : {l : Lot} {c : Card} (was : Ledger) (ls : List Line) (g : Ledger) (es : List Entry) (n : ℕ) → Made l c es g
    → after_list (enter_lines was ls g n) ≡ enter_from (attribute_of was.lot.attribute) ls g es n
unfolding enter_from
lines_printed was [] g es n m = rw (lines_over was g n) (sheet_is m)
lines_printed {l} {c} was (d ∷ ls) g es n m =
    let a = attribute_of was.lot.attribute in
    let s = line_says a d in
    let ds = es ++ entry_said s in
    by (λ h. enter_from a ls h ds (n + 1)) (eqb (line_step was d g).number 0) refl (λ t. lines_printed was ls (line_step was d g).ledger ds (n + 1) t)
    ∙ ap (λ (j : Judged). entered_after j (n + 1) (λ h. enter_from a ls h ds (n + 1))) (sym (line_same s m))
  where
    by : (k : Ledger → List ℕ) (b : Bool) → eqb (line_step was d g).number 0 ≡ b
        → (Made l c (es ++ entry_said (line_says (attribute_of was.lot.attribute) d)) (line_step was d g).ledger
        → after_list (enter_lines was ls (line_step was d g).ledger (n + 1)) ≡ k (line_step was d g).ledger)
        → after_list (enter_lines was (d ∷ ls) g n) ≡ elim b [ true ↦ k (line_step was d g).ledger | false ↦ fault_line (line_step was d g).number 2 (n + 1) ]
    by k true e r =
        let z = eqb-true (line_step was d g).number 0 e in
        ap after_list (lines_go was d ls g n z) ∙ r (line_made (line_says (attribute_of was.lot.attribute) d) m z)
    by k false e r = ap after_list (lines_stop was d ls g n (eqb-false (line_step was d g).number 0 e)) ∙ rw e refl

-- ---- lotenter
module _ (list : List ℕ) where
  abbrev on_sheet : SheetOutcome → List ℕ
  on_sheet o = entered o list

  enter_printed : PrintedBy on_sheet (entering list)
  unfolding list_on
  enter_printed = record { fault = λ e line. refl; result = λ l c es g n made. lines_printed g (lines_of list) g es 0 made }

  -- a list that is shorter than what lotenter reads
  all_told : ltb (length list) list_places ≡ true → (sheet : List ℕ) → enter_prints sheet list ≡ entered_for sheet list
  unfolding enter_prints
  all_told short sheet = by (read_of sheet) _ _
    where
      by : (o : SheetOutcome) (a b : List ℕ) → pick (outcome_told o list) a b ≡ a
      by (accepted g n) a b = rw short refl
      by (refused e n) a b = refl

  pub enters : (sheet out : List ℕ) → ltb (length list) list_places ≡ true → quick_enter list true sheet ≡ shows out → enter_prints sheet list ≡ out
  unfolding entered_for quick_enter
  enters sheet out short h = all_told short sheet ∙ whole_printed on_sheet (entering list) enter_printed sheet out h

  pub enters_whatever_follows : (bytes out : List ℕ) → ltb (length list) list_places ≡ true → quick_enter list false bytes ≡ shows out
      → (rest : List ℕ) → enter_prints (bytes ++ rest) list ≡ out
  unfolding entered_for quick_enter
  enters_whatever_follows bytes out short h rest = all_told short (bytes ++ rest) ∙ begun_printed on_sheet (entering list) enter_printed bytes out h rest
