-- What lotlist and lotenter print, worked out from the list of results.
use Rattle.std.specs.Prelude.{ℕ, ◌+◌, Bool, true, false, List, [], ◌∷◌, ◌++◌, eqb, length}
use Rattle.rules.specs.Limits.{criticals}
use Rattle.rules.specs.Text.{decimals, decimal, last_digits, pointed}
use Rattle.rules.specs.Fields.{digit_of, digits}
use Rattle.rules.specs.Lines.{Line, cut_from, lines_of}
use Rattle.rules.specs.Attributes.{attribute_of}
use Rattle.rules.specs.Ledger.{Ledger, Judged, containers}
use Rattle.rules.specs.Decimals.{all_decimal, value_behind, decimal_value}
use Rattle.rules.specs.ListReading.{Says, bad, says, plain_of, first, hundredths_of, percent_of, say_of, line_says}
use Rattle.rules.specs.ListWriting.{list_line, places_in}
use Rattle.rules.specs.Writing.{lot_line, card_line, critical_line, range_line, result_line, end_line, critical_lines, range_lines}
use Rattle.rules.specs.Printing.{refused_line, fault_line}
use Rattle.rules.specs.declared.Attribute.{Attribute}
use Rattle.reading_theorems.specs.Spelling.{Entry}
use Rattle.evaluation.specs.Entries.{insert, sorted_onto, lines_up, ascending}
use Rattle.evaluation.specs.Quick.{Evaluated, Printing, enter_at, quickly}

-- ---- the list and the sheet of a ledger with these results
abbrev pub list_text : Ledger → List Entry → List ℕ
list_text g es = ascending (list_line (places_in g)) es

abbrev pub sheet_text : Ledger → List Entry → List ℕ
sheet_text g es =
    lot_line g.lot.attribute (containers g)
    ++ card_line g.card.head
    ++ critical_lines g.card.critical criticals
    ++ range_lines g.card g.card.rows
    ++ ascending result_line es
    ++ end_line (length es)

-- ---- lotlist
abbrev pub listing : Printing
listing = record { fault = refused_line; result = λ g es n. list_text g es }

-- with every definition on the way from the results to the printed bytes
unfoldable pub quick_list : Bool → List ℕ → Evaluated
unfolding quickly insert sorted_onto lines_up list_line refused_line pointed decimal decimals last_digits
quick_list whole bytes = quickly listing whole bytes

-- ---- lotenter
-- a line on a ledger that is known to hold k results, and the result that it says
abbrev pub line_at : ℕ → Ledger → Says → Judged
line_at k g bad = record { number = 20; ledger = g }
line_at k g (says c x) = enter_at k g c x

abbrev pub entry_said : Says → List Entry
entry_said bad = []
entry_said (says c x) = record { container = c; x = x } ∷ []

-- a fault of a line, or what follows it
abbrev pub entered_after : Judged → ℕ → (Ledger → List ℕ) → List ℕ
entered_after j line k = elim (eqb j.number 0) [ true ↦ k j.ledger | false ↦ fault_line j.number 2 line ]

-- the lines of a list one after another, on a ledger with these results, n lines having been entered
unfoldable pub enter_from : Attribute → List Line → Ledger → List Entry → ℕ → List ℕ
enter_from a [] g es n = sheet_text g es
enter_from a (l ∷ ls) g es n =
    entered_after (line_at (length es) g (line_says a l)) (n + 1) (λ h. enter_from a ls h (es ++ entry_said (line_says a l)) (n + 1))

abbrev pub entering : List ℕ → Printing
entering list =
    record {
      fault = λ e line. fault_line e 1 line;
      result = λ g es n. enter_from (attribute_of g.lot.attribute) (lines_of list) g es 0;
    }

unfoldable pub quick_enter : List ℕ → Bool → List ℕ → Evaluated
unfolding quickly enter_from cut_from plain_of first hundredths_of percent_of say_of all_decimal value_behind decimal_value insert sorted_onto lines_up lot_line card_line critical_line range_line result_line end_line critical_lines range_lines digits digit_of fault_line decimal decimals
quick_enter list whole bytes = quickly (entering list) whole bytes
