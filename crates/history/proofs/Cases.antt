-- Worked cases of lists of calls, computed on the ledger: each refusal's number, the line of a refused comma list, which comes first
-- where several apply, and the sums of what is held. Assumes nothing.
use Prim.Native.Nat.{ℕ, zero, suc, ◌+◌, ◌-◌, ◌*◌, ◌/◌}
use mathlib.Core.Path.{◌≡◌, refl}
use mathlib.Core.List.{List, [], ◌∷◌, ◌++◌, map}
use lib.ListN.{replicate}
use lib.Ieee.{binary32, of_fields, of_bits, to_bits}
use Rattle.rules.specs.declared.Lot.{Lot}
use Rattle.rules.specs.declared.Card.{Card}
use Rattle.rules.specs.Numbers.{refuses_text}
use Rattle.rules.specs.Text.{text}
use Rattle.rules.specs.Decimals.{all_decimal, value_behind, decimal_value}
use Rattle.rules.specs.Lines.{cut_from}
use Rattle.rules.specs.Contents.{total, shared}
use Rattle.rules.specs.Figures.{figures}
use Rattle.rules.specs.Rounding.{nearest_of}
use Rattle.rules.specs.Floats.{exact_of}
use Rattle.rules.specs.Weights.{bad_weight, tenths_of, ratio_of, share_of, weighed_of}
use Rattle.rules.specs.Report.{report_on}
use Rattle.rules.specs.Writing.{write_on}
use Rattle.rules.specs.Limits.{most_held, most_rows, criticals}
use Rattle.rules.specs.Cards.{head_of, card_of, with_rows, rows_good, criticals_good, agree, same_rows}
use Rattle.rules.specs.ListReading.{plain_of, first, hundredths_of, percent_of, say_of, enter_lines, list_on}
use Rattle.history.specs.Calls.{Calls, start, opens, enters, weighs, withdraws, joins, lists, judge, ledger, Answer, numbered, answers, counts}

-- the answers of calls that are no comma lists
abbrev given : List ℕ → List Answer
given ns = map numbered ns

-- an attribute and the number of containers
abbrev lot_of : ℕ → ℕ → Lot
lot_of a n = record { attribute = a; containers = n }

-- more containers than a tally holds
abbrev many : ℕ
many = most_held + 10

-- a factor, a critical value (one more than it) for N = 4 and one for N = 5, and a number of rows
abbrev card_with : ℕ → ℕ → ℕ → ℕ → Card
card_with f four five rows =
    card_of (head_of f 10 1000) (replicate 4 0 ++ four ∷ five ∷ replicate (criticals - 6) 0) rows (replicate most_rows 5) (replicate most_rows most_held) (replicate most_rows 9800) (replicate most_rows 200)

abbrev card : Card
card = card_with 10 0 156 1

abbrev opened : Calls
opened = opens start (lot_of 0 many) card

-- an open: bad lot before bad card before card full; a refused one leaves what was there
open_numbers : answers (opens (opens (opens (opens (opens (opens opened (lot_of 3 many) (card_with 9 0 0 (most_rows + 1))) (lot_of 0 0) card) (lot_of 0 many) (card_with 9 0 156 (most_rows + 1))) (lot_of 0 many) (card_with 10 1 156 1)) (lot_of 2 many) card) (lot_of 1 many) (card_with 10 0 0 (most_rows + 1)))
    ≡ given (5 ∷ 4 ∷ 4 ∷ 4 ∷ 3 ∷ 3 ∷ 0 ∷ [])
unfolding answers judge criticals_good rows_good most_held
open_numbers = refl

-- before an open: enter 6 whatever the arguments, withdraw 10
fresh_numbers : answers (withdraws (enters (enters (enters start 0 10001) 1 0) 1 10001) 1) ≡ given (10 ∷ 6 ∷ 6 ∷ 6 ∷ [])
unfolding answers judge most_held
fresh_numbers = refl

-- report 15 and the sheet writer 3, into any buffer: where it is short as well, 16 is not the answer
fresh_report : (b : List ℕ) → report_on (ledger start) b ≡ refuses_text 15 b
unfolding judge total most_held
fresh_report b = refl

fresh_sheet : (b : List ℕ) → write_on (ledger start) b ≡ refuses_text 3 b
unfolding judge most_held
fresh_sheet b = refl

-- an enter: no such container before result too high before already held; a withdraw answers 10 alone
abbrev some : Calls
some = withdraws (withdraws (withdraws (withdraws (withdraws (enters (enters (enters (enters (enters (enters (enters opened 0 10001) (many + 1) 10001) 3 10001) 3 9800) 3 10001) 3 9700) 4 9700) 0) (many + 1)) 5) 3) 3

enter_numbers : answers some ≡ given (10 ∷ 0 ∷ 10 ∷ 10 ∷ 10 ∷ 0 ∷ 8 ∷ 7 ∷ 0 ∷ 7 ∷ 6 ∷ 6 ∷ 0 ∷ [])
unfolding answers judge criticals_good rows_good total most_held
enter_numbers = refl

-- a place that was given up may be used again
again_number : answers (enters some 3 9600) ≡ numbered 0 ∷ answers some
unfolding answers judge criticals_good rows_good total most_held
again_number = refl

-- the containers from a + 1 to a + n, one after the other
unfoldable filled : Calls → ℕ → ℕ → Calls
filled cs a zero = cs
filled cs a (suc n) = enters (filled cs a n) (a + suc n) 9800

-- already held before full; with one result fewer there is a place free
full_number : (judge (enters (filled opened 0 most_held) (most_held + 1) 9800)).number ≡ 9
unfolding judge filled criticals_good rows_good total most_held
full_number = refl

held_number : (judge (enters (filled opened 0 most_held) most_held 9800)).number ≡ 8
unfolding judge filled criticals_good rows_good total most_held
held_number = refl

last_number : (judge (enters (filled opened 0 (most_held - 1)) most_held 9800)).number ≡ 0
unfolding judge filled criticals_good rows_good total most_held
last_number = refl

-- a weigh by the bits of its pans: 98 g of the component and 2 g of the remainder; minus zero, which is a bad weight
abbrev weighs_bits : Calls → ℕ → ℕ → ℕ → Calls
weighs_bits cs k s b = weighs cs k s (record { component = of_bits binary32 b; remainder = of_bits binary32 0x4000_0000 })

abbrev good : ℕ
good = 0x42c4_0000

abbrev bad : ℕ
bad = 0x8000_0000

-- on a fresh tally 6, whatever the weights; out of turn for germination and counts, before 6
weigh_fresh : answers (weighs_bits (weighs_bits start 1 1 bad) 1 0 good) ≡ given (6 ∷ 6 ∷ [])
unfolding answers judge weighed_of share_of tenths_of ratio_of bad_weight exact_of nearest_of of_fields of_bits to_bits most_held
weigh_fresh = refl

weigh_other : answers (weighs_bits (weighs_bits (opens start (lot_of 1 many) card) 0 1 bad) 3 0 good) ≡ given (2 ∷ 2 ∷ 0 ∷ [])
unfolding answers judge criticals_good rows_good weighed_of share_of tenths_of ratio_of bad_weight exact_of nearest_of of_fields of_bits to_bits most_held
weigh_other = refl

-- no such container, then already held, before not steady, before bad weight; an accepted one holds the container
weigh_numbers : answers (weighs_bits (weighs_bits (weighs_bits (weighs_bits (weighs_bits (weighs_bits opened (many + 1) 1 bad) 3 1 bad) 3 0 bad) 3 0 good) 3 1 bad) 4 2 good)
    ≡ given (18 ∷ 8 ∷ 0 ∷ 19 ∷ 18 ∷ 6 ∷ 0 ∷ [])
unfolding answers judge criticals_good rows_good total weighed_of share_of tenths_of ratio_of bad_weight exact_of nearest_of of_fields of_bits to_bits most_held
weigh_numbers = refl

-- full before not steady
weigh_full : (judge (weighs_bits (filled opened 0 most_held) (most_held + 1) 1 bad)).number ≡ 9
unfolding judge filled criticals_good rows_good total weighed_of share_of tenths_of ratio_of bad_weight exact_of nearest_of of_fields of_bits to_bits most_held
weigh_full = refl

-- an accepted one counts as entered, a refused one does not
weigh_counted : counts (weighs_bits (weighs_bits opened 3 0 good) 4 1 good) ≡ record { entered = 1; withdrawn = 0; joined = 0 }
unfolding counts judge criticals_good rows_good total weighed_of share_of tenths_of ratio_of bad_weight exact_of nearest_of of_fields of_bits to_bits most_held
weigh_counted = refl

abbrev half : ℕ
half = most_held / 2

-- a join: other lot before shared container before too many together
abbrev others : List Calls
others =
    joins (filled opened 0 2) start
    ∷ joins (filled opened 0 2) (filled (opens start (lot_of 0 (many + 1)) card) 0 2)
    ∷ joins (filled opened 0 2) (filled (opens start (lot_of 0 many) (card_with 10 0 157 1)) 0 2)
    ∷ joins (filled opened 0 2) (filled opened 1 2)
    ∷ joins (filled opened 0 (half + 1)) (filled opened half (half + 1))
    ∷ joins (filled opened 0 (half + 1)) (filled opened (half + 1) half)
    ∷ joins (filled opened 0 (half + 1)) (filled opened (half + 1) (half - 1))
    ∷ joins opened opened
    ∷ joins start start
    ∷ []

numbers : List Calls → List ℕ
numbers [] = []
numbers (cs ∷ l) = (judge cs).number ∷ numbers l

join_numbers : numbers others ≡ 11 ∷ 11 ∷ 11 ∷ 12 ∷ 12 ∷ 13 ∷ 0 ∷ 0 ∷ 0 ∷ []
unfolding numbers judge filled criticals_good rows_good agree same_rows total shared most_held
join_numbers = refl

-- places past the last row do not count: two cards that differ there are the same
abbrev beyond : Card
beyond =
    with_rows card 1 (5 ∷ replicate (most_rows - 1) 7) (most_held ∷ replicate (most_rows - 1) 8) (9800 ∷ replicate (most_rows - 1) 9) (200 ∷ replicate (most_rows - 1) 1)

beyond_number : (judge (joins (filled opened 0 2) (filled (opens start (lot_of 0 many) beyond) 2 2))).number ≡ 0
unfolding judge filled criticals_good rows_good agree same_rows total shared most_held
beyond_number = refl

-- counted since the last accepted open: a refused open does not begin anew, an accepted one does
counted : counts (joins (withdraws (opens (filled opened 0 3) (lot_of 3 many) card) 2) (filled opened 3 4)) ≡ record { entered = 3; withdrawn = 1; joined = 4 }
unfolding counts judge filled criticals_good rows_good agree same_rows total shared most_held
counted = refl

counted_anew : counts (enters (opens (filled opened 0 3) (lot_of 1 many) card) 2 9800) ≡ record { entered = 1; withdrawn = 0; joined = 0 }
unfolding counts judge filled criticals_good rows_good total most_held
counted_anew = refl

-- ---- comma lists
-- refused with e at a line
abbrev at_line : ℕ → ℕ → Answer
at_line e n = record { number = e; line = n }

-- two results more, one with a point and one without
abbrev two : Calls
two = lists opened (text "3,98.5\n4,97\n")

-- an accepted list has no line; a bad line before no such container, and each refused list ends at its first fault
list_numbers : answers (lists (lists (lists (lists two (text "5,98\n0,9x\n")) (text "5,98\n0,98\n4,\n")) (text "5,100.01\n")) (text "5,98\n6,97\n3,98\n"))
    ≡ at_line 8 3 ∷ at_line 7 1 ∷ at_line 6 2 ∷ at_line 20 2 ∷ given (0 ∷ 0 ∷ [])
unfolding answers judge criticals_good rows_good total list_on enter_lines cut_from say_of plain_of percent_of hundredths_of first all_decimal decimal_value value_behind most_held
list_numbers = refl

-- a refused list leaves the ledger, the results of its good lines too
list_kept : ledger (lists two (text "5,98\n5,97\n")) ≡ ledger two
unfolding judge criticals_good rows_good total list_on enter_lines cut_from say_of plain_of percent_of hundredths_of first all_decimal decimal_value value_behind most_held
list_kept = refl

-- before an open: a bad line is 20, any other 6, and a list without lines is accepted
list_fresh : answers (lists (lists (lists start (text "1,2.5\n")) (text "1;2\n")) []) ≡ numbered 0 ∷ at_line 20 1 ∷ at_line 6 1 ∷ []
unfolding answers judge total list_on enter_lines cut_from say_of plain_of percent_of hundredths_of first all_decimal decimal_value value_behind most_held
list_fresh = refl

-- the lines of an accepted list count as entered, those of a refused one do not
list_counted : counts (lists (enters two 5 9800) (text "6,98\n3,98\n")) ≡ record { entered = 3; withdrawn = 0; joined = 0 }
unfolding counts judge criticals_good rows_good total list_on enter_lines cut_from say_of plain_of percent_of hundredths_of first all_decimal decimal_value value_behind most_held
list_counted = refl

-- ---- S and Q of the held results, which the tally keeps (`Whole.Ends`)
abbrev sums : Calls → List ℕ
sums cs = (figures (ledger cs)).sum ∷ (figures (ledger cs)).squares ∷ []

-- at the start, and after an open whatever was held
fresh_sums : sums start ≡ 0 ∷ 0 ∷ []
unfolding judge total most_held
fresh_sums = refl

opened_sums : sums (opens some (lot_of 1 many) card) ≡ 0 ∷ 0 ∷ []
unfolding judge criticals_good rows_good total most_held
opened_sums = refl

-- 9800 was withdrawn, and 9700 is held; calls that are refused add nothing and take nothing off
some_sums : sums some ≡ 9700 ∷ (9700 * 9700) ∷ []
unfolding judge criticals_good rows_good total most_held
some_sums = refl

-- those of both after a join, and as before it where it is refused
join_sums : sums (joins some (filled opened 4 2)) ≡ (9700 + 2 * 9800) ∷ (9700 * 9700 + 2 * (9800 * 9800)) ∷ []
unfolding judge filled criticals_good rows_good agree same_rows total shared most_held
join_sums = refl

shared_sums : sums (joins some (filled opened 3 2)) ≡ sums some
unfolding judge filled criticals_good rows_good agree same_rows total shared most_held
shared_sums = refl

-- a comma list adds all its results
list_sums : sums (lists two (text "5,98\n6,0.01\n")) ≡ (9850 + 9700 + 9800 + 1) ∷ (9850 * 9850 + 9700 * 9700 + 9800 * 9800 + 1) ∷ []
unfolding judge criticals_good rows_good total list_on enter_lines cut_from say_of plain_of percent_of hundredths_of first all_decimal decimal_value value_behind most_held
list_sums = refl
