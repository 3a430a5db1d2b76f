-- The calls that end with the longest sheet that is written, and the longest that is accepted; none that is written is longer.
-- Assumes nothing.
use mathlib.Core.Path.{◌≡◌, refl, ap, ◌∙◌, subst}
use mathlib.Core.Bool.{true}
use mathlib.Core.List.{List, [], ◌∷◌, ◌++◌}
use Prim.Native.Nat.{◌+◌, ℕ, zero, suc, ◌-◌, ◌≤◌, ◌<◌}
use native.Mathlib.Numerals.{add-one}
use native.Mathlib.Omega.{arith}
use native.Mathlib.Decide.{dec_le}
use lib.Dec.{eqb}
use lib.ListN.{length, get_or}
use borrow.Author.Tests.{le-leb, lt-ltb}
use Rattle.rules.specs.Limits.{most_held, least_reported, most_rows, criticals}
use Rattle.rules.specs.Contents.{Contents, free, holds, one, total}
use Rattle.rules.specs.Cards.{head_good, critical_good, criticals_good, rows_good, open_number}
use Rattle.rules.specs.Stages.{is_ended}
use Rattle.rules.specs.Lines.{lines_of}
use Rattle.rules.specs.Reading.{State, read_from, read_of}
use Rattle.rules.specs.Ledger.{Ledger, Judged, judged, opened, with_contents, fresh_ledger}
use Rattle.rules.specs.Writing.{sheet_with, sheet_of}
use Rattle.rules.proofs.Tests.{and_left, and_right}
use Rattle.rules.proofs.CardLaws.{open_criticals, open_rows}
use Rattle.rules.proofs.Capacity.{capacity}
use Rattle.reading_theorems.specs.Lengths.{longest_written, longest_read}
use Rattle.reading_theorems.specs.Spelling.{Entry, Made}
use Rattle.reading_theorems.specs.Spelling as spelling
use Rattle.reading_theorems.proofs.Ready.{zero_at}
use Rattle.writer.specs.Promise.{counted, is_filled, filled}
use Rattle.writer.proofs.Counting.{filled_few}
use Rattle.writer.proofs.Lengths.{length_with, sheet_length}
use Rattle.history.specs.Calls.{judge, ledger}
use Rattle.round_trip_theorems.specs.Statement.{ReadsAs, full_lot, full_card, filling, zero_lines, weighed_sheet}
use Rattle.round_trip_theorems.proofs.Writable.{Writable, made_writable}
use Rattle.round_trip_theorems.proofs.Reached.{Reaches}
use Rattle.round_trip_theorems.proofs.ResultLines.{upto, upto_above, upto_none, upto_size, upto_more, accepted_as, enter_good, ResultsReadBack}
use Rattle.round_trip_theorems.proofs.WeighedLines.{zeros_length, zeros_reach}
use Rattle.round_trip_theorems.proofs.Back.{read, all_reach, read_on, back_with}

-- ---- the ledger that is filled: every container up to n holds 0
pub zeros : Contents
zeros zero = free
zeros (suc k) = holds 0

abbrev pub full : ℕ → Ledger
full n = with_contents (opened full_lot full_card) (upto zeros n)

zeros_size : (n : ℕ) → total one n zeros ≡ n
unfolding zeros total
zeros_size zero = refl
zeros_size (suc n) = omega (arith, zeros_size n)

full_opens : open_number full_lot full_card ≡ 0
unfolding criticals_good rows_good
full_opens = rw capacity refl

filling_is : (n : ℕ) → n ≤ most_held → judge (filling n) ≡ accepted_as (full n)
unfolding filling judge zeros
filling_is zero h = rw (upto_none zeros refl) (ap (λ (n : ℕ). judged n fresh_ledger (opened full_lot full_card)) full_opens)
filling_is (suc n) h =
    rw (filling_is n (omega arith))
    (enter_good (full n) (suc n) 0 (omega arith) h (omega arith) (upto_above zeros n (suc n) (omega arith))
    (omega (arith, upto_size zeros n most_held refl (omega arith), zeros_size n))
    ∙ ap (λ (q : Contents). accepted_as (with_contents (opened full_lot full_card) q)) (upto_more zeros n (holds 0) refl))

pub calls : (n : ℕ) → n ≤ most_held → (judge (filling n)).number ≡ 0
calls n h = ap (λ (j : Judged). j.number) (filling_is n h)

full_filled : filled full_card.critical criticals ≡ criticals - least_reported
unfolding filled
full_filled = rw capacity refl

pub long : length (sheet_of (ledger (filling most_held))) ≡ longest_written
unfolding zeros
long =
    ap (λ (j : Judged). length (sheet_of j.ledger)) (filling_is most_held (omega arith))
    ∙ omega (arith, sheet_length (full most_held), full_filled, upto_size zeros most_held most_held refl (omega arith), zeros_size most_held, capacity)

-- ---- what they end with can be written
entries : ℕ → List Entry
entries zero = []
entries (suc n) = entries n ++ (record { container = suc n; x = 0 } ∷ [])

full_made : (n : ℕ) → n ≤ most_held → Made full_lot full_card (entries n) (ledger (filling n))
unfolding filling judge entries
full_made zero h = spelling.opens full_opens
full_made (suc n) h = spelling.enters (suc n) 0 (full_made n (omega arith)) (calls (suc n) h)

pub full_writable : Writable (ledger (filling most_held))
full_writable =
    made_writable full_lot full_card (entries most_held) _ (omega (arith, capacity))
    (record { full = record { critical = rw capacity refl; lowest = refl; highest = refl; bound = refl; tolerated = refl }; narrow = zero_at most_rows })
    (full_made most_held (omega arith))

-- ---- no sheet that is written is longer
pub written_few : (g : Ledger) → Writable g → length (sheet_of g) ≤ longest_written
written_few g w =
    let d = w.carded in
    let few = filled_few g.card.critical criticals (open_criticals g.lot g.card d.opens) in
    omega (arith, sheet_length g, few, open_rows g.lot g.card d.opens, w.placed.small, capacity)

-- ---- the longest that is accepted
full_is : ledger (filling most_held) ≡ full most_held
full_is = ap (λ (j : Judged). j.ledger) (filling_is most_held (omega arith))

zeros_at : (k : ℕ) → k < most_held → upto zeros most_held (suc k) ≡ holds 0
unfolding zeros
zeros_at k h = rw (le-leb (suc k) most_held h) refl

pub heavy : length weighed_sheet ≡ longest_read
heavy =
    ap (λ (g : Ledger). length (sheet_with g (zero_lines most_held))) full_is
    ∙ omega (arith, length_with (full most_held) (zero_lines most_held), full_filled, zeros_length most_held, capacity)

pub full_placed : Writable (full most_held)
full_placed = subst Writable full_is full_writable

pub weighed_reach : (u : State) → ResultsReadBack full_lot (read (full most_held) full_placed) (upto zeros most_held) 0 u
    → Reaches (zero_lines most_held) u (ResultsReadBack full_lot (read (full most_held) full_placed) (upto zeros most_held) most_held)
weighed_reach u r = zeros_reach full_lot _ (upto zeros most_held) (omega (arith, capacity)) full_placed.placed refl zeros_at u r most_held (omega arith)

pub weighed_on : (rest : List ℕ) → read_of (weighed_sheet ++ rest) ≡ read_from (lines_of rest) (all_reach (full most_held) full_placed _ weighed_reach).last ((all_reach (full most_held) full_placed _ weighed_reach).lines 0)
weighed_on rest = rw full_is (read_on (full most_held) full_placed _ weighed_reach rest)

pub weighed_ended : is_ended (all_reach (full most_held) full_placed _ weighed_reach).last.stage ≡ true
weighed_ended = (all_reach (full most_held) full_placed _ weighed_reach).holds.0

pub weighed_back : ReadsAs weighed_sheet (ledger (filling most_held))
weighed_back = rw full_is (back_with (full most_held) full_placed _ weighed_reach)
