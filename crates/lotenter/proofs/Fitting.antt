-- A sheet with a list entered is no longer than the longest that is written, and its lot was opened. Assumes nothing.
use mathlib.Core.Path.{◌≡◌, refl}
use mathlib.Core.Bool.{true}
use mathlib.Core.List.{List, [], ◌∷◌}
use Prim.Native.Nat.{ℕ, ◌+◌, ◌≤◌}
use native.Mathlib.Omega.{arith}
use native.Mathlib.Decide.{ℕ_discrete}
use lib.Dec.{leb}
use lib.ListN.{length}
use borrow.Author.Tests.{eq-eqb, ne_eqb, leb-true}
use Rattle.rules.specs.Limits.{most_held, most_rows, criticals}
use Rattle.rules.specs.Numbers.{wrote}
use Rattle.rules.specs.Text.{laid}
use Rattle.rules.specs.Contents.{one}
use Rattle.rules.specs.Cards.{criticals_good, open_number}
use Rattle.rules.specs.Ledger.{Ledger, containers, held, enter_number, enter_on}
use Rattle.rules.specs.Lines.{Line}
use Rattle.rules.specs.Reading.{accepted, read_of}
use Rattle.rules.specs.Writing.{sheet_of, write_on}
use Rattle.rules.specs.Attributes.{attribute_of}
use Rattle.rules.specs.ListReading.{Says, bad, says, line_says, line_on, enter_lines, list_on}
use Rattle.rules.specs.declared.Lot.{Lot}
use Rattle.rules.specs.declared.Card.{Card}
use Rattle.rules.proofs.Tests.{and_right}
use Rattle.rules.proofs.TextLaws.{fits_is}
use Rattle.rules.proofs.ContentLaws.{total_none}
use Rattle.rules.proofs.CardLaws.{open_lot, open_criticals, open_rows}
use Rattle.rules.proofs.LedgerLaws.{enter_tells, enter_held}
use Rattle.rules.proofs.ListLaws.{line_step, lines_go, lines_stop, lines_over}
use Rattle.rules.proofs.Capacity.{capacity}
use Rattle.reading_theorems.specs.Lengths.{longest_written}
use Rattle.reading_theorems.specs.Spelling.{Entry, Made, opens, enters}
use Rattle.reading_theorems.proofs.Accepted.{accepted_sheet}
use Rattle.reading_theorems.proofs.Spelt.{sheet_made}
use Rattle.writer.proofs.Counting.{filled_few}
use Rattle.writer.proofs.Lengths.{sheet_length}

-- a ledger of an opened lot, with good critical values, and no more rows and results than there are places for
pub record Placed (g : Ledger) : Type 0 where
  pub opened : 1 ≤ containers g
  pub criticals_are : criticals_good g.card.critical criticals ≡ true
  pub rows : g.card.rows ≤ most_rows
  pub small : held g ≤ most_held

-- an enter that is accepted leaves lot and card as they are
entered_placed : (g : Ledger) (k x : ℕ) → Placed g → enter_number g k x ≡ 0 → Placed (enter_on g k x).ledger
entered_placed g k x p e =
    let few : held (enter_on g k x).ledger ≤ most_held = omega (arith, enter_held g k x e, (enter_tells g k x e).room) in
    let told = eq-eqb (enter_number g k x) 0 e in
    rw told (record { opened = p.opened; criticals_are = p.criticals_are; rows = p.rows; small = rw told at few })

-- what a sheet yields
made_placed : (l : Lot) (c : Card) (es : List Entry) (g : Ledger) → Made l c es g → Placed g
made_placed l c es g (opens q) =
    rw (eq-eqb (open_number l c) 0 q)
    (record {
      opened = leb-true 1 l.containers (and_right (leb l.attribute 2) _ (open_lot l c q));
      criticals_are = open_criticals l c q;
      rows = open_rows l c q;
      small = rw (total_none one l.containers refl) (omega arith);
    })
made_placed l c es g (enters {es = ds} {g = h} k x m q) = entered_placed h k x (made_placed l c ds h m) q

pub sheet_placed : (sheet : List ℕ) (g : Ledger) (n : ℕ) → read_of sheet ≡ accepted g n → Placed g
sheet_placed sheet g n q =
    let a = accepted_sheet sheet g n q in
    made_placed a.last.lot a.last.card _ g (sheet_made sheet g n a)

-- and what a list that is accepted leaves
line_placed : (g : Ledger) (s : Says) → Placed g → (line_on g s).number ≡ 0 → Placed (line_on g s).ledger
line_placed g bad p e = p
line_placed g (says k x) p e = entered_placed g k x p e

lines_placed : (was : Ledger) (ls : List Line) (g : Ledger) (n : ℕ) → Placed g → (enter_lines was ls g n).number ≡ 0 → Placed (enter_lines was ls g n).ledger
lines_placed was [] g n p z = rw (lines_over was g n) p
lines_placed was (l ∷ ls) g n p z = go (ℕ_discrete (line_step was l g).number 0) (lines_placed was ls (line_step was l g).ledger (n + 1))
  where
    go : Dec ((line_step was l g).number ≡ 0)
        → (Placed (line_step was l g).ledger → (enter_lines was ls (line_step was l g).ledger (n + 1)).number ≡ 0 → Placed (enter_lines was ls (line_step was l g).ledger (n + 1)).ledger)
        → Placed (enter_lines was (l ∷ ls) g n).ledger
    go (yes e) r =
        let q = lines_go was l ls g n e in
        rw q (r (line_placed g (line_says (attribute_of was.lot.attribute) l) p e) (rw q at z))
    go (no e) r = absurd (e (rw (lines_stop was l ls g n e) at z))

pub list_placed : (g : Ledger) (list : List ℕ) → Placed g → (list_on g list).number ≡ 0 → Placed (list_on g list).ledger
unfolding list_on
list_placed g list p z = lines_placed g _ g 0 p z

-- ---- it is written
pub sheet_most : (g : Ledger) → Placed g → (1 ≤ length (sheet_of g)) × (length (sheet_of g) ≤ longest_written)
sheet_most g p =
    let few = filled_few g.card.critical criticals p.criticals_are in
    (omega (arith, sheet_length g), omega (arith, sheet_length g, few, p.rows, p.small, capacity))

pub written_is : (g : Ledger) (d : List ℕ) → Placed g → longest_written ≤ length d → write_on g d ≡ wrote (length (sheet_of g)) (laid (sheet_of g) d)
written_is g d p h =
    rw (ne_eqb (containers g) 0 (λ e. omega (arith, p.opened))) (fits_is (sheet_of g) d (omega (arith, (sheet_most g p).1)))
