-- The sheet of a writable ledger yields that ledger. Assumes nothing.
use mathlib.Core.Path.{◌≡◌, refl, sym, ap, ◌∙◌}
use mathlib.Core.Bool.{true}
use mathlib.Core.List.{List, [], ◌++◌, append-nil}
use Prim.Native.Nat.{ℕ, ◌-◌, ◌≤◌}
use native.Mathlib.Omega.{arith}
use lib.Dec.{leb}
use lib.ListN.{length, take}
use borrow.Author.Tests.{leb-true}
use Rattle.rules.specs.Limits.{criticals, most_rows, least_factor, most_factor, most_offset}
use Rattle.rules.specs.Contents.{Contents, total}
use Rattle.rules.specs.Cards.{head_good, open_number, card_of, with_head, cut_to_rows, fresh_card}
use Rattle.rules.specs.Ledger.{Ledger, containers, judged, opened, with_contents, fresh_ledger}
use Rattle.rules.specs.Lines.{lines_of}
use Rattle.rules.specs.Reading.{State, accepted, on_lot, on_card, lot_step, card_step, read_from, at_start, read_of}
use Rattle.rules.specs.Writing.{lot_line, card_line, sheet_with, sheet_of}
use Rattle.rules.specs.declared.Lot.{Lot}
use Rattle.rules.specs.declared.Head.{Head}
use Rattle.rules.specs.declared.Card.{Card}
use Rattle.rules.specs.declared.Stage.TheVariants as stage
use Rattle.rules.specs.declared.Frame.TheVariants as frame
use Rattle.rules.proofs.Tests.{and_left, and_right}
use Rattle.rules.proofs.CardLaws.{open_lot, open_card}
use Rattle.rules.proofs.Bounds.{good_head}
use Rattle.rules.proofs.LineLaws.{no_lines}
use Rattle.round_trip_theorems.specs.Statement.{ReadsAs}
use Rattle.round_trip_theorems.proofs.Spelled.{lot_spells, card_spells}
use Rattle.round_trip_theorems.proofs.Reached.{Reaches, reach_then, reach_line}
use Rattle.round_trip_theorems.proofs.Writable.{Writable, open_cut, yields}
use Rattle.round_trip_theorems.proofs.CardLines.{filled_to, filled_to_all, filled_to_front, card_at, CardRead, CriticalsRead, criticals_reach, rows_reach}
use Rattle.round_trip_theorems.proofs.ResultLines.{accepted_as, upto_all, upto_none, ledger_at, ResultsReadBack, Ended, results_reach, end_reach}

offset_few : (a : ℕ) (h : Head) → head_good a h ≡ true → h.offset ≤ most_offset
offset_few a h e =
    leb-true h.offset most_offset (and_left _ _ (and_right (leb h.factor most_factor) _ (and_right (leb least_factor h.factor) _ e)))

module _ (g : Ledger) (w : Writable g) where
  abbrev l : Lot
  l = g.lot

  abbrev c : Card
  c = g.card

  abbrev f : Contents
  f = g.contents

  -- ---- the card as the reader has it, and the ledger that it opens
  abbrev pub read : Card
  read = card_at c criticals c.rows

  card_is : cut_to_rows read ≡ c
  card_is =
      let d = w.carded in
      let front : (x : List ℕ) → length x ≡ c.rows → take c.rows (filled_to most_rows x c.rows) ≡ x = λ x. filled_to_front most_rows x c.rows in
      let critical = filled_to_all criticals c.critical d.critical in
      let lowest = front c.lowest d.lowest in
      let highest = front c.highest d.highest in
      let bound = front c.bound d.bound in
      let tolerated = front c.tolerated d.tolerated in
      λ i. card_of c.head (critical i) c.rows (lowest i) (highest i) (bound i) (tolerated i)

  opens : open_number l read ≡ 0
  opens = sym (open_cut l read) ∙ ap (open_number l) card_is ∙ w.carded.opens

  begins : (u : State) → CardRead l read u → ResultsReadBack l read f 0 u
  unfolding total
  begins u r =
      let none = ap (λ (q : Contents). accepted_as (with_contents (opened l read) q)) (sym (upto_none f w.placed.none)) in
      record {
        begins = rw (r.unopened, r.lot, r.card) (ap (λ (n : ℕ). judged n fresh_ledger (opened l read)) opens ∙ none);
        count = r.results;
        turns = (r.turns.1, r.turns.2);
      }

  -- ---- line by line
  abbrev behind_lot : State
  behind_lot = on_lot at_start l

  lot_reach : Reaches (lot_line l.attribute (containers g)) at_start (λ s. s ≡ behind_lot)
  unfolding lot_step
  lot_reach =
      let good = open_lot l c w.carded.opens in
      let few = leb-true l.attribute 2 (and_left (leb l.attribute 2) _ good) in
      reach_line _ _ (frame.Lot l.attribute (containers g)) _ behind_lot (lot_spells _ _ (omega arith) (omega (arith, w.carded.few))) (simp good) refl

  card_reach : (u : State) → u ≡ behind_lot → Reaches (card_line c.head) u (CriticalsRead l c 0)
  unfolding card_step
  card_reach u e =
      let h = c.head in
      let good = and_left (head_good l.attribute h) _ (open_card l c w.carded.opens) in
      let few = good_head l.attribute h good in
      let n = offset_few l.attribute h good in
      let whole : criticals - 0 ≡ criticals = omega arith in
      rw e
      (reach_line (CriticalsRead l c 0) _ (frame.Card h.factor h.offset h.seeds) _ (on_card behind_lot stage.Card 0 (with_head fresh_card h))
      (card_spells _ _ _ (omega (arith, few.factor_high)) (omega arith) (omega (arith, few.seeds)))
      (simp good)
      (record { read = record { lot = refl; card = rw whole refl; results = refl; unopened = refl; turns = (refl, refl, refl) }; last = omega arith; turn = refl }))

  ledger_is : ledger_at l read f (containers g) ≡ g
  ledger_is = λ i. record { lot = l; card = card_is i; contents = upto_all f (containers g) w.placed.outside i }

  -- ---- a sheet whose lines x say the results
  module _ (x : List ℕ) (results : (u : State) → ResultsReadBack l read f 0 u → Reaches x u (ResultsReadBack l read f (containers g))) where
    pub all_reach : Reaches (sheet_with g x) at_start (Ended l read f)
    all_reach =
        reach_then (ResultsReadBack l read f (containers g)) _ _ _ at_start
        (reach_then (CardRead l read) _ _ _ at_start
        (reach_then (CriticalsRead l c criticals) _ _ _ at_start
        (reach_then (CriticalsRead l c 0) _ _ _ at_start
        (reach_then (λ s. s ≡ behind_lot) _ _ _ at_start lot_reach card_reach)
        (λ u r. criticals_reach l c w.carded u r criticals (omega arith)))
        (λ u r. rows_reach l c w.carded u r.read c.rows (omega arith)))
        (λ u r. results u (begins u r)))
        (end_reach l read f w.carded.few w.placed)

    -- the sheet and whatever stands behind it
    pub read_on : (rest : List ℕ) → read_of (sheet_with g x ++ rest) ≡ read_from (lines_of rest) all_reach.last (all_reach.lines 0)
    unfolding read_of
    read_on rest = all_reach.same rest 0

    yields_it : read_of (sheet_with g x) ≡ accepted g (all_reach.lines 0)
    unfolding read_from
    yields_it =
        let e = all_reach.holds in
        ap read_of (sym (append-nil (sheet_with g x)))
        ∙ (read_on []
        ∙ (rw (no_lines, e.0) (ap (λ (h : Ledger). accepted h (all_reach.lines 0)) (e.1 ∙ ledger_is))))

    pub back_with : ReadsAs (sheet_with g x) g
    back_with = yields_it ∙ ap (accepted g) (yields (sheet_with g x) g (all_reach.lines 0) yields_it).1

  -- the sheet that is written
  pub back : ReadsAs (sheet_of g) g
  unfolding sheet_of
  back = back_with _ (λ u r. results_reach l read f w.carded.few w.placed u r (containers g) (omega arith))
