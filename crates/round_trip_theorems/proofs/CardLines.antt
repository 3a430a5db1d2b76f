-- The lines of a card: its critical values and its rows. Assumes nothing.
use mathlib.Core.Path.{◌≡◌, refl, sym, ap, ◌∙◌}
use mathlib.Core.Bool.{true, false}
use mathlib.Core.List.{List, ◌∷◌, ◌++◌, append_assoc, append-nil}
use Prim.Native.Nat.{ℕ, zero, suc, ◌+◌, ◌-◌, ◌≤◌, ◌<◌, min}
use native.Mathlib.Omega.{arith}
use native.Mathlib.Numerals.{add-one}
use native.Mathlib.Decide.{ℕ_discrete, dec_lt}
use lib.Dec.{leb}
use lib.ListN.{length, get_or, take, set, replicate}
use lib.Seq.{take-suc, take_all, take_at, set_at, length-take-le}
use borrow.Author.Tests.{eq-eqb, ne_eqb, le-leb, leb-true, lt-ltb}
use Rattle.rules.specs.Limits.{most_held, least_reported, criticals, most_rows, highest_x}
use Rattle.rules.specs.Cards.{head_good, row_good, rows_good, criticals_good, card_of, with_critical, with_row}
use Rattle.rules.specs.Stages.{may_stand, is_opened}
use Rattle.rules.specs.Reading.{State, on_card, critical_step, range_step}
use Rattle.rules.specs.Writing.{critical_line, maybe_line, critical_lines, range_line, range_lines}
use Rattle.rules.specs.declared.Lot.{Lot}
use Rattle.rules.specs.declared.Card.{Card}
use Rattle.rules.specs.declared.Stage.TheVariants as stage
use Rattle.rules.specs.declared.Frame.TheVariants as frame
use Rattle.rules.proofs.Tests.{and_left, and_right}
use Rattle.rules.proofs.CardLaws.{at_each, critical_at_lem, open_card, open_criticals, open_rows}
use Rattle.rules.proofs.Capacity.{capacity}
use Rattle.round_trip_theorems.proofs.Spelled.{critical_spells, range_spells}
use Rattle.round_trip_theorems.proofs.Writable.{Carded}
use Rattle.round_trip_theorems.proofs.Reached.{Reaches, reach_none, reach_then, reach_line}

-- ---- a list of m places with the first n of l, and 0 behind them
abbrev pub filled_to : ℕ → List ℕ → ℕ → List ℕ
filled_to m l n = take n l ++ replicate (m - n) 0

module _ (m : ℕ) (l : List ℕ) (n : ℕ) (h : n < m) (k : n < length l) where
  -- with v at place n
  abbrev with_next : ℕ → List ℕ
  with_next v = take n l ++ (v ∷ replicate (m - suc n) 0)

  next_free : filled_to m l n ≡ with_next 0
  next_free = let e : m - n ≡ suc (m - suc n) = omega arith in rw e refl

  next_is : with_next (get_or l n 0) ≡ filled_to m l (suc n)
  next_is = rw (take-suc l n 0 k) (simp append_assoc)

  next_skipped : get_or l n 0 ≡ 0 → filled_to m l n ≡ filled_to m l (suc n)
  next_skipped e = next_free ∙ ap with_next (sym e) ∙ next_is

  next_set : set (filled_to m l n) n (get_or l n 0) ≡ filled_to m l (suc n)
  next_set =
      ap (λ (x : List ℕ). set x n (get_or l n 0)) next_free
      ∙ set_at (take n l) 0 (replicate (m - suc n) 0) (get_or l n 0) n (length-take-le n l (omega arith))
      ∙ next_is

pub filled_to_all : (m : ℕ) (l : List ℕ) → length l ≡ m → filled_to m l m ≡ l
filled_to_all m l e = let z : m - m ≡ 0 = omega arith in rw (z, append-nil) (take_all m l (omega arith))

pub filled_to_front : (m : ℕ) (l : List ℕ) (n : ℕ) → length l ≡ n → take n (filled_to m l n) ≡ l
filled_to_front m l n e = take_at (take n l) (replicate (m - n) 0) n (length-take-le n l (omega arith)) ∙ take_all n l (omega arith)

-- ---- a row of a good card fits its frame
row_small : (l h b : ℕ) → row_good l h b ≡ true → (l < 256) × (h < 256) × (b < 65536)
row_small l h b e =
    let e₂ = and_right (leb least_reported l) _ e in
    let e₃ = and_right (leb l h) _ e₂ in
    let p = leb-true l h (and_left (leb l h) _ e₂) in
    let q = leb-true h most_held (and_left (leb h most_held) _ e₃) in
    let r = leb-true b highest_x (and_right (leb h most_held) _ e₃) in
    (omega (arith, capacity), omega (arith, capacity), omega arith)

-- ---- what the reader has: the lot t, the card c up to N = n and its first r rows, and no result
abbrev pub with_lists : Card → List ℕ → ℕ → Card
with_lists c l r =
    card_of c.head l r (filled_to most_rows c.lowest r) (filled_to most_rows c.highest r) (filled_to most_rows c.bound r) (filled_to most_rows c.tolerated r)

abbrev pub card_at : Card → ℕ → ℕ → Card
card_at c n r = with_lists c (filled_to criticals c.critical n) r

pub record CardRead (t : Lot) (c : Card) (s : State) : Type 0 where
  pub lot : s.lot ≡ t
  pub card : s.card ≡ c
  pub results : s.results ≡ 0
  pub unopened : is_opened s.stage ≡ false
  -- rows, results and the end may stand next
  pub turns : (may_stand 4 s.stage ≡ true) × (may_stand 5 s.stage ≡ true) × (may_stand 6 s.stage ≡ true)

pub record CriticalsRead (t : Lot) (c : Card) (n : ℕ) (s : State) : Type 0 where
  pub read : CardRead t (card_at c n 0) s
  pub last : s.last ≤ n - 1
  pub turn : may_stand 3 s.stage ≡ true

module _ (t : Lot) (c : Card) (w : Carded t c) where
  -- the lists of the card are good
  pub good_criticals : criticals_good c.critical criticals ≡ true
  good_criticals = open_criticals t c w.opens

  good_rows : rows_good c c.rows ≡ true
  good_rows =
      let e : min c.rows most_rows ≡ c.rows = omega (arith, open_rows t c w.opens) in
      rw e at (and_right (criticals_good c.critical criticals) _ (and_right (head_good t.attribute c.head) _ (open_card t c w.opens)))

  -- ---- the critical values for fewer than n results
  one_critical : (n : ℕ) → n < criticals → (u : State) → CriticalsRead t c n u → Reaches (maybe_line n (get_or c.critical n 0)) u (CriticalsRead t c (suc n))
  unfolding critical_step
  one_critical n h u r = by (ℕ_discrete (get_or c.critical n 0) 0) (dec_lt n least_reported)
    where
      v : ℕ
      v = get_or c.critical n 0 - 1

      by : Dec (get_or c.critical n 0 ≡ 0) → Dec (n < least_reported) → Reaches (maybe_line n (get_or c.critical n 0)) u (CriticalsRead t c (suc n))
      by (yes e) k =
          let same = ap (λ (l : List ℕ). with_lists c l 0) (next_skipped criticals c.critical n h (omega arith) e) in
          rw (eq-eqb (get_or c.critical n 0) 0 e)
          (reach_none (CriticalsRead t c (suc n)) u
          (record {
            read = record { lot = r.read.lot; card = r.read.card ∙ same; results = r.read.results; unopened = r.read.unopened; turns = r.read.turns };
            last = omega (arith, r.last);
            turn = r.turn;
          }))
      by (no z) (yes k) = absurd (z ((critical_at_lem c.critical n good_criticals h).0 k))
      by (no z) (no k) =
          let most = (critical_at_lem c.critical n good_criticals h).1 in
          let e : v + 1 ≡ get_or c.critical n 0 = omega arith in
          let set_next = ap (set (filled_to criticals c.critical n) n) e ∙ next_set criticals c.critical n h (omega arith) in
          rw (ne_eqb (get_or c.critical n 0) 0 z)
          (reach_line (CriticalsRead t c (suc n)) (critical_line n v) (frame.Critical n v) u (on_card u stage.Critical n (with_critical u.card n v))
          (critical_spells n v (omega (arith, capacity)) (omega arith))
          (simp (r.turn, le-leb least_reported n (omega arith), le-leb n most_held (omega arith), lt-ltb u.last n (omega (arith, r.last))))
          (record {
            read =
                record {
                  lot = r.read.lot;
                  card = ap (λ (d : Card). with_critical d n v) r.read.card ∙ ap (λ (l : List ℕ). with_lists c l 0) set_next;
                  results = r.read.results;
                  unopened = refl;
                  turns = (refl, refl, refl);
                };
            last = omega arith;
            turn = refl;
          }))

  pub criticals_reach : (s : State) → CriticalsRead t c 0 s → (n : ℕ) → n ≤ criticals → Reaches (critical_lines c.critical n) s (CriticalsRead t c n)
  unfolding critical_lines
  criticals_reach s r zero h = reach_none (CriticalsRead t c 0) s r
  criticals_reach s r (suc n) h = reach_then (CriticalsRead t c n) (CriticalsRead t c (suc n)) _ _ s (criticals_reach s r n (omega arith)) (one_critical n h)

  -- ---- the first n rows
  abbrev RowsRead : ℕ → State → Type 0
  RowsRead n s = CardRead t (card_at c criticals n) s

  one_row : (n : ℕ) → n < c.rows → (u : State) → RowsRead n u
      → Reaches (range_line (get_or c.lowest n 0) (get_or c.highest n 0) (get_or c.bound n 0) (get_or c.tolerated n 0)) u (RowsRead (suc n))
  unfolding range_step rows_good
  one_row n h u r =
      let l = get_or c.lowest n 0 in
      let i = get_or c.highest n 0 in
      let b = get_or c.bound n 0 in
      let x = get_or c.tolerated n 0 in
      let e = at_each (rows_good c) (λ i. row_good (get_or c.lowest i 0) (get_or c.highest i 0) (get_or c.bound i 0)) (λ n. refl) c.rows n good_rows h in
      let few = row_small l i b e in
      let most = open_rows t c w.opens in
      let rows = ap (λ (d : Card). d.rows) r.card in
      let next : (l : List ℕ) → length l ≡ c.rows → set (filled_to most_rows l n) n (get_or l n 0) ≡ filled_to most_rows l (suc n) =
      λ l q. next_set most_rows l n (omega arith) (omega arith) in
      let lowest = next c.lowest w.lowest in
      let highest = next c.highest w.highest in
      let bound = next c.bound w.bound in
      let tolerated = next c.tolerated w.tolerated in
      reach_line (RowsRead (suc n)) _ (frame.Range l i b x) u (on_card u stage.Range u.last (with_row u.card l i b x))
      (range_spells l i b x few.0 few.1 few.2 (omega (arith, w.narrow n h)))
      (simp (r.turns.0, e, lt-ltb u.card.rows most_rows (omega arith)))
      (record {
        lot = r.lot;
        card =
            ap (λ (d : Card). with_row d l i b x) r.card
            ∙ λ j. card_of c.head (filled_to criticals c.critical criticals) (add-one n j) (lowest j) (highest j) (bound j) (tolerated j);
        results = r.results;
        unopened = refl;
        turns = (refl, refl, refl);
      })

  pub rows_reach : (s : State) → RowsRead 0 s → (n : ℕ) → n ≤ c.rows → Reaches (range_lines c n) s (RowsRead n)
  unfolding range_lines
  rows_reach s r zero h = reach_none (RowsRead 0) s r
  rows_reach s r (suc n) h = reach_then (RowsRead n) (RowsRead (suc n)) _ _ s (rows_reach s r n (omega arith)) (one_row n h)
