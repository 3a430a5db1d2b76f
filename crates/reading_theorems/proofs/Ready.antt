-- Where a result or the end may stand, the lot that was read opens with the card that was read: a fault of the lot or the card
-- is found on its own line, and no line of a result is refused for it. Assumes nothing.
use mathlib.Core.Path.{◌≡◌, refl, ◌∙◌}
use mathlib.Core.Bool.{Bool, true, false}
use mathlib.Core.List.{List}
use Prim.Native.Nat.{ℕ, zero, suc, ◌+◌, ◌≤◌, ◌<◌, min}
use native.Mathlib.Omega.{arith}
use native.Mathlib.Decide.{ℕ_discrete}
use native.Mathlib.Numerals.{add-one}
use lib.ListN.{length, get_or, set, replicate}
use lib.Seq.{get_or-set_same, get_or-set_other}
use borrow.Author.Tests.{le-leb, le-ltb}
use Rattle.rules.specs.Choice.{pick}
use Rattle.rules.specs.Limits.{least_reported, criticals, most_rows, widest}
use Rattle.rules.specs.Lines.{Line}
use Rattle.rules.specs.Cards.{Full, lot_good, head_good, row_good, rows_good, critical_good, criticals_good, open_number, head_of, with_head, with_critical, with_row}
use Rattle.rules.specs.Ledger.{Ledger, open_on, fresh_ledger}
use Rattle.rules.specs.Stages.{may_stand, is_opened}
use Rattle.rules.specs.Reading.{State, on_ledger, begun, at_start}
use Rattle.rules.specs.declared.Card.{Card}
use Rattle.rules.specs.declared.Stage.{Stage}
use Rattle.rules.specs.declared.Frame.{Frame}
use Rattle.rules.proofs.Tests.{and_both, and_left, and_right}
use Rattle.rules.proofs.CardLaws.{full_fresh, full_head, full_critical, full_row}
use Rattle.rules.proofs.Taken.{Taken, lot, card, critical, range, result, balance, ends}
use Rattle.rules.proofs.Capacity.{capacity}
use Rattle.reading_theorems.proofs.StageLaws.{kind_before, follows}
use Rattle.reading_theorems.proofs.Accepted.{Leads, nothing, line}
use Rattle.reading_theorems.proofs.Falling.{critical_rises}
use Rattle.reading_theorems.proofs.Fitting.{Fits, frame_fits}

-- each number of a list fits four digits
abbrev pub FourDigits : List ℕ → Type 0
FourDigits l = (i : ℕ) → get_or l i 0 ≤ widest

-- lot and card as far as they were read
pub record Ready (s : State) : Type 0 where
  pub lot : 1 ≤ kind_before s.stage → lot_good s.lot.attribute s.lot.containers ≡ true
  pub few : s.lot.containers ≤ widest
  pub head : 2 ≤ kind_before s.stage → head_good s.lot.attribute s.card.head ≡ true
  pub critical : criticals_good s.card.critical criticals ≡ true
  pub rows : rows_good s.card s.card.rows ≡ true
  pub most : s.card.rows ≤ most_rows
  pub full : Full s.card
  pub narrow : FourDigits s.card.tolerated

pub zero_at : (n : ℕ) → FourDigits (replicate n 0)
zero_at zero i = omega arith
zero_at (suc n) zero = omega arith
zero_at (suc n) (suc i) = zero_at n i

pub start_ready : Ready at_start
unfolding criticals_good rows_good
start_ready =
    record {
      lot = λ h. absurd (omega arith);
      few = omega arith;
      head = λ h. absurd (omega arith);
      critical = rw capacity refl;
      rows = refl;
      most = omega arith;
      full = full_fresh;
      narrow = zero_at most_rows;
    }

-- the lot and the card open
ready_opens : (s : State) → Ready s → 2 ≤ kind_before s.stage → open_number s.lot s.card ≡ 0
ready_opens s r h =
    let m = r.most in
    let e : min s.card.rows most_rows ≡ s.card.rows = omega arith in
    simp (r.lot (omega arith), r.head h, r.critical, e, r.rows, le-leb s.card.rows most_rows m)

pub ready_begun : (k : ℕ) (s : State) → Ready s → 5 ≤ k → may_stand k s.stage ≡ true → (begun s).number ≡ 0
ready_begun k s r h t = by (is_opened s.stage)
  where
    by : (b : Bool) → (pick b (record { number = 0; ledger = s.ledger }) (open_on fresh_ledger s.lot s.card)).number ≡ 0
    by true = refl
    by false = ready_opens s r ((follows k s.stage t).later (omega arith))

-- ---- rows that agree are good alike
abbrev pub SameRow : Card → Card → ℕ → Type 0
SameRow c d i =
    (get_or c.lowest i 0 ≡ get_or d.lowest i 0) × (get_or c.highest i 0 ≡ get_or d.highest i 0) × (get_or c.bound i 0 ≡ get_or d.bound i 0)

pub rows_same : (c d : Card) (n : ℕ) → ((i : ℕ) → i < n → SameRow c d i) → rows_good c n ≡ rows_good d n
unfolding rows_good
rows_same c d zero h = refl
rows_same c d (suc n) h =
    let e = h n (omega arith) in
    rw (rows_same c d n (λ i q. h i (omega arith)), e.0, e.1, e.2) refl

-- one row more
rows_one : (c : Card) (n : ℕ) → rows_good c n ≡ true → row_good (get_or c.lowest n 0) (get_or c.highest n 0) (get_or c.bound n 0) ≡ true
    → rows_good c (n + 1) ≡ true
rows_one c n e f = rw (add-one n) (unfold rows_good in and_both e f)

row_more : (c : Card) (l h b r : ℕ) → Full c → c.rows < most_rows → rows_good c c.rows ≡ true → row_good l h b ≡ true
    → rows_good (with_row c l h b r) (c.rows + 1) ≡ true
row_more c l h b r full few e f =
    let n = c.rows in
    let other : (l : List ℕ) (v m : ℕ) → m < n → get_or (set l n v) m 0 ≡ get_or l m 0 = λ l v m q. get_or-set_other l n m v 0 (λ z. omega arith) in
    let at : (l : List ℕ) (v : ℕ) → length l ≡ most_rows → get_or (set l n v) n 0 ≡ v = λ l v q. get_or-set_same l n v 0 (omega arith) in
    rows_one (with_row c l h b r) n
    (rows_same (with_row c l h b r) c n (λ m q. (other c.lowest l m q, other c.highest h m q, other c.bound b m q)) ∙ e)
    (rw (at c.lowest l full.lowest, at c.highest h full.highest, at c.bound b full.bound) f)

narrow_set : (l : List ℕ) (i v : ℕ) → i < length l → v ≤ widest → FourDigits l → FourDigits (set l i v)
narrow_set l i v h w n j = by (ℕ_discrete j i)
  where
    by : Dec (j ≡ i) → get_or (set l i v) j 0 ≤ widest
    by (yes e) = rw (e, get_or-set_same l i v 0 h) w
    by (no e) = rw (get_or-set_other l i j v 0 e) (n j)

-- one critical value more
critical_set : (l : List ℕ) (k v n : ℕ) → k < length l → critical_good k v ≡ true → criticals_good l n ≡ true → criticals_good (set l k v) n ≡ true
unfolding criticals_good
critical_set l k v zero h g e = refl
critical_set l k v (suc n) h g e = and_both (critical_set l k v n h g (and_left _ _ e)) (at (ℕ_discrete n k))
  where
    at : Dec (n ≡ k) → critical_good n (get_or (set l k v) n 0) ≡ true
    at (yes p) = rw (p, get_or-set_same l k v 0 h) g
    at (no p) = rw (get_or-set_other l k n v 0 p) (and_right (criticals_good l n) _ e)

good_critical : (k v : ℕ) → least_reported ≤ k → v ≤ widest → critical_good k (v + 1) ≡ true
good_critical k v h g = rw (le-ltb k least_reported h) (le-leb (v + 1) (widest + 1) (omega arith))

-- ---- frame by frame
-- results and the end leave lot and card
ready_ledger : (s : State) (t : Stage) (n : ℕ) (g : Ledger) → Ready s → 2 ≤ kind_before s.stage → Ready (on_ledger s t n g)
ready_ledger s t n g r h =
    record { lot = λ i. r.lot (omega arith); few = r.few; head = λ i. r.head h; critical = r.critical; rows = r.rows; most = r.most; full = r.full; narrow = r.narrow }

ready_taken : {f : Frame} (n : ℕ) (s u : State) → Fits n f → Ready s → Taken s f u → Ready u
ready_taken m s u w r (lot t g) =
    record { lot = λ i. g; few = w.1; head = λ i. absurd (omega arith); critical = r.critical; rows = r.rows; most = r.most; full = r.full; narrow = r.narrow }
ready_taken m s u w r (card {f} {g} {n} t q) =
    record {
      lot = λ i. r.lot (omega (arith, (follows 2 s.stage t).first (omega arith)));
      few = r.few;
      head = λ i. q;
      critical = r.critical;
      rows = rows_same (with_head s.card (head_of f g n)) s.card s.card.rows (λ i h. (refl, refl, refl)) ∙ r.rows;
      most = r.most;
      full = full_head s.card (head_of f g n) r.full;
      narrow = r.narrow;
    }
ready_taken m s u w r (critical {k} {v} t q) =
    let b = (follows 3 s.stage t).later (omega arith) in
    let n = critical_rises s.last k q in
    record {
      lot = λ i. r.lot (omega arith);
      few = r.few;
      head = λ i. r.head b;
      critical = critical_set s.card.critical k (v + 1) criticals (omega (arith, r.full.critical)) (good_critical k v n.0 w.1) r.critical;
      rows = rows_same (with_critical s.card k v) s.card s.card.rows (λ i h. (refl, refl, refl)) ∙ r.rows;
      most = r.most;
      full = full_critical s.card k v r.full;
      narrow = r.narrow;
    }
ready_taken m s u w r (range {l} {h} {b} {r = x} t q few) =
    let c = s.card in
    let d = (follows 4 s.stage t).later (omega arith) in
    record {
      lot = λ i. r.lot (omega arith);
      few = r.few;
      head = λ i. r.head d;
      critical = r.critical;
      rows = row_more c l h b x r.full few r.rows q;
      most = omega arith;
      full = full_row c l h b x r.full;
      narrow = narrow_set c.tolerated c.rows x (omega (arith, r.full.tolerated)) w.1 r.narrow;
    }
ready_taken m s u w r (result t b e) = ready_ledger s _ _ _ r ((follows 5 s.stage t).later (omega arith))
ready_taken m s u w r (balance t b a v e) = ready_ledger s _ _ _ r ((follows 7 s.stage t).later (omega arith))
ready_taken m s u w r (ends t b e) = ready_ledger s _ _ _ r ((follows 6 s.stage t).later (omega arith))

-- lines that lead on lead from a ready state to a ready one
pub ready_led : {ls : List Line} (s v : State) → Ready s → Leads s ls v → Ready v
ready_led s v r nothing = r
ready_led s v r (line {u} {d} t rest) = ready_led u v (ready_taken (length d) s u (frame_fits d) r t) rest
