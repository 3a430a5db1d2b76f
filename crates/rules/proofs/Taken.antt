-- What a frame's being taken means: the tests that it passed, and the state behind it, one clause a frame. Assumes nothing.
use mathlib.Core.Path.{◌≡◌, refl, sym, subst}
use mathlib.Core.Bool.{Bool, true, false}
use Prim.Native.Nat.{ℕ, ◌+◌, ◌<◌}
use native.Mathlib.Omega.{arith}
use lib.Dec.{eqb, ltb}
use borrow.Author.Tests.{eqb-true, ltb-true}
use Rattle.rules.specs.Choice.{unless}
use Rattle.rules.specs.Limits.{most_rows}
use Rattle.rules.specs.Cards.{lot_good, head_good, critical_follows, row_good, head_of, with_head, with_critical, with_row}
use Rattle.rules.specs.Attributes.{is_weighed}
use Rattle.rules.specs.Weights.{weighing_of}
use Rattle.rules.specs.Ledger.{Ledger, Judged, enter_number, enter_on, weigh_on}
use Rattle.rules.specs.Stages.{may_stand}
use Rattle.rules.specs.Reading.{State, Next, goes, stops, on_lot, on_card, on_ledger, begun, and_then, result_by, lot_step, card_step, critical_step, range_step, result_step, balance_step, end_step, step_of}
use Rattle.rules.specs.declared.Pans.{Pans}
use Rattle.rules.specs.declared.Stage.TheVariants as stage
use Rattle.rules.specs.declared.Frame.{Frame}
use Rattle.rules.specs.declared.Frame.TheVariants as frame
use Rattle.rules.proofs.LedgerLaws.{weigh_tells, weigh_enters}

pub data Taken (s : State) : Frame → State → Type 0 where
  lot : {a n : ℕ} → may_stand 1 s.stage ≡ true → lot_good a n ≡ true
      → Taken s (frame.Lot a n) (on_lot s (record { attribute = a; containers = n }))
  card : {f g n : ℕ} → may_stand 2 s.stage ≡ true → head_good s.lot.attribute (head_of f g n) ≡ true
      → Taken s (frame.Card f g n) (on_card s stage.Card s.last (with_head s.card (head_of f g n)))
  critical : {k v : ℕ} → may_stand 3 s.stage ≡ true → critical_follows s.last k ≡ true
      → Taken s (frame.Critical k v) (on_card s stage.Critical k (with_critical s.card k v))
  range : {l h b r : ℕ} → may_stand 4 s.stage ≡ true → row_good l h b ≡ true → s.card.rows < most_rows
      → Taken s (frame.Range l h b r) (on_card s stage.Range s.last (with_row s.card l h b r))
  result : {c x : ℕ} → may_stand 5 s.stage ≡ true → (begun s).number ≡ 0 → enter_number (begun s).ledger c x ≡ 0
      → Taken s (frame.Result c x) (on_ledger s stage.Result (s.results + 1) (enter_on (begun s).ledger c x).ledger)
  -- an enter of the X that was weighed, on a sheet of purity
  balance : {c status : ℕ} {p : Pans} → may_stand 7 s.stage ≡ true → (begun s).number ≡ 0 → is_weighed (begun s).ledger.lot.attribute ≡ true
      → (weighing_of status p).number ≡ 0 → enter_number (begun s).ledger c (weighing_of status p).value ≡ 0
      → Taken s (frame.Balance c status p) (on_ledger s stage.Result (s.results + 1) (enter_on (begun s).ledger c (weighing_of status p).value).ledger)
  ends : {n : ℕ} → may_stand 6 s.stage ≡ true → (begun s).number ≡ 0 → n ≡ s.results
      → Taken s (frame.End n) (on_ledger s stage.End s.results (begun s).ledger)

-- ---- a step that goes on passed its tests
never : {A : Type 0} {e : ℕ} {u : State} → stops e ≡ goes u → A
never q = absurd (let z : ◌≡◌ {A = ℕ} 0 1 = cc in omega arith)

same : {s u : State} → goes s ≡ goes u → s ≡ u
same q = cc

unless_goes : (b : Bool) (x : Next) (e : ℕ) (u : State) → unless b (stops e) x ≡ goes u → (b ≡ true) × (x ≡ goes u)
unless_goes true x e u q = (refl, q)
unless_goes false x e u q = never q

then_goes : (j : Judged) (k : Ledger → Next) (u : State) → and_then j k ≡ goes u → (j.number ≡ 0) × (k j.ledger ≡ goes u)
then_goes j k u q = let p = unless_goes (eqb j.number 0) (k j.ledger) j.number u q in (eqb-true j.number 0 p.0, p.1)

-- a result of a kind, by its step of the ledger
result_goes : (kind : ℕ) (s : State) (step : Ledger → Judged) (u : State) → result_by kind s step ≡ goes u
    → (may_stand kind s.stage ≡ true) × ((begun s).number ≡ 0) × ((step (begun s).ledger).number ≡ 0)
    × (u ≡ on_ledger s stage.Result (s.results + 1) (step (begun s).ledger).ledger)
result_goes kind s step u q =
    let next : Ledger → Next = λ g. goes (on_ledger s stage.Result (s.results + 1) g) in
    let p = unless_goes (may_stand kind s.stage) _ 2 u q in
    let o = then_goes (begun s) (λ g. and_then (step g) next) u p.1 in
    let t = then_goes (step (begun s).ledger) next u o.1 in
    (p.0, o.0, t.0, sym (same t.1))

pub taken : (f : Frame) (s u : State) → step_of f s ≡ goes u → Taken s f u
unfolding lot_step card_step critical_step range_step result_step balance_step end_step
taken frame.Bad s u q = never q
taken (frame.Lot a n) s u q =
    let p = unless_goes (may_stand 1 s.stage) _ 2 u q in
    let r = unless_goes (lot_good a n) _ 3 u p.1 in
    rw (← same r.1) (lot p.0 r.0)
taken (frame.Card f g n) s u q =
    let p = unless_goes (may_stand 2 s.stage) _ 2 u q in
    let r = unless_goes (head_good s.lot.attribute (head_of f g n)) _ 4 u p.1 in
    rw (← same r.1) (card p.0 r.0)
taken (frame.Critical k v) s u q =
    let p = unless_goes (may_stand 3 s.stage) _ 2 u q in
    let r = unless_goes (critical_follows s.last k) _ 4 u p.1 in
    rw (← same r.1) (critical p.0 r.0)
taken (frame.Range l h b r) s u q =
    let p = unless_goes (may_stand 4 s.stage) _ 2 u q in
    let o = unless_goes (row_good l h b) _ 4 u p.1 in
    let t = unless_goes (ltb s.card.rows most_rows) _ 5 u o.1 in
    rw (← same t.1) (range p.0 o.0 (ltb-true s.card.rows most_rows t.0))
taken (frame.Result c x) s u q = let r = result_goes 5 s (λ g. enter_on g c x) u q in rw r.3 (result r.0 r.1 r.2)
taken (frame.Balance c status w) s u q =
    let r = result_goes 7 s (λ g. weigh_on g c status w) u q in
    let g = (begun s).ledger in
    let t = weigh_tells g c (weighing_of status w) r.2 in
    rw r.3
    (subst (λ (j : Judged). Taken s (frame.Balance c status w) (on_ledger s stage.Result (s.results + 1) j.ledger)) (sym (weigh_enters g c status w r.2))
    (balance r.0 r.1 t.purity t.weighed t.enters))
taken (frame.End n) s u q =
    let p = unless_goes (may_stand 6 s.stage) _ 2 u q in
    let o = then_goes (begun s) (λ g. unless (eqb n s.results) (stops 14) (goes (on_ledger s stage.End s.results g))) u p.1 in
    let t = unless_goes (eqb n s.results) _ 14 u o.1 in
    rw (← same t.1) (ends p.0 o.0 (eqb-true n s.results t.0))
