-- Each line that is taken leaves fewer bytes that can still be taken, by as many as it has. Assumes nothing.
use mathlib.Core.Path.{◌≡◌, refl, sym}
use mathlib.Core.Bool.{Bool, true, false, true≢false}
use Prim.Native.Nat.{ℕ, ◌+◌, ◌-◌, ◌*◌, ◌≤◌, ◌<◌, max}
use native.Mathlib.Omega.{arith}
use lib.Dec.{eqb, leb}
use borrow.Author.Tests.{eqb-true, leb-true, ltb-true}
use Rattle.rules.specs.Choice.{pick}
use Rattle.rules.specs.Limits.{most_held, least_reported, most_rows, lot_bytes, card_bytes, critical_bytes, range_bytes, balance_bytes, end_bytes}
use Rattle.rules.specs.Contents.{one, total}
use Rattle.rules.specs.Cards.{critical_follows, open_number}
use Rattle.rules.specs.Weights.{weighing_of}
use Rattle.rules.specs.Ledger.{held, opened, fresh_ledger}
use Rattle.rules.specs.Stages.{may_stand, is_opened}
use Rattle.rules.specs.Reading.{State, begun, at_start}
use Rattle.rules.specs.declared.Frame.{Frame}
use Rattle.rules.specs.declared.Stage.{Stage}
use Rattle.rules.specs.declared.Stage.TheVariants as stage
use Rattle.rules.proofs.Tests.{and_left, and_right}
use Rattle.rules.proofs.ContentLaws.{total_none}
use Rattle.rules.proofs.LedgerLaws.{enter_tells, enter_held}
use Rattle.rules.proofs.Taken.{Taken, lot, card, critical, range, result, balance, ends}
use Rattle.rules.proofs.Capacity.{capacity}
use Rattle.reading_theorems.specs.Lengths.{longest_read}
use Rattle.reading_theorems.proofs.StageLaws.{unopened}
use Rattle.reading_theorems.proofs.Fitting.{Fits}

-- ---- the bytes of the lines that can still be taken
-- of lot, head and end one line each where it is to come
stage_room : Stage → ℕ
stage_room stage.Start = lot_bytes + (card_bytes + end_bytes)
stage_room stage.Lot = card_bytes + end_bytes
stage_room stage.Card = end_bytes
stage_room stage.Critical = end_bytes
stage_room stage.Range = end_bytes
stage_room stage.Result = end_bytes
stage_room stage.End = 0

-- N of a critical frame is least_reported at least, and rises
criticals_free : ℕ → ℕ
criticals_free last = most_held - max (least_reported - 1) last

-- of critical values, rows and results as many as are free, each result with the bytes of a weighed one
head_room : State → ℕ
head_room s = stage_room s.stage + critical_bytes * criticals_free s.last + range_bytes * (most_rows - s.card.rows)

pub room : State → ℕ
room s = head_room s + balance_bytes * (most_held - held (begun s).ledger)

before_lot : (t : Stage) → may_stand 1 t ≡ true → stage_room t ≡ lot_bytes + (card_bytes + end_bytes)
unfolding stage_room
before_lot stage.Start e = refl
before_lot stage.Lot e = absurd (true≢false (sym e))
before_lot stage.Card e = absurd (true≢false (sym e))
before_lot stage.Critical e = absurd (true≢false (sym e))
before_lot stage.Range e = absurd (true≢false (sym e))
before_lot stage.Result e = absurd (true≢false (sym e))
before_lot stage.End e = absurd (true≢false (sym e))

before_card : (t : Stage) → may_stand 2 t ≡ true → stage_room t ≡ card_bytes + end_bytes
unfolding stage_room
before_card stage.Start e = absurd (true≢false (sym e))
before_card stage.Lot e = refl
before_card stage.Card e = absurd (true≢false (sym e))
before_card stage.Critical e = absurd (true≢false (sym e))
before_card stage.Range e = absurd (true≢false (sym e))
before_card stage.Result e = absurd (true≢false (sym e))
before_card stage.End e = absurd (true≢false (sym e))

behind_card : (k : ℕ) (t : Stage) → 3 ≤ k → may_stand k t ≡ true → stage_room t ≡ end_bytes
unfolding stage_room
behind_card k stage.Start h e = absurd (omega (arith, eqb-true k 1 e))
behind_card k stage.Lot h e = absurd (omega (arith, eqb-true k 2 e))
behind_card k stage.Card h e = refl
behind_card k stage.Critical h e = refl
behind_card k stage.Range h e = refl
behind_card k stage.Result h e = refl
behind_card k stage.End h e = absurd (true≢false (sym e))

critical_less : (last k : ℕ) → least_reported ≤ k → k ≤ most_held → last < k → criticals_free k < criticals_free last
unfolding criticals_free
critical_less last k a b c = omega arith

-- nothing is held before the first result
held_none : (s : State) → is_opened s.stage ≡ false → held (begun s).ledger ≡ 0
held_none s e = rw e (by (eqb (open_number s.lot s.card) 0))
  where
    by : (b : Bool) → held (pick b (opened s.lot s.card) fresh_ledger) ≡ 0
    by true = total_none one s.lot.containers refl
    by false = total_none one 0 refl

-- a frame of lot or card, with n digits
falls_before : (n : ℕ) (s u : State) → is_opened s.stage ≡ false → is_opened u.stage ≡ false → n + head_room u < head_room s → n + room u < room s
unfolding room
falls_before n s u a b h = rw (held_none s a, held_none u b) (omega arith)

-- N of a critical frame rises up to the most
pub critical_rises : (last k : ℕ) → critical_follows last k ≡ true → (least_reported ≤ k) × (k ≤ most_held) × (last < k)
critical_rises last k e =
    let t = and_right (leb least_reported k) _ e in (
      leb-true least_reported k (and_left (leb least_reported k) _ e),
      leb-true k most_held (and_left (leb k most_held) _ t),
      ltb-true last k (and_right (leb k most_held) _ t),
    )

pub falls : {f : Frame} (n : ℕ) (s u : State) → Fits n f → Taken s f u → n + room u < room s
unfolding room head_room stage_room
falls n s u w (lot t g) = falls_before n s u (unopened 1 s.stage (omega arith) t) refl (omega (arith, w.0, before_lot s.stage t))
falls n s u w (card t g) = falls_before n s u (unopened 2 s.stage (omega arith) t) refl (omega (arith, w, before_card s.stage t))
falls n s u w (critical {k} t g) =
    let r = critical_rises s.last k g in
    falls_before n s u (unopened 3 s.stage (omega arith) t) refl
    (omega (arith, w.0, critical_less s.last k r.0 r.1 r.2, behind_card 3 s.stage (omega arith) t))
falls n s u w (range t g few) =
    falls_before n s u (unopened 4 s.stage (omega arith) t) refl (omega (arith, w.0, few, behind_card 4 s.stage (omega arith) t))
falls n s u w (result {c} {x} t b e) =
    let g = (begun s).ledger in
    omega (arith, w, behind_card 5 s.stage (omega arith) t, (enter_tells g c x e).room, enter_held g c x e)
falls n s u w (balance {c} {status} {p} t b a v e) =
    let g = (begun s).ledger in
    let x = (weighing_of status p).value in
    omega (arith, w, behind_card 7 s.stage (omega arith) t, (enter_tells g c x e).room, enter_held g c x e)
falls n s u w (ends t b e) = omega (arith, w, behind_card 6 s.stage (omega arith) t)

pub room_start : room at_start ≡ longest_read
unfolding room head_room stage_room criticals_free total
room_start = rw capacity refl
