-- What a sheet says: the ledger that it yields, or the number and the line of its first fault.
use Rattle.std.specs.Prelude.{List, [], ◌∷◌, ℕ, ◌+◌, eqb, ltb}
use Rattle.rules.specs.Choice.{pick, unless}
use Rattle.rules.specs.Limits.{most_rows}
use Rattle.rules.specs.Cards.{lot_good, head_good, critical_follows, row_good, head_of, with_head, with_critical, with_row, fresh_lot, fresh_card}
use Rattle.rules.specs.Ledger.{Ledger, Judged, open_on, enter_on, weigh_on, fresh_ledger}
use Rattle.rules.specs.Stages.{may_stand, is_opened, is_ended}
use Rattle.rules.specs.Lines.{Line, ended, unended, lines_of}
use Rattle.rules.specs.Frames.{frame_of}
use Rattle.rules.specs.declared.Lot.{Lot}
use Rattle.rules.specs.declared.Card.{Card}
use Rattle.rules.specs.declared.Pans.{Pans}
use Rattle.rules.specs.declared.Stage.{Stage}
use Rattle.rules.specs.declared.Stage.TheVariants as stage
use Rattle.rules.specs.declared.Frame.{Frame}
use Rattle.rules.specs.declared.Frame.TheVariants as frame

-- what the lines so far came to
pub record State : Type 0 where
  pub stage : Stage
  pub lot : Lot
  pub card : Card
  -- N of the critical frame before, 0 for none
  pub last : ℕ
  -- the number of 05 and 07 frames
  pub results : ℕ
  pub ledger : Ledger

-- a line goes on to a state, or stops the reading with a number
pub data Next : Type 0 where
  goes : State → Next
  stops : ℕ → Next

-- a sheet yields a ledger, with the number of its lines; or it is refused, with the number and the line
pub data SheetOutcome : Type 0 where
  accepted : Ledger → ℕ → SheetOutcome
  refused : ℕ → ℕ → SheetOutcome

-- ---- the state behind a frame
abbrev pub on_lot : State → Lot → State
on_lot s l =
    record { stage = stage.Lot; lot = l; card = s.card; last = s.last; results = s.results; ledger = s.ledger }

-- the card's frames change the card
abbrev pub on_card : State → Stage → ℕ → Card → State
on_card s t last c =
    record { stage = t; lot = s.lot; card = c; last = last; results = s.results; ledger = s.ledger }

-- results and the end change the ledger
abbrev pub on_ledger : State → Stage → ℕ → Ledger → State
on_ledger s t results g =
    record { stage = t; lot = s.lot; card = s.card; last = s.last; results = results; ledger = g }

-- ---- frame by frame: 2 where the frame may not stand here, then its own numbers
-- 01
unfoldable pub lot_step : State → ℕ → ℕ → Next
lot_step s a n =
    unless (may_stand 1 s.stage) (stops 2)
    (unless (lot_good a n) (stops 3)
    (goes (on_lot s (record { attribute = a; containers = n }))))

-- 02
unfoldable pub card_step : State → ℕ → ℕ → ℕ → Next
card_step s f g n =
    unless (may_stand 2 s.stage) (stops 2)
    (unless (head_good s.lot.attribute (head_of f g n)) (stops 4)
    (goes (on_card s stage.Card s.last (with_head s.card (head_of f g n)))))

-- 03
unfoldable pub critical_step : State → ℕ → ℕ → Next
critical_step s k v =
    unless (may_stand 3 s.stage) (stops 2)
    (unless (critical_follows s.last k) (stops 4)
    (goes (on_card s stage.Critical k (with_critical s.card k v))))

-- 04
unfoldable pub range_step : State → ℕ → ℕ → ℕ → ℕ → Next
range_step s l h b r =
    unless (may_stand 4 s.stage) (stops 2)
    (unless (row_good l h b) (stops 4)
    (unless (ltb s.card.rows most_rows) (stops 5)
    (goes (on_card s stage.Range s.last (with_row s.card l h b r)))))

-- the ledger where the first result or the end stands: the lot is opened
abbrev pub begun : State → Judged
begun s = pick (is_opened s.stage) (record { number = 0; ledger = s.ledger }) (open_on fresh_ledger s.lot s.card)

-- a step of the ledger and what follows it, or its number
abbrev pub and_then : Judged → (Ledger → Next) → Next
and_then j k = unless (eqb j.number 0) (stops j.number) (k j.ledger)

-- a result of this kind, by its step of the ledger
abbrev pub result_by : ℕ → State → (Ledger → Judged) → Next
result_by kind s step =
    unless (may_stand kind s.stage) (stops 2)
    (and_then (begun s) λ g. and_then (step g) λ h. goes (on_ledger s stage.Result (s.results + 1) h))

-- 05: an enter
unfoldable pub result_step : State → ℕ → ℕ → Next
result_step s c x = result_by 5 s (λ g. enter_on g c x)

-- 07: a weigh, which is out of turn on a sheet of another attribute than purity
unfoldable pub balance_step : State → ℕ → ℕ → Pans → Next
balance_step s c status p = result_by 7 s (λ g. weigh_on g c status p)

-- 06: the number of 05 and 07 frames
unfoldable pub end_step : State → ℕ → Next
end_step s n =
    unless (may_stand 6 s.stage) (stops 2)
    (and_then (begun s) λ g. unless (eqb n s.results) (stops 14) (goes (on_ledger s stage.End s.results g)))

abbrev pub step_of : Frame → State → Next
step_of frame.Bad s = stops 1
step_of (frame.Lot a n) s = lot_step s a n
step_of (frame.Card f g n) s = card_step s f g n
step_of (frame.Critical k v) s = critical_step s k v
step_of (frame.Range l h b r) s = range_step s l h b r
step_of (frame.Result c x) s = result_step s c x
step_of (frame.End n) s = end_step s n
step_of (frame.Balance c status p) s = balance_step s c status p

-- ---- line by line
abbrev pub after : Next → ℕ → (State → SheetOutcome) → SheetOutcome
after (goes s) line k = k s
after (stops e) line k = refused e line

-- the lines that follow, n lines having been read; the sheet may not end before 06
unfoldable pub read_from : List Line → State → ℕ → SheetOutcome
read_from [] s n = pick (is_ended s.stage) (accepted s.ledger n) (refused 2 (n + 1))
read_from (unended ∷ ls) s n = refused 1 (n + 1)
read_from (ended d ∷ ls) s n = after (step_of (frame_of d) s) (n + 1) (λ t. read_from ls t (n + 1))

abbrev pub at_start : State
at_start = record { stage = stage.Start; lot = fresh_lot; card = fresh_card; last = 0; results = 0; ledger = fresh_ledger }

unfoldable pub read_of : List ℕ → SheetOutcome
read_of s = read_from (lines_of s) at_start 0
