-- What a line does once the lot is opened, as the reader keeps it: what is held stands in the tally.
use Rattle.std.specs.Prelude.{◌≡◌, true, ℕ, eqb, Result, Ok, Err}
use Rattle.rules.specs.Choice.{unless}
use Rattle.rules.specs.Numbers.{number_of}
use Rattle.rules.specs.Stages.{may_stand, is_opened}
use Rattle.rules.specs.Weights.{weighing_of}
use Rattle.rules.specs.Reading.{State, goes, stops, step_of}
use Rattle.rules.specs.declared.Refusal.{Refusal}
use Rattle.rules.specs.declared.Stage.{Stage}
use Rattle.rules.specs.declared.Stage.TheVariants as stage
use Rattle.rules.specs.declared.Frame.{Frame}
use Rattle.rules.specs.declared.Frame.TheVariants as frame
use Rattle.tally.specs.declared.Tally.{Tally}
use Rattle.tally.specs.View.{view, with_result}
use Rattle.tally.specs.Calls.{Sound, enter_in_number, weigh_in_number}
use Rattle.head_steps.specs.Promise.{is_result}

-- what the lines came to once the lot is opened: the stage and the tally, with the last N of the card's critical values
abbrev pub opened_state : ℕ → Stage → Tally → State
opened_state last s t =
    record { stage = s; lot = t.lot; card = t.card; last = last; results = t.held; ledger = view t }

-- ---- what a line comes to, on any tally
-- it is taken, with the stage and the tally after it, or refused with a number, and the tally stays
pub data LineOutcome : Type 0 where
  taken : Stage → Tally → LineOutcome
  refused : ℕ → LineOutcome

-- a result of this kind, x for container k, which the call on the tally answers with m
abbrev pub result_on : ℕ → Stage → Tally → ℕ → ℕ → ℕ → LineOutcome
result_on kind s t k x m =
    unless (may_stand kind s) (refused 2)
    (unless (eqb m 0) (refused m)
    (taken stage.Result (with_result t k x)))

-- 06: the number of results
abbrev pub end_on : Stage → Tally → ℕ → LineOutcome
end_on s t n =
    unless (may_stand 6 s) (refused 2)
    (unless (eqb n t.held) (refused 14)
    (taken stage.End t))

-- a line with this frame: no frame of lot or card may stand
abbrev pub line_on : Frame → Stage → Tally → LineOutcome
line_on frame.Bad s t = refused 1
line_on (frame.Lot a n) s t = refused 2
line_on (frame.Card f g n) s t = refused 2
line_on (frame.Critical k v) s t = refused 2
line_on (frame.Range lo hi b r) s t = refused 2
line_on (frame.Result k x) s t = result_on 5 s t k x (enter_in_number t k x)
line_on (frame.End n) s t = end_on s t n
line_on (frame.Balance k status p) s t =
    result_on 7 s t k (weighing_of status p).value (weigh_in_number t k (weighing_of status p))

-- ---- the promise: that on any tally, and the step of the reading on those that the reader makes

-- as the reader makes them
pub record Proper (s : Stage) (t : Tally) : Type 0 where
  pub opened : is_opened s ≡ true
  pub sound : Sound t

-- a line with the frame f is taken: a result or the end
pub record ResultTaken (f : Frame) (s : Stage) (t : Tally) (r : Stage) (u : Tally) : Type 0 where
  pub exact : line_on f s t ≡ taken r u
  pub result : is_result f ≡ true
  pub right : (last : ℕ) → Proper s t → step_of f (opened_state last s t) ≡ goes (opened_state last r u)
  pub proper : Proper s t → Proper r u

-- it is refused with the number n, and the tally stays, on any tally
pub record ResultRefused (f : Frame) (s : Stage) (t : Tally) (n : ℕ) (u : Tally) : Type 0 where
  pub exact : line_on f s t ≡ refused n
  pub right : (last : ℕ) → Proper s t → step_of f (opened_state last s t) ≡ stops n
  pub kept : u ≡ t

-- r is what a line with the frame f comes to, with this tally after it
abbrev pub ResultLineIs : Frame → Stage → Tally → Result Stage Refusal → Tally → Type 0
ResultLineIs f s t (Ok r) u = ResultTaken f s t r u
ResultLineIs f s t (Err e) u = ResultRefused f s t (number_of e) u
