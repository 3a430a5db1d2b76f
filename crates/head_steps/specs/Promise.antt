-- What a line does to what the lines of lot and card before it came to, as the reader keeps it.
use Rattle.std.specs.Prelude.{◌≡◌, Bool, true, false, ◌&&◌, ℕ, Option, Some, None, Result, Ok, Err}
use Rattle.rules.specs.Numbers.{number_of}
use Rattle.rules.specs.Cards.{fresh_lot}
use Rattle.rules.specs.Ledger.{opened, fresh_ledger}
use Rattle.rules.specs.Stages.{may_stand, is_opened}
use Rattle.rules.specs.Reading.{State, goes, stops, step_of}
use Rattle.rules.specs.declared.Lot.{Lot}
use Rattle.rules.specs.declared.Card.{Card}
use Rattle.rules.specs.declared.Refusal.{Refusal}
use Rattle.rules.specs.declared.Stage.TheVariants as stage
use Rattle.rules.specs.declared.Frame.{Frame}
use Rattle.rules.specs.declared.Frame.TheVariants as frame
use Rattle.head_steps.specs.declared.Progress.{Progress}

-- what the lines of lot and card came to, with the card as far as it was read: no result was read, and the lot is not opened
abbrev pub state_of : Progress → Card → State
state_of p c =
    record { stage = p.stage; lot = p.lot; card = c; last = p.last; results = 0; ledger = fresh_ledger }

-- nothing is read
abbrev pub at_first : Progress
at_first = record { stage = stage.Start; lot = fresh_lot; last = 0 }

-- whether a frame is a result, weighed or not, or the end
abbrev pub is_result : Frame → Bool
is_result frame.Bad = false
is_result (frame.Lot a n) = false
is_result (frame.Card f g n) = false
is_result (frame.Critical k v) = false
is_result (frame.Range l h b r) = false
is_result (frame.Result c x) = true
is_result (frame.End n) = true
is_result (frame.Balance c s p) = true

-- the results begin with a line: a result or the end stands where it may
abbrev pub begins_results : Frame → Progress → Bool
begins_results f p = is_result f && may_stand 5 p.stage

-- a line with the frame f is taken: what p and the card c say goes on to what q and the card d say, and the lot is not opened yet
pub record HeadTaken (f : Frame) (p : Progress) (c : Card) (q : Progress) (d : Card) : Type 0 where
  pub right : step_of f (state_of p c) ≡ goes (state_of q d)
  pub unopened : is_opened q.stage ≡ false

-- it is refused with the number n, and the card stays, on any card
pub record HeadRefused (f : Frame) (p : Progress) (c : Card) (n : ℕ) (d : Card) : Type 0 where
  pub right : step_of f (state_of p c) ≡ stops n
  pub kept : d ≡ c
  pub begins_not : begins_results f p ≡ false

-- the results begin with it, and the card stays
pub record HeadEnds (f : Frame) (p : Progress) (c d : Card) : Type 0 where
  pub begins : begins_results f p ≡ true
  pub kept : d ≡ c

-- r is what a line of lot or card with the frame f comes to, with the card d after it
abbrev pub HeadStepIs : Frame → Progress → Card → Result Progress Refusal → Card → Type 0
HeadStepIs f p c (Ok q) d = HeadTaken f p c q d
HeadStepIs f p c (Err e) d = HeadRefused f p c (number_of e) d

-- r is what a line with the frame f comes to, with the card d after it
abbrev pub HeadLineIs : Frame → Progress → Card → Result (Option Progress) Refusal → Card → Type 0
HeadLineIs f p c (Ok (Some q)) d = HeadTaken f p c q d
HeadLineIs f p c (Ok None) d = HeadEnds f p c d
HeadLineIs f p c (Err e) d = HeadRefused f p c (number_of e) d

-- where the results begin: the lot is opened, nothing is held, and no frame of lot or card may stand any more
abbrev pub just_opened : Lot → Card → ℕ → State
just_opened l c last = record { stage = stage.Result; lot = l; card = c; last = last; results = 0; ledger = opened l c }
