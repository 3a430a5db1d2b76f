-- Laws of the lines of lot and card, and of the line with which the results begin. Assumes nothing.
use mathlib.Core.Path.{◌≡◌, refl, ◌∙◌}
use mathlib.Core.Bool.{Bool, true, false}
use Prim.Native.Nat.{ℕ}
use lib.Dec.{eqb}
use Rattle.rules.specs.Choice.{pick, unless}
use Rattle.rules.specs.Cards.{open_number}
use Rattle.rules.specs.Ledger.{Ledger, opened, enter_on, weigh_on, fresh_ledger}
use Rattle.rules.specs.Stages.{may_stand, is_opened}
use Rattle.rules.specs.Reading.{Next, goes, stops, on_ledger, and_then, result_step, balance_step, end_step, step_of}
use Rattle.rules.specs.declared.Pans.{Pans}
use Rattle.rules.specs.declared.Card.{Card}
use Rattle.rules.specs.declared.Stage.TheVariants as stage
use Rattle.rules.specs.declared.Frame.{Frame}
use Rattle.rules.specs.declared.Frame.TheVariants as frame
use Rattle.rules.proofs.Tests.{false_true, and_left, and_right}
use Rattle.rules.proofs.EveryStage.{end_stands, balance_stands}
use Rattle.head_steps.specs.declared.Progress.{Progress}
use Rattle.head_steps.specs.Promise.{state_of, is_result, begins_results, HeadRefused, just_opened}

-- what is so of a result, of the end and of a weighed result
of_results : (P : Frame → Type 0) → ((c x : ℕ) → P (frame.Result c x)) → ((n : ℕ) → P (frame.End n)) → ((c s : ℕ) (w : Pans) → P (frame.Balance c s w))
    → (f : Frame) → is_result f ≡ true → P f
of_results P r e b (frame.Result c x) i = r c x
of_results P r e b (frame.End n) i = e n
of_results P r e b (frame.Balance c s w) i = b c s w
of_results P r e b frame.Bad i = false_true i
of_results P r e b (frame.Lot a n) i = false_true i
of_results P r e b (frame.Card f g n) i = false_true i
of_results P r e b (frame.Critical k v) i = false_true i
of_results P r e b (frame.Range l h t u) i = false_true i

-- what follows an accepted step of the ledger sees the ledger after it
unless_pick : (b : Bool) (e : Next) (k : Ledger → Next) (g h : Ledger) → unless b e (k (pick b g h)) ≡ unless b e (k g)
unless_pick true e k g h = refl
unless_pick false e k g h = refl

-- ---- a result or the end before the lot is opened
module _ (p : Progress) (d : Card) where
  -- where it may not stand
  pub too_early : (f : Frame) → is_result f ≡ true → may_stand 5 p.stage ≡ false → HeadRefused f p d 2 d
  unfolding result_step balance_step end_step
  too_early =
      of_results (λ f. may_stand 5 p.stage ≡ false → HeadRefused f p d 2 d)
      (λ c x e. record { right = simp e; kept = refl; begins_not = e })
      (λ n e. record { right = simp (end_stands p.stage ∙ e); kept = refl; begins_not = e })
      (λ c s w e. record { right = simp (balance_stands p.stage ∙ e); kept = refl; begins_not = e })

  -- where it may, the lot is opened, and it is taken as behind a result
  abbrev opening : ℕ
  opening = open_number p.lot d

  abbrev behind : Frame → Next
  behind f = unless (eqb opening 0) (stops opening) (step_of f (just_opened p.lot d p.last))

  pub begin_step : (f : Frame) → is_opened p.stage ≡ false → begins_results f p ≡ true → step_of f (state_of p d) ≡ behind f
  unfolding result_step balance_step end_step
  begin_step f o i =
      let may = and_right (is_result f) (may_stand 5 p.stage) i in
      let opens : (k : Ledger → Next) → _ = λ k. unless_pick (eqb opening 0) (stops opening) k (opened p.lot d) fresh_ledger in
      of_results (λ g. step_of g (state_of p d) ≡ behind g)
      (λ c x. simp (may, o) (opens (λ g. and_then (enter_on g c x) λ h. goes (on_ledger (state_of p d) stage.Result 1 h))))
      (λ n. simp (end_stands p.stage ∙ may, o) (opens (λ g. unless (eqb n 0) (stops 14) (goes (on_ledger (state_of p d) stage.End 0 g)))))
      (λ c s w. simp (balance_stands p.stage ∙ may, o) (opens (λ g. and_then (weigh_on g c s w) λ h. goes (on_ledger (state_of p d) stage.Result 1 h))))
      f (and_left (is_result f) (may_stand 5 p.stage) i)
