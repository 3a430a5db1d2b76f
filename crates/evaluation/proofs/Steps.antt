-- A step on a state with the results beside it is the step of the definition. Assumes nothing.
use Prim.Native.Nat.{ℕ, ◌+◌}
use mathlib.Core.Bool.{Bool, true, false}
use mathlib.Core.Path.{◌≡◌, refl, sym, ap}
use mathlib.Core.List.{List}
use lib.Dec.{eqb}
use borrow.Author.Tests.{eqb-true}
use Rattle.rules.specs.Choice.{unless}
use Rattle.rules.specs.Weights.{weighing_of}
use Rattle.rules.specs.Ledger.{Ledger, Judged, held}
use Rattle.rules.specs.Stages.{may_stand}
use Rattle.rules.specs.Reading.{State, Next, goes, stops, begun, and_then, on_ledger, result_by, result_step, balance_step, step_of}
use Rattle.rules.specs.declared.Pans.{Pans}
use Rattle.rules.specs.declared.Stage.TheVariants as stage
use Rattle.rules.specs.declared.Frame.{Frame}
use Rattle.rules.specs.declared.Frame.TheVariants as frame
use Rattle.reading_theorems.specs.Spelling.{Entry}
use Rattle.reading_theorems.proofs.Spelt.{ResultsSoFar, results_held}
use Rattle.evaluation.specs.Quick.{enter_at, weigh_at, result_at, balance_at, step_at}

then_same : (j : Judged) (k m : Ledger → Next) → (j.number ≡ 0 → k j.ledger ≡ m j.ledger) → and_then j k ≡ and_then j m
then_same j k m h = by (eqb j.number 0) refl
  where
    by : (b : Bool) → eqb j.number 0 ≡ b → unless b (stops j.number) (k j.ledger) ≡ unless b (stops j.number) (m j.ledger)
    by true e = h (eqb-true j.number 0 e)
    by false e = refl

-- a step that is told how many results are held
by_held : (kind : ℕ) (s : State) (es : List Entry) (step : ℕ → Ledger → Judged) → ResultsSoFar s es
    → result_by kind s (step s.results) ≡ result_by kind s (λ g. step (held g) g)
by_held kind s es step h =
    let k : Ledger → Next = λ j. goes (on_ledger s stage.Result (s.results + 1) j) in
    ap (unless (may_stand kind s.stage) (stops 2))
    (then_same (begun s) (λ g. and_then (step s.results g) k) (λ g. and_then (step (held g) g) k)
    (λ e. ap (λ (m : ℕ). and_then (step m (begun s).ledger) k) (sym (results_held s es h e))))

result_same : (s : State) (es : List Entry) (c x : ℕ) → ResultsSoFar s es → result_at s c x ≡ result_step s c x
unfolding result_step result_at
result_same s es c x h = by_held 5 s es (λ k g. enter_at k g c x) h

balance_same : (s : State) (es : List Entry) (c status : ℕ) (p : Pans) → ResultsSoFar s es → balance_at s c (weighing_of status p) ≡ balance_step s c status p
unfolding balance_step balance_at
balance_same s es c status p h = by_held 7 s es (λ k g. weigh_at k g c (weighing_of status p)) h

pub step_same : (f : Frame) (s : State) (es : List Entry) → ResultsSoFar s es → step_at f s ≡ step_of f s
step_same frame.Bad s es h = refl
step_same (frame.Lot a n) s es h = refl
step_same (frame.Card f g n) s es h = refl
step_same (frame.Critical k v) s es h = refl
step_same (frame.Range l i b r) s es h = refl
step_same (frame.Result c x) s es h = result_same s es c x h
step_same (frame.End n) s es h = refl
step_same (frame.Balance c status p) s es h = balance_same s es c status p h
