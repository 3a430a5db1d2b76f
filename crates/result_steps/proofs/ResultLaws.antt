-- Laws of the lines once the lot is opened. Assumes nothing.
use mathlib.Core.Path.{◌≡◌, refl, sym, ap, ◌∙◌}
use mathlib.Core.Bool.{true, false}
use Rattle.std.specs.Prelude.{Result, ⊤}
use Prim.Native.Nat.{ℕ, ◌+◌}
use borrow.Author.Tests.{ne_eqb}
use Rattle.rules.specs.Numbers.{number_in}
use Rattle.rules.specs.Ledger.{Ledger, Judged}
use Rattle.rules.specs.Stages.{is_of_results, may_stand, is_opened}
use Rattle.rules.specs.Reading.{State, Next, goes, stops, on_ledger, and_then, result_by, lot_step, card_step, critical_step, range_step, step_of}
use Rattle.rules.specs.declared.Refusal.{Refusal}
use Rattle.rules.specs.declared.Stage.{Stage}
use Rattle.rules.specs.declared.Stage.TheVariants as stage
use Rattle.rules.specs.declared.Frame.{Frame}
use Rattle.rules.specs.declared.Frame.TheVariants as frame
use Rattle.tally.specs.declared.Tally.{Tally}
use Rattle.tally.specs.View.{view, with_result}
use Rattle.tally.specs.Calls.{Stores}
use Rattle.head_steps.specs.Promise.{is_result}
use Rattle.result_steps.specs.Promise.{opened_state, refused, result_on, line_on, Proper, ResultTaken, ResultRefused}
use Rattle.rules.proofs.Tests.{false_true}
use Rattle.rules.proofs.EveryStage.{at_every_stage}

-- no frame of another kind than 05, 06 and 07 may stand then
shut : (kind : ℕ) → is_of_results kind ≡ false → (s : Stage) → is_opened s ≡ true → may_stand kind s ≡ false
shut kind e = at_every_stage (λ s. is_opened s ≡ true → may_stand kind s ≡ false) false_true false_true false_true false_true false_true (λ o. e) (λ o. refl)

too_late : (kind : ℕ) → is_of_results kind ≡ false → (f : Frame) → ((s : State) → may_stand kind s.stage ≡ false → step_of f s ≡ stops 2)
    → (s : Stage) (t : Tally) → line_on f s t ≡ refused 2 → ResultRefused f s t 2 t
too_late kind e f step s t q =
    record { exact = q; right = λ last o. step (opened_state last s t) (shut kind e s o.opened); kept = refl }

-- no frame of lot or card
module _ (s : Stage) (t : Tally) where
  pub lot_late : (a n : ℕ) → ResultRefused (frame.Lot a n) s t 2 t
  unfolding lot_step
  lot_late a n = too_late 1 refl _ (λ s e. simp e) _ _ refl

  pub card_late : (f g n : ℕ) → ResultRefused (frame.Card f g n) s t 2 t
  unfolding card_step
  card_late f g n = too_late 2 refl _ (λ s e. simp e) _ _ refl

  pub critical_late : (k v : ℕ) → ResultRefused (frame.Critical k v) s t 2 t
  unfolding critical_step
  critical_late k v = too_late 3 refl _ (λ s e. simp e) _ _ refl

  pub range_late : (lo hi b r : ℕ) → ResultRefused (frame.Range lo hi b r) s t 2 t
  unfolding range_step
  range_late lo hi b r = too_late 4 refl _ (λ s e. simp e) _ _ refl

-- ---- a result: by the call on the tally, which takes this step of the ledger
module _ (kind : ℕ) (f : Frame) (s : Stage) {t : Tally} {k x m : ℕ} {step : Ledger → Judged} {e : Result ⊤ Refusal} {u : Tally}
    (a : Stores t k x m step e u) (turn : may_stand kind s ≡ true) (is : (s : State) → step_of f s ≡ result_by kind s step)
    (on : line_on f s t ≡ result_on kind s t k x m) (result : is_result f ≡ true) where
  entered : (last : ℕ) → Proper s t
      → step_of f (opened_state last s t)
      ≡ and_then (record { number = number_in e; ledger = view u }) (λ h. goes (on_ledger (opened_state last s t) stage.Result (t.held + 1) h))
  entered last o =
      let next : Ledger → Next = λ h. goes (on_ledger (opened_state last s t) stage.Result (t.held + 1) h) in
      is (opened_state last s t) ∙ simp (turn, o.opened) (ap (λ (j : Judged). and_then j next) (sym (a.answers.right o.sound)))

  pub not_stored : (number_in e ≡ 0 → ⊥) → ResultRefused f s t (number_in e) u
  not_stored z =
      let no = ne_eqb (number_in e) 0 z in
      record { exact = on ∙ simp (turn, ← a.number, no); right = λ last o. entered last o ∙ simp no; kept = a.answers.kept z }

  steps_on : (last : ℕ) → Proper s t → number_in e ≡ 0 → u ≡ with_result t k x → step_of f (opened_state last s t) ≡ goes (opened_state last stage.Result u)
  steps_on last o z more =
      let next : Tally → Next = λ v. goes (on_ledger (opened_state last s t) stage.Result (t.held + 1) (view v)) in
      let goes_on : step_of f (opened_state last s t) ≡ next u = entered last o ∙ simp z in
      goes_on ∙ (ap next more ∙ ap (λ (v : Tally). goes (opened_state last stage.Result v)) (sym more))

  pub now_stored : number_in e ≡ 0 → ResultTaken f s t stage.Result u
  now_stored z =
      let more : u ≡ with_result t k x = a.after ∙ simp z in
      record {
        exact = on ∙ simp (turn, ← a.number, z, more);
        result = result;
        right = λ last o. steps_on last o z more;
        proper = λ o. record { opened = refl; sound = a.answers.sound o.sound };
      }
