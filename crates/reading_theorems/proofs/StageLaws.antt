-- The stages in their order, and where a frame may stand. Assumes nothing.
use mathlib.Core.Path.{◌≡◌, refl, sym, ◌∙◌}
use mathlib.Core.Bool.{Bool, true, false, ◌||◌, true≢false}
use Prim.Native.Nat.{ℕ, ◌+◌, ◌≤◌}
use native.Mathlib.Omega.{arith}
use lib.Dec.{eqb, leb}
use borrow.Author.Tests.{eqb-true, lt-leb}
use Rattle.rules.specs.Stages.{is_of_results, may_stand, is_opened, is_ended}
use Rattle.rules.specs.declared.Stage.{Stage}
use Rattle.rules.specs.declared.Stage.TheVariants as stage

-- how far a sheet has come: the kind of the frame before, 0 for none
abbrev pub kind_before : Stage → ℕ
kind_before stage.Start = 0
kind_before stage.Lot = 1
kind_before stage.Card = 2
kind_before stage.Critical = 3
kind_before stage.Range = 4
kind_before stage.Result = 5
kind_before stage.End = 6

opened_from : (t : Stage) → is_opened t ≡ leb 5 (kind_before t)
opened_from stage.Start = refl
opened_from stage.Lot = refl
opened_from stage.Card = refl
opened_from stage.Critical = refl
opened_from stage.Range = refl
opened_from stage.Result = refl
opened_from stage.End = refl

pub ended_opened : (t : Stage) → is_ended t ≡ true → is_opened t ≡ true
ended_opened stage.Start e = absurd (true≢false (sym e))
ended_opened stage.Lot e = absurd (true≢false (sym e))
ended_opened stage.Card e = absurd (true≢false (sym e))
ended_opened stage.Critical e = absurd (true≢false (sym e))
ended_opened stage.Range e = absurd (true≢false (sym e))
ended_opened stage.Result e = refl
ended_opened stage.End e = refl

-- A frame of kind k that may stand behind one of kind j: 01 and 02 behind the kind before them, the others behind the card's head,
-- behind no higher kind.
pub record Follows (k j : ℕ) : Type 0 where
  pub first : k ≤ 2 → j + 1 ≡ k
  pub later : 3 ≤ k → 2 ≤ j
  pub rising : j ≤ k

module _ (k : ℕ) where
  -- one of the kinds from j on
  from : (j : ℕ) (a : Bool) → (a ≡ true → j ≤ k) → eqb k j || a ≡ true → j ≤ k
  from j a f e = by (eqb k j) refl e
    where
      by : (b : Bool) → eqb k j ≡ b → b || a ≡ true → j ≤ k
      by true q e = omega (arith, eqb-true k j q)
      by false q e = f e

  from_6 : eqb k 6 || eqb k 7 ≡ true → 6 ≤ k
  from_6 e = from 6 (eqb k 7) (λ q. omega (arith, eqb-true k 7 q)) e

  from_5 : is_of_results k ≡ true → 5 ≤ k
  from_5 e = from 5 (eqb k 6 || eqb k 7) (λ q. omega (arith, from_6 q)) e

  from_4 : eqb k 4 || is_of_results k ≡ true → 4 ≤ k
  from_4 e = from 4 (is_of_results k) (λ q. omega (arith, from_5 q)) e

  from_3 : eqb k 3 || (eqb k 4 || is_of_results k) ≡ true → 3 ≤ k
  from_3 e = from 3 (eqb k 4 || is_of_results k) (λ q. omega (arith, from_4 q)) e

  headed : (j : ℕ) → 2 ≤ j → j ≤ k → 3 ≤ k → Follows k j
  headed j a b c = record { first = λ h. absurd (omega arith); later = λ h. a; rising = b }

  begins : (j : ℕ) → j ≤ 1 → k ≡ j + 1 → Follows k j
  begins j a e = record { first = λ h. omega arith; later = λ h. absurd (omega arith); rising = omega arith }

  pub follows : (t : Stage) → may_stand k t ≡ true → Follows k (kind_before t)
  follows stage.Start e = begins 0 (omega arith) (eqb-true k 1 e)
  follows stage.Lot e = begins 1 (omega arith) (eqb-true k 2 e)
  follows stage.Card e = let h = from_3 e in headed 2 (omega arith) (omega arith) h
  follows stage.Critical e = let h = from_3 e in headed 3 (omega arith) h h
  follows stage.Range e = let h = from_4 e in headed 4 (omega arith) h (omega arith)
  follows stage.Result e = let h = from_5 e in headed 5 (omega arith) h (omega arith)
  follows stage.End e = absurd (true≢false (sym e))

  -- before the results the lot is not opened
  pub unopened : (t : Stage) → k ≤ 4 → may_stand k t ≡ true → is_opened t ≡ false
  unopened t h e = opened_from t ∙ lt-leb 5 (kind_before t) (omega (arith, (follows t e).rising))
