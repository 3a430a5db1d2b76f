-- `result_steps::result_step` meets its contract: no frame of lot or card may stand then.
use mathlib.Core.Logic.{inl, inr}
use Rattle.result_steps.proofs.ResultLaws.{lot_late, card_late, critical_late, range_late}
use Rattle.result_steps.proofs.result_step.Goals as goal

pub returns-in-Lot : goal.returns-in-Lot
returns-in-Lot c =
    elim c.in-Lot.is [
      | inl a ↦ rw a.2 (lot_late _ _ _ _)
      | inr o ↦ elim o [
        | inl a ↦ rw a.3 (card_late _ _ _ _ _)
        | inr o ↦ elim o [
          | inl a ↦ rw a.2 (critical_late _ _ _ _)
          | inr a ↦ rw a.4 (range_late _ _ _ _ _ _)
        ]
      ]
    ]
