-- The digits are written from the last on, each in front of those behind it.
use Rattle.std.proofs.Common.{refl, sym, ◌∙◌, ◌≡◌, ◌-◌, arith}
use native.Mathlib.Nat.{add-sub_cancel_left}
use Rattle.std.proofs.lemmas.Grind.{common_steps}
use Rattle.rules.proofs.TextLaws.{no_places, length_places}
use Rattle.decimal.proofs.LayingLaws.{digit_before, laid_by}
use Rattle.decimal.proofs.digits.Goals as goal

pub loop-i-init : goal.loop-i-init
loop-i-init c = record { from = omega arith; before = refl; behind = rw add-sub_cancel_left refl }

pub loop-i-preserved : goal.loop-i-preserved
loop-i-preserved c =
    let l = c.loop-i in
    record {
      from = omega arith;
      before = grind (arith, common_steps, l.invariant.before);
      behind = digit_before l.buf c.args.at l.i l.rest (omega arith) (omega arith) ∙ l.invariant.behind;
    }

pub returns : goal.returns
returns c =
    let l = c.loop-i in
    let none : l.i - c.args.at ≡ 0 = omega arith in
    let here : l.i ≡ c.args.at = omega arith in
    laid_by _ _ _ _ _ (sym (length_places _ _)) l.invariant.before (rw (none, no_places, here) at l.invariant.behind)
