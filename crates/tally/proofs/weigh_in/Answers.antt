-- `tally::weigh_in` meets its promise: out of turn, the enter of an X, or a weighing that has none. Assumes nothing.
use mathlib.Core.Path.{sym, ap, ◌∙◌}
use Prim.Native.Nat.{ℕ}
use borrow.Author.Tests.{eq-eqb}
use Rattle.rules.specs.Numbers.{answer_of}
use Rattle.rules.specs.Weights.{weighing_of}
use Rattle.rules.proofs.RefusalLaws.{never_zero}
use Rattle.tally.proofs.Steps.{weighs_enters, weighs_refused_in}
use Rattle.tally.proofs.weigh_in.Goals as goal

pub returns-in-Ok : goal.returns-in-Ok
returns-in-Ok c =
    let a = c.args in
    weighs_enters _ _ _ a.held a.container a.status a.pans _ (eq-eqb _ 0 c.if-lot-ne0.false) _ _ _
    (ap (λ (n : ℕ). weighing_of n a.pans) (sym c.from.ensures) ∙ ap answer_of (sym c.in-Ok.ensures)) c.enter_in.ensures

pub returns-in-Err : goal.returns-in-Err
returns-in-Err c =
    let a = c.args in
    weighs_refused_in _ _ _ a.held a.container a.status a.pans _ (eq-eqb _ 0 c.if-lot-ne0.false) _
    (ap (λ (n : ℕ). weighing_of n a.pans) (sym c.from.ensures) ∙ ap answer_of (sym c.in-Err.ensures)) (never_zero _) c.unweighed.ensures
