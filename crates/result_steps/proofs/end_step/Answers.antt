-- `result_steps::end_step` meets its contract.
use mathlib.Core.Path.{refl, sym, ◌∙◌}
use borrow.Author.Tests.{eq-eqb, ne_eqb}
use Rattle.rules.specs.Reading.{end_step}
use Rattle.rules.proofs.Tests.{not_passed, passed}
use Rattle.result_steps.proofs.end_step.Goals as goal

pub returns-then-not-takes : goal.returns-then-not-takes
unfolding end_step
returns-then-not-takes c =
    let no = not_passed c.takes.ensures c.if-not-takes.true-raw in
    record { exact = simp no; right = λ last o. simp no; kept = refl }

pub returns-then-from-t : goal.returns-then-from-t
unfolding end_step
returns-then-from-t c =
    let a = c.args in
    let may = passed c.takes.ensures c.if-not-takes.false-raw in
    let other = ne_eqb a.n a.t.now.held (λ q. c.if-from-t.true (c.from.ensures ∙ q)) in
    record { exact = simp (may, other); right = λ last o. simp (may, o.opened, other); kept = refl }

pub returns : goal.returns
unfolding end_step
returns c =
    let a = c.args in
    let may = passed c.takes.ensures c.if-not-takes.false-raw in
    let same = eq-eqb a.n a.t.now.held (sym c.from.ensures ∙ c.if-from-t.false) in
    record {
      exact = simp (may, same);
      result = refl;
      right = λ last o. simp (may, o.opened, same);
      proper = λ o. record { opened = refl; sound = o.sound };
    }
