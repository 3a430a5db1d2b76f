-- `result_steps::enter_step` meets its contract.
use mathlib.Core.Path.{refl}
use Rattle.rules.specs.Reading.{result_step}
use Rattle.rules.proofs.Tests.{not_passed, passed, refused_here}
use Rattle.rules.proofs.RefusalLaws.{never_zero, passed_on}
use Rattle.result_steps.proofs.ResultLaws.{not_stored, now_stored}
use Rattle.result_steps.proofs.enter_step.Goals as goal

pub returns-then-not-takes : goal.returns-then-not-takes
unfolding result_step
returns-then-not-takes c =
    let no = not_passed c.takes.ensures c.if-not-takes.true-raw in
    record { exact = refused_here _ no; right = λ last o. refused_here _ no; kept = refl }

pub returns-in_err-enter : goal.returns-in_err-enter
unfolding result_step
returns-in_err-enter c =
    rw (passed_on c.from_residual.ensures.1)
    (not_stored 5 _ c.args.stage c.in_err-enter.ensures (passed c.takes.ensures c.if-not-takes.false-raw) (λ s. refl) refl refl (never_zero _))

pub returns : goal.returns
unfolding result_step
returns c =
    now_stored 5 _ c.args.stage c.in_ok-enter.ensures (passed c.takes.ensures c.if-not-takes.false-raw) (λ s. refl) refl refl refl
