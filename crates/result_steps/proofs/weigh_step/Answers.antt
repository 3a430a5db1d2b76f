-- `result_steps::weigh_step` meets its contract.
use mathlib.Core.Path.{refl}
use Rattle.rules.specs.Reading.{balance_step}
use Rattle.rules.proofs.Tests.{not_passed, passed, refused_here}
use Rattle.rules.proofs.RefusalLaws.{never_zero, passed_on}
use Rattle.result_steps.proofs.ResultLaws.{not_stored, now_stored}
use Rattle.result_steps.proofs.weigh_step.Goals as goal

pub returns-then-not-takes : goal.returns-then-not-takes
unfolding balance_step
returns-then-not-takes c =
    let no = not_passed c.takes.ensures c.if-not-takes.true-raw in
    record { exact = refused_here _ no; right = λ last o. refused_here _ no; kept = refl }

pub returns-in_err-weigh : goal.returns-in_err-weigh
unfolding balance_step
returns-in_err-weigh c =
    rw (passed_on c.from_residual.ensures.1)
    (not_stored 7 _ c.args.stage c.in_err-weigh.ensures (passed c.takes.ensures c.if-not-takes.false-raw) (λ s. refl) refl refl (never_zero _))

pub returns : goal.returns
unfolding balance_step
returns c =
    now_stored 7 _ c.args.stage c.in_ok-weigh.ensures (passed c.takes.ensures c.if-not-takes.false-raw) (λ s. refl) refl refl refl
