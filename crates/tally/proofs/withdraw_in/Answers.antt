-- `tally::withdraw_in` meets its promise: that of the withdraw that gives the result. Assumes nothing.
use Rattle.rules.proofs.RefusalLaws.{passed_on}
use Rattle.tally.proofs.withdraw_in.Goals as goal

pub returns-in_err-take_off : goal.returns-in_err-take_off
returns-in_err-take_off c = rw (passed_on c.from_residual.ensures.1) c.in_err-take_off.ensures.withdraws

pub returns : goal.returns
returns c = c.in_ok-take_off.ensures.withdraws
