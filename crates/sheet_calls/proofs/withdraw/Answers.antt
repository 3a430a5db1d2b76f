-- `sheet_calls::withdraw` meets its contract. Assumes nothing.
use mathlib.Core.Path.{refl}
use Rattle.rules.specs.OnSheets.{withdraw_sheet}
use Rattle.sheet_calls.proofs.Calling.{at_fault, at_refusal, at_unwritten, at_written, withdrawing, withdrawn}
use Rattle.sheet_calls.proofs.withdraw.Goals as goal

pub returns-in_err-tally : goal.returns-in_err-tally
unfolding withdraw_sheet
returns-in_err-tally c = at_fault _ 0 (withdrawing c.args.container) _ _ _ c.from_residual.ensures.1 c.in_err-tally.ensures

pub returns-in_err-withdraw : goal.returns-in_err-withdraw
unfolding withdraw_sheet
returns-in_err-withdraw c =
    let reads = c.in_ok-tally.ensures in
    at_refusal _ 0 (withdrawing c.args.container) _ reads _ _ _ c.from_residual-in_err-withdraw.ensures.1 refl
    (withdrawn _ reads.sound _ c.container.ensures c.in_err-withdraw.ensures.answers)

pub returns-in_err-write : goal.returns-in_err-write
unfolding withdraw_sheet
returns-in_err-write c =
    let reads = c.in_ok-tally.ensures in
    let made = c.in_ok-withdraw.ensures.answers in
    at_unwritten _ 0 (withdrawing c.args.container) _ reads _ (withdrawn _ reads.sound _ c.container.ensures made)
    (made.sound reads.sound) _ c.from_residual-in_err-write.ensures.1 c.in_err-write.ensures

pub returns : goal.returns
unfolding withdraw_sheet
returns c =
    let reads = c.in_ok-tally.ensures in
    let made = c.in_ok-withdraw.ensures.answers in
    at_written _ 0 (withdrawing c.args.container) _ reads _ (withdrawn _ reads.sound _ c.container.ensures made)
    (made.sound reads.sound) c.in_ok-write.ensures
