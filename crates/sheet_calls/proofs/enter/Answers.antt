-- `sheet_calls::enter` meets its contract. Assumes nothing.
use mathlib.Core.Path.{refl}
use Rattle.rules.specs.OnSheets.{enter_sheet}
use Rattle.sheet_calls.proofs.Calling.{at_fault, at_refusal, at_unwritten, at_written, entering, entered}
use Rattle.sheet_calls.proofs.enter.Goals as goal

pub returns-in_err-tally : goal.returns-in_err-tally
unfolding enter_sheet
returns-in_err-tally c = at_fault _ 0 (entering c.args.container c.args.x) _ _ _ c.from_residual.ensures.1 c.in_err-tally.ensures

pub returns-in_err-enter : goal.returns-in_err-enter
unfolding enter_sheet
returns-in_err-enter c =
    let reads = c.in_ok-tally.ensures in
    at_refusal _ 0 (entering c.args.container c.args.x) _ reads _ _ _ c.from_residual-in_err-enter.ensures.1 refl
    (entered _ reads.sound _ _ c.container.ensures c.result.ensures c.in_err-enter.ensures.answers)

pub returns-in_err-write : goal.returns-in_err-write
unfolding enter_sheet
returns-in_err-write c =
    let reads = c.in_ok-tally.ensures in
    let made = c.in_ok-enter.ensures.answers in
    at_unwritten _ 0 (entering c.args.container c.args.x) _ reads _ (entered _ reads.sound _ _ c.container.ensures c.result.ensures made)
    (made.sound reads.sound) _ c.from_residual-in_err-write.ensures.1 c.in_err-write.ensures

pub returns : goal.returns
unfolding enter_sheet
returns c =
    let reads = c.in_ok-tally.ensures in
    let made = c.in_ok-enter.ensures.answers in
    at_written _ 0 (entering c.args.container c.args.x) _ reads _ (entered _ reads.sound _ _ c.container.ensures c.result.ensures made)
    (made.sound reads.sound) c.in_ok-write.ensures
