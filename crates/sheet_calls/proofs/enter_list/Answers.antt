-- `sheet_calls::enter_list` meets its contract. Assumes nothing.
use Rattle.rules.specs.ListReading.{list_on}
use Rattle.rules.specs.OnSheets.{enter_list_sheet}
use Rattle.sheet_calls.proofs.Calling.{at_fault, at_refusal, at_unwritten, at_written}
use Rattle.sheet_calls.proofs.enter_list.Goals as goal

pub returns-in_err-tally : goal.returns-in_err-tally
unfolding enter_list_sheet
returns-in_err-tally c = at_fault _ 2 (λ g. list_on g c.args.list.now) _ _ _ c.from_residual.ensures.1 c.in_err-tally.ensures

pub returns-in_err-read_list : goal.returns-in_err-read_list
unfolding enter_list_sheet
returns-in_err-read_list c =
    let reads = c.in_ok-tally.ensures in
    let made = c.in_err-read_list.ensures in
    at_refusal _ 2 (λ g. list_on g c.args.list.now) _ reads _ _ _ c.from_residual-in_err-read_list.ensures.1 made.file (made.right reads.sound)

pub returns-in_err-write : goal.returns-in_err-write
unfolding enter_list_sheet
returns-in_err-write c =
    let reads = c.in_ok-tally.ensures in
    let made = c.in_ok-read_list.ensures in
    at_unwritten _ 2 (λ g. list_on g c.args.list.now) _ reads _ (made.right reads.sound) (made.sound reads.sound)
    _ c.from_residual-in_err-write.ensures.1 c.in_err-write.ensures

pub returns : goal.returns
unfolding enter_list_sheet
returns c =
    let reads = c.in_ok-tally.ensures in
    let made = c.in_ok-read_list.ensures in
    at_written _ 2 (λ g. list_on g c.args.list.now) _ reads _ (made.right reads.sound) (made.sound reads.sound) c.in_ok-write.ensures
