-- `tally::Tally::join` meets its promise: all places of the other more, or the very tally. Assumes nothing.
use Rattle.std.proofs.Common.{Err, ◌+◌, ◌-◌, arith}
use Rattle.rules.proofs.RefusalLaws.{never_zero, passed_on}
use Rattle.tally.proofs.Joining.{joins, joins_not}
use Rattle.tally.proofs.Tally.join.Goals as goal

pub returns-in_err-check_join : goal.returns-in_err-check_join
returns-in_err-check_join c =
    rw (passed_on c.from_residual.ensures.1) (joins_not c.args.self.now c.args.other.now (Err _) c.in_err-check_join.ensures (never_zero _))

pub returns : goal.returns
returns c =
    let t = c.args.self.now in
    let o = c.args.other.now in
    rw (c.copy_from_slice.ensures.after, c.copy_from_slice-2.ensures.after, c.saturating_add-self.ensures, c.saturating_add-self-2.ensures)
    (joins t o c.in_ok-check_join.ensures (t.held + o.held - t.held) (omega arith))
