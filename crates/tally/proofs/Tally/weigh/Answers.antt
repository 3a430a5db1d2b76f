-- `tally::Tally::weigh` meets its promise: one place more, or the very tally. Assumes nothing.
use Rattle.std.proofs.Common.{rules}
use Rattle.rules.proofs.RefusalLaws.{passed_on}
use Rattle.rules.proofs.Capacity.{capacity}
use Rattle.tally.proofs.Steps.{not_stored, stored_one}
use Rattle.tally.proofs.Tally.weigh.Goals as goal

pub returns-in_err-weigh_in : goal.returns-in_err-weigh_in
returns-in_err-weigh_in c = rw (passed_on c.from_residual.ensures.1) (not_stored _ _ _ _ _ _ _ _ c.in_err-weigh_in.ensures)

pub returns : goal.returns
returns c = rw c.count_one_more.ensures (stored_one _ _ _ _ _ _ _ (search (rules, capacity)) c.in_ok-weigh_in.ensures)
