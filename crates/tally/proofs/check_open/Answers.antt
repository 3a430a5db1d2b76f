-- `tally::check_open` meets its promise. Assumes nothing.
use Rattle.std.proofs.Common.{rules}
use Rattle.tally.proofs.Answer.{opens}
use Rattle.tally.proofs.check_open.Goals as goal
use Rattle.rules.proofs.Capacity.{capacity}

pub returns : goal.returns
returns c = opens _ _ _ c.check_open.ensures (search rules) (search (rules, capacity))
