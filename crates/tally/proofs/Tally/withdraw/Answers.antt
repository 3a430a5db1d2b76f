-- `tally::Tally::withdraw` meets its promise: one place less, or the very tally. Assumes nothing.
use mathlib.Core.Path.{refl}
use Rattle.rules.proofs.RefusalLaws.{passed_on}
use Rattle.rules.proofs.Capacity.{capacity}
use Rattle.tally.proofs.Steps.{not_gone, gone_one}
use Rattle.tally.proofs.Tally.withdraw.Goals as goal

pub returns-in_err-gone : goal.returns-in_err-gone
returns-in_err-gone c = rw (passed_on c.from_residual.ensures.1) (not_gone _ _ _ _ _ c.in_err-gone.ensures.withdraws)

pub returns : goal.returns
returns c =
    rw (c.saturating_sub-self.ensures, c.from.ensures, c.saturating_sub-self-2.ensures, c.squared.ensures)
    (gone_one _ _ _ _ _ c.in_ok-gone.ensures _ (rw (c.min.ensures, capacity) refl))
