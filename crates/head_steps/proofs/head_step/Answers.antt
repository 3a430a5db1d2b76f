-- `head_steps::head_step` meets its contract.
use borrow.Author.Rules.{rules}
use Rattle.head_steps.proofs.head_step.Goals as goal

-- the card that the line of a lot leaves as it was
pub returns-in-Lot : goal.returns-in-Lot
returns-in-Lot c = search (rules, c.lot_step.ensures c.args.card.now)
