-- `tally::Tally::open` meets its promise: an empty tally of the lot and the card, or the very tally. Assumes nothing.
use Rattle.tally.proofs.Answer.{open_accepted}
use mathlib.Core.Path.{refl}
use borrow.Author.Rules.{rules}
use Rattle.tally.proofs.Tally.«open».Goals as goal
use Rattle.rules.proofs.Capacity.{capacity}

pub returns : goal.returns
returns c = open_accepted _ _ _ _ _ _ c.in_ok-check_open.ensures refl (search (rules, capacity)) (search (rules, capacity))
