-- The digits of n are its last ones, as many as it has.
use Rattle.std.proofs.Common.{rules}
use Rattle.rules.proofs.TextLaws.{length_places}
use Rattle.decimal.proofs.LayingLaws.{decimal_last, laying_fits}
use Rattle.decimal.proofs.number.Goals as goal

pub returns-then-has_room : goal.returns-then-has_room
returns-then-has_room c = rw (decimal_last c.args.n, ← c.width-size.ensures) (laying_fits _ _ _ _ _ (rw length_places (search rules)) c.digits.ensures)
