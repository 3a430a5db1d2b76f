-- The whole part, the point and the places, one behind the other.
use Rattle.std.proofs.Common.{sym, ◌∙◌, arith, length-append}
use borrow.Author.Tests.{leb-true}
use Rattle.rules.proofs.TextLaws.{pointed_is, length_places}
use Rattle.decimal.proofs.LayingLaws.{decimal_last, then_at, more_at, laying_fits}
use Rattle.decimal.proofs.pointed.Goals as goal

pub returns-then-has_room : goal.returns-then-has_room
returns-then-has_room c =
    let room = leb-true _ _ (sym c.has_room.ensures ∙ c.if-has_room.true) in
    let point = simp length_places at c.digits-point.ensures.count in
    rw (pointed_is c.args.places c.args.n (omega arith), ← c.without-whole.ensures, decimal_last c.without-whole.result, ← c.width-size.ensures, ← c.from-behind.ensures)
    (laying_fits _ _ _ _ _ (simp (length-append, length_places) (omega arith))
    (then_at (more_at _ c.digits-point.ensures (omega arith) (omega arith)) c.digits.ensures (omega arith)))
