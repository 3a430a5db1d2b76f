use Rattle.std.proofs.Common.{sym, ap, length}
use native.Mathlib.Omega.{arith}
use Rattle.rules.proofs.TextLaws.{one_digit}
use Rattle.decimal.proofs.LayingLaws.{width_is}
use Rattle.decimal.proofs.width.Goals as goal

-- src/lib.rt:10:1
pub returns-in-Some : goal.returns-in-Some
returns-in-Some c = sym (width_is c.args.n c.in-Some.log c.in-Some.ensures.bound c.in-Some.ensures.power_le c.in-Some.ensures.next_power_gt)

pub returns-in-None : goal.returns-in-None
returns-in-None c = sym (ap length (one_digit c.args.n (omega (arith, c.in-None.ensures.none))))
