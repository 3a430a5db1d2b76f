-- From the last digit on: with those that are left to write before place i, the rest of the buffer is as it shall be.
use Rattle.std.proofs.Common.{◌≡◌, ◌+◌, ◌-◌, ◌≤◌, ◌++◌, take, drop}
use Rattle.rules.specs.Text.{last_digits}
use Rattle.decimal.proofs.digits.Given as goal

abbrev pub invariant-loop-i : goal.invariant-loop-i
invariant-loop-i l = record {
  from : l.at ≤ l.i;
  before : take l.at l.buf ≡ take l.at l.fn.buf;
  behind : last_digits (l.i - l.at) l.rest ++ drop l.i l.buf ≡ last_digits l.k l.n ++ drop (l.at + l.k) l.fn.buf;
}
