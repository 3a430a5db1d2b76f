use Rattle.std.proofs.Common.{◌-◌, ◌≤◌}
use Rattle.lotmixing.specs.Listing.{ReadOf}
use Rattle.lotmixing.proofs.read_words.Given as goal

abbrev pub invariant-loop-i : goal.invariant-loop-i
invariant-loop-i g l = record { within : l.i - 1 ≤ l.arguments - 1; read : ReadOf (l.i - 1) l.numbers }
