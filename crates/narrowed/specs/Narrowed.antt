-- A container and a result of any size, as numbers of 16 bits.
use Rattle.std.specs.Prelude.{ℕ, min, leb}
use Rattle.rules.specs.Choice.{pick}
use Rattle.rules.specs.Limits.{widest}

-- a container above the widest number is handed on as 0: both are no container of any lot
abbrev pub kept_container : ℕ → ℕ
kept_container k = pick (leb k widest) k 0

-- an X above the widest number as that one: both are too high
abbrev pub kept_x : ℕ → ℕ
kept_x x = min x widest
