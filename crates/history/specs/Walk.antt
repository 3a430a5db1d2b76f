-- The walk that finds the range, on every tally that a list of calls ends with: by what the map of the ledger holds.
use Rattle.std.specs.Prelude.{ℕ, ◌-◌, ◌≡◌, List, take}
use base.Fml.{Lft}
use Rattle.std.specs.Borrow.{Bor}
use Rattle.rules.specs.Ledger.{Ledger, containers}
use Rattle.rules.specs.Range.{IsRange}
use Rattle.rules.specs.declared.Range.{Range}
use Rattle.tally.specs.declared.Tally.{Tally}
use Rattle.history.specs.Calls.{Calls, ledger, Answer}
use Rattle.history.specs.Run.{Run}
use Rattle.history.specs.Steps.{RangeStep}
use Rattle.history.specs.Ranges.{range}

-- What a walk over the results that a ledger holds gave: their range, which is what the line of R is worked out of.
pub record Walked (g : Ledger) (r : Range) : Type 0 where
  pub held : IsRange (containers g) g.contents r
  pub shown : range g ≡ r.largest - r.smallest

pub record EveryWalk : Type 0 where
  pub walks : (cs : Calls) (ns : List Answer) (t : Tally) → Run cs ns t → (κ : Lft) (results : Bor (List ℕ)) → results.now ≡ take t.held t.results
      → (r : Range) → RangeStep κ results r → Walked (ledger cs) r
