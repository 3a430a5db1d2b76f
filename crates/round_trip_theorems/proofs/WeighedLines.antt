-- The lines of results that were weighed as nothing of the component. Assumes nothing.
use mathlib.Core.Path.{◌≡◌, refl, ap, ◌∙◌}
use mathlib.Core.Bool.{true}
use Prim.Native.Nat.{ℕ, zero, suc, ◌+◌, ◌*◌, ◌≤◌, ◌<◌}
use native.Mathlib.Omega.{arith}
use lib.ListN.{length, length-append}
use lib.Ieee.{binary32, of_fields, of_bits, to_bits}
use Rattle.rules.specs.Limits.{widest, balance_bytes}
use Rattle.rules.specs.Numbers.{gives}
use Rattle.rules.specs.Contents.{Contents, holds}
use Rattle.rules.specs.Rounding.{nearest_of}
use Rattle.rules.specs.Floats.{exact_of}
use Rattle.rules.specs.Weights.{bad_weight, tenths_of, ratio_of, share_of, weighed_of, weighing_of}
use Rattle.rules.specs.Attributes.{is_weighed}
use Rattle.rules.specs.Ledger.{Judged}
use Rattle.rules.specs.Reading.{State, goes, and_then, on_ledger, balance_step}
use Rattle.rules.specs.declared.Pans.{Pans}
use Rattle.rules.specs.declared.Lot.{Lot}
use Rattle.rules.specs.declared.Card.{Card}
use Rattle.rules.specs.declared.Stage.TheVariants as stage
use Rattle.rules.specs.declared.Frame.TheVariants as frame
use Rattle.rules.proofs.EveryStage.{balance_stands}
use Rattle.rules.proofs.FieldLaws.{length_digits}
use Rattle.rules.proofs.LedgerLaws.{weigh_good}
use Rattle.round_trip_theorems.specs.Statement.{balance_line, zero_line, zero_lines}
use Rattle.round_trip_theorems.proofs.Spelled.{balance_spells}
use Rattle.round_trip_theorems.proofs.Writable.{WritableResults}
use Rattle.round_trip_theorems.proofs.Reached.{Reaches, reach_none, reach_then}
use Rattle.round_trip_theorems.proofs.ResultLines.{ledger_at, ResultsReadBack, one_result}

-- 0 g and 1 g
abbrev nothing : Pans
nothing = record { component = of_bits binary32 0; remainder = of_bits binary32 0x3f80_0000 }

weighed_zero : weighing_of 0 nothing ≡ gives 0
unfolding weighed_of share_of tenths_of ratio_of bad_weight exact_of nearest_of of_fields of_bits to_bits
weighed_zero = refl

pub zero_length : (c : ℕ) → length (zero_line c) ≡ balance_bytes
unfolding balance_line
zero_length c = simp (length-append, length_digits)

pub zeros_length : (n : ℕ) → length (zero_lines n) ≡ balance_bytes * n
unfolding zero_lines
zeros_length zero = refl
zeros_length (suc n) = simp length-append (omega (arith, zeros_length n, zero_length (suc n)))

module _ (t : Lot) (c : Card) (f : Contents) (few : t.containers ≤ widest) (w : WritableResults t.containers f) (purity : is_weighed t.attribute ≡ true)
    (zeros : (k : ℕ) → k < t.containers → f (suc k) ≡ holds 0) where
  one_zero : (n : ℕ) → n < t.containers → (u : State) → ResultsReadBack t c f n u → Reaches (zero_line (suc n)) u (ResultsReadBack t c f (suc n))
  unfolding balance_step
  one_zero n h u r =
      one_result t c f few w n 0 h (zeros n h) u r (zero_line (suc n)) (frame.Balance (suc n) 0 nothing)
      (balance_spells (suc n) 0 0 0x3f80_0000 (omega arith) (omega arith) (omega arith) (omega arith))
      (rw (balance_stands u.stage ∙ r.turns.0, r.begins)
      (ap (λ (j : Judged). and_then j λ g. goes (on_ledger u stage.Result (u.results + 1) g)) (weigh_good (ledger_at t c f n) (suc n) 0 nothing 0 purity weighed_zero)))

  pub zeros_reach : (s : State) → ResultsReadBack t c f 0 s → (n : ℕ) → n ≤ t.containers → Reaches (zero_lines n) s (ResultsReadBack t c f n)
  unfolding zero_lines
  zeros_reach s r zero h = reach_none (ResultsReadBack t c f 0) s r
  zeros_reach s r (suc n) h =
      reach_then (ResultsReadBack t c f n) (ResultsReadBack t c f (suc n)) _ _ s (zeros_reach s r n (omega arith)) (one_zero n h)
