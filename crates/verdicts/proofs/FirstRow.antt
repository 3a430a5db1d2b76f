-- The first of the rows that serves, from where a search over them stops. Assumes nothing.
use Prim.Native.Nat.{ℕ, zero, suc, ◌≤◌, ◌<◌}
use native.Mathlib.Numerals.{add-one}
use native.Mathlib.Omega.{arith}
use mathlib.Core.Path.{◌≡◌, refl, ◌∙◌}
use mathlib.Core.Bool.{true, false}
use lib.ListN.{get_or}
use Rattle.std.specs.Prelude.{Option, None, Some, MatchOption}
use Rattle.std.specs.Option.{option_map}
use Rattle.rules.specs.Figures.{row_serves, tolerated_upto}
use Rattle.rules.specs.declared.Card.{Card}
use Rattle.rules.specs.declared.Fraction.{Fraction}
use Rattle.rules.proofs.RowLaws.{none_yet, row_passed, row_found}

module _ (c : Card) (n : ℕ) (mean : Fraction) where
  passed : (m : ℕ) → ((k : ℕ) → 0 ≤ k → k < m → row_serves c k n mean ≡ false) → None ≡ tolerated_upto c n mean m
  passed zero h = none_yet c n mean
  passed (suc m) h =
      rw (← add-one m)
      (row_passed c n mean m (row_serves c m n mean) (passed m (λ k l g. h k l (omega arith))) refl (h m (omega arith) (omega arith)))

  -- r: where the search over the first m rows stopped
  pub first_found : (m : ℕ) (r o : Option ℕ)
      → MatchOption r ((k : ℕ) → 0 ≤ k → k < m → row_serves c k n mean ≡ false)
      (λ i. (0 ≤ i) × (i < m) × (row_serves c i n mean ≡ true) × ((k : ℕ) → 0 ≤ k → k < i → row_serves c k n mean ≡ false))
      → o ≡ option_map (λ k. get_or c.tolerated k 0) r
      → o ≡ tolerated_upto c n mean m
  first_found m None o h e = e ∙ passed m h
  first_found m (Some i) o h e = e ∙ row_found c n mean i m (row_serves c i n mean) (passed i h.3) refl h.2 h.1
