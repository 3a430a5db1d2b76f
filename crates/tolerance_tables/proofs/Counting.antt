-- As the tops rise, the rows with a top below the average stand before all others. Assumes nothing.
use mathlib.Core.Path.{◌≡◌, refl, ◌∙◌}
use mathlib.Core.List.{List, [], ◌∷◌, map}
use Prim.Native.Nat.{ℕ, zero, suc, ◌≤◌, ◌<◌}
use native.Mathlib.Nat.{le_of_suc-le-suc, not-suc-le-zero}
use native.Mathlib.Omega.{arith}
use borrow.Author.Tests.{le-leb, lt-ltb, le-ltb, leb-true, leb-false}
use lib.Dec.{leb, ltb}
use lib.ListN.{length, get_or, take}
use Rattle.std.specs.Prelude.{Bool, true, false, cond}
use Rattle.std.specs.List.{count_by}
use Rattle.std.proofs.lemmas.List.Sums.{sum_by-cons}
use Rattle.rules.specs.Choice.{pick}
use Rattle.rules.specs.Tolerance.{row, table14_h, difference_for}
use Rattle.rules.specs.Tolerance as rules
use Rattle.tolerance_tables.specs.declared.tables.Row.{Row}
use Rattle.tolerance_tables.specs.Entries.{coded}
use Rattle.tolerance_tables.proofs.Rising.{tops_rise}

abbrev pub top_of : List rules.Row → ℕ → ℕ
top_of l i = (get_or l i (row 0 0)).top

module _ (average : ℕ) where
  abbrev is_below : Row → Bool
  is_below r = ltb r.top average

  -- how many rows have a top below the average
  abbrev below : List Row → ℕ
  below l = count_by is_below l

  one_more : (r : Row) (rs : List Row) → r.top < average → below (r ∷ rs) ≡ suc (below rs)
  one_more r rs h = rw (sum_by-cons (λ (x : Row). cond (is_below x) 1 0) r rs, lt-ltb r.top average h) (omega arith)

  no_more : (r : Row) (rs : List Row) → average ≤ r.top → below (r ∷ rs) ≡ below rs
  no_more r rs h = rw (sum_by-cons (λ (x : Row). cond (is_below x) 1 0) r rs, le-ltb r.top average h) (omega arith)

  none_below :
      (l : List rules.Row) (n : ℕ) → ((k : ℕ) → k < length l → average ≤ top_of l k) → below (take n (map coded l)) ≡ 0
  none_below l zero high = refl
  none_below [] (suc n) high = refl
  none_below (r ∷ rs) (suc n) high =
      no_more (coded r) (take n (map coded rs)) (high 0 (omega arith)) ∙ none_below rs n (λ k h. high (suc k) (omega arith))

  -- the tolerated difference of the row behind those of the first n with a top below the average
  abbrev taken : List rules.Row → ℕ → ℕ
  taken l n = (get_or (map coded l) (below (take n (map coded l))) (coded (row 0 0))).tolerated

  -- where the first row serves the average it is taken
  first :
      (r : rules.Row) (rs : List rules.Row) (n : ℕ) → ((k : ℕ) → k < length rs → r.top < top_of rs k) → average ≤ r.top
      → taken (r ∷ rs) (suc n) ≡ r.tolerated
  first r rs n above served =
      rw (no_more (coded r) (take n (map coded rs)) served ∙ none_below rs n (λ k h. omega (arith, above k h)))

  -- where the tops rise and the one at n is at least the average, the row is the one that the definition takes
  within :
      (l : List rules.Row) (n : ℕ) → ((j k : ℕ) → j < k → k < length l → top_of l j < top_of l k) → n < length l → average ≤ top_of l n
      → taken l n ≡ difference_for l average
  unfolding difference_for
  within [] n rise h high = absurd (not-suc-le-zero h)
  within (r ∷ rs) zero rise h high = rw (le-leb average r.top high) refl
  within (r ∷ rs) (suc n) rise h high =
      by (leb average r.top) refl (within rs n (λ i j g f. rise (suc i) (suc j) (omega arith) (omega arith)) (le_of_suc-le-suc h) high)
    where
      by : (b : Bool) → leb average r.top ≡ b → taken rs n ≡ difference_for rs average
          → taken (r ∷ rs) (suc n) ≡ pick b r.tolerated (difference_for rs average)
      by true e rest = first r rs n (λ j g. rise 0 (suc j) (omega arith) (omega arith)) (leb-true average r.top e)
      by false e rest = rw (one_more (coded r) (take n (map coded rs)) (leb-false average r.top e)) rest

  -- Table 14H, of which the last row is not counted
  pub chosen :
      {rows : List Row} {n : ℕ} → average ≤ 501 → rows ≡ map coded table14_h → n ≡ below (take 57 rows)
      → (get_or rows n (coded (row 0 0))).tolerated ≡ difference_for table14_h average
  chosen inside e f = rw (f, e) (within table14_h 57 tops_rise (omega arith) inside)
