-- The results of two lists by their places, and of the map that they stand for: the same figures, and the same range. Assumes nothing.
use Prim.Native.Nat.{ℕ, zero, suc, ◌+◌, ◌≤◌, ◌<◌, min, max}
use native.Mathlib.Omega.{arith}
use native.Mathlib.Numerals.{add-one}
use mathlib.Core.Path.{◌≡◌, refl, sym, ap, ap₂, ◌∙◌}
use mathlib.Core.List.{List}
use lib.ListN.{length, take, get_or}
use lib.Seq.{get_or-take, length-take-le}
use Rattle.rules.specs.Limits.{widest}
use Rattle.rules.specs.Contents.{total, one, smallest, largest}
use Rattle.rules.specs.Figures.{figures_of}
use Rattle.rules.specs.Range.{IsRange}
use Rattle.rules.specs.declared.Figures.{Figures}
use Rattle.rules.specs.declared.Range.{Range}
use Rattle.rules.proofs.FigureLaws.{with_result, figures_none, figures_put}
use Rattle.rules.proofs.RangeLaws.{range_over, ends_around, is_range, range_only}
use Rattle.held_lists.specs.Places.{stored, in_order, Different, RangeRead}
use Rattle.held_lists.proofs.Stored.{fewer, last_without, stored_free}

pub count_in_order : (vs : List ℕ) (n : ℕ) → total one n (in_order vs) ≡ n
unfolding total
count_in_order vs zero = refl
count_in_order vs (suc n) = omega (arith, count_in_order vs n)

-- an end with one result more
pub smallest_turn : (vs : List ℕ) (n : ℕ) → min (smallest n (in_order vs)) (get_or vs n 0) ≡ smallest (n + 1) (in_order vs)
unfolding smallest
smallest_turn vs n = rw (add-one n) refl

pub largest_turn : (vs : List ℕ) (n : ℕ) → max (largest n (in_order vs)) (get_or vs n 0) ≡ largest (n + 1) (in_order vs)
unfolding largest
largest_turn vs n = rw (add-one n) refl

-- the largest is at most m exactly where every result is
pub largest_in_order : (m : ℕ) (vs : List ℕ) (n : ℕ) → ((i : ℕ) → i < n → get_or vs i 0 ≤ m) → largest n (in_order vs) ≤ m
unfolding largest
largest_in_order m vs zero h = omega arith
largest_in_order m vs (suc n) h = omega (arith, largest_in_order m vs n (λ i g. h i (omega arith)), h n (omega arith))

-- the places past the first n do not matter
same_places : (us vs : List ℕ) (n : ℕ) → ((i : ℕ) → i < n → get_or us i 0 ≡ get_or vs i 0) → figures_of n (in_order us) ≡ figures_of n (in_order vs)
unfolding total smallest largest
same_places us vs zero h = refl
same_places us vs (suc n) h = ap₂ with_result (same_places us vs n (λ i g. h i (omega arith))) (h n (omega arith))

pub figures_taken : (vs : List ℕ) (n : ℕ) → n ≤ length vs → figures_of (length (take n vs)) (in_order (take n vs)) ≡ figures_of n (in_order vs)
figures_taken vs n h = rw (length-take-le n vs h) (same_places (take n vs) vs n (λ i g. get_or-take n vs i 0 g))

low_in_order : (m : ℕ) (vs : List ℕ) (n : ℕ) → largest n (in_order vs) ≤ m → (i : ℕ) → i < n → get_or vs i 0 ≤ m
low_in_order m vs n h i a = omega (arith, h, (ends_around n (in_order vs) (suc i) (get_or vs i 0) (omega arith) (omega arith) refl).1)

-- ---- the map that the results stand for
fewer_different : (m : ℕ) (ks : List ℕ) (n : ℕ) → Different m ks (suc n) → Different m ks n
fewer_different m ks n d =
    record { apart = fewer ks n d.apart; above = λ i h. d.above i (omega arith); inside = λ i h. d.inside i (omega arith) }

pub figures_stored : (m : ℕ) (ks vs : List ℕ) (n : ℕ) → Different m ks n → ((i : ℕ) → i < n → get_or vs i 0 ≤ widest)
    → figures_of m (stored ks vs n) ≡ figures_of n (in_order vs)
unfolding stored total smallest largest
figures_stored m ks vs zero d low = figures_none m (in_order vs)
figures_stored m ks vs (suc n) d low =
    figures_put m (stored ks vs n) (get_or ks n 0) (get_or vs n 0) (d.above n (omega arith)) (d.inside n (omega arith)) (low n (omega arith))
    (stored_free ks vs n (get_or ks n 0) (last_without ks n d.apart))
    ∙ ap (λ (f : Figures). with_result f (get_or vs n 0)) (figures_stored m ks vs n (fewer_different m ks n d) (λ i h. low i (omega arith)))

-- what a walk over n results of 16 bits comes to
pub range_read : (vs : List ℕ) (n : ℕ) (r : Range) → r.read ≡ n → r.smallest ≡ smallest n (in_order vs) → r.largest ≡ largest n (in_order vs)
    → largest n (in_order vs) ≤ widest → RangeRead vs n r
range_read vs n r a b c most = record { places = rw places (is_range n (in_order vs) most); map = in_map }
  where
    places : r ≡ range_over n (in_order vs)
    places = λ i. record { read = (a ∙ sym (count_in_order vs n)) i; smallest = b i; largest = c i }

    in_map : (m : ℕ) (ks : List ℕ) → Different m ks n → IsRange m (stored ks vs n) r
    in_map m ks d =
        let same = sym (figures_stored m ks vs n d (low_in_order widest vs n most)) in
        let e : r ≡ range_over m (stored ks vs n) = places ∙ (λ i. record { read = (same i).count; smallest = (same i).smallest; largest = (same i).largest }) in
        rw e (is_range m (stored ks vs n) (rw (← ap (λ (f : Figures). f.largest) same) most))

pub range_is : (vs : List ℕ) (n : ℕ) (r : Range) → RangeRead vs n r → largest n (in_order vs) ≤ widest → r ≡ range_over n (in_order vs)
range_is vs n r h most = range_only n (in_order vs) r _ h.places (is_range n (in_order vs) most)
