-- A number above the largest of 32 bits is answered by every call beside the tally as the largest is: so a program that hands
-- words on as numbers of 32 bits says what is right for the exact numbers. Assumes nothing.
use mathlib.Core.Path.{◌≡◌, refl, sym, ◌∙◌}
use mathlib.Core.Bool.{Bool, true, false, ◌&&◌}
use mathlib.Core.List.{List, [], ◌∷◌, map}
use Prim.Native.Nat.{ℕ, zero, suc, ◌-◌, ◌≤◌, ◌<◌}
use native.Mathlib.Decide.{dec_le}
use native.Mathlib.Omega.{arith}
use lib.Dec.{leb}
use lib.ListN.{get_or, length-map}
use borrow.Author.Tests.{le-leb, lt-leb, lt-ltb, leb-true}
use Rattle.rules.specs.Limits.{highest_x, widest}
use Rattle.rules.specs.Numbers.{refuses}
use Rattle.rules.specs.Sampling.{in_table, sampling_of}
use Rattle.rules.specs.Tolerance.{label_of, pair_of, average_of, table14_g}
use Rattle.rules.specs.Mixing.{mixing_of, largest_of, smallest_of}
use Rattle.rules.proofs.Tests.{and_false, and_left, and_right}
use Rattle.decimal_words.specs.Words.{largest32, capped}

whole : (n : ℕ) → n ≤ largest32 → capped n ≡ n
whole n h = omega arith

-- ---- sampling
outside : (n : ℕ) → widest < n → in_table n ≡ false
outside n h = rw (lt-leb n widest h) (and_false (leb 1 n))

outside_capped : (n : ℕ) → largest32 < n → in_table (capped n) ≡ false
outside_capped n h = outside (capped n) (omega arith)

pub sampling_capped : (k c : ℕ) → sampling_of (capped k) (capped c) ≡ sampling_of k c
sampling_capped k c = by (dec_le k largest32) (dec_le c largest32)
  where
    by : Dec (k ≤ largest32) → Dec (c ≤ largest32) → sampling_of (capped k) (capped c) ≡ sampling_of k c
    by (yes p) (yes q) = rw (whole k p, whole c q)
    by (yes p) (no q) = rw (outside_capped c (omega arith), outside c (omega arith), and_false (in_table (capped k)), and_false (in_table k))
    by (no p) q = rw (outside_capped k (omega arith), outside k (omega arith))

-- ---- tolerance
at_most : ℕ → List ℕ → Bool
at_most n [] = true
at_most n (x ∷ xs) = leb x n && at_most n xs

at_most_lem : (n : ℕ) (xs : List ℕ) → at_most n xs ≡ true → (i : ℕ) → get_or xs i 0 ≤ n
unfolding at_most
at_most_lem n [] e i = omega arith
at_most_lem n (x ∷ xs) e zero = leb-true x n (and_left (leb x n) _ e)
at_most_lem n (x ∷ xs) e (suc i) = at_most_lem n xs (and_right (leb x n) _ e) i

most_found_lem : (i : ℕ) → get_or table14_g i 0 ≤ 116
unfolding at_most
most_found_lem i = at_most_lem 116 table14_g refl i

pub label_capped : (labelled found : ℕ) → label_of (capped labelled) (capped found) ≡ label_of labelled found
label_capped l f = by (dec_le l largest32) (dec_le f largest32)
  where
    by : Dec (l ≤ largest32) → Dec (f ≤ largest32) → label_of (capped l) (capped f) ≡ label_of l f
    by (no p) q = rw (lt-leb (capped l) 100 (omega arith), lt-leb l 100 (omega arith))
    by (yes p) (yes q) = rw (whole l p, whole f q)
    by (yes p) (no q) =
        let n = most_found_lem l in
        rw (whole l p, lt-leb (capped f) (get_or table14_g l 0) (omega arith), lt-leb f (get_or table14_g l 0) (omega arith))

high : (a b : ℕ) → 501 < average_of a b → pair_of a b ≡ refuses 17
high a b h = rw (lt-ltb 501 (average_of a b) h)

pub pair_capped : (a b : ℕ) → pair_of (capped a) (capped b) ≡ pair_of a b
pair_capped a b = by (dec_le a largest32) (dec_le b largest32)
  where
    by : Dec (a ≤ largest32) → Dec (b ≤ largest32) → pair_of (capped a) (capped b) ≡ pair_of a b
    by (yes p) (yes q) = rw (whole a p, whole b q)
    by (yes p) (no q) = high (capped a) (capped b) (omega arith) ∙ sym (high a b (omega arith))
    by (no p) q = high (capped a) (capped b) (omega arith) ∙ sym (high a b (omega arith))

-- ---- mixing
largest_capped : (xs : List ℕ) → largest_of (map capped xs) ≡ capped (largest_of xs)
unfolding largest_of
largest_capped [] = refl
largest_capped (x ∷ xs) = omega (arith, largest_capped xs)

low_capped : (xs : List ℕ) → largest_of xs ≤ highest_x → map capped xs ≡ xs
unfolding largest_of
low_capped [] h = refl
low_capped (x ∷ xs) h = rw (whole x (omega arith), low_capped xs (omega arith))

pub mixing_capped : (xs : List ℕ) (tolerated : ℕ) → mixing_of (map capped xs) (capped tolerated) ≡ mixing_of xs tolerated
mixing_capped xs t = by (dec_le (largest_of xs) highest_x) (dec_le t largest32)
  where
    by : Dec (largest_of xs ≤ highest_x) → Dec (t ≤ largest32) → mixing_of (map capped xs) (capped t) ≡ mixing_of xs t
    by (no p) q =
        rw (length-map xs capped, largest_capped xs, lt-leb (capped (largest_of xs)) highest_x (omega arith), lt-leb (largest_of xs) highest_x (omega arith))
    by (yes p) (yes q) = rw (low_capped xs p, whole t q)
    by (yes p) (no q) =
        rw (low_capped xs p, le-leb (largest_of xs - smallest_of xs) (capped t) (omega arith), le-leb (largest_of xs - smallest_of xs) t (omega arith))
