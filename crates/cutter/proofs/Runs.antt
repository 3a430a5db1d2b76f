-- A run of bytes, whatever the test. Assumes nothing.
use mathlib.Core.Path.{◌≡◌, refl, sym}
use mathlib.Core.Bool.{Bool, true, false, cond, ◌&&◌}
use mathlib.Core.List.{List, [], ◌∷◌}
use Prim.Native.Nat.{ℕ, suc, ◌+◌, ◌-◌, ◌≤◌, ◌<◌, min}
use native.Mathlib.Decide.{dec_le}
use native.Mathlib.Omega.{arith}
use lib.ListN.{length, get_or, take, drop}
use Rattle.std.specs.List.{fold, list_all, prefix_len, slice_range}
use Rattle.std.proofs.lemmas.Grind.{common_steps}
use Rattle.std.proofs.lemmas.List.{drop_min}
use Rattle.std.proofs.lemmas.List.Folds.{length-prefix_len}
use Rattle.std.proofs.lemmas.List.Sums.{prefix_len-drop_yes, prefix_len-drop_no, prefix_len-le-length, prefix_len_is, prefix_len_passes, prefix_len_stops, AllPass-from_list_all}
use Rattle.rules.specs.Choice.{pick}
use Rattle.cutter.specs.Runs.{run_of, run_at}

module _ (p : ℕ → Bool) where
  -- the library's word for it
  pub run_is : (l : List ℕ) → run_of p l ≡ prefix_len p l
  unfolding run_of
  run_is [] = refl
  run_is (x ∷ xs) = by (p x) (run_is xs)
    where
      by : (b : Bool) → run_of p xs ≡ prefix_len p xs → pick b (suc (run_of p xs)) 0 ≡ cond b (1 + prefix_len p xs) 0
      by true e = omega arith
      by false e = refl

  pub run_le : (l : List ℕ) → run_of p l ≤ length l
  run_le l = rw (run_is l) (prefix_len-le-length p l)

  -- each byte before its end passes, the one there does not, and that fixes it
  pub run_passes : (l : List ℕ) (i : ℕ) → i < run_of p l → p (get_or l i 0) ≡ true
  run_passes l i h = prefix_len_passes p l i 0 (rw (run_is l) at h)

  pub run_fails : (l : List ℕ) → run_of p l < length l → p (get_or l (run_of p l) 0) ≡ false
  run_fails l h = rw (run_is l) (prefix_len_stops p l 0 (rw (run_is l) at h))

  pub run_only : (l : List ℕ) (n : ℕ) → n ≤ length l → ((i : ℕ) → i < n → p (get_or l i 0) ≡ true) → (n < length l → p (get_or l n 0) ≡ false) → run_of p l ≡ n
  run_only l n h f g = rw (run_is l) (prefix_len_is p l n 0 h f g)

  pub run_length : (s : List ℕ) (a : ℕ) → length (run_at p s a) ≡ run_of p (drop a s)
  unfolding run_at
  run_length s a = rw (run_is (drop a s)) (length-prefix_len p (drop a s))

  -- the part from b, the lesser of a and the sheet's end, to the end of the run there
  pub run_part : (s : List ℕ) (a b e : ℕ) → b ≡ min a (length s) → e ≡ b + run_of p (drop b s) → take (e - b) (drop b s) ≡ run_at p s a
  unfolding run_at
  run_part s a b e l h = let k : e - b ≡ run_of p (drop b s) = omega arith in rw (k, l, drop_min a s)

  -- bytes looked at one by one, each with what is known of those before it
  pub all_by_fold : (l : List ℕ) (b : Bool) → fold (λ ok x. ok && p x) b l ≡ (b && list_all p l)
  all_by_fold [] true = refl
  all_by_fold [] false = refl
  all_by_fold (x ∷ xs) true = all_by_fold xs (p x)
  all_by_fold (x ∷ xs) false = all_by_fold xs false

  module _ (l : List ℕ) where
    -- where all bytes of a part pass, each does
    each_of : (a b k : ℕ) → list_all p (slice_range l a b) ≡ true → b ≤ length l → a ≤ k → k < b → p (get_or l k 0) ≡ true
    each_of a b k e h i j = grind (arith, common_steps, AllPass-from_list_all p (slice_range l a b) e (k - a) 0)

    -- The first eight bytes pass and the last eight up to n, and where those leave some out the second eight, so that all before n do; and
    -- the byte at n fails.
    pub eights : (n : ℕ) → 8 ≤ n → n ≤ 24 → n < length l → list_all p (slice_range l 0 8) ≡ true → list_all p (slice_range l (n - 8) n) ≡ true
        → (16 < n → list_all p (slice_range l 8 16) ≡ true) → p (get_or l n 0) ≡ false → n ≡ prefix_len p l
    eights n a b h first last second end = sym (prefix_len_is p l n 0 (omega arith) each (λ k. end))
      where
        each : (k : ℕ) → k < n → p (get_or l k 0) ≡ true
        each k j = by (dec_le 8 k) (dec_le (n - 8) k)
          where
            by : Dec (8 ≤ k) → Dec (n - 8 ≤ k) → p (get_or l k 0) ≡ true
            by (no q) r = each_of 0 8 k first (omega arith) (omega arith) (omega arith)
            by (yes q) (yes r) = each_of (n - 8) n k last (omega arith) r j
            by (yes q) (no r) = each_of 8 16 k (second (omega arith)) (omega arith) q (omega arith)

-- what `cut` adds to the place where a line starts, and cuts there
pub ruleset run_fits = (prefix_len-le-length)
