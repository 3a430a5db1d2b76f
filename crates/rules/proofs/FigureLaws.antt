-- The figures of a map with one result more. Assumes nothing.
use Prim.Native.Nat.{ℕ, ◌+◌, ◌*◌, ◌≤◌, min, max}
use mathlib.Core.Path.{◌≡◌, refl}
use Rattle.rules.specs.Limits.{widest}
use Rattle.rules.specs.Contents.{Contents, free, holds, none, put, total, one, value, square, largest, smallest}
use Rattle.rules.specs.Figures.{figures_of}
use Rattle.rules.proofs.CountLaws.{total_counted, largest_counted, smallest_counted}
use Rattle.rules.specs.declared.Figures.{Figures}

-- the figures with the result x more
abbrev pub with_result : Figures → ℕ → Figures
with_result f x =
    record {
      count = f.count + 1;
      sum = f.sum + x;
      squares = f.squares + x * x;
      smallest = min f.smallest x;
      largest = max f.largest x;
    }

pub figures_none : (n : ℕ) (f : Contents) → figures_of n none ≡ figures_of 0 f
unfolding total smallest largest
figures_none n f = λ i.
    record {
      count = (total_counted one refl).nothing n i;
      sum = (total_counted value refl).nothing n i;
      squares = (total_counted square refl).nothing n i;
      smallest = smallest_counted.nothing n i;
      largest = largest_counted.nothing n i;
    }

pub figures_put : (n : ℕ) (f : Contents) (k x : ℕ) → 1 ≤ k → k ≤ n → x ≤ widest → f k ≡ free → figures_of n (put f k (holds x)) ≡ with_result (figures_of n f) x
figures_put n f k x a b c e = λ i.
    record {
      count = (total_counted one refl).more n f k x a b c e i;
      sum = (total_counted value refl).more n f k x a b c e i;
      squares = (total_counted square refl).more n f k x a b c e i;
      smallest = smallest_counted.more n f k x a b c e i;
      largest = largest_counted.more n f k x a b c e i;
    }
