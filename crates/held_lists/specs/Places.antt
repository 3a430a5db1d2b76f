-- What the lists of a tally stand for, the containers and the results, and what the calls on them promise.
use Rattle.std.specs.Prelude.{ℕ, zero, suc, ◌≤◌, ◌<◌, ◌≡◌, Bool, false, ◌||◌, List, length, get_or, Option, Some, None}
use Rattle.rules.specs.Contents.{Contents, free, holds, none, put, is_held}
use Rattle.rules.specs.Range.{IsRange}
use Rattle.rules.specs.declared.Range.{Range}

-- the map that the first n places of two lists, of containers and of results, stand for
unfoldable pub stored : List ℕ → List ℕ → ℕ → Contents
stored ks vs zero = none
stored ks vs (suc n) = put (stored ks vs n) (get_or ks n 0) (holds (get_or vs n 0))

-- the results as a map by their places: place k of the list stands for container k + 1
abbrev pub in_order : List ℕ → Contents
in_order vs zero = free
in_order vs (suc k) = holds (get_or vs k 0)

-- no two of the first n places of l are the same
abbrev pub Apart : List ℕ → ℕ → Type 0
Apart l n = (i j : ℕ) → i < n → j < n → get_or l i 0 ≡ get_or l j 0 → i ≡ j

-- the first n places of l are containers of a lot that has m, no two the same
pub record Different (m : ℕ) (l : List ℕ) (n : ℕ) : Type 0 where
  pub apart : Apart l n
  pub above : (i : ℕ) → i < n → 1 ≤ get_or l i 0
  pub inside : (i : ℕ) → i < n → get_or l i 0 ≤ m

-- r is the range of the first n results of vs; whatever containers these are of, it is the range of the map that they stand for
pub record RangeRead (vs : List ℕ) (n : ℕ) (r : Range) : Type 0 where
  pub places : IsRange n (in_order vs) r
  pub map : (m : ℕ) (ks : List ℕ) → Different m ks n → IsRange m (stored ks vs n) r

-- the first n places of l have no k
abbrev pub Without : List ℕ → ℕ → ℕ → Type 0
Without l n k = (i : ℕ) → i < n → get_or l i 0 ≡ k → ⊥

-- r is the first of the n places of l that has k, or n where none has
pub record FoundAt (l : List ℕ) (n k r : ℕ) : Type 0 where
  pub within : r ≤ n
  pub before : Without l r k
  pub here : r < n → get_or l r 0 ≡ k

-- r is the first place of l that has k, or none where none has
abbrev pub Found : List ℕ → ℕ → Option ℕ → Type 0
Found l k (Some r) = (r < length l) × FoundAt l (length l) k r
Found l k None = Without l (length l) k

-- whether one of the first m containers of l is held
unfoldable pub meets : Contents → List ℕ → ℕ → Bool
meets f l zero = false
meets f l (suc m) = meets f l m || is_held (f (get_or l m 0))
