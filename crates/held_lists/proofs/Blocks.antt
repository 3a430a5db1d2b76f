-- A look that passes the places at the front that have no k, and goes on behind them. Assumes nothing.
use Prim.Native.Nat.{ℕ, ◌+◌, ◌-◌, ◌≤◌, ◌<◌}
use native.Mathlib.Omega.{arith}
use native.Mathlib.Decide.{dec_lt}
use mathlib.Core.Bool.{Bool, true, false, true≢false}
use mathlib.Core.Path.{◌≡◌, sym, ap, ◌∙◌}
use mathlib.Core.List.{List}
use lib.ListN.{length, get_or, take, drop}
use lib.Seq.{get_or-take, length-take-le, take_all}
use Rattle.std.proofs.lemmas.List.{get_or-drop, length-drop}
use Rattle.std.specs.Prelude.{Some, None}
use Rattle.rules.specs.Contents.{is_held}
use Rattle.held_lists.specs.Places.{stored, Without, FoundAt, Found}
use Rattle.held_lists.proofs.Stored.{stored_held}

-- places in which k is not found do not have it
without_it : (l vs : List ℕ) (n k : ℕ) → is_held (stored l vs n k) ≡ false → Without l n k
without_it l vs n k q i h e = true≢false (sym (stored_held l vs n k i h e) ∙ q)

-- what is behind the first a places
abbrev pub rest : List ℕ → ℕ → List ℕ
rest l a = take (length l - a) (drop a l)

rest_is : (l : List ℕ) (a : ℕ) → rest l a ≡ drop a l
rest_is l a = take_all (length l - a) (drop a l) (omega (arith, length-drop a l))

-- the place i behind the first a is place a + i
behind : (l : List ℕ) (a k i : ℕ) → get_or l (a + i) 0 ≡ k → get_or (drop a l) i 0 ≡ k
behind l a k i e = get_or-drop a l i 0 ∙ e

-- with the first a places, the n behind them
pub block_passed : (l vs : List ℕ) (a n k : ℕ) → a + n ≤ length l → Without l a k
    → is_held (stored (take n (rest l a)) vs (length (take n (rest l a))) k) ≡ false → Without l (a + n) k
block_passed l vs a n k room w q i h e = by (dec_lt i a)
  where
    size : length (take n (drop a l)) ≡ n
    size = length-take-le n (drop a l) (omega (arith, length-drop a l))

    by : Dec (i < a) → ⊥
    by (yes p) = w i p e
    by (no p) =
        let at : a + (i - a) ≡ i = omega arith in
        let inside : i - a < n = omega arith in
        let same = get_or-take n (drop a l) (i - a) 0 inside ∙ behind l a k (i - a) (ap (λ (j : ℕ). get_or l j 0) at ∙ e) in
        without_it (take n (drop a l)) vs _ k (rw (rest_is l a) at q) (i - a) (omega (arith, size)) same

-- what is found behind the first m places, none of which has k
module _ (l : List ℕ) (m k : ℕ) (within : m ≤ length l) (w : Without l m k) where
  without_behind : (n : ℕ) → Without (drop m l) n k → Without l (m + n) k
  without_behind n u i h e = by (dec_lt i m)
    where
      by : Dec (i < m) → ⊥
      by (yes p) = w i p e
      by (no p) =
          let at : m + (i - m) ≡ i = omega arith in
          u (i - m) (omega arith) (behind l m k (i - m) (ap (λ (j : ℕ). get_or l j 0) at ∙ e))

  pub none_behind : Found (rest l m) k None → Found l k None
  none_behind f i h e =
      let none = rw (rest_is l m) at f in
      without_behind (length (drop m l)) none i (omega (arith, length-drop m l)) e

  pub found_behind : (r : ℕ) → Found (rest l m) k (Some r) → Found l k (Some (m + r))
  found_behind r f =
      let found = rw (rest_is l m) at f in
      let inside : m + r < length l = omega (arith, found.0, length-drop m l) in
      (inside, record { within = omega (arith, inside); before = without_behind r found.1.before; here = λ h. sym (get_or-drop m l r 0) ∙ found.1.here found.0 })
