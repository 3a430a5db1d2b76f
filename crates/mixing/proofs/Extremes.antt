-- The largest and the smallest of a list, gathered from the first to the last. Assumes nothing.
use mathlib.Core.Path.{◌≡◌, ap}
use mathlib.Core.List.{List, [], ◌∷◌}
use Prim.Native.Nat.{ℕ, ◌≤◌, ◌<◌, max, min}
use native.Mathlib.Omega.{arith}
use lib.ListN.{length}
use Rattle.std.specs.List.{fold}
use Rattle.rules.specs.Mixing.{largest_of, smallest_of}

abbrev pub wider : ℕ × ℕ → ℕ → ℕ × ℕ
wider p x = (max p.0 x, min p.1 x)

lowest : (l : List ℕ) → smallest_of l ≤ 10000
unfolding smallest_of
lowest [] = omega arith
lowest (x ∷ xs) = omega (arith, lowest xs)

from : (a b : ℕ) (l : List ℕ) → b ≤ 10000
    → ((fold wider (a, b) l).0 ≡ max a (largest_of l)) × ((fold wider (a, b) l).1 ≡ min b (smallest_of l))
unfolding largest_of smallest_of
from a b [] h = (omega arith, omega arith)
from a b (x ∷ xs) h =
    let e = from (max a x) (min b x) xs (omega arith) in (omega (arith, e.0), omega (arith, e.1))

pub gathered : (l : List ℕ) {p : ℕ × ℕ} → p ≡ fold wider (0, 10000) l → (p.0 ≡ largest_of l) × (p.1 ≡ smallest_of l)
gathered l {p} e =
    let f = from 0 10000 l (omega arith) in
    (omega (arith, ap (λ (q : ℕ × ℕ). q.0) e, f.0), omega (arith, ap (λ (q : ℕ × ℕ). q.1) e, f.1, lowest l))

-- of a list with an element the smallest is not above the largest
pub ordered : (l : List ℕ) → 0 < length l → smallest_of l ≤ largest_of l
unfolding largest_of smallest_of
ordered [] some = absurd (omega arith)
ordered (x ∷ xs) some = omega arith
