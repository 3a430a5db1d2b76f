-- The ends of the range that the figures have are the only two numbers that are its ends. Assumes nothing.
use Prim.Native.Nat.{ℕ, zero, suc, ◌+◌, ◌≤◌, min, max}
use native.Mathlib.Omega.{arith}
use native.Mathlib.Decide.{ℕ_discrete, dec_le}
use mathlib.Core.Path.{◌≡◌, refl, sym, ap, ◌∙◌}
use Rattle.rules.specs.Limits.{widest}
use Rattle.rules.specs.Contents.{Content, Contents, free, holds, total, one, value, value_or_widest, size, smallest, largest}
use Rattle.rules.specs.Range.{Has, IsRange}
use Rattle.rules.specs.declared.Range.{Range}

-- number and ends of a map over the containers 1 to n, as the figures have them
abbrev pub range_over : ℕ → Contents → Range
range_over n f = record { read = size n f; smallest = smallest n f; largest = largest n f }

-- ---- no held result lies outside
has_more : (n : ℕ) (f : Contents) (x : ℕ) → Has n f x → Has (suc n) f x
has_more n f x h = record { container = h.container; first = h.first; last = omega (arith, h.last); result = h.result }

has_last : (n : ℕ) (f : Contents) (x : ℕ) → f (suc n) ≡ holds x → Has (suc n) f x
has_last n f x e = record { container = suc n; first = omega arith; last = omega arith; result = e }

pub ends_around : (n : ℕ) (f : Contents) (k x : ℕ) → 1 ≤ k → k ≤ n → f k ≡ holds x → (smallest n f ≤ x) × (x ≤ largest n f)
unfolding smallest largest
ends_around zero f k x a b e = absurd (omega arith)
ends_around (suc n) f k x a b e = go (ℕ_discrete k (suc n)) (λ h. ends_around n f k x a h e)
  where
    go : Dec (k ≡ suc n) → (k ≤ n → (smallest n f ≤ x) × (x ≤ largest n f))
        → (min (smallest n f) (value_or_widest (f (suc n))) ≤ x) × (x ≤ max (largest n f) (value (f (suc n))))
    go (yes q) r =
        let here : f (suc n) ≡ holds x = sym (ap f q) ∙ e in
        (omega (arith, ap value_or_widest here), omega (arith, ap value here))
    go (no h) r = let s = r (omega arith) in (omega (arith, s.0), omega (arith, s.1))

-- ---- where nothing is held
ends_of_none : (n : ℕ) (f : Contents) → size n f ≡ 0 → (smallest n f ≡ widest) × (largest n f ≡ 0)
unfolding total smallest largest
ends_of_none zero f e = (refl, refl)
ends_of_none (suc n) f e = go (f (suc n)) e (ends_of_none n f)
  where
    go : (p : Content) → size n f + one p ≡ 0 → (size n f ≡ 0 → (smallest n f ≡ widest) × (largest n f ≡ 0))
        → (min (smallest n f) (value_or_widest p) ≡ widest) × (max (largest n f) (value p) ≡ 0)
    go free q r = let s = r (omega (arith, q)) in (omega (arith, s.0), omega (arith, s.1))
    go (holds x) q r = absurd (omega (arith, q))

-- ---- both ends are held
smallest_most : (n : ℕ) (f : Contents) → smallest n f ≤ widest
unfolding smallest
smallest_most zero f = omega arith
smallest_most (suc n) f = omega (arith, smallest_most n f)

smallest_held : (n : ℕ) (f : Contents) → largest n f ≤ widest → 1 ≤ size n f → Has n f (smallest n f)
unfolding total smallest largest
smallest_held zero f h a = absurd (omega (arith, a))
smallest_held (suc n) f h a = go (f (suc n)) refl h a (smallest_held n f (omega (arith, h)))
  where
    go : (p : Content) → f (suc n) ≡ p → max (largest n f) (value p) ≤ widest → 1 ≤ size n f + one p → (1 ≤ size n f → Has n f (smallest n f))
        → Has (suc n) f (min (smallest n f) (value_or_widest p))
    go free q b c r =
        let e : min (smallest n f) widest ≡ smallest n f = omega (arith, smallest_most n f) in rw e (has_more n f _ (r (omega (arith, c))))
    go (holds x) q b c r = by (dec_le x (smallest n f)) (dec_le 1 (size n f))
      where
        by : Dec (x ≤ smallest n f) → Dec (1 ≤ size n f) → Has (suc n) f (min (smallest n f) x)
        by (yes s) d = let e : min (smallest n f) x ≡ x = omega (arith, s) in rw e (has_last n f x q)
        by (no s) (yes d) = let e : min (smallest n f) x ≡ smallest n f = omega arith in rw e (has_more n f _ (r d))
        by (no s) (no d) = absurd (omega (arith, b, (ends_of_none n f (omega arith)).0))

largest_held : (n : ℕ) (f : Contents) → 1 ≤ size n f → Has n f (largest n f)
unfolding total largest
largest_held zero f a = absurd (omega (arith, a))
largest_held (suc n) f a = go (f (suc n)) refl a (largest_held n f)
  where
    go : (p : Content) → f (suc n) ≡ p → 1 ≤ size n f + one p → (1 ≤ size n f → Has n f (largest n f)) → Has (suc n) f (max (largest n f) (value p))
    go free q c r = let e : max (largest n f) 0 ≡ largest n f = omega arith in rw e (has_more n f _ (r (omega (arith, c))))
    go (holds x) q c r = by (dec_le (largest n f) x) (dec_le 1 (size n f))
      where
        by : Dec (largest n f ≤ x) → Dec (1 ≤ size n f) → Has (suc n) f (max (largest n f) x)
        by (yes s) d = let e : max (largest n f) x ≡ x = omega (arith, s) in rw e (has_last n f x q)
        by (no s) (yes d) = let e : max (largest n f) x ≡ largest n f = omega arith in rw e (has_more n f _ (r d))
        by (no s) (no d) = absurd (omega (arith, (ends_of_none n f (omega arith)).1))

-- the figures' number and ends are the range, where every result has 16 bits
pub is_range : (n : ℕ) (f : Contents) → largest n f ≤ widest → IsRange n f (range_over n f)
is_range n f h =
    record {
      number = refl;
      smallest = smallest_held n f h;
      largest = largest_held n f;
      within = λ x p. ends_around n f p.container x p.first p.last p.result;
      nothing = ends_of_none n f;
    }

-- ---- and nothing else is
pub range_only : (n : ℕ) (f : Contents) (r s : Range) → IsRange n f r → IsRange n f s → r ≡ s
range_only n f r s a b = go (dec_le 1 (size n f))
  where
    same : r.smallest ≡ s.smallest → r.largest ≡ s.largest → r ≡ s
    same p q = λ i. record { read = (a.number ∙ sym b.number) i; smallest = p i; largest = q i }

    go : Dec (1 ≤ size n f) → r ≡ s
    go (yes h) =
        same (omega (arith, (a.within _ (b.smallest h)).0, (b.within _ (a.smallest h)).0))
        (omega (arith, (a.within _ (b.largest h)).1, (b.within _ (a.largest h)).1))
    go (no h) =
        let p = a.nothing (omega arith) in
        let q = b.nothing (omega arith) in
        same (p.0 ∙ sym q.0) (p.1 ∙ sym q.1)
