-- Laws of the map from containers to results. Assumes nothing.
use Prim.Native.Nat.{ℕ, zero, suc, ◌+◌, ◌≤◌, ◌<◌}
use native.Mathlib.Omega.{arith}
use native.Mathlib.Decide.{ℕ_discrete}
use mathlib.Core.Bool.{Bool, true, false, ◌&&◌, ◌||◌, true≢false}
use mathlib.Core.Path.{◌≡◌, refl, sym, ap, ◌∙◌, fun_ext}
use borrow.Author.Tests.{eq-eqb, ne_eqb}
use Rattle.rules.specs.Contents.{Content, Contents, free, holds, none, put, or_else, union, is_held, total, one, shared}
use Rattle.rules.proofs.Tests.{and_true, and_false, or_false}

-- ---- what a place holds
pub free_is : (p : Content) → is_held p ≡ false → p ≡ free
free_is free e = refl
free_is (holds x) e = absurd (true≢false e)

pub one_held : (p : Content) → is_held p ≡ true → one p ≡ 1
one_held free e = absurd (true≢false (sym e))
one_held (holds x) e = refl

pub either_held : (p q : Content) (P : Type 0) → (is_held p ≡ true → P) → (is_held q ≡ true → P) → is_held (or_else p q) ≡ true → P
either_held free q P a b e = b e
either_held (holds x) q P a b e = a refl

-- ---- one place at a time
pub put_same : (f : Contents) (k : ℕ) (p : Content) → put f k p k ≡ p
put_same f k p = simp (eq-eqb k k refl)

pub put_other : (f : Contents) (k : ℕ) (p : Content) (j : ℕ) → (j ≡ k → ⊥) → put f k p j ≡ f j
put_other f k p j h = simp (ne_eqb j k h)

pub put_self : (f : Contents) (k : ℕ) (p : Content) → f k ≡ p → put f k p ≡ f
put_self f k p e = fun_ext λ j. go j (ℕ_discrete j k)
  where
    go : (j : ℕ) → Dec (j ≡ k) → put f k p j ≡ f j
    go j (yes q) = simp (eq-eqb j k q) (sym e ∙ ap f (sym q))
    go j (no h) = put_other f k p j h

pub put_put : (f : Contents) (k : ℕ) (p q : Content) → put (put f k p) k q ≡ put f k q
put_put f k p q = fun_ext λ j. go j (ℕ_discrete j k)
  where
    go : (j : ℕ) → Dec (j ≡ k) → put (put f k p) k q j ≡ put f k q j
    go j (yes e) = simp (eq-eqb j k e)
    go j (no h) = simp (ne_eqb j k h)

pub put_comm : (f : Contents) (k l : ℕ) (p q : Content) → (k ≡ l → ⊥) → put (put f k p) l q ≡ put (put f l q) k p
put_comm f k l p q n = fun_ext λ j. go j (ℕ_discrete j k) (ℕ_discrete j l)
  where
    go : (j : ℕ) → Dec (j ≡ k) → Dec (j ≡ l) → put (put f k p) l q j ≡ put (put f l q) k p j
    go j (yes e) (yes e') = absurd (n (sym e ∙ e'))
    go j (yes e) (no h) = simp (eq-eqb j k e, ne_eqb j l h)
    go j (no h) (yes e) = simp (eq-eqb j l e, ne_eqb j k h)
    go j (no h) (no h') = simp (ne_eqb j k h, ne_eqb j l h')

pub union_none : (f : Contents) → union f none ≡ f
union_none f = fun_ext λ k. go (f k)
  where
    go : (p : Content) → or_else p free ≡ p
    go free = refl
    go (holds x) = refl

pub union_put : (f g : Contents) (k : ℕ) (p : Content) → f k ≡ free → union f (put g k p) ≡ put (union f g) k p
union_put f g k p e = fun_ext λ j. go j (ℕ_discrete j k)
  where
    go : (j : ℕ) → Dec (j ≡ k) → union f (put g k p) j ≡ put (union f g) k p j
    go j (yes q) = simp (eq-eqb j k q, ap f q ∙ e)
    go j (no h) = simp (ne_eqb j k h)

-- ---- sums over the places
-- a place outside 1 to n does not count
pub total_beyond : (w : Content → ℕ) (n : ℕ) (f : Contents) (k : ℕ) (p : Content) → n < k → total w n (put f k p) ≡ total w n f
unfolding total
total_beyond w zero f k p h = refl
total_beyond w (suc n) f k p h =
    simp (put_other f k p (suc n) (λ e. omega arith), total_beyond w n f k p (omega arith))

-- a place within it: what it had goes, and what it has comes
pub total_put : (w : Content → ℕ) (n : ℕ) (f : Contents) (k : ℕ) (p : Content) → 1 ≤ k → k ≤ n → total w n (put f k p) + w (f k) ≡ total w n f + w p
unfolding total
total_put w zero f k p a b = absurd (omega arith)
total_put w (suc n) f k p a b = go (ℕ_discrete k (suc n)) (total_put w n f k p a)
  where
    go : Dec (k ≡ suc n) → (k ≤ n → total w n (put f k p) + w (f k) ≡ total w n f + w p) → total w n (put f k p) + w (put f k p (suc n)) + w (f k) ≡ total w n f + w (f (suc n)) + w p
    go (yes e) r =
        omega (
          arith,
          total_beyond w n f k p (omega arith),
          ap (λ (j : ℕ). w (put f k p j)) (sym e),
          ap w (put_same f k p),
          ap (λ (j : ℕ). w (f j)) e,
        )
    go (no h) r = omega (arith, r (omega arith), ap w (put_other f k p (suc n) (λ q. h (sym q))))

pub total_none : (w : Content → ℕ) (n : ℕ) → w free ≡ 0 → total w n none ≡ 0
unfolding total
total_none w zero e = refl
total_none w (suc n) e = omega (arith, total_none w n e)

-- ---- no place held by both: the test, and what it tells
pub total_union : (w : Content → ℕ) (n : ℕ) (f g : Contents) → w free ≡ 0 → shared n f g ≡ false → total w n (union f g) ≡ total w n f + total w n g
unfolding total shared
total_union w zero f g e s = refl
total_union w (suc n) f g e s = go (f (suc n)) (g (suc n)) (shared n f g) refl s (total_union w n f g e)
  where
    go : (p q : Content) (b : Bool) → shared n f g ≡ b → b || (is_held p && is_held q) ≡ false → (shared n f g ≡ false → total w n (union f g) ≡ total w n f + total w n g)
        → total w n (union f g) + w (or_else p q) ≡ total w n f + w p + (total w n g + w q)
    go p q true d t r = absurd (true≢false t)
    go free q false d t r = omega (arith, r d)
    go (holds x) free false d t r = omega (arith, r d)
    go (holds x) (holds y) false d t r = absurd (true≢false t)

pub shared_beyond : (n : ℕ) (f g : Contents) (k : ℕ) (p : Content) → n < k → shared n f (put g k p) ≡ shared n f g
unfolding shared
shared_beyond zero f g k p h = refl
shared_beyond (suc n) f g k p h =
    simp (put_other g k p (suc n) (λ e. omega arith), shared_beyond n f g k p (omega arith))

-- one more held on one side
pub shared_put : (n : ℕ) (f g : Contents) (k x : ℕ) → 1 ≤ k → k ≤ n → g k ≡ free → shared n f (put g k (holds x)) ≡ shared n f g || is_held (f k)
unfolding shared
shared_put zero f g k x a b e = absurd (omega arith)
shared_put (suc n) f g k x a b e = go (ℕ_discrete k (suc n)) (shared_put n f g k x a)
  where
    swap : (a b c : Bool) → a || b || c ≡ a || c || b
    swap true b c = refl
    swap false true true = refl
    swap false true false = refl
    swap false false true = refl
    swap false false false = refl

    go : Dec (k ≡ suc n) → (k ≤ n → g k ≡ free → shared n f (put g k (holds x)) ≡ shared n f g || is_held (f k))
        → shared n f (put g k (holds x)) || (is_held (f (suc n)) && is_held (put g k (holds x) (suc n))) ≡ shared n f g || (is_held (f (suc n)) && is_held (g (suc n))) || is_held (f k)
    go (yes q) r =
        simp (shared_beyond n f g k (holds x) (omega arith), eq-eqb (suc n) k (sym q), ap g (sym q) ∙ e, ap f q, and_true, and_false, or_false)
    go (no h) r = simp (ne_eqb (suc n) k (λ q. h (sym q)), r (omega arith) e) (swap (shared n f g) (is_held (f k)) (is_held (f (suc n)) && is_held (g (suc n))))

pub shared_none : (n : ℕ) (f : Contents) → shared n f none ≡ false
unfolding shared
shared_none zero f = refl
shared_none (suc n) f = simp (shared_none n f, and_false)
