-- A count over the containers of a lot: sums, the largest and the smallest result. Assumes nothing.
use Prim.Native.Nat.{ℕ, zero, suc, ◌+◌, ◌≤◌, ◌<◌, min, max}
use native.Mathlib.Omega.{arith}
use native.Mathlib.Decide.{ℕ_discrete}
use mathlib.Core.Path.{◌≡◌, refl, sym, ap, ap₂, ◌∙◌}
use Rattle.rules.specs.Limits.{widest}
use Rattle.rules.specs.Contents.{Content, Contents, free, holds, none, put, total, value, value_or_widest, largest, smallest}
use Rattle.rules.proofs.ContentLaws.{put_same, put_other}

-- what is counted by op, from start on: of nothing held, and of one result more
pub record Counted (op : ℕ → ℕ → ℕ) (start : ℕ) (w : Content → ℕ) (t : ℕ → Contents → ℕ) : Type 0 where
  pub nothing : (n : ℕ) → t n none ≡ start
  pub more : (n : ℕ) (f : Contents) (k x : ℕ) → 1 ≤ k → k ≤ n → x ≤ widest → f k ≡ free → t n (put f k (holds x)) ≡ op (t n f) (w (holds x))

-- The count t goes from container to container. A free place changes nothing, and two results may be
-- taken in either order.
module _
    (op : ℕ → ℕ → ℕ)
    (start : ℕ)
    (w : Content → ℕ)
    (t : ℕ → Contents → ℕ)
    (first : (f : Contents) → t 0 f ≡ start)
    (next : (n : ℕ) (f : Contents) → t (suc n) f ≡ op (t n f) (w (f (suc n))))
    (unchanged : op start (w free) ≡ start)
    (passed : (a x : ℕ) → x ≤ widest → op (op a (w free)) (w (holds x)) ≡ op a (w (holds x)))
    (either : (a b c : ℕ) → op (op a b) c ≡ op (op a c) b)
  where
    beyond : (n : ℕ) (f : Contents) (k : ℕ) (p : Content) → n < k → t n (put f k p) ≡ t n f
    beyond zero f k p h = first (put f k p) ∙ sym (first f)
    beyond (suc n) f k p h =
        next n (put f k p) ∙ (rw (beyond n f k p (omega arith), put_other f k p (suc n) (λ e. omega arith)) (sym (next n f)))

    counted_put : (n : ℕ) (f : Contents) (k x : ℕ) → 1 ≤ k → k ≤ n → x ≤ widest → f k ≡ free → t n (put f k (holds x)) ≡ op (t n f) (w (holds x))
    counted_put zero f k x a b c e = absurd (omega arith)
    counted_put (suc n) f k x a b c e = go (ℕ_discrete k (suc n)) (λ h. counted_put n f k x a h c e)
      where
        go : Dec (k ≡ suc n) → (k ≤ n → t n (put f k (holds x)) ≡ op (t n f) (w (holds x))) → t (suc n) (put f k (holds x)) ≡ op (t (suc n) f) (w (holds x))
        go (yes q) r =
            next n (put f k (holds x))
            ∙ (ap₂ op (beyond n f k (holds x) (omega arith)) (ap w (ap (put f k (holds x)) (sym q) ∙ put_same f k (holds x)))
            ∙ (sym (passed (t n f) x c) ∙ cc (next n f, ap f q, e)))
        go (no h) r =
            next n (put f k (holds x))
            ∙ (ap₂ op (r (omega arith)) (ap w (put_other f k (holds x) (suc n) (λ q. h (sym q))))
            ∙ (either (t n f) (w (holds x)) (w (f (suc n))) ∙ ap (λ (m : ℕ). op m (w (holds x))) (sym (next n f))))

    counted_none : (n : ℕ) → t n none ≡ start
    counted_none zero = first none
    counted_none (suc n) = next n none ∙ (rw (counted_none n) unchanged)

    counted : Counted op start w t
    counted = record { nothing = counted_none; more = counted_put }

-- ---- sums, the largest and the smallest
pub total_counted : (w : Content → ℕ) → w free ≡ 0 → Counted ◌+◌ 0 w (total w)
unfolding total
total_counted w e =
    counted ◌+◌ 0 w (total w) (λ f. refl) (λ n f. refl) (omega arith) (λ a x h. omega arith) (λ a b c. omega arith)

pub largest_counted : Counted max 0 value largest
unfolding largest
largest_counted =
    counted max 0 value largest (λ f. refl) (λ n f. refl) (omega arith) (λ a x h. omega arith) (λ a b c. omega arith)

pub smallest_counted : Counted min widest value_or_widest smallest
unfolding smallest
smallest_counted =
    counted min widest value_or_widest smallest (λ f. refl) (λ n f. refl) (omega arith) (λ a x h. omega arith) (λ a b c. omega arith)
