-- Whether one of a list's containers is held. Assumes nothing.
use Prim.Native.Nat.{ℕ, zero, suc, ◌+◌, ◌≤◌, ◌<◌}
use native.Mathlib.Omega.{arith}
use native.Mathlib.Numerals.{add-one}
use native.Mathlib.Decide.{ℕ_discrete}
use mathlib.Core.Path.{◌≡◌, refl, sym, ap, ap₂, ◌∙◌}
use mathlib.Core.Bool.{Bool, false, ◌||◌}
use mathlib.Core.List.{List}
use lib.ListN.{get_or, take}
use lib.Seq.{get_or-take}
use Rattle.rules.specs.Contents.{Contents, is_held, shared}
use Rattle.rules.proofs.Tests.{or_left, or_right}
use Rattle.rules.proofs.ContentLaws.{shared_put, shared_none}
use Rattle.held_lists.specs.Places.{stored, Apart, meets}
use Rattle.held_lists.proofs.Stored.{fewer, last_without, stored_free}

-- one turn of the loop
pub meets_turn : (f : Contents) (l : List ℕ) (j : ℕ) {r found here : Bool} → r ≡ found || here → found ≡ meets f l j → here ≡ is_held (f (get_or l j 0)) → r ≡ meets f l (j + 1)
unfolding meets
meets_turn f l j p q h = p ∙ (ap₂ ◌||◌ q h ∙ ap (meets f l) (sym (add-one j)))

-- the places that count are those of the list that is cut to them
pub meets_cut : (f : Contents) (l : List ℕ) (n m : ℕ) → m ≤ n → meets f (take n l) m ≡ meets f l m
unfolding meets
meets_cut f l n zero h = refl
meets_cut f l n (suc m) h = simp (get_or-take n l m 0 (omega arith), meets_cut f l n m (omega arith))

-- the loop's test is the ledger's
pub meets_shared : (n : ℕ) (f : Contents) (ks vs : List ℕ) (m : ℕ) → Apart ks m → ((i : ℕ) → i < m → 1 ≤ get_or ks i 0)
    → ((i : ℕ) → i < m → get_or ks i 0 ≤ n) → meets f ks m ≡ shared n f (stored ks vs m)
unfolding meets stored
meets_shared n f ks vs zero h a b = sym (shared_none n f)
meets_shared n f ks vs (suc m) h a b =
    ap (λ (t : Bool). t || is_held (f (get_or ks m 0))) (meets_shared n f ks vs m (fewer ks m h) (λ i g. a i (omega arith)) (λ i g. b i (omega arith)))
    ∙ sym (shared_put n f (stored ks vs m) (get_or ks m 0) (get_or vs m 0) (a m (omega arith)) (b m (omega arith)) (stored_free ks vs m (get_or ks m 0) (last_without ks m h)))

pub meets_none : (f : Contents) (l : List ℕ) (m : ℕ) → meets f l m ≡ false → (i : ℕ) → i < m → is_held (f (get_or l i 0)) ≡ false
unfolding meets
meets_none f l zero e i h = absurd (omega arith)
meets_none f l (suc m) e i h = go (ℕ_discrete i m) (meets_none f l m (or_left (meets f l m) (is_held (f (get_or l m 0))) e) i)
  where
    go : Dec (i ≡ m) → (i < m → is_held (f (get_or l i 0)) ≡ false) → is_held (f (get_or l i 0)) ≡ false
    go (yes q) r = rw q (or_right (meets f l m) (is_held (f (get_or l m 0))) e)
    go (no g) r = r (omega arith)
