-- What the comparison of two lists, and of the four lists of two cards' rows, comes to place by place. Assumes nothing.
use Prim.Native.Nat.{ℕ, zero, suc, ◌≤◌}
use native.Mathlib.Omega.{arith}
use mathlib.Core.Path.{◌≡◌, refl, sym}
use mathlib.Core.Bool.{Bool, true, false, ◌&&◌}
use mathlib.Core.List.{List, [], ◌∷◌, ◌++◌}
use lib.Dec.{eqb}
use lib.ListN.{length, get_or, take, length-take}
use lib.Seq.{take-suc, take_all}
use lib.Pointwise.{pointwise}
use Rattle.rules.specs.Limits.{criticals}
use Rattle.rules.specs.Cards.{alike_at, agree, same_rows}
use Rattle.rules.specs.declared.Card.{Card}
use Rattle.rules.proofs.Tests.{and_true, and_false}

and_assoc : (a b c : Bool) → a && (b && c) ≡ (a && b) && c
and_assoc true b c = refl
and_assoc false b c = refl

and_middle : (a x b y : Bool) → (a && x) && (b && y) ≡ (a && b) && (x && y)
and_middle true true b y = refl
and_middle true false b y = sym (and_false b)
and_middle false x b y = refl

one_more : (l m : List ℕ) (x y : ℕ) → length l ≡ length m → pointwise eqb (l ++ x ∷ []) (m ++ y ∷ []) ≡ pointwise eqb l m && eqb x y
one_more [] [] x y e = and_true (eqb x y)
one_more (a ∷ l) (b ∷ m) x y e = simp (one_more l m x y (omega arith), and_assoc)
one_more [] (b ∷ m) x y e = absurd (omega arith)
one_more (a ∷ l) [] x y e = absurd (omega arith)

-- the first n places
first_places : (l m : List ℕ) (n : ℕ) → n ≤ length l → n ≤ length m → pointwise eqb (take n l) (take n m) ≡ agree l m n
unfolding agree
first_places l m zero a b = refl
first_places l m (suc n) a b =
    simp (
      take-suc l n 0 a,
      take-suc m n 0 b,
      one_more (take n l) (take n m) (get_or l n 0) (get_or m n 0) (omega (arith, length-take {A = ℕ})),
      first_places l m n (omega arith) (omega arith),
    )

pub all_places : (l m : List ℕ) → length l ≡ criticals → length m ≡ criticals → pointwise eqb l m ≡ agree l m criticals
all_places l m a b = rw (← first_places l m criticals (omega arith) (omega arith), take_all criticals l (omega arith), take_all criticals m (omega arith)) refl

-- the four lists of the first n rows
agree_rows : (c d : Card) (n : ℕ)
    → agree c.lowest d.lowest n && (agree c.highest d.highest n && (agree c.bound d.bound n && agree c.tolerated d.tolerated n)) ≡ same_rows c d n
unfolding agree same_rows
agree_rows c d zero = refl
agree_rows c d (suc n) =
    rw (
      and_middle (agree c.bound d.bound n) (alike_at c.bound d.bound n) (agree c.tolerated d.tolerated n) (alike_at c.tolerated d.tolerated n),
      and_middle (agree c.highest d.highest n) (alike_at c.highest d.highest n) _ _,
      and_middle (agree c.lowest d.lowest n) (alike_at c.lowest d.lowest n) _ _,
      agree_rows c d n,
    ) refl

abbrev begun_alike : ℕ → List ℕ → List ℕ → Bool
begun_alike n l m = pointwise eqb (take n l) (take n m)

pub first_rows : (c d : Card) (n : ℕ)
    → n ≤ length c.lowest → n ≤ length c.highest → n ≤ length c.bound → n ≤ length c.tolerated
    → n ≤ length d.lowest → n ≤ length d.highest → n ≤ length d.bound → n ≤ length d.tolerated
    → same_rows c d n ≡ begun_alike n c.lowest d.lowest && (begun_alike n c.highest d.highest && (begun_alike n c.bound d.bound && begun_alike n c.tolerated d.tolerated))
first_rows c d n lc hc bc tc ld hd bd td =
    rw (
      first_places c.lowest d.lowest n lc ld,
      first_places c.highest d.highest n hc hd,
      first_places c.bound d.bound n bc bd,
      first_places c.tolerated d.tolerated n tc td,
    ) (sym (agree_rows c d n))
