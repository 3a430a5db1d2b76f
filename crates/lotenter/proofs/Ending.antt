-- Where the last line ends that has its end byte. Assumes nothing.
use mathlib.Core.Path.{◌≡◌, refl, sym, ap, ◌∙◌}
use mathlib.Core.Bool.{Bool, true, false, not, true≢false}
use mathlib.Core.List.{List, [], ◌∷◌}
use Prim.Native.Nat.{ℕ, zero, suc, ◌+◌, ◌-◌, ◌≤◌, ◌<◌}
use native.Mathlib.Omega.{arith}
use native.Mathlib.Decide.{ℕ_discrete, dec_lt}
use lib.Dec.{eqb}
use lib.ListN.{length, get_or, length-reverse}
use Rattle.std.specs.Prelude.{reverse}
use borrow.Author.Tests.{eq-eqb, ne_eqb, lt-ltb, le-ltb}
use Rattle.std.specs.List.{suffix_len}
use Rattle.std.proofs.lemmas.List.{get_or-reverse}
use Rattle.std.proofs.lemmas.List.Sums.{prefix_len_passes, prefix_len_stops}
use Rattle.rules.specs.Choice.{pick}
use Rattle.rules.specs.ListReading.{first, has}
use Rattle.rules.specs.Printing.{ended_bytes}

-- from place n on no byte is b
abbrev pub NoneFrom : ℕ → List ℕ → ℕ → Type 0
NoneFrom b q n = (i : ℕ) → n ≤ i → i < length q → get_or q i 0 ≡ b → ⊥

first_none : (b : ℕ) (q : List ℕ) → NoneFrom b q 0 → first b q ≡ length q
unfolding first
first_none b [] h = refl
first_none b (x ∷ xs) h = rw (ne_eqb x b (h 0 (omega arith) (omega arith))) (ap suc (first_none b xs (λ i j k. h (suc i) (omega arith) (omega arith))))

first_some : (b : ℕ) (q : List ℕ) (i : ℕ) → i < length q → get_or q i 0 ≡ b → first b q < length q
unfolding first
first_some b [] i h e = absurd (omega arith)
first_some b (x ∷ xs) i h e = by (ℕ_discrete x b) i h e (first_some b xs)
  where
    by : Dec (x ≡ b) → (i : ℕ) → i < suc (length xs) → get_or (x ∷ xs) i 0 ≡ b → ((j : ℕ) → j < length xs → get_or xs j 0 ≡ b → first b xs < length xs)
        → pick (eqb x b) 0 (suc (first b xs)) < suc (length xs)
    by (yes p) i h e r = rw (eq-eqb x b p) (omega arith)
    by (no p) zero h e r = absurd (p e)
    by (no p) (suc j) h e r = rw (ne_eqb x b p) (omega (arith, r j (omega arith) e))

has_none : (q : List ℕ) → NoneFrom 10 q 0 → has 10 q ≡ false
has_none q h = le-ltb (first 10 q) (length q) (omega (arith, first_none 10 q h))

has_some : (q : List ℕ) (i : ℕ) → i < length q → get_or q i 0 ≡ 10 → has 10 q ≡ true
has_some q i h e = lt-ltb (first 10 q) (length q) (first_some 10 q i h e)

-- no line ends
pub ended_none : (q : List ℕ) → NoneFrom 10 q 0 → ended_bytes q ≡ 0
unfolding ended_bytes
ended_none [] h = refl
ended_none (x ∷ xs) h = rw (has_none (x ∷ xs) h)

-- the last line ends with the byte at place n
pub ended_at : (q : List ℕ) (n : ℕ) → n < length q → get_or q n 0 ≡ 10 → NoneFrom 10 q (suc n) → ended_bytes q ≡ suc n
unfolding ended_bytes
ended_at [] n h e k = absurd (omega arith)
ended_at (x ∷ xs) zero h e k = rw (has_some (x ∷ xs) 0 h e) (ap suc (ended_none xs (λ i a b. k (suc i) (omega arith) (omega arith))))
ended_at (x ∷ xs) (suc n) h e k =
    rw (has_some (x ∷ xs) (suc n) h e) (ap suc (ended_at xs n (omega arith) e (λ i a b. k (suc i) (omega arith) (omega arith))))

-- ---- a look back from the end of the bytes: n of them are no end byte, up to the first that is one
is_end : {x : ℕ} → not (eqb x 10) ≡ false → x ≡ 10
is_end {x} e = by (ℕ_discrete x 10)
  where
    by : Dec (x ≡ 10) → x ≡ 10
    by (yes p) = p
    by (no p) = absurd (true≢false (sym (ap not (ne_eqb x 10 p)) ∙ e))

pub look_back : (q : List ℕ) (n : ℕ) → n ≡ suffix_len (λ x. not (eqb x 10)) q → length q - n ≡ ended_bytes q
look_back q n e = by (dec_lt n (length q))
  where
    p : ℕ → Bool
    p x = not (eqb x 10)

    -- what stands behind the place m passed the test
    behind : (m : ℕ) → length q ≤ m + n → NoneFrom 10 q m
    behind m h i a b z =
        let k = length q - 1 - i in
        let back : length q - 1 - k ≡ i = omega arith in
        let passes : p (get_or (reverse q) k 0) ≡ true = prefix_len_passes p (reverse q) k 0 (omega (arith, e)) in
        let here : get_or (reverse q) k 0 ≡ 10 = get_or-reverse q k 0 (omega arith) ∙ ap (λ (j : ℕ). get_or q j 0) back ∙ z in
        absurd (true≢false (sym passes ∙ ap p here))

    by : Dec (n < length q) → length q - n ≡ ended_bytes q
    by (yes h) =
        let m = length q - 1 - n in
        let stops : p (get_or (reverse q) n 0) ≡ false = ap (λ (j : ℕ). p (get_or (reverse q) j 0)) e ∙ prefix_len_stops p (reverse q) 0 (omega (arith, e, length-reverse q)) in
        let there : p (get_or q m 0) ≡ false = ap p (sym (get_or-reverse q n 0 h)) ∙ stops in
        let next : suc m ≡ length q - n = omega arith in
        sym (ended_at q m (omega arith) (is_end there) (behind (suc m) (omega arith)) ∙ next)
    by (no h) = let none : length q - n ≡ 0 = omega arith in none ∙ sym (ended_none q (behind 0 (omega arith)))
