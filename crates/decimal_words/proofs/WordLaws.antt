-- Laws of decimal words: the value of a digit more, a word a step at a time, and what an answer tells. Assumes nothing.
use mathlib.Core.Path.{◌≡◌, refl}
use mathlib.Core.Bool.{Bool, true, false, ◌&&◌}
use mathlib.Core.List.{List, [], ◌∷◌, ◌++◌}
use Prim.Native.Nat.{ℕ, ◌+◌, ◌-◌, ◌*◌, ◌≤◌}
use native.Mathlib.Omega.{arith}
use lib.ListN.{length}
use borrow.Author.Tests.{le-leb}
use Rattle.std.specs.Prelude.{Option, Some, None, option_and_then}
use Rattle.rules.specs.Decimals.{is_decimal, all_decimal, value_behind, decimal_value, is_number}
use Rattle.decimal_words.specs.Words.{capped, word_value, word_of, when}
use Rattle.decimal_words.proofs.Walks.{walked}

-- ---- the value
pub behind_snoc : (l : List ℕ) (n c : ℕ) → value_behind n (l ++ (c ∷ [])) ≡ 10 * value_behind n l + (c - 48)
unfolding value_behind
behind_snoc [] n c = refl
behind_snoc (d ∷ l) n c = behind_snoc l (10 * n + (d - 48)) c

-- ---- the steps of a word
abbrev pub with_digit : ℕ → ℕ → Option ℕ
with_digit n c = when (is_decimal c) (capped (10 * n + (c - 48)))

digits_walked : (w : List ℕ) (n : ℕ) → walked with_digit (capped n) w ≡ when (all_decimal w) (capped (value_behind n w))
unfolding all_decimal value_behind
digits_walked [] n = refl
digits_walked (c ∷ w) n =
    let so : capped (10 * capped n + (c - 48)) ≡ capped (10 * n + (c - 48)) = omega arith in
    rw so (by (is_decimal c) (digits_walked w (10 * n + (c - 48))))
  where
    by : (b : Bool) → walked with_digit (capped (10 * n + (c - 48))) w ≡ when (all_decimal w) (capped (value_behind (10 * n + (c - 48)) w))
        → option_and_then (λ m. walked with_digit m w) (when b (capped (10 * n + (c - 48)))) ≡ when (b && all_decimal w) (capped (value_behind (10 * n + (c - 48)) w))
    by true e = e
    by false e = refl

pub word_walked : (w : List ℕ) → 1 ≤ length w → walked with_digit 0 w ≡ word_of w
unfolding decimal_value
word_walked w h = rw (le-leb 1 (length w) h) (digits_walked w 0)

-- ---- what an answer tells
pub is_number_lem : (w : List ℕ) {x : ℕ} → word_of w ≡ Some x → (is_number w ≡ true) × (x ≡ word_value w)
is_number_lem w {x} e = by (is_number w) refl e
  where
    by : (b : Bool) → is_number w ≡ b → when b (word_value w) ≡ Some x → (is_number w ≡ true) × (x ≡ word_value w)
    by true p e = (p, cc)
    by false p e = cc

pub is_no_number : (w : List ℕ) → word_of w ≡ None → is_number w ≡ false
is_no_number w e = by (is_number w) refl e
  where
    by : (b : Bool) → is_number w ≡ b → when b (word_value w) ≡ None → is_number w ≡ false
    by true p e = cc
    by false p e = p
