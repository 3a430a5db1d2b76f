-- The bytes of a figure: they begin with a digit, and two figures of two places that read the same are the same number. Assumes nothing.
use Prim.Native.Nat.{ℕ, zero, suc, ◌/◌, ◌%◌, ◌^◌, ◌≤◌, ◌<◌}
use native.Mathlib.Omega.{arith}
use mathlib.Core.Path.{◌≡◌, sym, ap, ◌∙◌}
use mathlib.Core.Bool.{Bool, true, false}
use mathlib.Core.List.{List, [], ◌∷◌, ◌++◌, append_assoc, append-nil}
use lib.Dec.{eqb, ltb}
use lib.ListN.{get_or}
use Rattle.rules.specs.Choice.{pick}
use Rattle.rules.specs.Text.{text, byte, last_digit, decimals, decimal, last_digits, pointed}
use Rattle.rules.specs.Decimals.{decimal_value}
use Rattle.rules.proofs.TextLaws.{pointed_is}
use Rattle.decimal_words.proofs.DigitLaws.{decimal_same, two_value}
use Rattle.history.proofs.OccursLaws.{cut_same, point_lacks}

-- ---- the first byte is a digit
digits_first : (f n : ℕ) (rest : List ℕ) → get_or (decimals f n ++ rest) 0 0 ≤ 57
unfolding decimals
digits_first zero n rest = omega arith
digits_first (suc f) n rest = go (ltb n 10) (digits_first f (n / 10) (byte (last_digit n) ++ rest))
  where
    go : (t : Bool) → get_or (decimals f (n / 10) ++ (byte (last_digit n) ++ rest)) 0 0 ≤ 57 → get_or (pick t (byte (last_digit n)) (decimals f (n / 10) ++ byte (last_digit n)) ++ rest) 0 0 ≤ 57
    go true r = omega arith
    go false r = rw append_assoc r

pub pointed_first : (k n : ℕ) (rest : List ℕ) → get_or (pointed k n ++ rest) 0 0 ≤ 57
unfolding pointed decimal
pointed_first k n rest = go (eqb k 0)
  where
    go : (t : Bool) → get_or (pick t (decimal n) (decimal (n / 10 ^ k) ++ text "." ++ last_digits k n) ++ rest) 0 0 ≤ 57
    go true = digits_first 19 n rest
    go false = simp append_assoc (digits_first 19 (n / 10 ^ k) (text "." ++ (last_digits k n ++ rest)))

pub never_none : (k n : ℕ) → pointed k n ≡ text "none" → ⊥
never_none k n e = omega (arith, ap (λ (l : List ℕ). get_or l 0 0) (append-nil (pointed k n) ∙ e), pointed_first k n [])

-- ---- the same bytes
pub pointed_same : (x y : ℕ) → x < 10 ^ 22 → y < 10 ^ 22 → pointed 2 x ≡ pointed 2 y → x ≡ y
pointed_same x y h k e =
    let figure : (n : ℕ) → pointed 2 n ≡ decimal (n / 100) ++ (46 ∷ last_digits 2 n) = λ n. pointed_is 2 n (omega arith) ∙ append_assoc (decimal (n / 100)) (text ".") (last_digits 2 n) in
    let both = cut_same 46 (decimal (x / 100)) (decimal (y / 100)) (last_digits 2 x) (last_digits 2 y) (point_lacks (x / 100)) (point_lacks (y / 100)) (sym (figure x) ∙ (e ∙ figure y)) in
    let wholes = decimal_same (x / 100) (y / 100) (omega arith) (omega arith) both.0 in
    let parts : x % 100 ≡ y % 100 = sym (two_value x) ∙ (ap decimal_value both.1 ∙ two_value y) in
    omega arith
