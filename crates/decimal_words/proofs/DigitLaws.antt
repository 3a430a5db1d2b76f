-- The decimal digits of a number, and what they are worth. Assumes nothing.
use mathlib.Core.Path.{◌≡◌, refl, sym, ap, ◌∙◌}
use mathlib.Core.Bool.{true}
use mathlib.Core.List.{List, [], ◌∷◌, ◌++◌}
use Prim.Native.Nat.{ℕ, zero, suc, ◌+◌, ◌-◌, ◌*◌, ◌/◌, ◌%◌, ◌^◌, ◌≤◌, ◌<◌}
use native.Mathlib.Nat.{pow-suc}
use native.Mathlib.Omega.{arith}
use native.Mathlib.Decide.{dec_le}
use lib.Dec.{ltb}
use lib.ListN.{length, get_or, length-append, get_or-append}
use borrow.Author.Tests.{lt-ltb, le-ltb, le-leb}
use Rattle.rules.specs.Choice.{pick}
use Rattle.rules.specs.Text.{byte, last_digit, decimals, decimal, last_digits}
use Rattle.rules.specs.Decimals.{is_decimal, all_decimal, value_behind, decimal_value}
use Rattle.rules.proofs.Tests.{and_left, and_right}
use Rattle.decimal_words.proofs.WordLaws.{behind_snoc}

-- ---- digits
digit_is : (d : ℕ) → d < 10 → is_decimal (48 + d) ≡ true
digit_is d h = rw (le-leb 48 (48 + d) (omega arith), le-leb (48 + d) 57 (omega arith))

all_append : (u v : List ℕ) → all_decimal u ≡ true → all_decimal v ≡ true → all_decimal (u ++ v) ≡ true
unfolding all_decimal
all_append [] v a b = b
all_append (x ∷ u) v a b = rw (and_left (is_decimal x) (all_decimal u) a) (all_append u v (and_right (is_decimal x) (all_decimal u) a) b)

all_byte : (d : ℕ) → d < 10 → all_decimal (byte (48 + d)) ≡ true
unfolding all_decimal
all_byte d h = rw (digit_is d h)

value_byte : (c : ℕ) → decimal_value (byte c) ≡ c - 48
unfolding decimal_value value_behind
value_byte c = omega arith

value_snoc : (l : List ℕ) (c : ℕ) → decimal_value (l ++ byte c) ≡ 10 * decimal_value l + (c - 48)
unfolding decimal_value
value_snoc l c = behind_snoc l 0 c

-- ---- the decimal digits of a number
pub record Digits (n : ℕ) (w : List ℕ) : Type 0 where
  pub some : 1 ≤ length w
  pub all : all_decimal w ≡ true
  pub value : decimal_value w ≡ n
  pub lead : 10 ≤ n → 1 < length w
  pub first : 1 ≤ n → 49 ≤ get_or w 0 0
  pub single : n < 10 → length w ≡ 1
  pub size : (m : ℕ) → n < 10 ^ suc m → length w ≤ suc m

one_digit : (n : ℕ) → n < 10 → Digits n (byte (last_digit n))
one_digit n h =
    record {
      some = omega arith;
      all = all_byte (n % 10) (omega arith);
      value = value_byte (last_digit n) ∙ omega arith;
      lead = λ g. absurd (omega arith);
      first = λ g. omega arith;
      single = λ g. refl;
      size = λ m g. omega arith;
    }

more_digits : (n : ℕ) (w : List ℕ) → 10 ≤ n → Digits (n / 10) w → Digits n (w ++ byte (last_digit n))
more_digits n w h d =
    let long : length (w ++ byte (last_digit n)) ≡ length w + 1 = length-append w (byte (last_digit n)) in
    record {
      some = omega arith;
      all = all_append w (byte (last_digit n)) d.all (all_byte (n % 10) (omega arith));
      value = value_snoc w (last_digit n) ∙ omega (arith, d.value);
      lead = λ g. omega (arith, d.some);
      first = λ g. rw (get_or-append w (byte (last_digit n)) 0 0 d.some) (d.first (omega arith));
      single = λ g. absurd (omega arith);
      size = λ m g. fits m g;
    }
  where
    fits : (m : ℕ) → n < 10 ^ suc m → length (w ++ byte (last_digit n)) ≤ suc m
    fits zero g = absurd (omega arith)
    fits (suc m) g = omega (arith, length-append w (byte (last_digit n)), d.size m (omega (arith, pow-suc 10 (suc m))))

decimals_are : (f n : ℕ) → n < 10 ^ suc f → Digits n (decimals f n)
unfolding decimals
decimals_are zero n h = one_digit n (omega arith)
decimals_are (suc f) n h = go (dec_le 10 n) (λ (q : n / 10 < 10 ^ suc f). decimals_are f (n / 10) q)
  where
    go : Dec (10 ≤ n) → (n / 10 < 10 ^ suc f → Digits (n / 10) (decimals f (n / 10))) → Digits n (pick (ltb n 10) (byte (last_digit n)) (decimals f (n / 10) ++ byte (last_digit n)))
    go (yes p) r = rw (le-ltb n 10 p) (more_digits n (decimals f (n / 10)) p (r (omega (arith, pow-suc 10 (suc f)))))
    go (no p) r = rw (lt-ltb n 10 (omega arith)) (one_digit n (omega arith))

pub digits_of : (n : ℕ) → n < 10 ^ 20 → Digits n (decimal n)
unfolding decimal
digits_of n h = decimals_are 19 n h

-- two numbers with the same digits are the same
pub decimal_same : (m n : ℕ) → m < 10 ^ 20 → n < 10 ^ 20 → decimal m ≡ decimal n → m ≡ n
decimal_same m n h k e = sym (digits_of m h).value ∙ (ap decimal_value e ∙ (digits_of n k).value)

-- the last two digits
two_digits : (x : ℕ) → last_digits 2 x ≡ byte (48 + x / 10 % 10) ++ byte (48 + x % 10)
unfolding last_digits
two_digits x = refl

pub two_all : (x : ℕ) → all_decimal (last_digits 2 x) ≡ true
two_all x = rw (two_digits x) (all_append (byte (48 + x / 10 % 10)) (byte (48 + x % 10)) (all_byte (x / 10 % 10) (omega arith)) (all_byte (x % 10) (omega arith)))

pub two_value : (x : ℕ) → decimal_value (last_digits 2 x) ≡ x % 100
two_value x = rw (two_digits x) (value_snoc (byte (48 + x / 10 % 10)) (48 + x % 10) ∙ omega (arith, value_byte (48 + x / 10 % 10)))
