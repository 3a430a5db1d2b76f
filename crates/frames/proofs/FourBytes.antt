-- Four bytes in one number: what a mask, a product and a quotient do to each, so that four digits become a field. Assumes nothing.
use mathlib.Core.Path.{◌≡◌, refl, sym, ap, ap₂, ◌∙◌}
use mathlib.Core.Bool.{true}
use mathlib.Core.List.{List}
use Prim.Native.Nat.{ℕ, ◌+◌, ◌*◌, ◌/◌, ◌%◌, ◌≤◌, ◌<◌}
use native.Mathlib.Nat.{mod-eq_of_lt}
use native.Mathlib.Omega.{arith}
use lib.ListN.{length, get_or}
use lib.Bits.{bit_and, and_block, and_mask, and_zero_r}
use Rattle.rules.specs.Fields.{is_digit, all_digits, value_of, field_of}
use Rattle.rules.proofs.FieldLaws.{value_lt}
use Rattle.cutter.proofs.Lines.{digit_at}
use Rattle.frames.proofs.DigitLaws.{value_by_byte, digit_lt, field_four}

-- the first is the lowest
abbrev four_bytes : ℕ → ℕ → ℕ → ℕ → ℕ
four_bytes a b c d = a + 256 * (b + 256 * (c + 256 * d))

-- ---- a mask goes byte by byte
and_byte : (x m a n : ℕ) → x < 256 → m < 256 → bit_and (x + 256 * a) (m + 256 * n) ≡ bit_and x m + 256 * bit_and a n
and_byte x m a n h k =
    let p : x + 256 * a ≡ a * 256 + x = omega arith in
    let q : m + 256 * n ≡ n * 256 + m = omega arith in
    ap₂ bit_and p q ∙ omega (arith, and_block 8 a n x m h k)

and_bytes : (a b c d m n o p : ℕ) → a < 256 → b < 256 → c < 256 → m < 256 → n < 256 → o < 256
    → bit_and (four_bytes a b c d) (four_bytes m n o p) ≡ four_bytes (bit_and a m) (bit_and b n) (bit_and c o) (bit_and d p)
and_bytes a b c d m n o p ha hb hc hm hn ho =
    and_byte a m _ _ ha hm
    ∙ ap (λ (k : ℕ). bit_and a m + 256 * k) (and_byte b n _ _ hb hn ∙ ap (λ (k : ℕ). bit_and b n + 256 * k) (and_byte c o _ _ hc ho))

module _ (a b c d : ℕ) (ha : a < 256) (hb : b < 256) (hc : c < 256) where
  -- 0x0F0F0F0F: the low four bits of each byte
  low_fours : bit_and (four_bytes a b c d) 252645135 ≡ four_bytes (a % 16) (b % 16) (c % 16) (d % 16)
  low_fours =
      and_bytes a b c d 15 15 15 15 ha hb hc (omega arith) (omega arith) (omega arith)
      ∙ rw (and_mask a 4, and_mask b 4, and_mask c 4, and_mask d 4) refl

  -- 0x01010101: the lowest bit of each
  low_ones : bit_and (four_bytes a b c d) 16843009 ≡ four_bytes (a % 2) (b % 2) (c % 2) (d % 2)
  low_ones =
      and_bytes a b c d 1 1 1 1 ha hb hc (omega arith) (omega arith) (omega arith)
      ∙ rw (and_mask a 1, and_mask b 1, and_mask c 1, and_mask d 1) refl

  -- 0x00FF00FF: the first byte and the third
  first_third : bit_and (four_bytes a b c d) 16711935 ≡ four_bytes a 0 c 0
  first_third =
      and_bytes a b c d 255 0 255 0 ha hb hc (omega arith) (omega arith) (omega arith)
      ∙ rw (and_mask a 8, and_zero_r b, and_mask c 8, and_zero_r d, mod-eq_of_lt ha, mod-eq_of_lt hc) refl

-- ---- a 64th of the number: the low six bits of a byte go to the byte before it
over_byte : (x a : ℕ) → (x + 256 * a) / 64 ≡ x / 64 + 4 * (a % 64) + 256 * (a / 64)
over_byte x a = omega arith

over_bytes : (a b c d : ℕ) → four_bytes a b c d / 64
    ≡ four_bytes (a / 64 + 4 * ((b + 256 * (c + 256 * d)) % 64)) (b / 64 + 4 * ((c + 256 * d) % 64)) (c / 64 + 4 * (d % 64)) (d / 64)
over_bytes a b c d = rw (over_byte a, over_byte b, over_byte c) refl

over_lt : (x k : ℕ) → x < 128 → x / 64 + 4 * (k % 64) < 256
over_lt x k h = omega arith

over_bit : (x k : ℕ) → x < 128 → (x / 64 + 4 * (k % 64)) % 2 ≡ x / 64
over_bit x k h = omega arith

-- the bit of 64 of each byte, where none has a higher one
high_ones : (a b c d : ℕ) → a < 128 → b < 128 → c < 128 → d < 128
    → bit_and (four_bytes a b c d / 64) 16843009 ≡ four_bytes (a / 64) (b / 64) (c / 64) (d / 64)
high_ones a b c d ha hb hc hd =
    let last : d / 64 % 2 ≡ d / 64 = omega arith in
    ap (λ (x : ℕ). bit_and x 16843009) (over_bytes a b c d)
    ∙ low_ones _ _ _ _ (over_lt a _ ha) (over_lt b _ hb) (over_lt c _ hc)
    ∙ rw (over_bit a _ ha, over_bit b _ hb, over_bit c _ hc, last) refl

-- ---- the values of four digits
abbrev values_in : ℕ → ℕ
values_in w = bit_and w 252645135 + 9 * bit_and (w / 64) 16843009

nines : (a b c d e f g h : ℕ) → four_bytes a b c d + 9 * four_bytes e f g h ≡ four_bytes (a + e * 9) (b + f * 9) (c + g * 9) (d + h * 9)
nines a b c d e f g h = omega arith

values : (a b c d : ℕ) → is_digit a ≡ true → is_digit b ≡ true → is_digit c ≡ true → is_digit d ≡ true
    → values_in (four_bytes a b c d) ≡ four_bytes (value_of a) (value_of b) (value_of c) (value_of d)
values a b c d da db dc dd =
    let ha = digit_lt a da in
    let hb = digit_lt b db in
    let hc = digit_lt c dc in
    ap₂ (λ (x y : ℕ). x + 9 * y) (low_fours a b c d (omega arith) (omega arith) (omega arith)) (high_ones a b c d ha hb hc (digit_lt d dd))
    ∙ nines (a % 16) (b % 16) (c % 16) (d % 16) (a / 64) (b / 64) (c / 64) (d / 64)
    ∙ rw (value_by_byte a da, value_by_byte b db, value_by_byte c dc, value_by_byte d dd) refl

-- ---- two values in a byte
abbrev pairs_of : ℕ → ℕ
pairs_of v = bit_and (16 * v + v / 256) 16711935

abbrev number_of : ℕ → ℕ
number_of p = 256 * (p % 256) + p / 65536

joined : (a b c d : ℕ) → a < 16 → 16 * four_bytes a b c d + four_bytes a b c d / 256 ≡ four_bytes (16 * a + b) (16 * b + c) (16 * c + d) (16 * d)
joined a b c d h = omega arith

number_is_lem : (a b : ℕ) → a < 256 → b < 256 → number_of (four_bytes a 0 b 0) ≡ 256 * a + b
number_is_lem a b ha hb = omega arith

pairs : (a b c d : ℕ) → a < 16 → b < 16 → c < 16 → d < 16 → number_of (pairs_of (four_bytes a b c d)) ≡ 256 * (16 * a + b) + (16 * c + d)
pairs a b c d ha hb hc hd =
    ap (λ (x : ℕ). number_of (bit_and x 16711935)) (joined a b c d ha)
    ∙ ap number_of (first_third (16 * a + b) (16 * b + c) (16 * c + d) (16 * d) (omega arith) (omega arith) (omega arith))
    ∙ number_is_lem (16 * a + b) (16 * c + d) (omega arith) (omega arith)

-- ---- the four digits of a line from a place on, and the number w of their bytes
module _ (l : List ℕ) (a w : ℕ) (digits : all_digits l ≡ true) (h : a + 4 ≤ length l)
    (is : w ≡ four_bytes (get_or l a 0) (get_or l (a + 1) 0) (get_or l (a + 2) 0) (get_or l (a + 3) 0)) where
  abbrev value : ℕ → ℕ
  value i = value_of (get_or l i 0)

  small : (i : ℕ) → value i < 16
  small i = value_lt (get_or l i 0)

  values_are : values_in w ≡ four_bytes (value a) (value (a + 1)) (value (a + 2)) (value (a + 3))
  values_are =
      ap values_in is
      ∙ values _ _ _ _ (digit_at l a digits (omega arith)) (digit_at l (a + 1) digits (omega arith)) (digit_at l (a + 2) digits (omega arith))
      (digit_at l (a + 3) digits (omega arith))

  pub values_le : values_in w ≤ 252645135
  values_le = omega (arith, values_are, small a, small (a + 1), small (a + 2), small (a + 3))

  pub four_is : number_of (pairs_of (values_in w)) ≡ field_of l a 4
  four_is =
      ap (λ (x : ℕ). number_of (pairs_of x)) values_are
      ∙ pairs _ _ _ _ (small a) (small (a + 1)) (small (a + 2)) (small (a + 3))
      ∙ sym (field_four l a h)
