-- A line of a list has at most 13 bytes, and so has the list of a tally for each held result. Assumes nothing.
use mathlib.Core.Path.{◌≡◌, refl, sym, ap, ◌∙◌}
use mathlib.Core.List.{List, ◌++◌}
use Prim.Native.Nat.{ℕ, zero, suc, ◌+◌, ◌*◌, ◌/◌, ◌^◌, ◌≤◌, ◌<◌}
use native.Mathlib.Omega.{arith}
use native.Mathlib.Decide.{dec_lt, ℕ_discrete}
use lib.ListN.{length, get_or, length-append}
use Rattle.rules.specs.Limits.{highest_x, widest}
use Rattle.rules.specs.Text.{decimal, pointed}
use Rattle.rules.specs.Attributes.{attribute_of, places_of_x}
use Rattle.rules.specs.Contents.{Content, Contents, free, holds, one, total}
use Rattle.rules.specs.ListWriting.{list_line, place_listed, list_lines, list_of}
use Rattle.rules.specs.declared.Attribute.{Attribute}
use Rattle.rules.specs.declared.Attribute.TheVariants.{Purity, Germination, Count}
use Rattle.rules.proofs.ContentLaws.{put_same, put_other}
use Rattle.rules.proofs.TextLaws.{one_digit, more_digits, pointed_none, length_pointed}
use Rattle.held_lists.specs.Places.{stored}
use Rattle.tally.specs.View.{view}
use Rattle.tally.specs.Calls.{Sound}
use Rattle.tally.specs.declared.Tally.{Tally}
use Rattle.tally.proofs.Steps.{size_is_lem}

-- ---- how many digits a number has
one_digits : (n : ℕ) → n ≤ 9 → length (decimal n) ≤ 1
one_digits n h = rw (one_digit n (omega arith)) (omega arith)

-- ten times as large, one digit more
ten_times : (m b : ℕ) → 1 ≤ m → b ≤ widest → ((k : ℕ) → k ≤ b → length (decimal k) ≤ m) → (n : ℕ) → n ≤ 10 * b + 9 → length (decimal n) ≤ m + 1
ten_times m b h w f n g = by (dec_lt n 10)
  where
    by : Dec (n < 10) → length (decimal n) ≤ m + 1
    by (yes p) = omega (arith, one_digits n (omega arith))
    by (no p) = rw (more_digits n (omega arith) (omega arith)) (simp length-append (omega (arith, f (n / 10) (omega arith))))

three : (n : ℕ) → n ≤ 999 → length (decimal n) ≤ 3
three = ten_times 2 99 (omega arith) (omega arith) (ten_times 1 9 (omega arith) (omega arith) one_digits)

five : (n : ℕ) → n ≤ 99999 → length (decimal n) ≤ 5
five = ten_times 4 9999 (omega arith) (omega arith) (ten_times 3 999 (omega arith) (omega arith) three)

-- ---- a line
number_most : (a : Attribute) (x : ℕ) → x ≤ highest_x → length (pointed (places_of_x a) x) ≤ 6
number_most Purity x h = omega (arith, length_pointed 2 x (omega arith), three (x / 10 ^ 2) (omega arith))
number_most Germination x h = omega (arith, length_pointed 2 x (omega arith), three (x / 10 ^ 2) (omega arith))
number_most Count x h = omega (arith, ap length (pointed_none x), five x (omega arith))

line_most : (a : Attribute) (k x : ℕ) → k ≤ widest → x ≤ highest_x → length (list_line (places_of_x a) k x) ≤ 13
unfolding list_line
line_most a k x h g = simp length-append (omega (arith, five k (omega arith), number_most a x g))

-- ---- the lines of a map
lines_most : (a : Attribute) (f : Contents) (n : ℕ) → n ≤ widest → ((k x : ℕ) → f k ≡ holds x → x ≤ highest_x) → length (list_lines (places_of_x a) f n) ≤ 13 * total one n f
unfolding list_lines total
lines_most a f zero h g = omega arith
lines_most a f (suc n) h g = go (f (suc n)) (g (suc n)) (lines_most a f n (omega arith) g)
  where
    go : (q : Content) → ((x : ℕ) → q ≡ holds x → x ≤ highest_x) → length (list_lines (places_of_x a) f n) ≤ 13 * total one n f
        → length (list_lines (places_of_x a) f n ++ place_listed (places_of_x a) (suc n) q) ≤ 13 * (total one n f + one q)
    go free l r = simp length-append (omega arith)
    go (holds x) l r = simp length-append (omega (arith, line_most a (suc n) x h (l x refl)))

stored_low : (ks vs : List ℕ) (n : ℕ) → ((i : ℕ) → i < n → get_or vs i 0 ≤ highest_x) → (k x : ℕ) → stored ks vs n k ≡ holds x → x ≤ highest_x
unfolding stored
stored_low ks vs zero h k x e = absurd (cc)
stored_low ks vs (suc n) h k x e = go (ℕ_discrete k (get_or ks n 0)) (stored_low ks vs n (λ i a. h i (omega arith)) k x)
  where
    go : Dec (k ≡ get_or ks n 0) → (stored ks vs n k ≡ holds x → x ≤ highest_x) → x ≤ highest_x
    go (yes q) r =
        let same : holds (get_or vs n 0) ≡ holds x = sym (put_same (stored ks vs n) (get_or ks n 0) (holds (get_or vs n 0))) ∙ rw q at e in
        let value : get_or vs n 0 ≡ x = cc in
        omega (arith, h n (omega arith))
    go (no q) r = r (sym (put_other (stored ks vs n) (get_or ks n 0) (holds (get_or vs n 0)) k q) ∙ e)

pub list_most : (t : Tally) → Sound t → length (list_of (view t)) ≤ 13 * t.held
unfolding list_of
list_most t s =
    omega (
      arith,
      lines_most (attribute_of t.lot.attribute) (view t).contents t.lot.containers s.few (stored_low t.containers t.results t.held s.low),
      size_is_lem t s,
    )
