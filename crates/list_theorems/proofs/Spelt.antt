-- What a written line of a comma list reads as. Assumes nothing.
use mathlib.Core.Path.{◌≡◌, refl, ap, ◌∙◌}
use mathlib.Core.Bool.{true, false}
use mathlib.Core.List.{List, [], ◌∷◌, ◌++◌, append_assoc}
use Prim.Native.Nat.{ℕ, suc, ◌+◌, ◌*◌, ◌/◌, ◌%◌, ◌≤◌, ◌<◌}
use native.Mathlib.Omega.{arith}
use native.Mathlib.Decide.{dec_le, ℕ_discrete}
use lib.Dec.{leb}
use lib.ListN.{length, take, drop, get_or, length-append}
use lib.Seq.{take_at, drop_at}
use borrow.Author.Tests.{eq-eqb, ne_eqb, lt-ltb, le-ltb, le-leb, leb-true}
use Rattle.rules.specs.Limits.{widest}
use Rattle.rules.specs.Text.{byte, decimal, last_digits, pointed}
use Rattle.rules.specs.Decimals.{is_decimal, all_decimal}
use Rattle.rules.specs.Lines.{ended, lines_of}
use Rattle.rules.specs.Attributes.{places_of_x}
use Rattle.rules.specs.ListReading.{reads, leads_zero, plain_of, first, has, before, behind, comma, point, hundredths_of, percent_of, value_of, says, say_of}
use Rattle.rules.specs.ListWriting.{list_line}
use Rattle.rules.specs.declared.Attribute.{Attribute}
use Rattle.rules.specs.declared.Attribute.TheVariants.{Purity, Germination, Count}
use Rattle.rules.proofs.Tests.{and_left, and_right}
use Rattle.rules.proofs.TextLaws.{pointed_is, pointed_none, length_places}
use Rattle.decimal_words.proofs.DigitLaws.{Digits, digits_of, two_all, two_value}
use Rattle.history.proofs.OccursLaws.{occurs, Lacks, written, joined, end_apart, decimal_lacks, pointed_lacks, cut_line}

-- ---- numbers
lead_none : (n : ℕ) (w : List ℕ) → Digits n w → leads_zero w ≡ false
lead_none n w d = go (dec_le 10 n)
  where
    go : Dec (10 ≤ n) → leads_zero w ≡ false
    go (yes p) = rw (lt-ltb 1 (length w) (d.lead p)) (ne_eqb (get_or w 0 0) 48 (λ e. omega (arith, d.first (omega arith))))
    go (no p) = rw (le-ltb 1 (length w) (omega (arith, d.single (omega arith))))

-- a written number is a plain one, and reads as itself
pub plain_decimal : (n : ℕ) → n ≤ widest → plain_of (decimal n) ≡ reads n
unfolding plain_of
plain_decimal n h =
    let d = digits_of n (omega arith) in
    rw (lead_none n (decimal n) d, le-leb 1 (length (decimal n)) d.some, d.all, d.value)

-- ---- where a byte stands first
first_here : (b x : ℕ) (xs : List ℕ) → x ≡ b → first b (x ∷ xs) ≡ 0
unfolding first
first_here b x xs e = rw (eq-eqb x b e)

first_later : (b x : ℕ) (xs : List ℕ) → (x ≡ b → ⊥) → first b (x ∷ xs) ≡ suc (first b xs)
unfolding first
first_later b x xs h = rw (ne_eqb x b h)

none_append : (b : ℕ) (u v : List ℕ) → first b u ≡ length u → first b (u ++ v) ≡ length u + first b v
none_append b [] v e = omega arith
none_append b (x ∷ u) v e = go (ℕ_discrete x b) (none_append b u v)
  where
    go : Dec (x ≡ b) → (first b u ≡ length u → first b (u ++ v) ≡ length u + first b v) → first b (x ∷ (u ++ v)) ≡ suc (length u) + first b v
    go (yes q) r = absurd (omega (arith, first_here b x u q))
    go (no q) r = omega (arith, first_later b x u q, first_later b x (u ++ v) q, r (omega (arith, first_later b x u q)))

none_digits : (b : ℕ) (w : List ℕ) → b < 48 → all_decimal w ≡ true → first b w ≡ length w
unfolding first all_decimal
none_digits b [] h e = refl
none_digits b (x ∷ w) h e =
    let at_least_lem = leb-true 48 x (and_left (leb 48 x) (leb x 57) (and_left (is_decimal x) (all_decimal w) e)) in
    omega (arith, first_later b x w (λ q. omega arith), none_digits b w h (and_right (is_decimal x) (all_decimal w) e))

none_decimal : (b n : ℕ) → b < 48 → n ≤ widest → first b (decimal n) ≡ length (decimal n)
none_decimal b n h g = none_digits b (decimal n) h (digits_of n (omega arith)).all

-- u, then b, then v: where u has no b, the parts are u and v
module _ (b : ℕ) (u v : List ℕ) (clear : first b u ≡ length u) where
  abbrev together : List ℕ
  together = u ++ byte b ++ v

  as_two : together ≡ u ++ (byte b ++ v)
  as_two = append_assoc u (byte b) v

  at_b : first b together ≡ length u
  at_b = ap (first b) as_two ∙ omega (arith, none_append b u (byte b ++ v) clear, first_here b b v refl)

  long : length together ≡ length u + 1 + length v
  long = simp length-append (omega arith)

  has_b : has b together ≡ true
  has_b = lt-ltb (first b together) (length together) (omega (arith, at_b, long))

  before_b : before b together ≡ u
  before_b = ap (λ (n : ℕ). take n together) at_b ∙ (ap (take (length u)) as_two ∙ take_at u (byte b ++ v) (length u) refl)

  behind_b : behind b together ≡ v
  behind_b = ap (λ (n : ℕ). drop (n + 1) together) at_b ∙ drop_at (u ++ byte b) v (length u + 1) (length-append u (byte b))

-- ---- values
two_read : (x : ℕ) → hundredths_of (last_digits 2 x) ≡ reads (x % 100)
unfolding hundredths_of
two_read x = rw (two_all x, length_places 2 x, two_value x)

percent_written : (x : ℕ) → x ≤ widest → percent_of (pointed 2 x) ≡ reads x
unfolding percent_of
percent_written x h =
    let w = decimal (x / 100) in
    let v = last_digits 2 x in
    let clear = none_decimal point (x / 100) (omega arith) (omega arith) in
    let whole : 100 * (x / 100) + x % 100 ≡ x = omega arith in
    rw (pointed_is 2 x (omega arith), before_b point w v clear, has_b point w v clear, behind_b point w v clear, plain_decimal (x / 100) (omega arith), two_read x)
    (ap reads whole)

count_written : (x : ℕ) → x ≤ widest → plain_of (pointed 0 x) ≡ reads x
count_written x h = rw (pointed_none x) (plain_decimal x h)

value_written : (a : Attribute) (x : ℕ) → x ≤ widest → value_of a (pointed (places_of_x a) x) ≡ reads x
value_written Purity x h = percent_written x h
value_written Germination x h = percent_written x h
value_written Count x h = count_written x h

-- ---- lines
-- a line without its end byte
abbrev pub line_text : ℕ → ℕ → ℕ → List ℕ
line_text p k x = decimal k ++ byte comma ++ pointed p x

pub line_says_lem : (a : Attribute) (k x : ℕ) → k ≤ widest → x ≤ widest → say_of a (line_text (places_of_x a) k x) ≡ says k x
unfolding say_of
line_says_lem a k x h g =
    let w = decimal k in
    let v = pointed (places_of_x a) x in
    let clear = none_decimal comma k (omega arith) h in
    rw (has_b comma w v clear, before_b comma w v clear, behind_b comma w v clear, plain_decimal k h, value_written a x g)

-- it has no end byte, so that with one it is the first line
line_endless : (p k x : ℕ) → Lacks 10 (line_text p k x)
unfolding occurs
line_endless p k x = joined (joined (decimal_lacks end_apart.digit k) (written (byte comma) refl)) (pointed_lacks end_apart p x)

pub written_first : (p k x : ℕ) (rest : List ℕ) → lines_of (list_line p k x ++ rest) ≡ ended (line_text p k x) ∷ lines_of rest
unfolding list_line
written_first p k x rest =
    let t = line_text p k x in
    ap lines_of (append_assoc t (byte 10) rest) ∙ cut_line t [] rest (line_endless p k x)
