-- The calls that end with the longest list that is written. Assumes nothing.
use mathlib.Core.Path.{◌≡◌, refl, sym, ap, ◌∙◌, fun_ext}
use Prim.Native.Nat.{ℕ, zero, suc, ◌+◌, ◌*◌, ◌/◌, ◌≤◌}
use native.Mathlib.Omega.{arith}
use native.Mathlib.Decide.{dec_le}
use mathlib.Core.List.{◌++◌}
use lib.ListN.{length, length-append}
use lib.Dec.{leb}
use borrow.Author.Tests.{le-leb, lt-leb}
use Rattle.rules.specs.Choice.{pick}
use Rattle.rules.specs.Limits.{most_held, highest_x, widest}
use Rattle.rules.specs.Text.{decimals, decimal, last_digits, pointed}
use Rattle.rules.specs.Contents.{Content, Contents, free, holds, none, one, total}
use Rattle.rules.specs.Cards.{criticals_good, rows_good, open_number}
use Rattle.rules.specs.Ledger.{Ledger, Judged, judged, opened, with_contents, fresh_ledger}
use Rattle.rules.specs.ListWriting.{list_line, place_listed, list_lines, list_of}
use Rattle.rules.proofs.TextLaws.{one_digit, more_digits}
use Rattle.rules.proofs.Capacity.{capacity}
use Rattle.history.specs.Calls.{judge, ledger}
use Rattle.round_trip_theorems.specs.Statement.{full_card}
use Rattle.round_trip_theorems.proofs.ResultLines.{upto, upto_above, upto_size, upto_more, accepted_as, enter_good}
use Rattle.reading_theorems.specs.Lengths.{longest_list}
use Rattle.list_theorems.specs.Statement.{line_bytes, wide_lot, listing}

-- ---- the ledger that is filled: the highest result from container 10000 on
abbrev highest : Contents
highest k = pick (leb 10000 k) (holds highest_x) free

abbrev filled_to : ℕ → Contents
filled_to n = upto highest (9999 + n)

abbrev full : ℕ → Ledger
full n = with_contents (opened wide_lot full_card) (filled_to n)

-- nothing below
low_free : (n : ℕ) → n ≤ 9999 → total one n highest ≡ 0
unfolding total
low_free zero h = refl
low_free (suc n) h = rw (lt-leb 10000 (suc n) (omega arith)) (omega (arith, low_free n (omega arith)))

highest_size : (n : ℕ) → total one (9999 + n) highest ≡ n
highest_size zero = low_free 9999 (omega arith)
highest_size (suc n) = let e : 9999 + suc n ≡ suc (9999 + n) = omega arith in rw e (next (9999 + n) (omega arith) (highest_size n))
  where
    next : (m : ℕ) → 9999 ≤ m → total one m highest ≡ n → total one (suc m) highest ≡ suc n
    next m h e = unfold total in rw (le-leb 10000 (suc m) (omega arith)) (omega arith)

nothing_yet : filled_to 0 ≡ none
nothing_yet = fun_ext λ k. by k (dec_le k 9999)
  where
    by : (k : ℕ) → Dec (k ≤ 9999) → filled_to 0 k ≡ free
    by k (yes q) = rw (le-leb k 9999 q, lt-leb 10000 k (omega arith)) refl
    by k (no q) = upto_above highest 9999 k (omega arith)

wide_opens : open_number wide_lot full_card ≡ 0
unfolding criticals_good rows_good
wide_opens = rw capacity refl

listing_is : (n : ℕ) → n ≤ most_held → judge (listing n) ≡ accepted_as (full n)
unfolding listing judge
listing_is zero h = rw nothing_yet (ap (λ (n : ℕ). judged n fresh_ledger (opened wide_lot full_card)) wide_opens)
listing_is (suc n) h =
    let last = 9999 + n in
    let here : 10000 + n ≡ suc last = omega arith in
    let next : 9999 + suc n ≡ suc last = omega arith in
    let size = highest_size n in
    let highest-here : highest (suc last) ≡ holds highest_x = rw (le-leb 10000 (suc last) (omega arith)) refl in
    rw (next, here, listing_is n (omega arith))
    (enter_good (full n) (suc last) highest_x (omega arith) (omega (arith, capacity)) (omega arith) (upto_above highest last (suc last) (omega arith))
    (omega (arith, upto_size highest last widest refl (omega (arith, capacity)), capacity))
    ∙ ap (λ (q : Contents). accepted_as (with_contents (opened wide_lot full_card) q)) (upto_more highest last (holds highest_x) highest-here))

pub calls : (n : ℕ) → n ≤ most_held → (judge (listing n)).number ≡ 0
calls n h = ap (λ (j : Judged). j.number) (listing_is n h)

-- ---- how long its list is
five_digits : (k : ℕ) → 10000 ≤ k → k ≤ widest → length (decimal k) ≡ 5
five_digits k h g =
    ap length (more_digits k (omega arith) (omega arith))
    ∙ simp length-append
    (omega (
      arith,
      length_more (k / 10) (omega arith) (omega arith),
      length_more (k / 10 / 10) (omega arith) (omega arith),
      length_more (k / 10 / 10 / 10) (omega arith) (omega arith),
      ap length (one_digit (k / 10 / 10 / 10 / 10) (omega arith)),
    ))
  where
    length_more : (n : ℕ) → 10 ≤ n → n ≤ widest → length (decimal n) ≡ length (decimal (n / 10)) + 1
    length_more n h g = ap length (more_digits n h (omega arith)) ∙ simp length-append

six_bytes : length (pointed 2 highest_x) ≡ 6
unfolding pointed decimal decimals last_digits
six_bytes = refl

line_long : (k : ℕ) → 10000 ≤ k → k ≤ widest → length (list_line 2 k highest_x) ≡ line_bytes
unfolding list_line
line_long k h g = simp length-append (omega (arith, five_digits k h g, six_bytes))

-- as many bytes for each result that is held
module _ (f : Contents) (long : (k x : ℕ) → f k ≡ holds x → length (list_line 2 k x) ≡ line_bytes) where
  lines_long : (n : ℕ) → length (list_lines 2 f n) ≡ line_bytes * total one n f
  unfolding list_lines total
  lines_long zero = refl
  lines_long (suc n) = go (f (suc n)) refl (lines_long n)
    where
      go : (p : Content) → f (suc n) ≡ p → length (list_lines 2 f n) ≡ line_bytes * total one n f
          → length (list_lines 2 f n ++ place_listed 2 (suc n) p) ≡ line_bytes * (total one n f + one p)
      go free e r = simp length-append (omega arith)
      go (holds x) e r =
          let m = long (suc n) x e in
          simp length-append (omega arith)

no_content : {A : Type 0} {x : ℕ} → free ≡ holds x → A
no_content e = absurd (let z : ◌≡◌ {A = ℕ} 0 1 = cc in omega arith)

full_long : (k x : ℕ) → filled_to most_held k ≡ holds x → length (list_line 2 k x) ≡ line_bytes
full_long k x e = by (dec_le k (9999 + most_held)) (dec_le 10000 k)
  where
    by : Dec (k ≤ 9999 + most_held) → Dec (10000 ≤ k) → length (list_line 2 k x) ≡ line_bytes
    by (yes p) (yes q) =
        let is : holds highest_x ≡ holds x = sym (rw (le-leb k (9999 + most_held) p, le-leb 10000 k q) refl) ∙ e in
        let value : highest_x ≡ x = cc in
        rw (← value) (line_long k q (omega (arith, capacity)))
    by (yes p) (no q) = no_content (sym (rw (le-leb k (9999 + most_held) p, lt-leb 10000 k (omega arith)) refl) ∙ e)
    by (no p) q = no_content (sym (upto_above highest (9999 + most_held) k (omega arith)) ∙ e)

pub long : length (list_of (ledger (listing most_held))) ≡ longest_list
unfolding list_of
long =
    ap (λ (j : Judged). length (list_of j.ledger)) (listing_is most_held (omega arith))
    ∙ omega (arith, lines_long (filled_to most_held) full_long widest, upto_size highest (9999 + most_held) widest refl (omega (arith, capacity)), highest_size most_held, capacity)
