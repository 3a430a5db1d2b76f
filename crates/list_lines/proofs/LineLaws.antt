-- The lines of a comma list as the code reads them; and what is handed on is answered as the exact numbers are. Assumes nothing.
use mathlib.Core.Path.{◌≡◌, refl, sym, ap, ◌∙◌}
use mathlib.Core.Bool.{Bool, true, false, not, cond}
use mathlib.Core.List.{List, [], ◌∷◌}
use Prim.Native.Nat.{ℕ, suc, ◌+◌, ◌-◌, ◌*◌, ◌≤◌, min}
use native.Mathlib.Omega.{arith}
use native.Mathlib.Decide.{ℕ_discrete, dec_le}
use lib.Dec.{eqb, ltb}
use lib.ListN.{length, take, drop, length-drop, drop_of_length-le}
use lib.Seq.{take_all, length-take-le}
use borrow.Author.Tests.{eq-eqb, ne_eqb, le-leb, lt-leb, ltb-false}
use Rattle.std.specs.Prelude.{Option, Some, None, option_map, unwrap_or}
use Rattle.std.specs.List.{position, position_or_len}
use Rattle.std.proofs.lemmas.List.Sums.{prefix_len-le-length}
use Rattle.rules.specs.Choice.{pick}
use Rattle.rules.specs.Limits.{widest}
use Rattle.rules.specs.Decimals.{all_decimal, decimal_value, is_number}
use Rattle.rules.specs.Ledger.{Ledger, containers}
use Rattle.rules.specs.ListReading.{Reads, wrong, reads, leads_zero, plain_of, first, has, before, behind, comma, point, hundredths_of, percent, percent_of, value_of, Says, bad, says, both, say_of, line_on}
use Rattle.rules.specs.declared.Attribute.{Attribute}
use Rattle.cutter.specs.Runs.{run_of, run_at, is_of_line, line_at}
use Rattle.decimal_words.specs.Words.{capped, word_of, when}
use Rattle.narrowed.specs.Narrowed.{kept_container, kept_x}
use Rattle.narrowed.proofs.Answered.{enter_kept}
use Rattle.list_lines.specs.declared.Entry.{Entry}
use Rattle.list_lines.specs.Lines.{entry_of, entry_on, ReadAt, number_is}

-- ---- the place of the first b
first_is : (b : ℕ) (l : List ℕ) → first b l ≡ position_or_len (λ x. eqb x b) l
unfolding first
first_is b [] = refl
first_is b (x ∷ xs) = by (eqb x b) (first_is b xs)
  where
    by : (t : Bool) → first b xs ≡ position_or_len (λ y. eqb y b) xs
        → pick t 0 (suc (first b xs)) ≡ cond (not t) (1 + position_or_len (λ y. eqb y b) xs) 0
    by true e = refl
    by false e = omega (arith, e)

first_within : (b : ℕ) (l : List ℕ) → first b l ≤ length l
first_within b l = rw (first_is b l) (prefix_len-le-length _ l)

pub place_is : (b : ℕ) (l : List ℕ) → position (λ x. eqb x b) l ≡ when (has b l) (first b l)
place_is b l = rw (first_is b l) (by (ltb (position_or_len (λ x. eqb x b) l) (length l)))
  where
    by : (t : Bool) → cond t (Some (position_or_len (λ x. eqb x b) l)) None ≡ when t (position_or_len (λ x. eqb x b) l)
    by true = refl
    by false = refl

-- ---- numbers
pub plain_is : (w : List ℕ) → number_is (plain_of w) ≡ pick (leads_zero w) None (word_of w)
unfolding plain_of
plain_is w = by (leads_zero w) (is_number w)
  where
    by : (b c : Bool) → number_is (pick b wrong (pick c (reads (decimal_value w)) wrong)) ≡ pick b None (when c (capped (decimal_value w)))
    by true c = refl
    by false true = refl
    by false false = refl

-- ---- hundredths
number_some : (w : List ℕ) → 1 ≤ length w → is_number w ≡ all_decimal w
number_some w h = rw (le-leb 1 (length w) h)

pub hundredths_is : (w : List ℕ) → number_is (hundredths_of w)
    ≡ pick (eqb (length w) 1) (option_map (λ n. capped (10 * n)) (word_of w)) (pick (eqb (length w) 2) (word_of w) None)
unfolding hundredths_of
hundredths_is w = go (ℕ_discrete (length w) 1) (ℕ_discrete (length w) 2)
  where
    one : (b : Bool) (n : ℕ) → number_is (pick b (reads (10 * n)) wrong) ≡ option_map (λ m. capped (10 * m)) (when b (capped n))
    one true n = ap Some (omega arith)
    one false n = refl

    two : (b : Bool) (n : ℕ) → number_is (pick b (reads n) wrong) ≡ when b (capped n)
    two true n = refl
    two false n = refl

    none : (b : Bool) → number_is (pick b wrong wrong) ≡ None
    none true = refl
    none false = refl

    go : Dec (length w ≡ 1) → Dec (length w ≡ 2) → number_is (hundredths_of w)
        ≡ pick (eqb (length w) 1) (option_map (λ n. capped (10 * n)) (word_of w)) (pick (eqb (length w) 2) (word_of w) None)
    go (yes p) q = rw (number_some w (omega arith), eq-eqb (length w) 1 p) (one (all_decimal w) (decimal_value w))
    go (no p) (yes q) = rw (number_some w (omega arith), ne_eqb (length w) 1 p, eq-eqb (length w) 2 q) (two (all_decimal w) (decimal_value w))
    go (no p) (no q) = rw (ne_eqb (length w) 1 p, ne_eqb (length w) 2 q) (none (all_decimal w))

-- ---- percentages, and lines
abbrev pub percent_from : Option ℕ → Option ℕ → Option ℕ
percent_from (Some n) (Some f) = Some (capped (100 * n + f))
percent_from (Some n) None = None
percent_from None f = None

percent_kept : (p q : Reads) → number_is (percent p q) ≡ percent_from (number_is p) (number_is q)
percent_kept (reads n) (reads f) = ap Some (omega arith)
percent_kept (reads n) wrong = refl
percent_kept wrong q = refl

pub percent_is : (w : List ℕ) → number_is (percent_of w)
    ≡ percent_from (number_is (plain_of (before point w))) (pick (has point w) (number_is (hundredths_of (behind point w))) (Some 0))
unfolding percent_of
percent_is w = percent_kept (plain_of (before point w)) _ ∙ ap (percent_from (number_is (plain_of (before point w)))) (by (has point w))
  where
    by : (b : Bool) → number_is (pick b (hundredths_of (behind point w)) (reads 0)) ≡ pick b (number_is (hundredths_of (behind point w))) (Some 0)
    by true = refl
    by false = refl

-- a word without a point stands before it
pub before_all : (b : ℕ) (w : List ℕ) → has b w ≡ false → before b w ≡ w
before_all b w e = take_all (first b w) w (ltb-false (first b w) (length w) e)

kept_container_lem : (k : ℕ) → kept_container (capped k) ≡ kept_container k
kept_container_lem k = go (dec_le k widest)
  where
    go : Dec (k ≤ widest) → kept_container (capped k) ≡ kept_container k
    go (yes h) = let e : capped k ≡ k = omega arith in rw e
    go (no h) = rw (lt-leb (capped k) widest (omega arith), lt-leb k widest (omega arith))

kept_x_lem : (x : ℕ) → kept_x (capped x) ≡ kept_x x
kept_x_lem x = omega arith

abbrev pub entry_from : Option ℕ → Option ℕ → Option Entry
entry_from (Some k) (Some x) = Some (record { container = kept_container k; x = kept_x x })
entry_from (Some k) None = None
entry_from None x = None

entry_kept : (p q : Reads) → entry_of (both p q) ≡ entry_from (number_is p) (number_is q)
entry_kept (reads k) (reads x) = rw (kept_container_lem k, kept_x_lem x)
entry_kept (reads k) wrong = refl
entry_kept wrong q = refl

pub entry_is : (a : Attribute) (l : List ℕ) → entry_of (say_of a l)
    ≡ pick (has comma l) (entry_from (number_is (plain_of (before comma l))) (number_is (value_of a (behind comma l)))) None
unfolding say_of
entry_is a l = by (has comma l)
  where
    by : (b : Bool) → entry_of (pick b (both (plain_of (before comma l)) (value_of a (behind comma l))) bad)
        ≡ pick b (entry_from (number_is (plain_of (before comma l))) (number_is (value_of a (behind comma l)))) None
    by true = entry_kept (plain_of (before comma l)) (value_of a (behind comma l))
    by false = refl

-- ---- a line of the list s, from b on, the lesser of a and the list's length
abbrev end_byte : ℕ
end_byte = 10

first_run : (l : List ℕ) → first end_byte l ≡ run_of is_of_line l
unfolding first run_of
first_run [] = refl
first_run (x ∷ xs) = by (eqb x end_byte) (first_run xs)
  where
    by : (t : Bool) → first end_byte xs ≡ run_of is_of_line xs → pick t 0 (suc (first end_byte xs)) ≡ pick (not t) (suc (run_of is_of_line xs)) 0
    by true e = refl
    by false e = ap suc e

first_or_all : (w : List ℕ) → unwrap_or (when (has end_byte w) (first end_byte w)) (length w) ≡ first end_byte w
first_or_all w = by (has end_byte w) refl
  where
    by : (t : Bool) → has end_byte w ≡ t → unwrap_or (when t (first end_byte w)) (length w) ≡ first end_byte w
    by true e = refl
    by false e = omega (arith, ltb-false (first end_byte w) (length w) e, first_within end_byte w)

from_start : (s : List ℕ) (a b : ℕ) → b ≡ min a (length s) → take (length s - b) (drop b s) ≡ drop a s
from_start s a b h = take_all (length s - b) (drop b s) (simp length-drop (omega arith)) ∙ by (dec_le a (length s))
  where
    by : Dec (a ≤ length s) → drop b s ≡ drop a s
    by (yes k) = let e : b ≡ a = omega arith in ap (λ (i : ℕ). drop i s) e
    by (no k) = drop_of_length-le s {i = b} (omega arith) ∙ sym (drop_of_length-le s {i = a} (omega arith))

module _ (t : Attribute) (s w : List ℕ) (a b n : ℕ) (start : b ≡ min a (length s)) (from : w ≡ drop a s) (end : n ≡ first end_byte w) where
  line_is : take n w ≡ line_at s a
  unfolding run_at
  line_is = rw (end, from, first_run (drop a s)) refl

  long : length (line_at s a) ≡ n
  long = sym (ap length line_is) ∙ length-take-le n w (omega (arith, first_within end_byte w))

  read : (r : Option Entry) → r ≡ entry_of (say_of t (take n w)) → ReadAt t s a (record { entry = r; end = b + n })
  read r q = record { end = omega (arith, long); entry = q ∙ rw line_is }

pub read_line : (t : Attribute) (s : List ℕ) (a b n : ℕ) (p : Option ℕ) (r : Option Entry) → b ≡ min a (length s)
    → p ≡ when (has end_byte (take (length s - b) (drop b s))) (first end_byte (take (length s - b) (drop b s)))
    → n ≡ unwrap_or p (length (take (length s - b) (drop b s))) → r ≡ entry_of (say_of t (take n (take (length s - b) (drop b s))))
    → ReadAt t s a (record { entry = r; end = b + n })
read_line t s a b n p r h e q k =
    let w = take (length s - b) (drop b s) in
    read t s w a b n h (from_start s a b h) (q ∙ (ap (λ (o : Option ℕ). unwrap_or o (length w)) e ∙ first_or_all w)) r k

-- ---- what a line is handed on as decides as its exact numbers do, however many digits they have
pub line_kept : (g : Ledger) (s : Says) → containers g ≤ widest → entry_on g (entry_of s) ≡ line_on g s
line_kept g bad h = refl
line_kept g (says k x) h = enter_kept g k x h
