-- The digits at the front of a line, the line, and the lines that follow. Assumes nothing.
use mathlib.Core.Path.{◌≡◌, refl, sym, ap, ◌∙◌}
use mathlib.Core.Bool.{Bool, true, false, not, true≢false}
use mathlib.Core.List.{List, [], ◌∷◌, ◌++◌, append_assoc, append-nil}
use Prim.Native.Nat.{ℕ, suc, ◌+◌, ◌≤◌, ◌<◌, max}
use native.Mathlib.Omega.{arith}
use lib.Dec.{eqb, ltb, leb-suc-suc}
use lib.ListN.{length, get_or, take, drop, length-drop, drop_of_length-le}
use lib.Seq.{drop-cons, drop-drop, get_or-take, get_or-drop, length-take-le}
use borrow.Author.Tests.{ne_eqb, eqb-true, lt-ltb, le-ltb, not-false}
use Rattle.std.proofs.lemmas.List.Recursion.{and_at, and_from_places}
use Rattle.rules.specs.Choice.{pick}
use Rattle.rules.specs.Text.{byte}
use Rattle.rules.specs.Fields.{is_digit, all_digits}
use Rattle.rules.specs.Lines.{Line, ended, unended, left, cut_from, lines_of}
use Rattle.rules.proofs.LineLaws.{no_lines}
use Rattle.cutter.specs.Runs.{run_of, run_at, is_of_line, line_at, digits_at}
use Rattle.cutter.proofs.Runs.{run_le, run_passes, run_fails, run_only, run_length}

-- ---- the digits of a line, and the line
pub digit_at : (l : List ℕ) (i : ℕ) → all_digits l ≡ true → i < length l → is_digit (get_or l i 0) ≡ true
unfolding all_digits
digit_at l i e h = and_at all_digits is_digit refl (λ x xs. refl) l i 0 h e

digit_of_line : (x : ℕ) → is_digit x ≡ true → is_of_line x ≡ true
digit_of_line x e = ap not (ne_eqb x 10 (λ h. true≢false (sym e ∙ ap is_digit h)))

end_byte : (x : ℕ) → is_of_line x ≡ false → x ≡ 10
end_byte x e = eqb-true x 10 (not-false (eqb x 10) e)

run_digits : (l : List ℕ) → all_digits (take (run_of is_digit l) l) ≡ true
unfolding all_digits
run_digits l =
    let n = run_of is_digit l in
    let long = length-take-le n l (run_le is_digit l) in
    and_from_places all_digits is_digit refl (λ x xs. refl) (take n l) 0
    (λ i h. rw (get_or-take n l i 0 (omega arith)) (run_passes is_digit l i (omega arith)))

-- the digits are the line where the end byte or the end of the bytes follows them
line_of_digits : (l : List ℕ) → (run_of is_digit l < length l → get_or l (run_of is_digit l) 0 ≡ 10) → run_of is_of_line l ≡ run_of is_digit l
line_of_digits l f =
    run_only is_of_line l (run_of is_digit l) (run_le is_digit l)
    (λ i h. digit_of_line (get_or l i 0) (run_passes is_digit l i h)) (λ h. ap is_of_line (f h))

-- and where the line has nothing but digits
digits_of_line : (l : List ℕ) → all_digits (take (run_of is_of_line l) l) ≡ true → run_of is_digit l ≡ run_of is_of_line l
digits_of_line l e =
    let n = run_of is_of_line l in
    let long = length-take-le n l (run_le is_of_line l) in
    run_only is_digit l n (run_le is_of_line l)
    (λ i h. rw (get_or-take n l i 0 h) at (digit_at (take n l) i e (omega arith)))
    (λ h. ap is_digit (end_byte (get_or l n 0) (run_fails is_of_line l h)))

-- ---- at a place of the sheet: the digits d of the line that starts at a
module _ (s : List ℕ) (a : ℕ) (d : List ℕ) (is : d ≡ digits_at s a) where
  count : length d ≡ run_of is_digit (drop a s)
  count = ap length is ∙ run_length is_digit s a

  pub digits_within : a + length d ≤ max a (length s)
  digits_within = omega (arith, count, run_le is_digit (drop a s), length-drop a s)

  pub digits_all : all_digits d ≡ true
  unfolding run_at
  digits_all = ap all_digits is ∙ run_digits (drop a s)

  behind : get_or (drop a s) (run_of is_digit (drop a s)) 0 ≡ get_or s (a + length d) 0
  behind = get_or-drop a s (run_of is_digit (drop a s)) 0 ∙ ap (λ (n : ℕ). get_or s (a + n) 0) (sym count)

  pub line_is : (a + length d < length s → get_or s (a + length d) 0 ≡ 10) → line_at s a ≡ d
  unfolding run_at
  line_is f =
      ap (λ (n : ℕ). take n (drop a s)) (line_of_digits (drop a s) (λ h. behind ∙ f (omega (arith, count, length-drop a s))))
      ∙ sym is

  all_of_line : all_digits (line_at s a) ≡ true → run_of is_digit (drop a s) ≡ run_of is_of_line (drop a s)
  unfolding run_at
  all_of_line e = digits_of_line (drop a s) e

  -- a line of nothing but digits is as long as they are, and its end byte follows them where a byte does
  pub line_length : all_digits (line_at s a) ≡ true → length d ≡ length (line_at s a)
  line_length e = omega (arith, count, all_of_line e, run_length is_of_line s a)

  pub line_ends : all_digits (line_at s a) ≡ true → a + length d < length s → get_or s (a + length d) 0 ≡ 10
  line_ends e h =
      let q = all_of_line e in
      let ends = run_fails is_of_line (drop a s) (omega (arith, count, q, length-drop a s)) in
      sym behind ∙ (ap (λ (n : ℕ). get_or (drop a s) n 0) q ∙ end_byte _ ends)

-- ---- the lines, one after the other
-- a line of n bytes behind the bytes so far, and what follows it
abbrev line_then : List ℕ → List ℕ → ℕ → List Line
line_then sofar l n = ended (sofar ++ take n l) ∷ lines_of (drop (suc n) l)

cut_run : (l sofar : List ℕ) → cut_from sofar l ≡ pick (ltb (run_of is_of_line l) (length l)) (line_then sofar l (run_of is_of_line l)) (left (sofar ++ l))
unfolding run_of cut_from
cut_run [] sofar = rw append-nil refl
cut_run (x ∷ xs) sofar = by (eqb x 10) (cut_run xs (sofar ++ byte x))
  where
    by : (b : Bool) → cut_from (sofar ++ byte x) xs ≡ pick (ltb (run_of is_of_line xs) (length xs)) (line_then (sofar ++ byte x) xs (run_of is_of_line xs)) (left ((sofar ++ byte x) ++ xs))
        → pick b (ended sofar ∷ lines_of xs) (cut_from (sofar ++ byte x) xs)
        ≡ (let n = pick (not b) (suc (run_of is_of_line xs)) 0 in pick (ltb n (length (x ∷ xs))) (line_then sofar (x ∷ xs) n) (left (sofar ++ (x ∷ xs))))
    by true f = rw (append-nil, lt-ltb 0 (suc (length xs)) (omega arith)) refl
    by false f = f ∙ rw leb-suc-suc (simp append_assoc)

-- at a place of a sheet
module _ (s : List ℕ) (a : ℕ) where
  pub lines_ended : a + length (line_at s a) < length s → lines_of (drop a s) ≡ ended (line_at s a) ∷ lines_of (drop (a + length (line_at s a) + 1) s)
  lines_ended h =
      let n = run_of is_of_line (drop a s) in
      let e : a + length (line_at s a) + 1 ≡ a + suc n = omega (arith, run_length is_of_line s a) in
      let k : n < length (drop a s) = omega (arith, run_length is_of_line s a, length-drop a s) in
      cut_run (drop a s) [] ∙ rw (lt-ltb n (length (drop a s)) k, e, drop-drop) (unfold run_at in refl)

  pub lines_unended : a < length s → length s ≤ a + length (line_at s a) → lines_of (drop a s) ≡ unended ∷ []
  lines_unended h k =
      let n = run_of is_of_line (drop a s) in
      let q : length (drop a s) ≤ n = omega (arith, run_length is_of_line s a, length-drop a s) in
      cut_run (drop a s) [] ∙ rw (le-ltb n (length (drop a s)) q, drop-cons s a 0) refl

  pub lines_none : length s ≤ a → lines_of (drop a s) ≡ []
  lines_none h = ap lines_of (drop_of_length-le s {i = a} h) ∙ no_lines
