-- A bounded prefix of the bytes decides what a sheet says, and so what is printed for it. Assumes nothing.
use mathlib.Core.Path.{◌≡◌, refl, sym, ap, ◌∙◌}
use mathlib.Core.Bool.{Bool, true, false}
use mathlib.Core.List.{List, [], ◌∷◌, ◌++◌}
use Prim.Native.Nat.{ℕ, zero, suc, ◌+◌, ◌≤◌, ◌<◌}
use native.Mathlib.Omega.{arith}
use native.Mathlib.Decide.{dec_le}
use lib.Dec.{eqb}
use lib.ListN.{length, take, length-append}
use lib.Seq.{take-nil}
use borrow.Author.Tests.{ne_eqb}
use Rattle.rules.specs.Choice.{pick}
use Rattle.rules.specs.Limits.{lot_digits, card_digits, range_digits, end_digits, balance_digits, most_digits, most_bytes}
use Rattle.rules.specs.Text.{byte}
use Rattle.rules.specs.Lines.{ended, cut_from, lines_of}
use Rattle.rules.specs.Frames.{lot_frame, card_frame, critical_frame, range_frame, result_frame, end_frame, balance_frame, kind_frame, frame_of}
use Rattle.rules.specs.Reading.{State, Next, goes, stops, SheetOutcome, refused, step_of, after, read_from, at_start, read_of}
use Rattle.rules.specs.Printing.{printed, printed_for}
use Rattle.rules.specs.declared.Frame.TheVariants.{Bad}
use Rattle.rules.proofs.Taken.{taken}
use Rattle.reading_theorems.specs.Lengths.{bytes_that_decide, PrefixDecides}
use Rattle.reading_theorems.proofs.Fitting.{frame_fits}
use Rattle.reading_theorems.proofs.Falling.{room, falls, room_start}

-- ---- a line of more digits than any frame has is bad
bad_either : (b : Bool) → pick b Bad Bad ≡ Bad
bad_either true = refl
bad_either false = refl

long_bad : (d : List ℕ) → most_digits < length d → frame_of d ≡ Bad
unfolding frame_of kind_frame lot_frame card_frame critical_frame range_frame result_frame end_frame balance_frame
long_bad d h =
    simp (
      ne_eqb (length d) lot_digits (λ e. omega arith),
      ne_eqb (length d) card_digits (λ e. omega arith),
      ne_eqb (length d) range_digits (λ e. omega arith),
      ne_eqb (length d) end_digits (λ e. omega arith),
      ne_eqb (length d) balance_digits (λ e. omega arith),
      bad_either,
    )

-- whatever follows it
pub long_line : (rest sofar : List ℕ) (s : State) (n : ℕ) → most_digits < length sofar → read_from (cut_from sofar rest) s n ≡ refused 1 (n + 1)
unfolding cut_from read_from
long_line [] [] s n h = absurd (omega arith)
long_line [] (x ∷ xs) s n h = refl
long_line (x ∷ xs) sofar s n h = by (eqb x 10) (long_line xs (sofar ++ byte x) s n (simp length-append (omega arith)))
  where
    by : (b : Bool) → read_from (cut_from (sofar ++ byte x) xs) s n ≡ refused 1 (n + 1)
        → read_from (pick b (ended sofar ∷ lines_of xs) (cut_from (sofar ++ byte x) xs)) s n ≡ refused 1 (n + 1)
    by true r = rw (long_bad sofar h) refl
    by false r = r

-- ---- the first k bytes, behind the bytes so far of a line: as many as can still be taken, and those of one line more
after_same : (x : Next) (n : ℕ) (f g : State → SheetOutcome) → ((u : State) → x ≡ goes u → f u ≡ g u) → after x n f ≡ after x n g
after_same (goes u) n f g h = h u refl
after_same (stops e) n f g h = refl

decided : (s sofar : List ℕ) (t : State) (n k : ℕ) → length sofar ≤ most_digits → room t + most_bytes ≤ k + length sofar
    → read_from (cut_from sofar (take k s)) t n ≡ read_from (cut_from sofar s) t n
unfolding cut_from read_from
decided [] sofar t n k h j = rw take-nil refl
decided (x ∷ xs) sofar t n zero h j = absurd (omega arith)
decided (x ∷ xs) sofar t n (suc k) h j =
    by (eqb x 10)
    (λ u e. decided xs [] u (n + 1) k (omega arith) (omega (arith, falls (length sofar) t u (frame_fits sofar) (taken (frame_of sofar) t u e))))
    (λ q. decided xs (sofar ++ byte x) t n k q (simp length-append (omega arith)))
  where
    by : (b : Bool) → ((u : State) → step_of (frame_of sofar) t ≡ goes u → read_from (lines_of (take k xs)) u (n + 1) ≡ read_from (lines_of xs) u (n + 1))
        → (length (sofar ++ byte x) ≤ most_digits → read_from (cut_from (sofar ++ byte x) (take k xs)) t n ≡ read_from (cut_from (sofar ++ byte x) xs) t n)
        → read_from (pick b (ended sofar ∷ lines_of (take k xs)) (cut_from (sofar ++ byte x) (take k xs))) t n
        ≡ read_from (pick b (ended sofar ∷ lines_of xs) (cut_from (sofar ++ byte x) xs)) t n
    by true f g = after_same (step_of (frame_of sofar) t) (n + 1) _ _ f
    by false f g = long (dec_le (length (sofar ++ byte x)) most_digits)
      where
        long : Dec (length (sofar ++ byte x) ≤ most_digits) → read_from (cut_from (sofar ++ byte x) (take k xs)) t n ≡ read_from (cut_from (sofar ++ byte x) xs) t n
        long (yes q) = g q
        long (no q) = long_line (take k xs) (sofar ++ byte x) t n (omega arith) ∙ sym (long_line xs (sofar ++ byte x) t n (omega arith))

-- the first bytes decide what a sheet is read as
pub prefix_read : (s : List ℕ) (k : ℕ) → bytes_that_decide ≤ k → read_of (take k s) ≡ read_of s
unfolding read_of
prefix_read s k h = decided s [] at_start 0 k (omega arith) (omega (arith, room_start))

pub prefix_printed : PrefixDecides
unfolding printed_for
prefix_printed s k h = ap printed (prefix_read s k h)
