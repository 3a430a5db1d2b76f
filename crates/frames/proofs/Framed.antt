-- The frame of the line that starts at a place of the sheet, by the byte behind its digits. Assumes nothing.
use mathlib.Core.Path.{◌≡◌, refl, sym, ap, ◌∙◌}
use mathlib.Core.Bool.{Bool, true, false, ◌&&◌, true≢false}
use mathlib.Core.List.{List}
use Prim.Native.Nat.{ℕ, ◌+◌, ◌<◌}
use native.Mathlib.Omega.{arith}
use lib.Dec.{eqb, ltb}
use lib.ListN.{length, get_or}
use borrow.Author.Tests.{lt-ltb, le-ltb, ltb-true, eqb-true}
use Rattle.std.specs.Borrow.{Bor}
use Rattle.std.specs.Option.{option_eq}
use Rattle.std.specs.Slice.{IsItemAt}
use Rattle.std.specs.declared.option.Option.{Option}
use Rattle.std.specs.declared.option.Option.TheVariants.{None, Some}
use Rattle.rules.specs.Choice.{pick}
use Rattle.rules.proofs.Tests.{and_left, and_right}
use Rattle.rules.specs.Fields.{all_digits}
use Rattle.rules.specs.Frames.{frame_of}
use Rattle.rules.specs.declared.Frame.{Frame}
use Rattle.rules.specs.declared.Frame.TheVariants.{Bad}
use Rattle.cutter.specs.Runs.{line_at, digits_at}
use Rattle.cutter.proofs.Lines.{line_is, line_length, line_ends}
use Rattle.frames.specs.Promise.{frame_at, LineAt}

-- whether the end byte stands at i
abbrev is_end : List ℕ → ℕ → Bool
is_end s i = ltb i (length s) && eqb (get_or s i 0) 10

-- the answer of a test for it
pub end_at : (s : List ℕ) (i : ℕ) (end : Bor ℕ) → end.now ≡ 10 → (r : Option (Bor ℕ)) → IsItemAt s i r
    → (t : Bool) → t ≡ option_eq (λ x y. eqb x.now y.now) r (Some end) → t ≡ is_end s i
end_at s i end e None g t q = rw (q, ← g.0) refl
end_at s i end e (Some x) g t q = rw (q, ← g.0, ← g.4 (omega arith) 0, e) refl

-- a line with another byte than digits is a bad one
bad_is : (b : Bool) (l : List ℕ) → all_digits l ≡ false → pick b (frame_of l) Bad ≡ Bad
unfolding frame_of
bad_is true l e = rw e refl
bad_is false l e = refl

-- the digits d of the line that starts at a
module _ (s : List ℕ) (a : ℕ) (d : List ℕ) (is : d ≡ digits_at s a) where
  with_frame : (f : Frame) → f ≡ frame_at s a → LineAt s a (record { frame = f; end = a + length d })
  with_frame f q =
      record {
        frame = q;
        digits = ap (λ (l : List ℕ). a + length l) is;
        end = λ e. ap (λ (n : ℕ). a + n) (line_length s a d is e);
      }

  -- no end byte follows them: another one, or none
  pub line_bad : is_end s (a + length d) ≡ false → LineAt s a (record { frame = Bad; end = a + length d })
  line_bad n = with_frame Bad (by (all_digits (line_at s a)) refl)
    where
      by : (b : Bool) → all_digits (line_at s a) ≡ b → Bad ≡ frame_at s a
      by false e = sym (bad_is (ltb (a + length (line_at s a)) (length s)) (line_at s a) e)
      by true e =
          let long = line_length s a d is e in
          let none = λ (h : a + length d < length s). true≢false (rw (lt-ltb _ _ h, line_ends s a d is e h) at n) in
          rw (le-ltb (a + length (line_at s a)) (length s) (omega (arith, none))) refl

  -- the end byte follows them
  pub line_ended : is_end s (a + length d) ≡ true → (f : Frame) → f ≡ frame_of d → LineAt s a (record { frame = f; end = a + length d })
  line_ended e f q =
      let within = ltb-true _ _ (and_left _ _ e) in
      let byte = eqb-true _ _ (and_right _ _ e) in
      with_frame f (q ∙ rw (line_is s a d is (λ k. byte), lt-ltb (a + length d) (length s) within) refl)
