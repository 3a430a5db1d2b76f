-- What the reader of a line promises.
use Rattle.std.specs.Prelude.{◌≡◌, true, List, ℕ, ◌+◌, ltb, length}
use Rattle.rules.specs.Choice.{pick}
use Rattle.rules.specs.Fields.{all_digits}
use Rattle.rules.specs.Frames.{frame_of}
use Rattle.rules.specs.declared.Frame.{Frame}
use Rattle.rules.specs.declared.Frame.TheVariants.{Bad}
use Rattle.cutter.specs.Runs.{line_at, digits_at}
use Rattle.frames.specs.declared.FramedLine.{FramedLine}

-- the frame of the line that starts at a, which has to have an end byte
abbrev pub frame_at : List ℕ → ℕ → Frame
frame_at s a = pick (ltb (a + length (line_at s a)) (length s)) (frame_of (line_at s a)) Bad

-- the frame, and where the line's digits end, on a bad line too: that is the place of the end byte where the line has nothing but
-- digits
pub record LineAt (s : List ℕ) (a : ℕ) (r : FramedLine) : Type 0 where
  pub frame : r.frame ≡ frame_at s a
  pub digits : r.end ≡ a + length (digits_at s a)
  pub end : all_digits (line_at s a) ≡ true → r.end ≡ a + length (line_at s a)
