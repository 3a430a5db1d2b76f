-- What the bytes that were read tell of an input that begins with them. Assumes nothing.
use mathlib.Core.Path.{◌≡◌, sym, ◌∙◌}
use mathlib.Core.List.{List}
use Prim.Native.Nat.{ℕ, ◌≤◌, ◌<◌, min}
use native.Mathlib.Decide.{dec_lt}
use native.Mathlib.Omega.{arith}
use lib.ListN.{length, take}
use lib.Seq.{take_all, take-take}
use Rattle.rules.specs.Reading.{read_of}
use Rattle.reading_theorems.proofs.Prefix.{prefix_read}
use Rattle.program_input.specs.Input.{BeginsWith, IsSheetOf}
use Rattle.program_input.specs.declared.TheConstants.{SHEET}

-- the bytes that count are the input's first ones, as many as the buffer has places, or all of it
pub front : (input buffer : List ℕ) (n k m : ℕ) → k ≡ min n m → length buffer ≡ m → BeginsWith input buffer n → take k buffer ≡ take m input
front input buffer n k m e l b = sym (take-take k n buffer (omega arith)) ∙ rw (sym b.begins) (take-take k n input (omega arith) ∙ by (dec_lt n m))
  where
    by : Dec (n < m) → take k input ≡ take m input
    by (yes h) = let all : length input ≤ n = b.whole (omega arith) in take_all k input (omega arith) ∙ sym (take_all m input (omega arith))
    by (no h) = let full : k ≡ m = omega arith in rw full

-- a sheet is read as all of its input is
pub sheet_says : (input sheet : List ℕ) → IsSheetOf input sheet → read_of sheet ≡ read_of input
sheet_says input sheet e = rw e (prefix_read input SHEET (omega arith))
