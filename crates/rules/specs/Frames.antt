-- What a line says: the frame that it is, or a bad line.
use Rattle.std.specs.Prelude.{◌&&◌, List, ℕ, eqb, leb, length, Float}
use Rattle.std.specs.Float.{binary32}
use Rattle.std.specs.Float.Ieee.{of_bits}
use Rattle.rules.specs.Choice.{pick}
use Rattle.rules.specs.Limits.{lot_digits, card_digits, critical_digits, range_digits, result_digits, end_digits, balance_digits}
use Rattle.rules.specs.Fields.{all_digits, field_of}
use Rattle.rules.specs.declared.Frame.{Frame}
use Rattle.rules.specs.declared.Frame.TheVariants.{Bad, Lot, Card, Critical, Range, Result, End, Balance}

-- a frame where the line has n digits, else a bad line
abbrev pub sized : List ℕ → ℕ → Frame → Frame
sized d n f = pick (eqb (length d) n) f Bad

-- 01 lot: attribute (2), containers (4)
unfoldable pub lot_frame : List ℕ → Frame
lot_frame d = sized d lot_digits (Lot (field_of d 2 2) (field_of d 4 4))

-- 02 card: F (2), G (2), n (4)
unfoldable pub card_frame : List ℕ → Frame
card_frame d = sized d card_digits (Card (field_of d 2 2) (field_of d 4 2) (field_of d 6 4))

-- 03 critical: N (2), critical H in hundredths (4)
unfoldable pub critical_frame : List ℕ → Frame
critical_frame d = sized d critical_digits (Critical (field_of d 2 2) (field_of d 4 4))

-- 04 range: lowest N (2), highest N (2), mean bound (4), tolerated R (4)
unfoldable pub range_frame : List ℕ → Frame
range_frame d = sized d range_digits (Range (field_of d 2 2) (field_of d 4 2) (field_of d 6 4) (field_of d 10 4))

-- 05 result: container (4), X (4)
unfoldable pub result_frame : List ℕ → Frame
result_frame d = sized d result_digits (Result (field_of d 2 4) (field_of d 6 4))

-- 06 end: number of 05 and 07 frames (2)
unfoldable pub end_frame : List ℕ → Frame
end_frame d = sized d end_digits (End (field_of d 2 2))

-- the float of the 8 digits from a on
abbrev pub float_of : List ℕ → ℕ → Float
float_of d a = of_bits binary32 (field_of d a 8)

-- 07 balance: container (4), status (2), component (8), remainder (8)
unfoldable pub balance_frame : List ℕ → Frame
balance_frame d =
    sized d balance_digits (Balance (field_of d 2 4) (field_of d 6 2) (record { component = float_of d 8; remainder = float_of d 16 }))

-- by the kind k
unfoldable pub kind_frame : ℕ → List ℕ → Frame
kind_frame k d =
    pick (eqb k 1) (lot_frame d)
    (pick (eqb k 2) (card_frame d)
    (pick (eqb k 3) (critical_frame d)
    (pick (eqb k 4) (range_frame d)
    (pick (eqb k 5) (result_frame d)
    (pick (eqb k 6) (end_frame d)
    (pick (eqb k 7) (balance_frame d) Bad))))))

-- a line of digits alone, the first two of which are the kind
unfoldable pub frame_of : List ℕ → Frame
frame_of d = pick (all_digits d && leb 2 (length d)) (kind_frame (field_of d 0 2) d) Bad
