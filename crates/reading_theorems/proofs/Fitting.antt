-- A frame that a line of digits is has as many digits as its kind, and those of its numbers that no test looks at fit the digits of
-- their fields. Assumes nothing.
use Prim.{Unit, tt}
use mathlib.Core.Path.{◌≡◌, refl}
use mathlib.Core.Bool.{Bool, true, false, ◌&&◌}
use mathlib.Core.List.{List}
use Prim.Native.Nat.{ℕ, ◌≤◌}
use native.Mathlib.Omega.{arith}
use lib.Dec.{eqb, leb}
use lib.ListN.{length}
use borrow.Author.Tests.{eqb-true}
use Rattle.rules.specs.Choice.{pick}
use Rattle.rules.specs.Limits.{widest, lot_digits, card_digits, critical_digits, range_digits, result_digits, end_digits, balance_digits}
use Rattle.rules.specs.Fields.{all_digits, field_of}
use Rattle.rules.specs.Frames.{sized, lot_frame, card_frame, critical_frame, range_frame, result_frame, end_frame, float_of, balance_frame, kind_frame, frame_of}
use Rattle.rules.specs.declared.Frame.{Frame}
use Rattle.rules.specs.declared.Frame.TheVariants as frame
use Rattle.rules.proofs.FieldLaws.{field_lt}

-- of n digits
abbrev pub Fits : ℕ → Frame → Type 0
Fits n frame.Bad = Unit {0}
Fits n (frame.Lot a c) = (n ≡ lot_digits) × (c ≤ widest)
Fits n (frame.Card f g s) = n ≡ card_digits
Fits n (frame.Critical k v) = (n ≡ critical_digits) × (v ≤ widest)
Fits n (frame.Range l h b r) = (n ≡ range_digits) × (r ≤ widest)
Fits n (frame.Result c x) = n ≡ result_digits
Fits n (frame.End c) = n ≡ end_digits
Fits n (frame.Balance c s p) = n ≡ balance_digits

either : (n : ℕ) (b : Bool) (f g : Frame) → Fits n f → Fits n g → Fits n (pick b f g)
either n true f g p q = p
either n false f g p q = q

of_size : (d : List ℕ) (n : ℕ) (f : Frame) → (length d ≡ n → Fits (length d) f) → Fits (length d) (sized d n f)
of_size d n f p = by (eqb (length d) n) refl
  where
    by : (b : Bool) → eqb (length d) n ≡ b → Fits (length d) (pick b f frame.Bad)
    by true e = p (eqb-true (length d) n e)
    by false e = tt

wide : (d : List ℕ) (a : ℕ) → field_of d a 4 ≤ widest
wide d a = omega (arith, field_lt d a 4)

pub frame_fits : (d : List ℕ) → Fits (length d) (frame_of d)
unfolding frame_of kind_frame lot_frame card_frame critical_frame range_frame result_frame end_frame balance_frame
frame_fits d =
    let k = field_of d 0 2 in
    let n = length d in
    either n (all_digits d && leb 2 n) _ frame.Bad
    (either n (eqb k 1) (lot_frame d) _ (of_size d lot_digits (frame.Lot (field_of d 2 2) (field_of d 4 4)) (λ e. (e, wide d 4)))
    (either n (eqb k 2) (card_frame d) _ (of_size d card_digits (frame.Card (field_of d 2 2) (field_of d 4 2) (field_of d 6 4)) (λ e. e))
    (either n (eqb k 3) (critical_frame d) _ (of_size d critical_digits (frame.Critical (field_of d 2 2) (field_of d 4 4)) (λ e. (e, wide d 4)))
    (either n (eqb k 4) (range_frame d) _ (of_size d range_digits (frame.Range (field_of d 2 2) (field_of d 4 2) (field_of d 6 4) (field_of d 10 4)) (λ e. (e, wide d 10)))
    (either n (eqb k 5) (result_frame d) _ (of_size d result_digits (frame.Result (field_of d 2 4) (field_of d 6 4)) (λ e. e))
    (either n (eqb k 6) (end_frame d) _ (of_size d end_digits (frame.End (field_of d 2 2)) (λ e. e))
    (either n (eqb k 7) (balance_frame d) frame.Bad
    (of_size d balance_digits (frame.Balance (field_of d 2 4) (field_of d 6 2) (record { component = float_of d 8; remainder = float_of d 16 })) (λ e. e)) tt)))))))
    tt
