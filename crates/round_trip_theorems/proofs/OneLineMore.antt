-- The longest accepted sheet with one line more, of the most bytes: without its last byte it is refused with another number. So no fewer bytes
-- decide what is printed. Assumes nothing.
use mathlib.Core.Path.{◌≡◌, refl, sym, ap, ◌∙◌}
use mathlib.Core.Bool.{true, false, true≢false}
use mathlib.Core.List.{List, ◌++◌}
use Prim.Native.Nat.{ℕ, ◌+◌}
use lib.ListN.{length, get_or, take}
use lib.Seq.{take-append-add}
use borrow.Author.Tests.{eqb-false}
use Rattle.rules.specs.Limits.{most_digits}
use Rattle.rules.specs.Text.{decimals, decimal}
use Rattle.rules.specs.Lines.{cut_from, lines_of}
use Rattle.rules.specs.Fields.{all_digits, value_of, number_behind, number, field_of, digits, digit_of}
use Rattle.rules.specs.Frames.{balance_frame, kind_frame, frame_of}
use Rattle.rules.specs.Stages.{may_stand, is_ended}
use Rattle.rules.specs.Reading.{State, refused, balance_step, read_from, read_of}
use Rattle.rules.specs.Printing.{refused_line, printed, printed_for}
use Rattle.rules.specs.declared.Stage.{Stage}
use Rattle.rules.specs.declared.Stage.TheVariants as stage
use Rattle.round_trip_theorems.specs.Statement.{balance_line, zero_line, weighed_sheet, one_line_more, LastByteNeeded}
use Rattle.round_trip_theorems.proofs.Longest.{heavy, weighed_on, weighed_ended}

-- behind the end no result may stand
no_result : (t : Stage) → is_ended t ≡ true → may_stand 7 t ≡ false
no_result stage.Start e = absurd (true≢false (sym e))
no_result stage.Lot e = absurd (true≢false (sym e))
no_result stage.Card e = absurd (true≢false (sym e))
no_result stage.Critical e = absurd (true≢false (sym e))
no_result stage.Range e = absurd (true≢false (sym e))
no_result stage.Result e = absurd (true≢false (sym e))
no_result stage.End e = refl

-- a result is out of turn there, and a bad line without its end byte
out_of_turn : (s : State) (n : ℕ) → is_ended s.stage ≡ true → read_from (lines_of (zero_line 1)) s n ≡ refused 2 (n + 1)
unfolding read_from cut_from balance_line digits digit_of frame_of kind_frame balance_frame all_digits field_of value_of number number_behind balance_step
out_of_turn s n e = rw (no_result s.stage e) refl

bad_line : (s : State) (n : ℕ) → read_from (lines_of (take most_digits (zero_line 1))) s n ≡ refused 1 (n + 1)
unfolding read_from cut_from balance_line digits digit_of
bad_line s n = refl

-- the lines of two refusals differ
differ : (n : ℕ) → refused_line 1 n ≡ refused_line 2 n → ⊥
unfolding refused_line decimal decimals
differ n q = let z : ◌≡◌ {A = ℕ} 49 50 = ap (λ (l : List ℕ). get_or l 8 0) q in absurd (eqb-false 49 50 refl z)

pub needed : LastByteNeeded
unfolding printed_for
needed q =
    let x = zero_line 1 in
    let cut : take (length weighed_sheet + most_digits) one_line_more ≡ weighed_sheet ++ take most_digits x = take-append-add weighed_sheet x most_digits in
    let whole = weighed_on x ∙ out_of_turn _ _ weighed_ended in
    let short = ap read_of cut ∙ (weighed_on (take most_digits x) ∙ bad_line _ _) in
    differ _ (sym (ap printed (ap (λ (k : ℕ). read_of (take (k + most_digits) one_line_more)) (sym heavy) ∙ short)) ∙ (q ∙ ap printed whole))
