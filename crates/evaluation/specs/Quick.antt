-- What is printed for a sheet, worked out with the results as a list beside the state, and no further into the bytes than they matter.
use Rattle.std.specs.Prelude.{ℕ, ◌+◌, Bool, true, false, List, [], ◌∷◌, ◌++◌, eqb, leb, ltb, length}
use Rattle.std.specs.Float.Ieee.{of_fields, of_bits, to_bits}
use Rattle.rules.specs.Choice.{pick}
use Rattle.rules.specs.Limits.{most_held, least_reported, most_digits}
use Rattle.rules.specs.Contents.{is_held}
use Rattle.rules.specs.Floats.{exact_of}
use Rattle.rules.specs.Weights.{bad_weight, tenths_of, ratio_of, share_of, weighed_of, weighing_of}
use Rattle.rules.specs.Ledger.{Ledger, Judged, containers, judged, enter_number_by, entered, weigh_number_by}
use Rattle.rules.specs.Text.{byte, decimals, decimal, last_digits, pointed}
use Rattle.rules.specs.Cards.{rows_good, criticals_good}
use Rattle.rules.specs.Rounding.{nearest_of, side_of}
use Rattle.rules.specs.Attributes.{is_void, mean_scale}
use Rattle.rules.specs.Figures.{mean_of, ratio, reported_h, exceeds, tolerated_upto}
use Rattle.rules.specs.Report.{findings_of, count_line, mark_text, mean_line, verdict_word, limit_text, value_line, lot_word, lot_verdict_line, judgement_text, findings_text, report_text}
use Rattle.rules.specs.Fields.{all_digits, value_of, number_behind, number, field_of}
use Rattle.rules.specs.Frames.{lot_frame, card_frame, critical_frame, range_frame, result_frame, end_frame, balance_frame, kind_frame, frame_of}
use Rattle.rules.specs.Stages.{is_ended}
use Rattle.rules.specs.Reading.{State, Next, goes, stops, result_by, lot_step, card_step, critical_step, range_step, end_step, at_start}
use Rattle.rules.specs.Printing.{refused_line}
use Rattle.rules.specs.Numbers.{Answered}
use Rattle.rules.specs.declared.Frame.{Frame}
use Rattle.rules.specs.declared.Frame.TheVariants as frame
use Rattle.reading_theorems.specs.Spelling.{Entry, entry_of}
use Rattle.evaluation.specs.Entries.{gathered, figures_over}

-- ---- an enter and a weigh on a ledger that is known to hold k results
abbrev pub enter_number_at : ℕ → Ledger → ℕ → ℕ → ℕ
enter_number_at k g c x = enter_number_by (containers g) (is_held (g.contents c)) k c x

abbrev pub enter_at : ℕ → Ledger → ℕ → ℕ → Judged
enter_at k g c x = judged (enter_number_at k g c x) g (entered g c x)

abbrev pub weigh_at : ℕ → Ledger → ℕ → Answered → Judged
weigh_at k g c w = judged (weigh_number_by g.lot.attribute (enter_number_at k g c w.value) w.number) g (entered g c w.value)

-- a result frame, with the number of those before it for what is held
unfoldable pub result_at : State → ℕ → ℕ → Next
result_at s c x = result_by 5 s (λ g. enter_at s.results g c x)

unfoldable pub balance_at : State → ℕ → Answered → Next
balance_at s c w = result_by 7 s (λ g. weigh_at s.results g c w)

abbrev pub step_at : Frame → State → Next
step_at frame.Bad s = stops 1
step_at (frame.Lot a n) s = lot_step s a n
step_at (frame.Card f g n) s = card_step s f g n
step_at (frame.Critical k v) s = critical_step s k v
step_at (frame.Range l h b r) s = range_step s l h b r
step_at (frame.Result c x) s = result_at s c x
step_at (frame.End n) s = end_step s n
step_at (frame.Balance c status p) s = balance_at s c (weighing_of status p)

-- ---- the bytes, one by one
-- what is printed, or that the bytes so far do not tell
pub data Evaluated : Type 0 where
  shows : List ℕ → Evaluated
  unsettled : Evaluated

-- what is printed for the number and the line of a fault; and for an accepted sheet, by its ledger, its results and its lines
pub record Printing : Type 0 where
  pub fault : ℕ → ℕ → List ℕ
  pub result : Ledger → List Entry → ℕ → List ℕ

abbrev pub evaluated_after : Printing → Next → ℕ → (State → Evaluated) → Evaluated
evaluated_after p (goes s) line k = k s
evaluated_after p (stops e) line k = shows (p.fault e line)

-- no bytes more, behind the bytes so far of a line
abbrev pub at_end : Printing → List ℕ → State → List Entry → ℕ → List ℕ
at_end p [] s es n = pick (is_ended s.stage) (p.result s.ledger es n) (p.fault 2 (n + 1))
at_end p (x ∷ xs) s es n = p.fault 1 (n + 1)

-- The bytes that follow, behind the bytes so far of a line, n lines having been read; whole: nothing comes behind them.
-- A byte behind as many as a frame's digits can be is a fault. By elim and not by pick: only what is chosen is computed.
unfoldable pub quick_from : Printing → Bool → List ℕ → List ℕ → State → List Entry → ℕ → Evaluated
quick_from p whole sofar [] s es n = pick whole (shows (at_end p sofar s es n)) unsettled
quick_from p whole sofar (x ∷ xs) s es n =
    elim (eqb x 10) [
      | true ↦ evaluated_after p (step_at (frame_of sofar) s) (n + 1) (λ t. quick_from p whole [] xs t (es ++ entry_of (frame_of sofar)) (n + 1))
      | false ↦ elim (leb most_digits (length sofar)) [
        | true ↦ shows (p.fault 1 (n + 1))
        | false ↦ quick_from p whole (sofar ++ byte x) xs s es n
      ]
    ]

-- Of a whole sheet, or of every sheet that begins with these bytes. To unfold it is to unfold all that it computes with, so every
-- definition of the reading that is not an abbrev stands here.
unfoldable pub quickly : Printing → Bool → List ℕ → Evaluated
unfolding quick_from result_at balance_at frame_of kind_frame lot_frame card_frame critical_frame range_frame result_frame end_frame balance_frame all_digits field_of number number_behind value_of lot_step card_step critical_step range_step end_step rows_good criticals_good weighed_of share_of tenths_of ratio_of bad_weight exact_of of_fields of_bits to_bits nearest_of most_held
quickly p whole bytes = quick_from p whole [] bytes at_start [] 0

-- ---- lotreport
-- an accepted sheet of n lines
unfoldable pub report : Ledger → List Entry → ℕ → List ℕ
report g es n = pick (ltb (length es) least_reported) (refused_line 15 n) (report_text g.lot g.card (figures_over es))

abbrev pub reporting : Printing
reporting = record { fault = refused_line; result = report }

-- with every definition on the way from the results to the printed bytes
unfoldable pub quick_report : Bool → List ℕ → Evaluated
unfolding quickly report gathered figures_over refused_line findings_text judgement_text findings_of count_line mark_text mean_line value_line lot_verdict_line lot_word limit_text verdict_word pointed decimal decimals last_digits mean_of mean_scale is_void ratio reported_h exceeds tolerated_upto nearest_of side_of
quick_report whole bytes = quickly reporting whole bytes
