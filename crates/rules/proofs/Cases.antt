-- A table of cases, each with what a document says of it, and what the definitions tell of it. Assumes nothing.
use mathlib.Core.List.{List, [], ◌∷◌}
use Prim.Native.Nat.{ℕ}
use Prim.Native.String.{String}
use lib.Ieee.{of_fields, of_bits, to_bits}
use Rattle.rules.specs.Limits.{most_held}
use Rattle.rules.specs.Text.{text, decimals, decimal, last_digits, pointed}
use Rattle.rules.specs.Contents.{total, largest, smallest}
use Rattle.rules.specs.Cards.{rows_good, criticals_good}
use Rattle.rules.specs.Rounding.{nearest_of, side_of}
use Rattle.rules.specs.Floats.{exact_of}
use Rattle.rules.specs.Weights.{bad_weight, tenths_of, ratio_of, share_of, weighed_of}
use Rattle.rules.specs.Attributes.{is_void, mean_scale}
use Rattle.rules.specs.Figures.{mean_of, ratio, reported_h, exceeds, tolerated_upto}
use Rattle.rules.specs.Report.{findings_of, count_line, mark_text, mean_line, verdict_word, limit_text, value_line, lot_word, lot_verdict_line, judgement_text, findings_text}
use Rattle.rules.specs.Lines.{cut_from}
use Rattle.rules.specs.Fields.{all_digits, value_of, number_behind, number, field_of}
use Rattle.rules.specs.Frames.{lot_frame, card_frame, critical_frame, range_frame, result_frame, end_frame, balance_frame, kind_frame, frame_of}
use Rattle.rules.specs.Reading.{lot_step, card_step, critical_step, range_step, result_step, balance_step, end_step, read_from, read_of}
use Rattle.rules.specs.Printing.{refused_line, printed_for}
use Rattle.rules.specs.Numbers.{Answered}
use Rattle.rules.specs.Sampling.{samples_of, table2_a, table2_b, units_of, raised}
use Rattle.rules.specs.Tolerance.{difference_for}

-- a case: a sheet and what lotreport prints for it, or a call beside the tally and its answer
pub data Case : Type 0 where
  prints : String → String → Case
  answers : Answered → Answered → Case

-- what is told: bytes that are printed, or an answer
pub data Told : Type 0 where
  printed : List ℕ → Told
  answered : Answered → Told

-- What the definitions tell. To unfold it is to unfold all that it computes with, so every definition on the way to a printed byte or
-- an answer that is not an abbrev stands here.
unfoldable pub by_definition : List Case → List Told
unfolding printed_for read_of read_from cut_from frame_of kind_frame lot_frame card_frame critical_frame range_frame result_frame end_frame balance_frame all_digits field_of number number_behind value_of lot_step card_step critical_step range_step result_step balance_step end_step total largest smallest rows_good criticals_good refused_line findings_text judgement_text findings_of count_line mark_text mean_line value_line lot_verdict_line lot_word limit_text verdict_word pointed decimal decimals last_digits mean_of mean_scale is_void ratio reported_h exceeds tolerated_upto nearest_of side_of weighed_of share_of tenths_of ratio_of bad_weight exact_of of_fields of_bits to_bits samples_of table2_a table2_b units_of raised difference_for most_held
by_definition [] = []
by_definition (prints sheet says ∷ cs) = printed (printed_for (text sheet)) ∷ by_definition cs
by_definition (answers call says ∷ cs) = answered call ∷ by_definition cs

-- what the document says
abbrev pub by_document : List Case → List Told
by_document [] = []
by_document (prints sheet says ∷ cs) = printed (text says) ∷ by_document cs
by_document (answers call says ∷ cs) = answered says ∷ by_document cs
