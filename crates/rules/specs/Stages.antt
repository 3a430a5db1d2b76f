-- The stages of a sheet, and the tests on them: what may stand next, and whether the lot is opened.
use Rattle.std.specs.Prelude.{ℕ, Bool, true, false, ◌||◌, eqb}
use Rattle.rules.specs.declared.Stage.{Stage}
use Rattle.rules.specs.declared.Stage.TheVariants as stage

-- a result, weighed or not, or the end
abbrev pub is_of_results : ℕ → Bool
is_of_results kind = eqb kind 5 || (eqb kind 6 || eqb kind 7)

-- Order: one 01, one 02, any 03, up to 96 of 04, any 05 and 07, one 06, nothing more. Whether a frame of a kind may stand next.
abbrev pub may_stand : ℕ → Stage → Bool
may_stand kind stage.Start = eqb kind 1
may_stand kind stage.Lot = eqb kind 2
may_stand kind stage.Card = eqb kind 3 || (eqb kind 4 || is_of_results kind)
may_stand kind stage.Critical = eqb kind 3 || (eqb kind 4 || is_of_results kind)
may_stand kind stage.Range = eqb kind 4 || is_of_results kind
may_stand kind stage.Result = is_of_results kind
may_stand kind stage.End = false

-- the lot is opened at the first result, or at the end where there is none
abbrev pub is_opened : Stage → Bool
is_opened stage.Start = false
is_opened stage.Lot = false
is_opened stage.Card = false
is_opened stage.Critical = false
is_opened stage.Range = false
is_opened stage.Result = true
is_opened stage.End = true

-- 06 was read: a sheet may end here, and nowhere else
abbrev pub is_ended : Stage → Bool
is_ended stage.Start = false
is_ended stage.Lot = false
is_ended stage.Card = false
is_ended stage.Critical = false
is_ended stage.Range = false
is_ended stage.Result = false
is_ended stage.End = true
