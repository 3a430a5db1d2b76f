-- What a report promises.
use Rattle.std.specs.Prelude.{◌≡◌, ◌⊎◌, List, ℕ, drop, Result, Err}
use Rattle.rules.specs.Numbers.{text_answer}
use Rattle.rules.specs.Report.{report_on}
use Rattle.rules.specs.declared.Refusal.{Refusal}
use Rattle.rules.specs.declared.Refusal.TheVariants.{TooFew, BufferShort}
use Rattle.tally.specs.declared.Tally.{Tally}
use Rattle.tally.specs.View.{view}
use Rattle.tally.specs.Calls.{Sound}

-- A report of t found the buffer as before, left it as after and answered r. Where the tally is sound, the answer and the whole
-- buffer are the ledger's. On any tally a refusal is too few or buffer short, and the bytes behind the text stay; a refusal
-- has no text, so there all of them stay.
pub record Reports (t : Tally) (before : List ℕ) (r : Result ℕ Refusal) (after : List ℕ) : Type 0 where
  pub right : Sound t → text_answer r after ≡ report_on (view t) before
  pub which : (e : Refusal) → r ≡ Err e → (e ≡ TooFew) ⊎ (e ≡ BufferShort)
  pub kept : drop (text_answer r after).size after ≡ drop (text_answer r after).size before
