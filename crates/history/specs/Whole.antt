-- Demand 3: one claim about whole lists of the calls open, enter, weigh, withdraw, join and comma list, and about the reports of what
-- they end with.
use Rattle.std.specs.Prelude.{ℕ, ◌+◌, ◌≡◌, List, length, take, Result, Ok}
use base.Fml.{Lft}
use Rattle.std.specs.Borrow.{MutBor}
use Rattle.rules.specs.Ledger.{held}
use Rattle.rules.specs.Figures.{figures}
use Rattle.tally.specs.declared.Tally.{Tally}
use Rattle.tally.specs.View.{view}
use Rattle.tally.specs.Calls.{Sound}
use Rattle.history.specs.Calls.{Calls, ledger, Answer, answers, counts}
use Rattle.history.specs.Run.{Run}
use Rattle.history.specs.Steps.{ReportStep}
use Rattle.history.specs.Alike.{SameReport}
use Rattle.rules.specs.declared.Refusal.{Refusal}
use Rattle.history.specs.Verdict.{ReportLines}

-- What a list ends with: the tally has what the ledger has, the calls were answered with the ledger's numbers, a refused comma list
-- with its line too, held is entered and joined less withdrawn, and S and Q of the tally are those of the held results.
pub record Ends (cs : Calls) (ns : List Answer) (t : Tally) : Type 0 where
  pub same : view t ≡ ledger cs
  pub judged : ns ≡ answers cs
  pub count : held (ledger cs) + (counts cs).withdrawn ≡ (counts cs).entered + (counts cs).joined
  pub number : t.held ≡ held (ledger cs)
  pub sum : t.sum ≡ (figures (ledger cs)).sum
  pub squares : t.squares ≡ (figures (ledger cs)).squares
  pub sound : Sound t

pub record Whole : Type 0 where
  -- every list, refused calls included: on a fresh tally, on any tally when an accepted open comes first, or on the tally of an
  -- accepted sheet, which stands for the open and the enters that the sheet says; a tally that is joined is the end of such a list
  pub ends : (cs : Calls) (ns : List Answer) (t : Tally) → Run cs ns t → Ends cs ns t
  -- any two such lists that end with the same lot, card and held results report alike into any two buffers of one length
  pub alike : (cs ds : Calls) (ns ms : List Answer) (t u : Tally) → Run cs ns t → Run ds ms u → ledger cs ≡ ledger ds
      → (κ₁ κ₂ : Lft) (b₁ b₂ : MutBor (List ℕ)) → length b₁.now ≡ length b₂.now
      → (r₁ r₂ : Result ℕ Refusal) (a₁ a₂ : MutBor (List ℕ)) → ReportStep κ₁ t b₁ r₁ a₁ → ReportStep κ₂ u b₂ r₂ a₂ → SameReport b₁.now b₂.now r₁ r₂ a₁.now a₂.now
  -- the text of such a report: N is the number held; the mean, and H where it is worked out, each with its mark
  pub reports : (cs : Calls) (ns : List Answer) (t : Tally) → Run cs ns t → (κ : Lft) (b : MutBor (List ℕ)) (n : ℕ) (a : MutBor (List ℕ)) → ReportStep κ t b (Ok n) a → ReportLines (ledger cs) (take n a.now)
