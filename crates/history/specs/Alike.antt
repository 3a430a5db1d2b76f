-- When two tallies answer alike, and two texts that were laid down: the order in which a tally stores its results is free, and no
-- answer depends on it.
use Rattle.std.specs.Prelude.{ℕ, ◌≡◌, List, length, take, drop, Result, ⊤}
use base.Fml.{Lft}
use Rattle.std.specs.Borrow.{Bor, MutBor}
use Rattle.rules.specs.Numbers.{text_size}
use Rattle.rules.specs.declared.Refusal.{Refusal}
use Rattle.rules.specs.declared.Lot.{Lot}
use Rattle.rules.specs.declared.Card.{Card}
use Rattle.rules.specs.declared.Pans.{Pans}
use Rattle.rules.specs.declared.Fault.{Fault}
use Rattle.tally.specs.declared.Tally.{Tally}
use Rattle.tally.specs.View.{outcome_of, view}
use Rattle.tally.specs.Calls.{answer}
use Rattle.list_reader.specs.Promise.{listed}
use Rattle.history.specs.Calls.{Calls, ledger, Answer}
use Rattle.history.specs.Run.{Run}
use Rattle.history.specs.Steps.{OpenStep, EnterStep, WeighStep, WithdrawStep, JoinStep, ListStep, WriteStep, WriteListStep}

-- Two calls that write answer alike, r₁ and r₂ with texts of so many bytes: the same refusal, or the same length and the same text.
-- Every other byte of either buffer stays.
pub record SameText (b₁ b₂ : List ℕ) (r₁ r₂ : Result ℕ Refusal) (a₁ a₂ : List ℕ) : Type 0 where
  pub answer : r₁ ≡ r₂
  pub text : take (text_size r₁).size a₁ ≡ take (text_size r₂).size a₂
  pub rest₁ : drop (text_size r₁).size a₁ ≡ drop (text_size r₁).size b₁
  pub rest₂ : drop (text_size r₂).size a₂ ≡ drop (text_size r₂).size b₂

-- two reports are alike
abbrev pub SameReport : List ℕ → List ℕ → Result ℕ Refusal → Result ℕ Refusal → List ℕ → List ℕ → Type 0
SameReport = SameText

-- two sheets that are written are alike
abbrev pub SameSheet : List ℕ → List ℕ → Result ℕ Refusal → Result ℕ Refusal → List ℕ → List ℕ → Type 0
SameSheet = SameText

-- two comma lists that are written are alike
abbrev pub SameList : List ℕ → List ℕ → Result ℕ Refusal → Result ℕ Refusal → List ℕ → List ℕ → Type 0
SameList = SameText

-- two tallies that are lent answer a further call with one number, a comma list with one line too, and stand for one ledger after it;
-- and their sheets are alike, and their lists
pub record AnswersAlike (t u : MutBor Tally) : Type 0 where
  pub opens : (κ₁ κ₂ : Lft) (l : Lot) (c : Card) (r q : Result ⊤ Refusal) (v w : MutBor Tally) → OpenStep κ₁ t l c r v → OpenStep κ₂ u l c q w
      → answer (outcome_of r v.now) ≡ answer (outcome_of q w.now)
  pub enters : (κ₁ κ₂ : Lft) (k x : ℕ) (r q : Result ⊤ Refusal) (v w : MutBor Tally) → EnterStep κ₁ t k x r v → EnterStep κ₂ u k x q w
      → answer (outcome_of r v.now) ≡ answer (outcome_of q w.now)
  pub weighs : (κ₁ κ₂ : Lft) (k s : ℕ) (p : Pans) (r q : Result ⊤ Refusal) (v w : MutBor Tally) → WeighStep κ₁ t k s p r v → WeighStep κ₂ u k s p q w
      → answer (outcome_of r v.now) ≡ answer (outcome_of q w.now)
  pub withdraws : (κ₁ κ₂ : Lft) (k : ℕ) (r q : Result ⊤ Refusal) (v w : MutBor Tally) → WithdrawStep κ₁ t k r v → WithdrawStep κ₂ u k q w
      → answer (outcome_of r v.now) ≡ answer (outcome_of q w.now)
  pub joins : {ds es : Calls} {ms os : List Answer} (κ₁ κ₂ κ₃ κ₄ : Lft) (o p : Bor Tally) → Run ds ms o.now → Run es os p.now → ledger ds ≡ ledger es
      → (r q : Result ⊤ Refusal) (v w : MutBor Tally) → JoinStep κ₁ κ₂ t o r v → JoinStep κ₃ κ₄ u p q w → answer (outcome_of r v.now) ≡ answer (outcome_of q w.now)
  pub lists : (κ₁ κ₂ κ₃ κ₄ : Lft) (l₁ l₂ : Bor (List ℕ)) → l₁.now ≡ l₂.now
      → (r q : Result ⊤ Fault) (v w : MutBor Tally) → ListStep κ₁ κ₂ t l₁ r v → ListStep κ₃ κ₄ u l₂ q w → listed r (view v.now) ≡ listed q (view w.now)
  pub writes : (κ₁ κ₂ : Lft) (b₁ b₂ : MutBor (List ℕ)) → length b₁.now ≡ length b₂.now
      → (r₁ r₂ : Result ℕ Refusal) (a₁ a₂ : MutBor (List ℕ)) → WriteStep κ₁ t.now b₁ r₁ a₁ → WriteStep κ₂ u.now b₂ r₂ a₂ → SameSheet b₁.now b₂.now r₁ r₂ a₁.now a₂.now
  pub writes_list : (κ₁ κ₂ : Lft) (b₁ b₂ : MutBor (List ℕ)) → length b₁.now ≡ length b₂.now
      → (r₁ r₂ : Result ℕ Refusal) (a₁ a₂ : MutBor (List ℕ)) → WriteListStep κ₁ t.now b₁ r₁ a₁ → WriteListStep κ₂ u.now b₂ r₂ a₂ → SameList b₁.now b₂.now r₁ r₂ a₁.now a₂.now

-- any two lists of calls that end with the same lot, card and held results
abbrev pub OrderIsFree : Type 0
OrderIsFree = (cs ds : Calls) (ns ms : List Answer) (t u : MutBor Tally) → Run cs ns t.now → Run ds ms u.now → ledger cs ≡ ledger ds → AnswersAlike t u
