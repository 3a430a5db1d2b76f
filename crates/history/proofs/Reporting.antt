-- Two reports of one ledger, its sheet and its list written twice, and the text of a report. Assumes nothing.
use Rattle.std.specs.Prelude.{Result, Ok}
use Prim.Native.Nat.{ℕ, ◌≤◌}
use mathlib.Core.Path.{◌≡◌, refl, sym, ap, ap₂, ◌∙◌}
use mathlib.Core.Bool.{Bool, true, false}
use mathlib.Core.List.{List, []}
use lib.Dec.{eqb, ltb}
use lib.ListN.{length, take}
use borrow.Author.Tests.{eqb-false, ltb-false}
use Rattle.rules.specs.Choice.{pick}
use Rattle.rules.specs.Limits.{least_reported}
use Rattle.rules.specs.Numbers.{TextAnswer, refuses_text, text_answer}
use Rattle.rules.specs.Text.{laid, laid_in}
use Rattle.rules.specs.Report.{report_of, report_on}
use Rattle.rules.specs.Writing.{sheet_of, write_on}
use Rattle.rules.specs.ListWriting.{list_of, write_list_on}
use Rattle.rules.specs.Ledger.{Ledger, held, containers}
use Rattle.rules.specs.declared.Refusal.{Refusal}
use Rattle.rules.proofs.RefusalLaws.{answer_by, answer_back}
use Rattle.history.specs.Alike.{SameText, SameReport, SameSheet, SameList}
use Rattle.history.proofs.Texts.{with_text, front_and_rest, laid_text}

-- ---- two answers of a call that writes: for one text, or one refusal before it
module _ (b₁ b₂ : List ℕ) (r₁ r₂ : Result ℕ Refusal) (a₁ a₂ : List ℕ) where
  -- with one number and one text
  with_one : (e : ℕ) (t : List ℕ) → text_answer r₁ a₁ ≡ with_text e t b₁ → text_answer r₂ a₂ ≡ with_text e t b₂ → SameText b₁ b₂ r₁ r₂ a₁ a₂
  with_one e t p q =
      let x = front_and_rest e t b₁ (text_answer r₁ a₁) p in
      let y = front_and_rest e t b₂ (text_answer r₂ a₂) q in
      let numbers = ap (λ (o : TextAnswer). o.number) p ∙ sym (ap (λ (o : TextAnswer). o.number) q) in
      let sizes = ap (λ (o : TextAnswer). o.size) p ∙ sym (ap (λ (o : TextAnswer). o.size) q) in
      record { answer = sym (answer_back r₁) ∙ (ap₂ answer_by numbers sizes ∙ answer_back r₂); text = x.0 ∙ sym y.0; rest₁ = x.1; rest₂ = y.1 }

  pub same_text : (s : Bool) (e : ℕ) (t : List ℕ) → length b₁ ≡ length b₂ → text_answer r₁ a₁ ≡ pick s (refuses_text e b₁) (laid_in t b₁)
      → text_answer r₂ a₂ ≡ pick s (refuses_text e b₂) (laid_in t b₂) → SameText b₁ b₂ r₁ r₂ a₁ a₂
  unfolding laid_in laid
  same_text s e t l p q = by s (ltb (length b₂) (length t)) (rw l at p) q
    where
      by : (s k : Bool) → text_answer r₁ a₁ ≡ pick s (refuses_text e b₁) (pick k (refuses_text 16 b₁) (with_text 0 t b₁))
          → text_answer r₂ a₂ ≡ pick s (refuses_text e b₂) (pick k (refuses_text 16 b₂) (with_text 0 t b₂))
          → SameText b₁ b₂ r₁ r₂ a₁ a₂
      by true k = with_one e []
      by false true = with_one 16 []
      by false false = with_one 0 t

-- two reports of one ledger, and its sheet and its list written twice
pub same_report : (g : Ledger) (b₁ b₂ : List ℕ) (r₁ r₂ : Result ℕ Refusal) (a₁ a₂ : List ℕ) → length b₁ ≡ length b₂
    → text_answer r₁ a₁ ≡ report_on g b₁ → text_answer r₂ a₂ ≡ report_on g b₂ → SameReport b₁ b₂ r₁ r₂ a₁ a₂
same_report g b₁ b₂ r₁ r₂ a₁ a₂ = same_text b₁ b₂ r₁ r₂ a₁ a₂ (ltb (held g) least_reported) 15 (report_of g)

pub same_sheet : (g : Ledger) (b₁ b₂ : List ℕ) (r₁ r₂ : Result ℕ Refusal) (a₁ a₂ : List ℕ) → length b₁ ≡ length b₂
    → text_answer r₁ a₁ ≡ write_on g b₁ → text_answer r₂ a₂ ≡ write_on g b₂ → SameSheet b₁ b₂ r₁ r₂ a₁ a₂
same_sheet g b₁ b₂ r₁ r₂ a₁ a₂ = same_text b₁ b₂ r₁ r₂ a₁ a₂ (eqb (containers g) 0) 3 (sheet_of g)

pub same_list : (g : Ledger) (b₁ b₂ : List ℕ) (r₁ r₂ : Result ℕ Refusal) (a₁ a₂ : List ℕ) → length b₁ ≡ length b₂
    → text_answer r₁ a₁ ≡ write_list_on g b₁ → text_answer r₂ a₂ ≡ write_list_on g b₂ → SameList b₁ b₂ r₁ r₂ a₁ a₂
same_list g b₁ b₂ r₁ r₂ a₁ a₂ = same_text b₁ b₂ r₁ r₂ a₁ a₂ false 16 (list_of g)

-- an accepted report is of at least five results, and its text is the ledger's
module _ (g : Ledger) (b : List ℕ) (n : ℕ) (a : List ℕ) (e : text_answer (Ok n) a ≡ report_on g b) where
  many : ltb (held g) least_reported ≡ false
  many = by (ltb (held g) least_reported) (ap (λ (o : TextAnswer). o.number) e)
    where
      by : (s : Bool) → 0 ≡ (pick s (refuses_text 15 b) (laid_in (report_of g) b)).number → s ≡ false
      by true q = absurd (eqb-false 0 15 refl q)
      by false q = refl

  pub enough : least_reported ≤ held g
  enough = ltb-false (held g) least_reported many

  pub text_is : take n a ≡ report_of g
  text_is = (laid_text (report_of g) b n a (e ∙ rw many refl)).0
