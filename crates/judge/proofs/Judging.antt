-- What is printed for a sheet, from the answers that lead to it. Assumes nothing.
use mathlib.Core.Path.{◌≡◌, refl, sym, ap, ◌∙◌}
use mathlib.Core.Bool.{Bool, true, false}
use mathlib.Core.List.{List}
use Rattle.std.specs.Prelude.{Result, Err}
use Prim.Native.Nat.{ℕ}
use lib.Dec.{ltb}
use lib.ListN.{length}
use borrow.Author.Tests.{eqb-false}
use Rattle.rules.specs.Choice.{pick}
use Rattle.rules.specs.Limits.{least_reported}
use Rattle.rules.specs.Numbers.{number_of, TextAnswer, wrote, refuses_text, text_answer}
use Rattle.rules.specs.Text.{laid, laid_in}
use Rattle.rules.specs.Ledger.{held}
use Rattle.rules.specs.Report.{report_of}
use Rattle.rules.specs.Reading.{read_of}
use Rattle.rules.specs.Printing.{refused_line, printed_for, print_on}
use Rattle.rules.specs.OnSheets.{line_of}
use Rattle.rules.specs.declared.Fault.{Fault}
use Rattle.rules.specs.declared.Refusal.{Refusal}
use Rattle.rules.specs.declared.Refusal.TheVariants.{TooFew}
use Rattle.rules.proofs.RefusalLaws.{refusal_by_number}
use Rattle.tally.specs.declared.Tally.{Tally}
use Rattle.tally.specs.View.{view}
use Rattle.report.specs.Reports.{Reports}
use Rattle.sheet.specs.Promise.{FaultOf, TallyOf}

-- ---- the report's answer says whether there were too few results
laid_number : (b : Bool) (n : ℕ) (d e : List ℕ) → (pick b (refuses_text 16 d) (wrote n e)).number ≡ 15 → ⊥
laid_number true n d e q = eqb-false 16 15 refl q
laid_number false n d e q = eqb-false 0 15 refl q

enough : (b : Bool) (few text d : List ℕ) (a : TextAnswer) → (a.number ≡ 15 → ⊥) → a ≡ pick b (refuses_text 15 d) (laid_in text d) → a ≡ laid_in (pick b few text) d
enough true few text d a z q = absurd (z (ap (λ (t : TextAnswer). t.number) q))
enough false few text d a z q = q

too_few : (b : Bool) (few text d e : List ℕ) → refuses_text 15 e ≡ pick b (refuses_text 15 d) (laid_in text d) → laid_in few e ≡ laid_in (pick b few text) d
too_few true few text d e q = ap (λ (t : TextAnswer). laid_in few t.bytes) q
too_few false few text d e q =
    absurd (unfold laid_in in laid_number (ltb (length d) (length text)) (length text) d (laid text d) (sym (ap (λ (t : TextAnswer). t.number) q)))

-- ---- one law for each way
module _ (s d : List ℕ) where
  pub judged_refused : (f : Fault) → FaultOf (read_of s) f → {line : ℕ} → line ≡ line_of f.place → {x : TextAnswer} → x ≡ laid_in (refused_line (number_of f.refusal) line) d → x ≡ print_on s d
  unfolding printed_for
  judged_refused f reads q h = h ∙ rw (reads.right, q) refl

  module _ {t : Tally} {lines : ℕ} (reads : TallyOf (read_of s) t lines) {e : List ℕ} {a : Result ℕ Refusal} (h : Reports t d a e) where
    accepted_is : laid_in (pick (ltb (held (view t)) least_reported) (refused_line 15 lines) (report_of (view t))) d ≡ print_on s d
    unfolding printed_for
    accepted_is = rw reads.right refl

    pub judged_text : (a ≡ Err TooFew → ⊥) → text_answer a e ≡ print_on s d
    judged_text z =
        enough (ltb (held (view t)) least_reported) (refused_line 15 lines) (report_of (view t)) d (text_answer a e) (λ n. z (refusal_by_number a TooFew n)) (h.right reads.sound)
        ∙ accepted_is

    pub judged_few : a ≡ Err TooFew → {x : TextAnswer} → x ≡ laid_in (refused_line 15 lines) e → x ≡ print_on s d
    judged_few q g =
        let few = sym (ap (λ (r : Result ℕ Refusal). text_answer r e) q) ∙ h.right reads.sound in
        g ∙ (too_few (ltb (held (view t)) least_reported) (refused_line 15 lines) (report_of (view t)) d e few ∙ accepted_is)
