-- A report's answers, each with what led to it. Assumes nothing.
use Prim.Native.Nat.{ℕ, zero, suc, ◌≤◌, ◌<◌}
use native.Mathlib.Omega.{arith}
use native.Mathlib.Decide.{dec_le}
use native.Mathlib.Nat.{le_refl}
use mathlib.Core.Path.{◌≡◌, refl, sym, ap, ◌∙◌}
use mathlib.Core.Bool.{Bool, true, false, true≢false}
use mathlib.Core.List.{List}
use mathlib.Core.Logic.{inl, inr}
use lib.Dec.{ltb}
use lib.ListN.{length, take, drop}
use lib.Seq.{get_or-take}
use borrow.Author.Tests.{lt-ltb, le-ltb}
use Rattle.std.specs.Prelude.{Some, None, Result, Err}
use Rattle.rules.specs.Choice.{pick}
use Rattle.rules.specs.Limits.{least_reported}
use Rattle.rules.specs.Numbers.{TextAnswer, text_answer, wrote, refuses_text}
use Rattle.rules.specs.Text.{laid, laid_in}
use Rattle.rules.specs.Attributes.{attribute_of}
use Rattle.rules.specs.Cards.{cut_to_rows}
use Rattle.rules.specs.Figures.{figures_of, printed_mean, row_serves, tolerated_upto}
use Rattle.rules.specs.Report.{findings_of, findings_text, report_of}
use Rattle.rules.specs.declared.Attribute.{Attribute}
use Rattle.rules.specs.declared.Card.{Card}
use Rattle.rules.specs.declared.Figures.{Figures}
use Rattle.rules.specs.declared.Fraction.{Fraction}
use Rattle.rules.specs.declared.Findings.{Findings}
use Rattle.rules.specs.declared.Refusal.{Refusal}
use Rattle.rules.specs.declared.Refusal.TheVariants.{TooFew, BufferShort}
use Rattle.rules.proofs.TextLaws.{drop_laid}
use Rattle.tally.specs.declared.Tally.{Tally}
use Rattle.tally.specs.View.{view}
use Rattle.tally.specs.Calls.{Sound}
use Rattle.tally.proofs.Steps.{size_is_lem}
use Rattle.held_lists.specs.Places.{in_order}
use Rattle.held_lists.proofs.InOrder.{count_in_order, figures_taken}
use Rattle.findings.specs.Reportable.{with_sums, reportable, found_of}
use Rattle.findings.proofs.ReportableLaws.{reportable_enough}
use Rattle.report.specs.Reports.{Reports}
use Rattle.report.proofs.Sound.{kept, kept_are, sound_reportable}

-- ---- the card's places past the last row do not matter
serves_cut : (c : Card) (k n : ℕ) (mean : Fraction) → k < c.rows → row_serves (cut_to_rows c) k n mean ≡ row_serves c k n mean
serves_cut c k n mean h =
    rw (get_or-take c.rows c.lowest k 0 h, get_or-take c.rows c.highest k 0 h, get_or-take c.rows c.bound k 0 h) refl

tolerated_cut : (c : Card) (n : ℕ) (mean : Fraction) (k : ℕ) → k ≤ c.rows → tolerated_upto (cut_to_rows c) n mean k ≡ tolerated_upto c n mean k
unfolding tolerated_upto
tolerated_cut c n mean zero h = refl
tolerated_cut c n mean (suc k) h =
    simp (tolerated_cut c n mean k (omega arith), serves_cut c k n mean h, get_or-take c.rows c.tolerated k 0 h)

findings_cut : (a : Attribute) (c : Card) (f : Figures) → findings_of a (cut_to_rows c) f ≡ findings_of a c f
unfolding findings_of
findings_cut a c f = simp (tolerated_cut c f.count (printed_mean a f) c.rows (le_refl c.rows))

-- ---- what is found of the held results, where the list has so many
pub found_held : (t : Tally) (a : Attribute) (vs : List ℕ) → t.held ≤ length t.results → vs ≡ take t.held t.results
    → found_of a t.card (with_sums t.sum t.squares (figures_of (length vs) (in_order vs))) ≡ found_of a t.card (kept t)
found_held t a vs k h = rw h (ap (λ (f : Figures). found_of a t.card (with_sums t.sum t.squares f)) (figures_taken t.results t.held k))

reportable_of : (b : Bool) (x s : Findings) → pick b (Some x) None ≡ Some s → (b ≡ true) × (x ≡ s)
reportable_of true x s e = (refl, cc)
reportable_of false x s e = cc

not_reportable_of : (b : Bool) (x : Findings) → pick b (Some x) None ≡ None → b ≡ false
not_reportable_of true x e = cc
not_reportable_of false x e = refl

-- where a text is laid into a buffer, the bytes behind it stay
kept_behind : (t d : List ℕ) (o : TextAnswer) → o ≡ laid_in t d → drop o.size o.bytes ≡ drop o.size d
unfolding laid_in
kept_behind t d o e = rw e (by (ltb (length d) (length t)))
  where
    by : (b : Bool) → let o = pick b (refuses_text 16 d) (wrote (length t) (laid t d)) in drop o.size o.bytes ≡ drop o.size d
    by true = refl
    by false = drop_laid t d

module _ (t : Tally) (a : Attribute) (lot : a ≡ attribute_of t.lot.attribute) where
  -- nothing was found: a sound tally holds too few results
  pub too_few : (before : List ℕ) → found_of a t.card (kept t) ≡ None → Reports t before (Err TooFew) before
  too_few before q =
      record {
        right = λ s. rw (size_is_lem t s, lt-ltb t.held least_reported (few s (dec_le least_reported t.held))) refl;
        which = λ e r. inl cc;
        kept = refl;
      }
    where
      few : Sound t → Dec (least_reported ≤ t.held) → t.held < least_reported
      few s (yes h) = absurd (true≢false (sym (sound_reportable t s h) ∙ not_reportable_of _ _ q))
      few s (no h) = omega arith

  -- the findings have the text of the ledger's report
  pub written : (found : Findings) (before after : List ℕ) (r : Result ℕ Refusal) → found_of a t.card (kept t) ≡ Some found
      → (text_answer r after ≡ laid_in (findings_text found) before) × ((e : Refusal) → r ≡ Err e → e ≡ BufferShort)
      → Reports t before r after
  written found before after r q l =
      let w = reportable_of (reportable t.card (kept t)) (findings_of a t.card (kept t)) found q in
      let enough = reportable_enough t.card (kept t) w.0 in
      let many : least_reported ≤ t.held = omega (arith, count_in_order t.results t.held) in
      let text_is : Sound t → report_of (view t) ≡ findings_text found = λ s. rw (kept_are t s, findings_cut, ← lot, w.1) refl in
      record {
        right = λ s. l.0 ∙ sym (rw (text_is s, size_is_lem t s, le-ltb t.held least_reported many) refl);
        which = λ e k. inr (l.1 e k);
        kept = kept_behind (findings_text found) before (text_answer r after) l.0;
      }
