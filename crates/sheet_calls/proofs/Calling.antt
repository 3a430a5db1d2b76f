-- What a call on a sheet comes to, from the answers that lead to it. Assumes nothing.
use mathlib.Core.Path.{◌≡◌, refl, ap, ◌∙◌}
use mathlib.Core.Bool.{false}
use mathlib.Core.List.{List}
use Prim.Native.Nat.{ℕ, ◌<◌}
use native.Mathlib.Omega.{arith}
use borrow.Author.Tests.{ne_eqb}
use Rattle.std.specs.Prelude.{Result, Ok, Err, ⊤, IsErrAnd}
use Rattle.rules.specs.Limits.{widest}
use Rattle.rules.specs.Numbers.{number_of, number_in}
use Rattle.rules.specs.Contents.{is_held}
use Rattle.rules.specs.Ledger.{Ledger, enter_on, withdraw_on}
use Rattle.rules.specs.Reading.{SheetOutcome}
use Rattle.rules.specs.ListReading.{Listed}
use Rattle.rules.specs.OnSheets.{file_of, in_call, as_written, on_sheet_answer, without_line, call_on}
use Rattle.rules.specs.declared.Fault.{Fault}
use Rattle.rules.specs.declared.Refusal.{Refusal}
use Rattle.rules.proofs.RefusalLaws.{never_zero}
use Rattle.held_lists.proofs.Stored.{stored_free}
use Rattle.tally.specs.View.{view, outcome_of}
use Rattle.tally.specs.Calls.{Sound, Answers}
use Rattle.tally.specs.declared.Tally.{Tally}
use Rattle.writer.specs.Promise.{Wrote}
use Rattle.sheet.specs.Promise.{FaultOf, TallyOf}
use Rattle.list_reader.specs.Promise.{listed}
use Rattle.narrowed.specs.Narrowed.{kept_container, kept_x}
use Rattle.narrowed.proofs.Answered.{enter_kept, withdraw_kept}

-- ---- each way that a call goes, on a sheet whose outcome is o
module _ (o : SheetOutcome) (file : ℕ) (call : Ledger → Listed) (d : List ℕ) where
  -- the sheet's fault
  pub at_fault : (r : Result ℕ Fault) (f : Fault) → IsErrAnd r (λ g. g ≡ f) → FaultOf o f → on_sheet_answer r d ≡ call_on file o call d
  at_fault (Ok n) f h q = absurd h
  at_fault (Err g) f h q = rw (h, q.right, q.file) refl

  module _ {t : Tally} {lines : ℕ} (reads : TallyOf o t lines) where
    -- the call's refusal, whatever ledger is left
    pub at_refusal : (after : Ledger) (r : Result ℕ Fault) (f : Fault) → IsErrAnd r (λ g. g ≡ f) → file_of f.place ≡ file → listed (Err f) after ≡ call (view t)
        → on_sheet_answer r d ≡ call_on file o call d
    at_refusal after (Ok n) f h p q = absurd h
    at_refusal after (Err g) f h p q = rw (h, reads.right, ← q, p, ne_eqb (number_of f.refusal) 0 (never_zero f.refusal)) refl

    module _ (u : Tally) {a : ⊤} (q : listed (Ok a) (view u) ≡ call (view t)) (sound : Sound u) {b : List ℕ} where
      -- the writer's refusal
      pub at_unwritten : (r : Result ℕ Fault) {e : Refusal} → IsErrAnd r (λ g. g ≡ in_call e) → Wrote u d b (Err e) → on_sheet_answer r b ≡ call_on file o call d
      at_unwritten (Ok n) h w = absurd h
      at_unwritten (Err g) h w = rw (h, reads.right, ← q) (ap as_written (w.right sound))

      -- the sheet after it
      pub at_written : {n : ℕ} → Wrote u d b (Ok n) → on_sheet_answer (Ok n) b ≡ call_on file o call d
      at_written w = rw (reads.right, ← q) (ap as_written (w.right sound))

-- ---- the calls, of numbers of any size
abbrev pub entering : ℕ → ℕ → Ledger → Listed
entering k x g = without_line (enter_on g k x)

abbrev pub withdrawing : ℕ → Ledger → Listed
withdrawing k g = without_line (withdraw_on g k)

module _ (t : Tally) (sound : Sound t) where
  -- a sound tally holds neither container 0 nor one above the widest number
  none_at_zero : is_held ((view t).contents 0) ≡ false
  none_at_zero = ap is_held (stored_free t.containers t.results t.held 0 (λ i h e. omega (arith, sound.above i h)))

  none_above : (k : ℕ) → widest < k → is_held ((view t).contents k) ≡ false
  none_above k w = ap is_held (stored_free t.containers t.results t.held k (λ i h e. omega (arith, sound.inside i h, sound.few)))

  module _ {e : Result ⊤ Refusal} {u : Tally} where
    pub entered : (k x : ℕ) {k' x' : ℕ} → k' ≡ kept_container k → x' ≡ kept_x x → Answers (Sound t) t (enter_on (view t) k' x') (outcome_of e u)
        → record { number = number_in e; line = 0; ledger = view u } ≡ entering k x (view t)
    entered k x p q h = ap without_line (h.right sound ∙ rw (p, q) (enter_kept (view t) k x sound.few))

    pub withdrawn : (k : ℕ) {k' : ℕ} → k' ≡ kept_container k → Answers (Sound t) t (withdraw_on (view t) k') (outcome_of e u)
        → record { number = number_in e; line = 0; ledger = view u } ≡ withdrawing k (view t)
    withdrawn k p h = ap without_line (h.right sound ∙ rw p (withdraw_kept (view t) k none_at_zero (none_above k)))
