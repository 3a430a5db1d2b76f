-- Sheets are read, and written back, so that lot, card and held results return unchanged. Assumes nothing.
use Rattle.std.specs.Prelude.{Result, Ok, Err}
use mathlib.Core.Path.{◌≡◌, refl, sym, ap, ◌∙◌}
use mathlib.Core.List.{List}
use Prim.Native.Nat.{ℕ, ◌≤◌}
use native.Mathlib.Omega.{arith}
use native.Mathlib.Decide.{ℕ_discrete}
use lib.ListN.{length, take}
use borrow.Author.Tests.{eq-eqb, ne_eqb, eqb-false}
use Rattle.rules.specs.Numbers.{TextAnswer, wrote, text_answer}
use Rattle.rules.specs.Text.{laid_in}
use Rattle.rules.specs.Ledger.{Ledger}
use Rattle.rules.specs.Reading.{read_of}
use Rattle.rules.specs.Writing.{sheet_of, write_on}
use Rattle.rules.specs.declared.Refusal.{Refusal}
use Rattle.rules.specs.declared.Fault.{Fault}
use Rattle.rules.proofs.RefusalLaws.{never_zero}
use Rattle.rules.proofs.TextLaws.{fits_is}
use Rattle.reading_theorems.specs.Lengths.{longest_written}
use Rattle.reading_theorems.proofs.Accepted.{refused_not, same_ledger, same_lines}
use Rattle.reading_theorems.proofs.SheetLength.{none_longer}
use Rattle.tally.specs.View.{view}
use Rattle.tally.specs.Calls.{Sound}
use Rattle.tally.specs.declared.Tally.{Tally}
use Rattle.sheet.specs.declared.Reading.{Reading}
use Rattle.sheet.specs.Promise.{ReadAs}
use Rattle.history.specs.Calls.{ledger}
use Rattle.history.proofs.Agreement.{agrees}
use Rattle.history.proofs.Texts.{laid_text, laid_length}
use Rattle.round_trip_theorems.specs.Statement.{ReadsAs, Yields, WrittenAs, Trip}
use Rattle.round_trip_theorems.proofs.Writable.{sound_writable, yields}
use Rattle.round_trip_theorems.proofs.Back.{back}
use Rattle.round_trip_theorems.proofs.Longest.{calls, long, full_writable, written_few, heavy, weighed_back}
use Rattle.round_trip_theorems.proofs.OneLineMore.{needed}

-- ---- the reader's answer to a sheet that the definition accepts
reads : (sheet : List ℕ) (r : Result Reading Fault) (g h : Ledger) → ReadsAs sheet g → g ≡ h → ReadAs (read_of sheet) r → Yields sheet r h
reads sheet (Ok r) g h q e x =
    let p = sym x.right ∙ q in
    record { reading = r; accepted = refl; lines = same_lines p; same = same_ledger p ∙ e }
reads sheet (Err f) g h q e x = refused_not (sym x.right ∙ q)

-- ---- what the writer lays down
-- a lot was opened, and it is the sheet, of which all bytes are there
module _ (t : Tally) (d e : List ℕ) (r : ℕ) (s : Sound t) (q : wrote r e ≡ write_on (view t) d) where
  opened : 1 ≤ t.lot.containers
  opened = go (ℕ_discrete t.lot.containers 0)
    where
      go : Dec (t.lot.containers ≡ 0) → 1 ≤ t.lot.containers
      go (yes z) = absurd (eqb-false 0 3 refl (ap (λ (u : TextAnswer). u.number) (rw (eq-eqb t.lot.containers 0 z) at q)))
      go (no z) = omega arith

  laid : wrote r e ≡ laid_in (sheet_of (view t)) d
  laid = rw (ne_eqb t.lot.containers 0 (λ z. omega (arith, opened))) at q

  pub laid_down : ReadsAs (take r e) (view t)
  laid_down = rw (laid_text (sheet_of (view t)) d r e laid).0 (back (view t) (sound_writable t s opened))

  no_longer : r ≤ longest_written
  no_longer = omega (arith, laid_length (sheet_of (view t)) d r e laid, written_few (view t) (sound_writable t s opened))

-- a buffer with room for the longest sheet that is written is never short
room_serves : (t : Tally) (d e : List ℕ) (w : Result ℕ Refusal) → Sound t → 1 ≤ t.lot.containers → longest_written ≤ length d → text_answer w e ≡ write_on (view t) d → WrittenAs w
room_serves t d e w s h room q =
    let fits = written_few (view t) (sound_writable t s h) in
    by w (ap (λ (u : TextAnswer). u.number) (rw (ne_eqb t.lot.containers 0 (λ z. omega arith)) at q ∙ fits_is (sheet_of (view t)) d (omega arith)))
  where
    by : (w : Result ℕ Refusal) → (text_answer w e).number ≡ 0 → WrittenAs w
    by (Ok n) z = record { bytes = n; is = refl }
    by (Err f) z = absurd (never_zero f z)

pub trip : Trip
trip =
    record {
      back = λ cs ns t run κ₁ b n a w κ₂ sheet r e x.
          let i = agrees run in
          reads sheet.now r (view t) (ledger cs) (rw e (laid_down t b.now a.now n i.sound (w.right i.sound))) i.same x;
      written = λ cs ns t run h κ b w a room x.
          let i = agrees run in
          room_serves t b.now a.now w i.sound (rw (← i.same) at h) room (x.right i.sound);
      again = λ sheet g n q. back g (yields sheet g n q).0;
      most = λ κ sheet r x. none_longer sheet.now (view r.tally) r.lines x.right;
      short = λ cs ns t run κ b n a w. let i = agrees run in no_longer t b.now a.now n i.sound (w.right i.sound);
      calls = calls;
      long = long;
      reached = λ κ sheet r e x. reads sheet.now r _ _ (rw e (back _ full_writable)) refl x;
      heavy = heavy;
      weighed = λ κ sheet r e x. reads sheet.now r _ _ (rw e weighed_back) refl x;
      needed = needed;
    }
