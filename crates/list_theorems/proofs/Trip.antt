-- Held results come back from the list that was written of them, and calls on sheets are those on tallies. Assumes nothing.
use Rattle.std.specs.Prelude.{Result, Ok, Err, ⊤}
use mathlib.Core.Path.{◌≡◌, refl, sym, ap, ap₂, ◌∙◌, subst}
use mathlib.Core.List.{List}
use Prim.Native.Nat.{ℕ, ◌*◌, ◌≤◌}
use native.Mathlib.Omega.{arith}
use lib.ListN.{length, take}
use Rattle.rules.specs.Numbers.{TextAnswer, wrote, text_answer}
use Rattle.rules.specs.Contents.{none}
use Rattle.rules.specs.Cards.{open_number, cut_to_rows}
use Rattle.rules.specs.Ledger.{Ledger, Judged, judged, held, with_contents, opened, enter_on, withdraw_on}
use Rattle.rules.specs.Reading.{SheetOutcome, accepted, read_of}
use Rattle.rules.specs.Writing.{sheet_of}
use Rattle.rules.specs.ListReading.{Listed, list_on}
use Rattle.rules.specs.ListWriting.{list_of, write_list_on}
use Rattle.rules.specs.OnSheets.{without_line, call_on, enter_sheet, withdraw_sheet, enter_list_sheet}
use Rattle.rules.specs.declared.Card.{Card}
use Rattle.rules.specs.declared.Refusal.{Refusal}
use Rattle.rules.specs.declared.Fault.{Fault}
use Rattle.rules.proofs.RefusalLaws.{never_zero}
use Rattle.rules.proofs.TextLaws.{fits_is}
use Rattle.rules.proofs.Capacity.{capacity}
use Rattle.tally.specs.View.{Outcome, outcome_of, view}
use Rattle.tally.specs.Calls.{Sound, Opened, answer}
use Rattle.tally.specs.declared.Tally.{Tally}
use Rattle.tally.proofs.Steps.{size_is_lem}
use Rattle.list_reader.specs.Promise.{listed, Lists}
use Rattle.history.specs.Calls.{ledger}
use Rattle.history.proofs.Agreement.{agrees}
use Rattle.history.proofs.Texts.{laid_text, laid_length}
use Rattle.round_trip_theorems.proofs.Writable.{open_cut, sound_writable}
use Rattle.round_trip_theorems.proofs.ResultLines.{accepted_as}
use Rattle.round_trip_theorems.proofs.Back.{back}
use Rattle.round_trip_theorems.proofs.Trip.{laid_down}
use Rattle.reading_theorems.specs.Lengths.{longest_list}
use Rattle.list_theorems.specs.Statement.{ComesBack, IsWritten, line_bytes, AsOnLedger, ListTrip}
use Rattle.list_theorems.proofs.Back.{written_back_lem}
use Rattle.list_writer.proofs.ListLength.{list_most}
use Rattle.list_theorems.proofs.Lengths.{list_lines_lem, list_few}
use Rattle.list_theorems.proofs.Longest.{calls, long}

-- ---- a list that was written for t and is read into u, which has the lot and the card of t and holds nothing
ledger_listed : (r : Result ⊤ Fault) (g : Ledger) → (listed r g).ledger ≡ g
ledger_listed (Ok a) g = refl
ledger_listed (Err f) g = refl

comes_back : (t u v : Tally) (d e : List ℕ) (n : ℕ) (list : List ℕ) (r : Result ⊤ Fault) → Sound t → Sound u → view u ≡ with_contents (view t) none
    → wrote n e ≡ write_list_on (view t) d → list ≡ take n e → Lists u list r v → ComesBack r v (view t)
comes_back t u v d e n list r st su same w is x =
    let text : list ≡ list_of (view t) = is ∙ (laid_text (list_of (view t)) d n e w).0 in
    let back = x.right su ∙ (ap₂ list_on same text ∙ written_back_lem t st) in
    record {
      accepted = ap (λ (q : Listed). q.number) back;
      line = ap (λ (q : Listed). q.line) back;
      same = sym (ledger_listed r (view v)) ∙ ap (λ (q : Listed). q.ledger) back;
    }

-- an open of the lot and the card of t is accepted, and leaves such a tally
empty : (t u : Tally) (g : Ledger) (c : Card) (o : Outcome) → Sound t → view t ≡ g → 1 ≤ t.lot.containers → cut_to_rows c ≡ g.card → Opened u g.lot c o
    → Sound o.tally × (view o.tally ≡ with_contents (view t) none)
empty t u g c o s same h e x =
    let good : open_number g.lot c ≡ 0 =
    sym (open_cut g.lot c)
    ∙ (ap (open_number g.lot) e ∙ (ap (λ (k : Ledger). open_number k.lot k.card) (sym same) ∙ (open_cut t.lot t.card ∙ s.good h))) in
    let opens : answer o ≡ accepted_as (opened g.lot c) = x.right ∙ ap (λ (m : ℕ). judged m (view u) (opened g.lot c)) good in (
      x.sound (ap (λ (j : Judged). j.number) opens),
      ap (λ (j : Judged). j.ledger) opens
          ∙ (ap (λ (d : Card). record { lot = g.lot; card = d; contents = none }) e ∙ ap (λ (k : Ledger). with_contents k none) (sym same)),
    )

-- ---- how long it is
module _ (t : Tally) (s : Sound t) where
  each : length (list_of (view t)) ≤ line_bytes * held (view t)
  each = omega (arith, list_most t s, size_is_lem t s)

  short : length (list_of (view t)) ≤ longest_list
  short = omega (arith, list_most t s, s.small, capacity)

-- a buffer with room for the longest is never short
room_serves : (t : Tally) (d e : List ℕ) (w : Result ℕ Refusal) → Sound t → longest_list ≤ length d → text_answer w e ≡ write_list_on (view t) d → IsWritten w
room_serves t d e w s h q = by w (ap (λ (u : TextAnswer). u.number) (q ∙ fits_is (list_of (view t)) d (omega (arith, short t s))))
  where
    by : (w : Result ℕ Refusal) → (text_answer w e).number ≡ 0 → IsWritten w
    by (Ok n) z = record { bytes = n; is = refl }
    by (Err f) z = absurd (never_zero f z)

-- ---- a call on a sheet that is read as g
on_ledger_lem : (sheet : List ℕ) (g : Ledger) (n : ℕ) → read_of sheet ≡ accepted g n → AsOnLedger sheet g
unfolding enter_sheet withdraw_sheet enter_list_sheet
on_ledger_lem sheet g n e =
    record {
      enters = λ k x d. ap (λ (o : SheetOutcome). call_on 0 o (λ h. without_line (enter_on h k x)) d) e;
      withdraws = λ k d. ap (λ (o : SheetOutcome). call_on 0 o (λ h. without_line (withdraw_on h k)) d) e;
      lists = λ list d. ap (λ (o : SheetOutcome). call_on 2 o (λ h. list_on h list) d) e;
    }

pub list_trip : ListTrip
list_trip =
    record {
      back = λ cs ds ns ms t u v p q e κ₁ b n a w κ₂ κ₃ list r is x.
          let i = agrees p in
          let j = agrees q in
          rw (← i.same)
          (comes_back t u.now v.now b.now a.now n list.now r i.sound j.sound
          (j.same ∙ (e ∙ ap (λ (g : Ledger). with_contents g none) (sym i.same)))
          (w.right i.sound) is x);
      reopened = λ cs ns t p h κ o u c e f y κ₁ b n a w κ₂ κ₃ v z same list r is x.
          let i = agrees p in
          let q = empty t o.now (ledger cs) c (outcome_of e u.now) i.sound i.same (rw (← i.same) at h) f y in
          rw (← i.same)
          (comes_back t v.now z.now b.now a.now n list.now r i.sound (subst Sound (sym same) q.0) (ap view same ∙ q.1) (w.right i.sound) is x);
      each = λ cs ns t p κ b n a w.
          let i = agrees p in
          rw (← i.same) (omega (arith, laid_length (list_of (view t)) b.now n a.now (w.right i.sound), each t i.sound));
      short = λ cs ns t p κ b n a w.
          let i = agrees p in
          omega (arith, laid_length (list_of (view t)) b.now n a.now (w.right i.sound), short t i.sound);
      room = λ cs ns t p κ b w a h x. let i = agrees p in room_serves t b.now a.now w i.sound h (x.right i.sound);
      calls = calls;
      long = long;
      lines = list_lines_lem;
      few = list_few;
      on_sheet = λ cs ns t p h.
          let i = agrees p in
          let e = back (view t) (sound_writable t i.sound (rw (← i.same) at h)) in
          rw (← i.same) (on_ledger_lem (sheet_of (view t)) (view t) _ e);
      on_written = λ cs ns t p κ b n a w.
          let i = agrees p in
          rw (← i.same) (on_ledger_lem (take n a.now) (view t) _ (laid_down t b.now a.now n i.sound (w.right i.sound)));
    }
