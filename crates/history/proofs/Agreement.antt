-- The tally and the ledger after the same calls. Assumes nothing.
use Rattle.std.specs.Prelude.{Result, Ok, Err, ⊤}
use native.Mathlib.Decide.{ℕ_discrete}
use mathlib.Core.Path.{◌≡◌, refl, sym, ap, ap₂, ◌∙◌, subst}
use mathlib.Core.List.{List, ◌∷◌}
use Rattle.rules.specs.Numbers.{number_in}
use Rattle.rules.specs.Ledger.{Ledger, Judged, fresh_ledger, open_on, enter_on, weigh_on, withdraw_on, join_on}
use Rattle.rules.specs.ListReading.{Listed, list_on}
use Rattle.rules.specs.Cards.{open_number}
use Rattle.rules.specs.declared.Lot.{Lot}
use Rattle.rules.specs.declared.Card.{Card}
use Rattle.rules.specs.declared.Refusal.{Refusal}
use Rattle.rules.specs.declared.Fault.{Fault}
use Rattle.tally.specs.declared.Tally.{Tally}
use Rattle.held_lists.specs.Places.{stored}
use Rattle.tally.specs.View.{outcome_of, view}
use Rattle.tally.specs.Calls.{Sound, Opened, answer}
use Rattle.tally.proofs.Answer.{fresh_sound}
use Rattle.list_reader.specs.Promise as list-promise
use Rattle.reading_theorems.proofs.Spelt.{spelled}
use Rattle.history.specs.Calls.{Calls, judge, ledger, Answer, numbered, with_line, answers}
use Rattle.history.specs.Run.{Run, begun, taken, opened, entered, weighed, withdrawn, joined, listed, read}
use Rattle.history.proofs.Sheets.{made_ledger, made_answers}

-- the tally and the ledger after the same calls
pub record Agrees (cs : Calls) (ns : List Answer) (t : Tally) : Type 0 where
  pub same : view t ≡ ledger cs
  pub judged : ns ≡ answers cs
  pub sound : Sound t

-- a refused open leaves a sound tally sound
open_sound : (t : Tally) (l : Lot) (c : Card) (e : Result ⊤ Refusal) (u : Tally) → Sound t → Opened t l c (outcome_of e u) → Sound u
open_sound t l c e u s o = go (ℕ_discrete (number_in e) 0)
  where
    go : Dec (number_in e ≡ 0) → Sound u
    go (yes z) = o.sound z
    go (no h) = subst Sound (sym (o.kept h)) s

-- one more call, answered as the ledger judges it
further : {ns ms : List Answer} (e : Result ⊤ Refusal) (u : Tally) (j : Judged) → answer (outcome_of e u) ≡ j → ns ≡ ms
    → (view u ≡ j.ledger) × (numbered (number_in e) ∷ ns ≡ numbered j.number ∷ ms)
further e u j q p = (ap (λ (i : Judged). i.ledger) q, ap₂ ◌∷◌ (ap (λ (i : Judged). numbered i.number) q) p)

-- an accepted open leaves nothing of what was there
open_any : (g h : Ledger) (l : Lot) (c : Card) → open_number l c ≡ 0 → open_on g l c ≡ open_on h l c
open_any g h l c e = simp e

-- the ledger after a comma list, accepted or refused
listed_ledger : (e : Result ⊤ Fault) (g : Ledger) → (list-promise.listed e g).ledger ≡ g
listed_ledger (Ok a) g = refl
listed_ledger (Err f) g = refl

pub agrees : {cs : Calls} {ns : List Answer} {t : Tally} → Run cs ns t → Agrees cs ns t
unfolding judge answers stored
agrees (begun f) = record { same = ap view f; judged = refl; sound = rw f fresh_sound }
agrees (taken {l = l} {c = c} {e = e} κ t u o z) =
    let n : open_number l c ≡ 0 = sym (ap (λ (i : Judged). i.number) o.right) ∙ z in
    let f = further e u.now _ (o.right ∙ open_any (view t.now) fresh_ledger l c n) refl in
    record { same = f.0; judged = f.1; sound = o.sound z }
agrees (opened {l = l} {c = c} {e = e} κ t u r o) =
    let i = agrees r in
    let f = further e u.now _ (o.right ∙ ap (λ (g : Ledger). open_on g l c) i.same) i.judged in
    record { same = f.0; judged = f.1; sound = open_sound t.now l c e u.now i.sound o }
agrees (entered {k = k} {x = x} {e = e} κ t u r o) =
    let i = agrees r in
    let f = further e u.now _ (o.answers.right i.sound ∙ ap (λ (g : Ledger). enter_on g k x) i.same) i.judged in
    record { same = f.0; judged = f.1; sound = o.answers.sound i.sound }
agrees (weighed {k = k} {s = s} {p = p} {e = e} κ t u r o) =
    let i = agrees r in
    let f = further e u.now _ (o.answers.right i.sound ∙ ap (λ (g : Ledger). weigh_on g k s p) i.same) i.judged in
    record { same = f.0; judged = f.1; sound = o.answers.sound i.sound }
agrees (withdrawn {k = k} {e = e} κ t u r o) =
    let i = agrees r in
    let f = further e u.now _ (o.answers.right i.sound ∙ ap (λ (g : Ledger). withdraw_on g k) i.same) i.judged in
    record { same = f.0; judged = f.1; sound = o.answers.sound i.sound }
agrees (joined {e = e} κ₁ κ₂ t u o r q j) =
    let i = agrees r in
    let h = agrees q in
    let f = further e u.now _ (j.answers.right (i.sound, h.sound) ∙ ap₂ (λ (f g : Ledger). join_on f g) i.same h.same) i.judged in
    record { same = f.0; judged = f.1; sound = j.answers.sound (i.sound, h.sound) }
agrees (listed {e = e} κ₁ κ₂ t u list r x) =
    let i = agrees r in
    let f = x.right i.sound ∙ ap (λ (g : Ledger). list_on g list.now) i.same in
    record { same = sym (listed_ledger e (view u.now)) ∙ ap (λ (q : Listed). q.ledger) f; judged = ap₂ ◌∷◌ (ap with_line f) i.judged; sound = x.sound i.sound }
agrees (read {r = r} κ sheet x) =
    let m = spelled sheet.now (view r.tally) r.lines x.right in
    record { same = sym (made_ledger m); judged = made_answers m; sound = x.sound }
