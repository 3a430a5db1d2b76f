-- A sheet that is read was made by an open and its enters: those that its lines say. Assumes nothing.
use mathlib.Core.Path.{◌≡◌, refl, sym, ap, ◌∙◌}
use mathlib.Core.Bool.{true, false, true≢false}
use mathlib.Core.List.{List, [], ◌∷◌, ◌++◌, append-nil, append_assoc}
use Prim.Native.Nat.{ℕ, ◌+◌}
use native.Mathlib.Omega.{arith}
use lib.ListN.{length, length-append}
use Rattle.rules.specs.Contents.{one}
use Rattle.rules.specs.Stages.{is_opened, is_ended}
use Rattle.rules.specs.Lines.{Line, lines_of}
use Rattle.rules.specs.Frames.{frame_of}
use Rattle.rules.specs.Weights.{weighing_of}
use Rattle.rules.specs.Ledger.{Ledger, held, enter_number, enter_on}
use Rattle.rules.specs.Reading.{State, accepted, on_ledger, begun, at_start, read_of}
use Rattle.rules.specs.declared.Lot.{Lot}
use Rattle.rules.specs.declared.Card.{Card}
use Rattle.rules.specs.declared.Stage.TheVariants as stage
use Rattle.rules.specs.declared.Frame.{Frame}
use Rattle.rules.proofs.ContentLaws.{total_none}
use Rattle.rules.proofs.LedgerLaws.{enter_held}
use Rattle.rules.proofs.Taken.{Taken, lot, card, critical, range, result, balance, ends}
use Rattle.reading_theorems.specs.Spelling.{Entry, Made, opens, enters, entry_of, entries_in, entries_of, lot_by, card_by, lot_in, card_in, Spelled}
use Rattle.reading_theorems.proofs.StageLaws.{unopened, ended_opened}
use Rattle.reading_theorems.proofs.Accepted.{Leads, nothing, line, AcceptedFrom, accepted_sheet}

-- as many results are held as were entered
pub made_held : {l : Lot} {c : Card} {es : List Entry} {g : Ledger} → Made l c es g → held g ≡ length es
made_held {l} (opens q) = rw q (total_none one l.containers refl)
made_held (enters {g} k x m q) = rw length-append (omega (arith, enter_held g k x q, made_held m))

-- es are the results of the lines so far: they make the ledger that the next result is entered in
pub record ResultsSoFar (s : State) (es : List Entry) : Type 0 where
  pub made : (begun s).number ≡ 0 → Made s.lot s.card es (begun s).ledger
  pub unopened : is_opened s.stage ≡ false → es ≡ []
  pub count : length es ≡ s.results

-- 06 is compared with the number of result frames, which is what is held
pub results_held : (s : State) (es : List Entry) → ResultsSoFar s es → (begun s).number ≡ 0 → held (begun s).ledger ≡ s.results
results_held s es h b = made_held (h.made b) ∙ h.count

-- before the lot is opened there is none
none_before : (s : State) → is_opened s.stage ≡ false → s.results ≡ 0 → ResultsSoFar s []
none_before s e z = record { made = λ q. rw e (opens (rw e at q)); unopened = λ i. refl; count = cc }

pub none_at_start : ResultsSoFar at_start []
none_at_start = none_before at_start refl refl

-- nor is there behind a frame of lot or card
none_yet : (s u : State) (es : List Entry) → ResultsSoFar s es → is_opened s.stage ≡ false → is_opened u.stage ≡ false → u.results ≡ s.results
    → ResultsSoFar u (es ++ [])
none_yet s u es h a b e = rw (h.unopened a) (none_before u b (e ∙ sym (rw (h.unopened a) at h.count)))

-- a result, weighed or not
one_more : (s : State) (es : List Entry) → ResultsSoFar s es → (c x : ℕ) → (begun s).number ≡ 0 → enter_number (begun s).ledger c x ≡ 0
    → ResultsSoFar (on_ledger s stage.Result (s.results + 1) (enter_on (begun s).ledger c x).ledger) (es ++ (record { container = c; x = x } ∷ []))
one_more s es h c x b e =
    record {
      made = λ q. enters c x (h.made b) e;
      unopened = λ i. absurd (true≢false i);
      count = rw length-append (ap (λ (n : ℕ). n + 1) h.count);
    }

pub results_taken : {f : Frame} (s u : State) (es : List Entry) → ResultsSoFar s es → Taken s f u → ResultsSoFar u (es ++ entry_of f)
results_taken s u es h (lot t g) = none_yet s u es h (unopened 1 s.stage (omega arith) t) refl refl
results_taken s u es h (card t g) = none_yet s u es h (unopened 2 s.stage (omega arith) t) refl refl
results_taken s u es h (critical t g) = none_yet s u es h (unopened 3 s.stage (omega arith) t) refl refl
results_taken s u es h (range t g few) = none_yet s u es h (unopened 4 s.stage (omega arith) t) refl refl
results_taken s u es h (result {c} {x} t b e) = one_more s es h c x b e
results_taken s u es h (balance {c} {status} {p} t b a v e) = one_more s es h c (weighing_of status p).value b e
results_taken s u es h (ends t b e) =
    rw append-nil (record { made = λ q. h.made b; unopened = λ i. absurd (true≢false i); count = h.count })

-- ---- line by line
results_led : {ls : List Line} (s v : State) (es : List Entry) → ResultsSoFar s es → Leads s ls v → ResultsSoFar v (es ++ entries_in ls)
unfolding entries_in
results_led s v es h nothing = rw append-nil h
results_led s v es h (line {u} {d} t rest) =
    rw append_assoc at (results_led u v (es ++ entry_of (frame_of d)) (results_taken s u es h t) rest)

-- at the end they make the ledger that is yielded
pub ended_made : (s : State) (es : List Entry) → ResultsSoFar s es → is_ended s.stage ≡ true → Made s.lot s.card es s.ledger
ended_made s es h e = let o = ended_opened s.stage e in rw o at (h.made (rw o refl))

-- the lot and the card of the last state, and the results in their order, make what is accepted
pub sheet_made : (sheet : List ℕ) (g : Ledger) (m : ℕ) (a : AcceptedFrom (lines_of sheet) at_start 0 g m)
    → Made a.last.lot a.last.card (entries_of sheet) g
sheet_made sheet g m a =
    let v = a.last in
    rw a.ledger at (ended_made v (entries_of sheet) (results_led at_start v [] none_at_start a.leads) a.ends)

-- ---- they are those that the lines say
lot_taken : {f : Frame} {s u : State} → Taken s f u → u.lot ≡ lot_by f s.lot
lot_taken (lot t g) = refl
lot_taken (card t g) = refl
lot_taken (critical t g) = refl
lot_taken (range t g few) = refl
lot_taken (result t b e) = refl
lot_taken (balance t b a v e) = refl
lot_taken (ends t b e) = refl

card_taken : {f : Frame} {s u : State} → Taken s f u → u.card ≡ card_by f s.card
card_taken (lot t g) = refl
card_taken (card t g) = refl
card_taken (critical t g) = refl
card_taken (range t g few) = refl
card_taken (result t b e) = refl
card_taken (balance t b a v e) = refl
card_taken (ends t b e) = refl

lot_led : {ls : List Line} (s v : State) → Leads s ls v → v.lot ≡ lot_in s.lot ls
unfolding lot_in
lot_led s v nothing = refl
lot_led s v (line {u} {d} {ls = ls} t rest) = lot_led u v rest ∙ ap (λ (l : Lot). lot_in l ls) (lot_taken t)

card_led : {ls : List Line} (s v : State) → Leads s ls v → v.card ≡ card_in s.card ls
unfolding card_in
card_led s v nothing = refl
card_led s v (line {u} {d} {ls = ls} t rest) = card_led u v rest ∙ ap (λ (c : Card). card_in c ls) (card_taken t)

pub spelled : (sheet : List ℕ) (g : Ledger) (lines : ℕ) → read_of sheet ≡ accepted g lines → Spelled sheet g
spelled sheet g lines q =
    let a = accepted_sheet sheet g lines q in
    rw (lot_led at_start a.last a.leads, card_led at_start a.last a.leads) at (sheet_made sheet g lines a)
