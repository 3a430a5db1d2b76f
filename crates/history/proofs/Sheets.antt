-- The open and the enters that a sheet says, as a list of calls. Assumes nothing.
use Prim.Native.Nat.{ℕ, suc}
use native.Mathlib.Numerals.{add-one}
use mathlib.Core.Path.{◌≡◌, refl, sym, ap, ap₂, ◌∙◌}
use mathlib.Core.List.{List, [], ◌∷◌, ◌++◌}
use lib.ListN.{length, length-append, replicate}
use Rattle.rules.specs.Ledger.{Ledger, enter_on}
use Rattle.rules.specs.declared.Lot.{Lot}
use Rattle.rules.specs.declared.Card.{Card}
use Rattle.reading_theorems.specs.Spelling.{Entry, Made}
use Rattle.reading_theorems.specs.Spelling as spelling
use Rattle.history.specs.Calls.{Calls, start, opens, enters, judge, ledger, numbered, answers, enters_all}

-- one entry more
all_more : (cs : Calls) (es : List Entry) (e : Entry) → enters_all cs (es ++ (e ∷ [])) ≡ enters (enters_all cs es) e.container e.x
unfolding enters_all
all_more cs [] e = refl
all_more cs (d ∷ es) e = all_more (enters cs d.container d.x) es e

one_more : (es : List Entry) (e : Entry) → length (es ++ (e ∷ [])) ≡ suc (length es)
one_more es e = simp length-append (add-one (length es))

pub made_ledger : {l : Lot} {c : Card} {es : List Entry} {g : Ledger} → Made l c es g → ledger (enters_all (opens start l c) es) ≡ g
unfolding enters_all judge
made_ledger (spelling.opens e) = refl
made_ledger {l} {c} (spelling.enters {es = es} {g = g} k x m e) =
    ap ledger (all_more (opens start l c) es (record { container = k; x = x }))
    ∙ ap (λ (h : Ledger). (enter_on h k x).ledger) (made_ledger m)

pub made_answers : {l : Lot} {c : Card} {es : List Entry} {g : Ledger} → Made l c es g → replicate (suc (length es)) (numbered 0) ≡ answers (enters_all (opens start l c) es)
made_answers (spelling.opens e) = unfold enters_all answers judge in ap (λ (n : ℕ). numbered n ∷ []) (sym e)
made_answers {l} {c} (spelling.enters {es = es} {g = g} k x m e) =
    ap (λ (n : ℕ). replicate (suc n) (numbered 0)) (one_more es (record { container = k; x = x }))
    ∙ (ap₂ ◌∷◌ (ap numbered (number m e)) (made_answers m) ∙ sym (ap answers (all_more (opens start l c) es (record { container = k; x = x })) ∙ unfold answers judge in refl))
  where
    number : Made l c es g → (enter_on g k x).number ≡ 0 → 0 ≡ (enter_on (ledger (enters_all (opens start l c) es)) k x).number
    number m e = sym (ap (λ (h : Ledger). (enter_on h k x).number) (made_ledger m) ∙ e)
