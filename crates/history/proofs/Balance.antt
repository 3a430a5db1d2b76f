-- The ledger's own count: held is entered and joined less withdrawn. Assumes nothing.
use Prim.Native.Nat.{ℕ, ◌+◌, ◌≤◌}
use native.Mathlib.Omega.{arith}
use native.Mathlib.Decide.{ℕ_discrete}
use mathlib.Core.Path.{◌≡◌, refl, sym, ap, ◌∙◌, subst}
use mathlib.Core.Bool.{Bool, true, false, true≢false}
use mathlib.Core.List.{List, [], ◌∷◌}
use lib.Dec.{eqb}
use lib.ListN.{length}
use borrow.Author.Tests.{eqb-true, eqb-false, eq-eqb, ne_eqb}
use Rattle.rules.specs.Choice.{pick}
use Rattle.rules.specs.Contents.{Content, free, holds, put, is_held, union, total, one}
use Rattle.rules.specs.Cards.{open_number}
use Rattle.rules.specs.Weights.{weighing_of}
use Rattle.rules.specs.Lines.{Line, lines_of}
use Rattle.rules.specs.Attributes.{attribute_of}
use Rattle.rules.specs.Ledger.{Ledger, containers, held, with_contents, enter_number, entered, weigh_number, withdraw_number, join_number, opened}
use Rattle.rules.specs.ListReading.{Says, bad, says, line_says, line_on, Listed, enter_lines, list_on}
use Rattle.rules.specs.declared.Lot.{Lot}
use Rattle.rules.specs.declared.Card.{Card}
use Rattle.rules.specs.declared.Pans.{Pans}
use Rattle.rules.proofs.ContentLaws.{free_is, one_held, either_held, total_put, total_none, total_union}
use Rattle.rules.proofs.LedgerLaws.{enter_tells, weigh_tells, withdraw_tells, join_tells}
use Rattle.rules.proofs.ListLaws.{line_step, lines_go, lines_stop, lines_over, lines_held, list_refused}
use Rattle.history.specs.Calls.{Calls, start, opens, enters, weighs, withdraws, joins, lists, judge, ledger, Counts, no_counts, more_entered, counts}

-- a container of the lot
abbrev OfLot : Ledger → ℕ → Type 0
OfLot g k = (1 ≤ k) × (k ≤ containers g)

-- only containers of the lot are held
abbrev HeldOfLot : Ledger → Type 0
HeldOfLot g = (k : ℕ) → is_held (g.contents k) ≡ true → OfLot g k

put_within : (g : Ledger) (k : ℕ) (p : Content) → HeldOfLot g → (is_held p ≡ true → OfLot g k) → (j : ℕ) → is_held (put g.contents k p j) ≡ true → OfLot g j
put_within g k p w h j e = go (ℕ_discrete j k)
  where
    go : Dec (j ≡ k) → OfLot g j
    go (yes q) = rw q (h (simp (eq-eqb j k q) at e))
    go (no f) = w j (simp (ne_eqb j k f) at e)

-- what holds of a ledger and its counts
pub record Balanced (g : Ledger) (c : Counts) : Type 0 where
  pub within : HeldOfLot g
  pub even : held g + c.withdrawn ≡ c.entered + c.joined

balanced_open : (l : Lot) (c : Card) → Balanced (opened l c) no_counts
balanced_open l c = record { within = λ k e. absurd (true≢false (sym e)); even = omega (arith, total_none one l.containers refl) }

balanced_enter : {g : Ledger} {c : Counts} (k x : ℕ) → Balanced g c → enter_number g k x ≡ 0
    → Balanced (entered g k x) (more_entered 1 c)
balanced_enter {g} {c} k x f n =
    let h = enter_tells g k x n in
    record {
      within = put_within g k (holds x) f.within (λ e. (h.above, h.inside));
      even = omega (arith, f.even, total_put one (containers g) g.contents k (holds x) h.above h.inside, ap one (free_is (g.contents k) h.clear));
    }

-- an accepted weigh is an accepted enter
balanced_weigh : {g : Ledger} {c : Counts} (k s : ℕ) (p : Pans) → Balanced g c → weigh_number g k (weighing_of s p) ≡ 0
    → Balanced (entered g k (weighing_of s p).value) (more_entered 1 c)
balanced_weigh {g} k s p f n = balanced_enter k (weighing_of s p).value f (weigh_tells g k (weighing_of s p) n).enters

balanced_withdraw : {g : Ledger} {c : Counts} (k : ℕ) → Balanced g c → withdraw_number g k ≡ 0
    → Balanced (with_contents g (put g.contents k free)) (record { entered = c.entered; withdrawn = c.withdrawn + 1; joined = c.joined })
balanced_withdraw {g} {c} k f n =
    let here = withdraw_tells g k n in
    let inside = f.within k here in
    record {
      within = put_within g k free f.within (λ e. inside);
      even = omega (arith, f.even, total_put one (containers g) g.contents k free inside.0 inside.1, one_held (g.contents k) here);
    }

balanced_join : {g h : Ledger} {c d : Counts} → Balanced g c → Balanced h d → join_number g h ≡ 0
    → Balanced (with_contents g (union g.contents h.contents)) (record { entered = c.entered; withdrawn = c.withdrawn; joined = c.joined + held h })
balanced_join {g} {h} {c} f w n =
    let t = join_tells g h n in
    record {
      within = λ k e. either_held (g.contents k) (h.contents k) (OfLot g k) (f.within k) (λ q. ((w.within k q).0, rw t.same (w.within k q).1)) e;
      even =
          omega (
            arith,
            f.even,
            total_union one (containers g) g.contents h.contents refl t.clear,
            ap (λ (m : ℕ). total one m h.contents) t.same,
          );
    }

-- a call is accepted, or changes nothing
balanced_cases : {n : ℕ} {g after : Ledger} {c d : Counts} → Balanced g c → (n ≡ 0 → Balanced after d) → Balanced (pick (eqb n 0) after g) (pick (eqb n 0) d c)
balanced_cases {n} {g} {after} {c} {d} f a = go (eqb n 0) refl
  where
    go : (t : Bool) → eqb n 0 ≡ t → Balanced (pick t after g) (pick t d c)
    go true e = a (eqb-true n 0 e)
    go false e = f

-- ---- a comma list
-- a line that is taken is an accepted enter
line_within : (g : Ledger) (s : Says) → HeldOfLot g → (line_on g s).number ≡ 0 → HeldOfLot (line_on g s).ledger
line_within g bad w e = absurd (eqb-false 20 0 refl e)
line_within g (says k x) w e =
    let h = enter_tells g k x e in
    rw (eq-eqb (enter_number g k x) 0 e) (put_within g k (holds x) w (λ q. (h.above, h.inside)))

lines_within : (was : Ledger) (ls : List Line) (g : Ledger) (n : ℕ) → HeldOfLot g → (enter_lines was ls g n).number ≡ 0 → HeldOfLot (enter_lines was ls g n).ledger
lines_within was [] g n w e = subst (λ (r : Listed). HeldOfLot r.ledger) (sym (lines_over was g n)) w
lines_within was (l ∷ ls) g n w e = go (ℕ_discrete (line_step was l g).number 0) (lines_within was ls (line_step was l g).ledger (n + 1))
  where
    go : Dec ((line_step was l g).number ≡ 0)
        → (HeldOfLot (line_step was l g).ledger → (enter_lines was ls (line_step was l g).ledger (n + 1)).number ≡ 0 → HeldOfLot (enter_lines was ls (line_step was l g).ledger (n + 1)).ledger)
        → HeldOfLot (enter_lines was (l ∷ ls) g n).ledger
    go (yes z) r =
        let q = lines_go was l ls g n z in
        subst (λ (r : Listed). HeldOfLot r.ledger) (sym q)
        (r (line_within g (line_says (attribute_of was.lot.attribute) l) w z) (sym (ap (λ (r : Listed). r.number) q) ∙ e))
    go (no z) r = absurd (z (sym (ap (λ (r : Listed). r.number) (lines_stop was l ls g n z)) ∙ e))

-- an accepted list holds one result more for each line, and a refused one changes nothing
balanced_list : {g : Ledger} {c : Counts} (s : List ℕ) → Balanced g c → Balanced (list_on g s).ledger (pick (eqb (list_on g s).number 0) (more_entered (length (lines_of s)) c) c)
unfolding list_on
balanced_list {g} {c} s f = go (eqb (list_on g s).number 0) refl
  where
    go : (t : Bool) → eqb (list_on g s).number 0 ≡ t → Balanced (list_on g s).ledger (pick t (more_entered (length (lines_of s)) c) c)
    go true e =
        let z = eqb-true (list_on g s).number 0 e in
        record { within = lines_within g (lines_of s) g 0 f.within z; even = omega (arith, f.even, lines_held g (lines_of s) g 0 z) }
    go false e = subst (λ (h : Ledger). Balanced h c) (sym (list_refused g s (eqb-false (list_on g s).number 0 e))) f

pub balanced : (cs : Calls) → Balanced (ledger cs) (counts cs)
unfolding judge counts
balanced start = record { within = λ k e. absurd (true≢false (sym e)); even = omega (arith, total_none one 0 refl) }
balanced (opens cs l c) = balanced_cases (balanced cs) (λ (n : open_number l c ≡ 0). balanced_open l c)
balanced (enters cs k x) = balanced_cases (balanced cs) (balanced_enter k x (balanced cs))
balanced (weighs cs k s p) = balanced_cases (balanced cs) (balanced_weigh k s p (balanced cs))
balanced (withdraws cs k) = balanced_cases (balanced cs) (balanced_withdraw k (balanced cs))
balanced (joins cs ds) = balanced_cases (balanced cs) (balanced_join (balanced cs) (balanced ds))
balanced (lists cs s) = balanced_list s (balanced cs)
