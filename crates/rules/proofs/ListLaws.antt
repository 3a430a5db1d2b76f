-- Laws of a comma list on a ledger: a line that is taken and one that stops the list, the lines that decide, and how many there can be.
-- Assumes nothing.
use mathlib.Core.Path.{◌≡◌, refl, sym, ap, ◌∙◌}
use mathlib.Core.Bool.{Bool, true, false, true≢false}
use mathlib.Core.List.{List, [], ◌∷◌, ◌++◌}
use Prim.Native.Nat.{ℕ, suc, ◌+◌, ◌-◌, ◌≤◌, ◌<◌}
use native.Mathlib.Decide.{ℕ_discrete}
use native.Mathlib.Omega.{arith}
use lib.Dec.{eqb, leb-suc-suc}
use lib.ListN.{length, take, drop, take-append-drop}
use lib.Seq.{take-take, length-take-le}
use borrow.Author.Tests.{eq-eqb, ne_eqb, eqb-false}
use Rattle.rules.specs.Choice.{pick}
use Rattle.rules.specs.Limits.{most_held}
use Rattle.rules.specs.Text.{byte}
use Rattle.rules.specs.Lines.{Line, ended, cut_from, lines_of}
use Rattle.rules.specs.Attributes.{attribute_of}
use Rattle.rules.specs.Ledger.{Ledger, Judged, held, enter_number}
use Rattle.rules.specs.ListReading.{Says, bad, says, first, has, line_says, line_on, Listed, enter_lines, list_on}
use Rattle.rules.specs.Printing.{ended_bytes, ended_lines}
use Rattle.rules.proofs.LedgerLaws.{enter_tells, enter_held}

-- ---- a line at a time
-- the step of a line l of a list on the ledger `was`, where the ledger is g by now
abbrev pub line_step : Ledger → Line → Ledger → Judged
line_step was l g = line_on g (line_says (attribute_of was.lot.attribute) l)

module _ (was : Ledger) (l : Line) (ls : List Line) (g : Ledger) (n : ℕ) where
  pub lines_go : (line_step was l g).number ≡ 0 → enter_lines was (l ∷ ls) g n ≡ enter_lines was ls (line_step was l g).ledger (n + 1)
  unfolding enter_lines
  lines_go e = rw (eq-eqb (line_step was l g).number 0 e) refl

  pub lines_stop : ((line_step was l g).number ≡ 0 → ⊥) → enter_lines was (l ∷ ls) g n ≡ record { number = (line_step was l g).number; line = n + 1; ledger = was }
  unfolding enter_lines
  lines_stop e = rw (ne_eqb (line_step was l g).number 0 e) refl

pub lines_over : (was g : Ledger) (n : ℕ) → enter_lines was [] g n ≡ record { number = 0; line = 0; ledger = g }
unfolding enter_lines
lines_over was g n = refl

-- ---- a refused list leaves the ledger as it was before it
pub lines_refused : (was : Ledger) (ls : List Line) (g : Ledger) (n : ℕ) → ((enter_lines was ls g n).number ≡ 0 → ⊥) → (enter_lines was ls g n).ledger ≡ was
lines_refused was [] g n z = absurd (z (ap (λ (r : Listed). r.number) (lines_over was g n)))
lines_refused was (l ∷ ls) g n z = go (ℕ_discrete (line_step was l g).number 0) (lines_refused was ls (line_step was l g).ledger (n + 1))
  where
    go : Dec ((line_step was l g).number ≡ 0) → (((enter_lines was ls (line_step was l g).ledger (n + 1)).number ≡ 0 → ⊥) → (enter_lines was ls (line_step was l g).ledger (n + 1)).ledger ≡ was)
        → (enter_lines was (l ∷ ls) g n).ledger ≡ was
    go (yes e) r =
        let q = lines_go was l ls g n e in
        ap (λ (r : Listed). r.ledger) q ∙ r (λ h. z (ap (λ (r : Listed). r.number) q ∙ h))
    go (no e) r = ap (λ (r : Listed). r.ledger) (lines_stop was l ls g n e)

pub list_refused : (g : Ledger) (s : List ℕ) → ((list_on g s).number ≡ 0 → ⊥) → (list_on g s).ledger ≡ g
unfolding list_on
list_refused g s z = lines_refused g (lines_of s) g 0 z

-- an accepted list has no line
pub lines_accepted : (was : Ledger) (ls : List Line) (g : Ledger) (n : ℕ) → (enter_lines was ls g n).number ≡ 0 → (enter_lines was ls g n).line ≡ 0
lines_accepted was [] g n z = ap (λ (r : Listed). r.line) (lines_over was g n)
lines_accepted was (l ∷ ls) g n z = go (ℕ_discrete (line_step was l g).number 0) (lines_accepted was ls (line_step was l g).ledger (n + 1))
  where
    go : Dec ((line_step was l g).number ≡ 0) → ((enter_lines was ls (line_step was l g).ledger (n + 1)).number ≡ 0 → (enter_lines was ls (line_step was l g).ledger (n + 1)).line ≡ 0)
        → (enter_lines was (l ∷ ls) g n).line ≡ 0
    go (yes e) r =
        let q = lines_go was l ls g n e in
        ap (λ (r : Listed). r.line) q ∙ r (sym (ap (λ (r : Listed). r.number) q) ∙ z)
    go (no e) r = absurd (e (sym (ap (λ (r : Listed). r.number) (lines_stop was l ls g n e)) ∙ z))

-- ---- a faulty line decides, whatever follows it
pub lines_prefix : (was : Ledger) (ls ms : List Line) (g : Ledger) (n : ℕ) → ((enter_lines was ls g n).number ≡ 0 → ⊥) → enter_lines was (ls ++ ms) g n ≡ enter_lines was ls g n
lines_prefix was [] ms g n z = absurd (z (ap (λ (r : Listed). r.number) (lines_over was g n)))
lines_prefix was (l ∷ ls) ms g n z = go (ℕ_discrete (line_step was l g).number 0) (lines_prefix was ls ms (line_step was l g).ledger (n + 1))
  where
    go : Dec ((line_step was l g).number ≡ 0)
        → (((enter_lines was ls (line_step was l g).ledger (n + 1)).number ≡ 0 → ⊥) → enter_lines was (ls ++ ms) (line_step was l g).ledger (n + 1) ≡ enter_lines was ls (line_step was l g).ledger (n + 1))
        → enter_lines was (l ∷ (ls ++ ms)) g n ≡ enter_lines was (l ∷ ls) g n
    go (yes e) r =
        let q = lines_go was l ls g n e in
        lines_go was l (ls ++ ms) g n e ∙ (r (λ h. z (ap (λ (r : Listed). r.number) q ∙ h)) ∙ sym q)
    go (no e) r = lines_stop was l (ls ++ ms) g n e ∙ sym (lines_stop was l ls g n e)

-- the lines that end among the bytes q, and whatever stands behind them
first_later : (b x : ℕ) (xs : List ℕ) → (x ≡ b → ⊥) → has b (x ∷ xs) ≡ has b xs
unfolding first
first_later b x xs h = rw (ne_eqb x b h) (leb-suc-suc (suc (first b xs)) (length xs))

-- no line ends among bytes without an end byte
none_ended : (q : List ℕ) → has 10 q ≡ false → ended_bytes q ≡ 0
unfolding ended_bytes
none_ended [] e = refl
none_ended (x ∷ xs) e = rw e

cut_ended : (q sofar r : List ℕ) → has 10 q ≡ true → cut_from sofar (take (ended_bytes q) q ++ r) ≡ cut_from sofar (take (ended_bytes q) q) ++ lines_of r
unfolding ended_bytes cut_from first
cut_ended [] sofar r h = absurd (true≢false (sym h))
cut_ended (x ∷ xs) sofar r h = rw h (by (ℕ_discrete x 10) (cut_ended xs [] r) (cut_ended xs (sofar ++ byte x) r))
  where
    rest : (b : Bool) → has 10 xs ≡ b → (has 10 xs ≡ true → lines_of (take (ended_bytes xs) xs ++ r) ≡ lines_of (take (ended_bytes xs) xs) ++ lines_of r)
        → lines_of (take (ended_bytes xs) xs ++ r) ≡ lines_of (take (ended_bytes xs) xs) ++ lines_of r
    rest true e f = f e
    rest false e f = rw (none_ended xs e) refl

    by : Dec (x ≡ 10)
        → (has 10 xs ≡ true → lines_of (take (ended_bytes xs) xs ++ r) ≡ lines_of (take (ended_bytes xs) xs) ++ lines_of r)
        → (has 10 xs ≡ true → cut_from (sofar ++ byte x) (take (ended_bytes xs) xs ++ r) ≡ cut_from (sofar ++ byte x) (take (ended_bytes xs) xs) ++ lines_of r)
        → pick (eqb x 10) (ended sofar ∷ lines_of (take (ended_bytes xs) xs ++ r)) (cut_from (sofar ++ byte x) (take (ended_bytes xs) xs ++ r))
        ≡ pick (eqb x 10) (ended sofar ∷ lines_of (take (ended_bytes xs) xs)) (cut_from (sofar ++ byte x) (take (ended_bytes xs) xs)) ++ lines_of r
    by (yes e) f g = rw (eq-eqb x 10 e) (ap (λ (ls : List Line). ended sofar ∷ ls) (rest (has 10 xs) refl f))
    by (no e) f g = rw (ne_eqb x 10 e) (g (sym (first_later 10 x xs e) ∙ h))

pub lines_ended_then : (q r : List ℕ) → lines_of (ended_lines q ++ r) ≡ lines_of (ended_lines q) ++ lines_of r
lines_ended_then q r = by (has 10 q) refl
  where
    by : (b : Bool) → has 10 q ≡ b → lines_of (ended_lines q ++ r) ≡ lines_of (ended_lines q) ++ lines_of r
    by true e = cut_ended q [] r e
    by false e = unfold cut_from in rw (none_ended q e) refl

ended_within : (q : List ℕ) → ended_bytes q ≤ length q
unfolding ended_bytes
ended_within [] = omega arith
ended_within (x ∷ xs) = by (has 10 (x ∷ xs)) (ended_within xs)
  where
    by : (b : Bool) → ended_bytes xs ≤ length xs → pick b (suc (ended_bytes xs)) 0 ≤ suc (length xs)
    by true h = omega arith
    by false h = omega arith

-- a faulty line among those that end among the first n bytes decides, whatever follows these
pub list_told : (g : Ledger) (list : List ℕ) (n : ℕ) → n ≤ length list → ((list_on g (ended_lines (take n list))).number ≡ 0 → ⊥) → list_on g list ≡ list_on g (ended_lines (take n list))
unfolding list_on
list_told g list n h z =
    let k = ended_bytes (take n list) in
    let few : k ≤ n = omega (arith, ended_within (take n list), length-take-le n list h) in
    let front : ended_lines (take n list) ≡ take k list = take-take k n list few in
    let whole : ended_lines (take n list) ++ drop k list ≡ list = ap (λ (l : List ℕ). l ++ drop k list) front ∙ take-append-drop k list in
    ap (λ (l : List ℕ). enter_lines g (lines_of l) g 0) (sym whole)
    ∙ (ap (λ (ls : List Line). enter_lines g ls g 0) (lines_ended_then (take n list) (drop k list))
    ∙ lines_prefix g (lines_of (ended_lines (take n list))) (lines_of (drop k list)) g 0 z)

-- ---- a line that is taken is an enter that is accepted
pub line_held : (g : Ledger) (s : Says) → (line_on g s).number ≡ 0 → (held (line_on g s).ledger ≡ held g + 1) × (held g < most_held)
line_held g bad e = absurd (eqb-false 20 0 refl e)
line_held g (says k x) e =
    let z : enter_number g k x ≡ 0 = e in
    (enter_held g k x z, (enter_tells g k x z).room)

-- so there are no more of them than places are free, and the faulty one is the next at the latest
pub lines_few : (was : Ledger) (ls : List Line) (g : Ledger) (n : ℕ) → (enter_lines was ls g n).line ≤ n + 1 + (most_held - held g)
lines_few was [] g n = omega (arith, ap (λ (r : Listed). r.line) (lines_over was g n))
lines_few was (l ∷ ls) g n = go (ℕ_discrete (line_step was l g).number 0) (lines_few was ls (line_step was l g).ledger (n + 1))
  where
    go : Dec ((line_step was l g).number ≡ 0) → (enter_lines was ls (line_step was l g).ledger (n + 1)).line ≤ n + 1 + 1 + (most_held - held (line_step was l g).ledger)
        → (enter_lines was (l ∷ ls) g n).line ≤ n + 1 + (most_held - held g)
    go (yes e) r =
        let h = line_held g (line_says (attribute_of was.lot.attribute) l) e in
        omega (arith, ap (λ (r : Listed). r.line) (lines_go was l ls g n e), h.0, h.1)
    go (no e) r = omega (arith, ap (λ (r : Listed). r.line) (lines_stop was l ls g n e))

pub list_few : (g : Ledger) (s : List ℕ) → (list_on g s).line ≤ most_held + 1
unfolding list_on
list_few g s = omega (arith, lines_few g (lines_of s) g 0)

-- an accepted list of so many lines holds as many results more
pub lines_held : (was : Ledger) (ls : List Line) (g : Ledger) (n : ℕ) → (enter_lines was ls g n).number ≡ 0 → held (enter_lines was ls g n).ledger ≡ held g + length ls
lines_held was [] g n z = omega (arith, ap (λ (r : Listed). held r.ledger) (lines_over was g n))
lines_held was (l ∷ ls) g n z = go (ℕ_discrete (line_step was l g).number 0) (lines_held was ls (line_step was l g).ledger (n + 1))
  where
    go : Dec ((line_step was l g).number ≡ 0)
        → ((enter_lines was ls (line_step was l g).ledger (n + 1)).number ≡ 0 → held (enter_lines was ls (line_step was l g).ledger (n + 1)).ledger ≡ held (line_step was l g).ledger + length ls)
        → held (enter_lines was (l ∷ ls) g n).ledger ≡ held g + suc (length ls)
    go (yes e) r =
        let q = lines_go was l ls g n e in
        let h = line_held g (line_says (attribute_of was.lot.attribute) l) e in
        omega (arith, ap (λ (r : Listed). held r.ledger) q, r (sym (ap (λ (r : Listed). r.number) q) ∙ z), h.0)
    go (no e) r = absurd (e (sym (ap (λ (r : Listed). r.number) (lines_stop was l ls g n e)) ∙ z))
