-- How long a line of a comma list that is accepted is, and so the list. Assumes nothing.
use Prim.{Unit}
use mathlib.Core.Path.{◌≡◌, refl, sym, ap, ◌∙◌}
use mathlib.Core.Bool.{Bool, true, false}
use mathlib.Core.List.{List, [], ◌∷◌, ◌++◌}
use Prim.Native.Nat.{ℕ, suc, ◌+◌, ◌-◌, ◌*◌, ◌≤◌}
use native.Mathlib.Omega.{arith}
use native.Mathlib.Decide.{ℕ_discrete, dec_le}
use lib.Dec.{eqb, leb}
use lib.ListN.{length, get_or, length-append, length-take, length-drop}
use borrow.Author.Tests.{eqb-true, eqb-false, leb-true, lt-ltb, ltb-true, ltb-false}
use Rattle.rules.specs.Choice.{pick}
use Rattle.rules.specs.Limits.{most_held, highest_x, widest}
use Rattle.rules.specs.Text.{byte}
use Rattle.rules.specs.Decimals.{all_decimal, is_decimal, value_behind, decimal_value, is_number}
use Rattle.rules.specs.Lines.{Line, ended, unended, cut_from, lines_of}
use Rattle.rules.specs.Ledger.{Ledger, containers, held, enter_number, entered}
use Rattle.rules.specs.Attributes.{attribute_of}
use Rattle.rules.specs.ListReading.{Reads, wrong, reads, leads_zero, plain_of, first, has, before, behind, comma, point, hundredths_of, percent, percent_of, value_of, Says, bad, says, both, say_of, line_says, line_on, Listed, enter_lines, list_on}
use Rattle.rules.specs.declared.Attribute.{Attribute}
use Rattle.rules.specs.declared.Attribute.TheVariants.{Purity, Germination, Count}
use Rattle.rules.proofs.Tests.{and_left, and_right}
use Rattle.rules.proofs.LedgerLaws.{enter_tells}
use Rattle.rules.proofs.ListLaws.{line_step, lines_go, lines_stop, line_held}
use Rattle.rules.proofs.Capacity.{capacity}
use Rattle.reading_theorems.specs.Lengths.{longest_list}
use Rattle.list_theorems.specs.Statement.{line_bytes}

-- ---- a number that is accepted: one of more digits is larger
behind_least : (l : List ℕ) (n : ℕ) → n ≤ value_behind n l
unfolding value_behind
behind_least [] n = omega arith
behind_least (c ∷ l) n = omega (arith, behind_least l (10 * n + (c - 48)))

-- words whose first digit is not 0
three_most : (w : List ℕ) → 49 ≤ get_or w 0 0 → decimal_value w ≤ 999 → length w ≤ 3
unfolding decimal_value value_behind
three_most [] h e = omega arith
three_most (a ∷ []) h e = omega arith
three_most (a ∷ b ∷ []) h e = omega arith
three_most (a ∷ b ∷ c ∷ []) h e = omega arith
three_most (a ∷ b ∷ c ∷ d ∷ l) h e = absurd (omega (arith, behind_least l (10 * (10 * (10 * (10 * 0 + (a - 48)) + (b - 48)) + (c - 48)) + (d - 48))))

-- two digits more
five_most : (w : List ℕ) → 49 ≤ get_or w 0 0 → decimal_value w ≤ 99999 → length w ≤ 5
unfolding decimal_value value_behind
five_most [] h e = omega arith
five_most (a ∷ []) h e = omega arith
five_most (a ∷ b ∷ []) h e = omega arith
five_most (a ∷ b ∷ c ∷ []) h e = omega arith
five_most (a ∷ b ∷ c ∷ d ∷ []) h e = omega arith
five_most (a ∷ b ∷ c ∷ d ∷ f ∷ []) h e = omega arith
five_most (a ∷ b ∷ c ∷ d ∷ f ∷ g ∷ l) h e =
    absurd
    (omega (
      arith,
      behind_least l (10 * (10 * (10 * (10 * (10 * (10 * 0 + (a - 48)) + (b - 48)) + (c - 48)) + (d - 48)) + (f - 48)) + (g - 48)),
    ))

-- a plain number of two digits or more begins with none
first_decimal : (w : List ℕ) → 1 ≤ length w → all_decimal w ≡ true → 48 ≤ get_or w 0 0
unfolding all_decimal
first_decimal [] h e = absurd (omega arith)
first_decimal (x ∷ w) h e = leb-true 48 x (and_left (leb 48 x) (leb x 57) (and_left (is_decimal x) (all_decimal w) e))

wrong_not : {A : Type 0} {n : ℕ} → wrong ≡ reads n → A
wrong_not e = absurd (let z : ◌≡◌ {A = ℕ} 0 1 = cc in omega arith)

the_number : (m n : ℕ) → reads m ≡ reads n → m ≡ n
the_number m n e = cc

pub record Plain (w : List ℕ) (k : ℕ) : Type 0 where
  pub value : decimal_value w ≡ k
  pub leads : 2 ≤ length w → 49 ≤ get_or w 0 0

plain_is : (w : List ℕ) (k : ℕ) → plain_of w ≡ reads k → Plain w k
unfolding plain_of
plain_is w k e = go (leads_zero w) (is_number w) refl refl e
  where
    go : (b c : Bool) → leads_zero w ≡ b → is_number w ≡ c → pick b wrong (pick c (reads (decimal_value w)) wrong) ≡ reads k → Plain w k
    go true c p q e = wrong_not e
    go false false p q e = wrong_not e
    go false true p q e =
        record {
          value = the_number (decimal_value w) k e;
          leads = λ h.
              let digit = first_decimal w (omega arith) (and_right (leb 1 (length w)) (all_decimal w) q) in
              let other : (get_or w 0 0 ≡ 48 → ⊥) = eqb-false (get_or w 0 0) 48 (rw (lt-ltb 1 (length w) h) at p) in
              omega (arith, other);
        }

plain_short : (w : List ℕ) (k : ℕ) → plain_of w ≡ reads k → (k ≤ 999 → length w ≤ 3) × (k ≤ 99999 → length w ≤ 5)
plain_short w k e = go (dec_le 2 (length w))
  where
    go : Dec (2 ≤ length w) → (k ≤ 999 → length w ≤ 3) × (k ≤ 99999 → length w ≤ 5)
    go (yes h) =
        let p = plain_is w k e in
        ((λ q. three_most w (p.leads h) (omega (arith, p.value))), (λ q. five_most w (p.leads h) (omega (arith, p.value))))
    go (no h) = ((λ q. omega arith), (λ q. omega arith))

-- ---- the parts of a word
module _ (b : ℕ) (w : List ℕ) where
  parts : has b w ≡ true → length w ≡ length (before b w) + 1 + length (behind b w)
  parts h =
      let q = ltb-true (first b w) (length w) h in
      omega (arith, length-take (first b w) w, length-drop (first b w + 1) w)

  whole : has b w ≡ false → length w ≤ length (before b w)
  whole h =
      let q = ltb-false (first b w) (length w) h in
      omega (arith, length-take (first b w) w)

-- ---- values
hundredths_short : (w : List ℕ) (f : ℕ) → hundredths_of w ≡ reads f → length w ≤ 2
unfolding hundredths_of
hundredths_short w f e = go (all_decimal w) (eqb (length w) 1) (eqb (length w) 2) refl refl e
  where
    go : (a b c : Bool) → eqb (length w) 1 ≡ b → eqb (length w) 2 ≡ c
        → pick a (pick b (reads (10 * decimal_value w)) (pick c (reads (decimal_value w)) wrong)) wrong ≡ reads f → length w ≤ 2
    go false b c p q e = wrong_not e
    go true true c p q e = omega (arith, eqb-true (length w) 1 p)
    go true false true p q e = omega (arith, eqb-true (length w) 2 q)
    go true false false p q e = wrong_not e

percent_short : (w : List ℕ) (x : ℕ) → percent_of w ≡ reads x → x ≤ highest_x → length w ≤ 6
unfolding percent_of
percent_short w x e h = go (plain_of (before point w)) (has point w) (hundredths_of (behind point w)) refl refl refl e
  where
    go : (p : Reads) (b : Bool) (q : Reads) → plain_of (before point w) ≡ p → has point w ≡ b → hundredths_of (behind point w) ≡ q
        → percent p (pick b q (reads 0)) ≡ reads x → length w ≤ 6
    go wrong b q i j k e = wrong_not e
    go (reads n) true wrong i j k e = wrong_not e
    go (reads n) true (reads f) i j k e =
        let is = the_number (100 * n + f) x e in
        omega (arith, parts point w j, (plain_short (before point w) n i).0 (omega arith), hundredths_short (behind point w) f k)
    go (reads n) false q i j k e =
        let is = the_number (100 * n + 0) x e in
        omega (arith, whole point w j, (plain_short (before point w) n i).0 (omega arith))

value_short : (a : Attribute) (w : List ℕ) (x : ℕ) → value_of a w ≡ reads x → x ≤ highest_x → length w ≤ 6
value_short Purity w x e h = percent_short w x e h
value_short Germination w x e h = percent_short w x e h
value_short Count w x e h = omega (arith, (plain_short w x e).1 (omega arith))

-- ---- a line that is accepted, without its end byte
bad_not : {A : Type 0} {k x : ℕ} → bad ≡ says k x → A
bad_not e = absurd (let z : ◌≡◌ {A = ℕ} 0 1 = cc in omega arith)

say_short : (a : Attribute) (l : List ℕ) (k x : ℕ) → say_of a l ≡ says k x → k ≤ widest → x ≤ highest_x → length l ≤ 12
unfolding say_of
say_short a l k x e h g = go (has comma l) (plain_of (before comma l)) (value_of a (behind comma l)) refl refl refl e
  where
    go : (b : Bool) (p q : Reads) → has comma l ≡ b → plain_of (before comma l) ≡ p → value_of a (behind comma l) ≡ q → pick b (both p q) bad ≡ says k x → length l ≤ 12
    go false p q i j m e = bad_not e
    go true wrong q i j m e = bad_not e
    go true (reads n) wrong i j m e = bad_not e
    go true (reads n) (reads y) i j m e =
        let key : n ≡ k = cc in
        let value : y ≡ x = cc in
        omega (arith, parts comma l i, (plain_short (before comma l) n j).1 (omega arith), value_short a (behind comma l) y m (omega arith))

-- ---- lists
-- each line has its end byte, and at most so many bytes before it
abbrev Fits : List Line → Type 0
Fits [] = Unit
Fits (ended l ∷ ls) = (length l ≤ 12) × Fits ls
Fits (unended ∷ ls) = ⊥

line_fits : (a : Attribute) (g : Ledger) (l : Line) (ls : List Line) → containers g ≤ widest → (line_on g (line_says a l)).number ≡ 0 → Fits ls → Fits (l ∷ ls)
line_fits a g unended ls h e f = absurd (eqb-false 20 0 refl e)
line_fits a g (ended w) ls h e f = (go (say_of a w) refl e, f)
  where
    go : (s : Says) → say_of a w ≡ s → (line_on g s).number ≡ 0 → length w ≤ 12
    go bad q e = absurd (eqb-false 20 0 refl e)
    go (says k x) q e =
        let t = enter_tells g k x e in
        say_short a w k x q (omega (arith, t.inside)) t.low

line_lot : (g : Ledger) (s : Says) → containers (line_on g s).ledger ≡ containers g
line_lot g bad = refl
line_lot g (says k x) = go (eqb (enter_number g k x) 0)
  where
    go : (b : Bool) → containers (pick b (entered g k x) g) ≡ containers g
    go true = refl
    go false = refl

pub lines_fit : (was : Ledger) (ls : List Line) (g : Ledger) (n : ℕ) → containers g ≤ widest → (enter_lines was ls g n).number ≡ 0 → Fits ls × (length ls ≤ most_held - held g)
lines_fit was [] g n h e = (tt, omega arith)
lines_fit was (l ∷ ls) g n h e = go (ℕ_discrete (line_step was l g).number 0) (lines_fit was ls (line_step was l g).ledger (n + 1))
  where
    go : Dec ((line_step was l g).number ≡ 0)
        → (containers (line_step was l g).ledger ≤ widest → (enter_lines was ls (line_step was l g).ledger (n + 1)).number ≡ 0 → Fits ls × (length ls ≤ most_held - held (line_step was l g).ledger))
        → Fits (l ∷ ls) × (suc (length ls) ≤ most_held - held g)
    go (yes z) r =
        let a = attribute_of was.lot.attribute in
        let q = lines_go was l ls g n z in
        let rest = r (omega (arith, line_lot g (line_says a l))) (sym (ap (λ (r : Listed). r.number) q) ∙ e) in
        let room = line_held g (line_says a l) z in
        (line_fits a g l ls h z rest.0, omega (arith, rest.1, room.0, room.1))
    go (no z) r = absurd (z (sym (ap (λ (r : Listed). r.number) (lines_stop was l ls g n z)) ∙ e))

cut_fits : (s sofar : List ℕ) → Fits (cut_from sofar s) → length sofar + length s ≤ line_bytes * length (cut_from sofar s)
unfolding cut_from
cut_fits [] [] f = omega arith
cut_fits [] (x ∷ d) f = absurd f
cut_fits (x ∷ s) sofar f = go (eqb x 10) f (cut_fits s []) (cut_fits s (sofar ++ byte x))
  where
    go : (b : Bool) → Fits (pick b (ended sofar ∷ lines_of s) (cut_from (sofar ++ byte x) s))
        → (Fits (lines_of s) → 0 + length s ≤ line_bytes * length (lines_of s))
        → (Fits (cut_from (sofar ++ byte x) s) → length (sofar ++ byte x) + length s ≤ line_bytes * length (cut_from (sofar ++ byte x) s))
        → length sofar + suc (length s) ≤ line_bytes * length (pick b (ended sofar ∷ lines_of s) (cut_from (sofar ++ byte x) s))
    go true f r q = omega (arith, f.0, r f.1)
    go false f r q = omega (arith, q f, length-append sofar (byte x))

-- an accepted list
module _ (g : Ledger) (s : List ℕ) (h : containers g ≤ widest) (e : (list_on g s).number ≡ 0) where
  pub list_lines_lem : length s ≤ line_bytes * length (lines_of s)
  unfolding list_on
  list_lines_lem = omega (arith, cut_fits s [] (lines_fit g (lines_of s) g 0 h e).0)

  pub list_few : length s ≤ longest_list
  unfolding list_on
  list_few = omega (arith, list_lines_lem, (lines_fit g (lines_of s) g 0 h e).1, capacity)
