-- What the bytes of a line of H tell where its two figures are the same. Assumes nothing.
use Rattle.std.specs.Prelude.{Option, None, Some}
use Prim.Native.Nat.{ℕ, ◌+◌, ◌*◌, ◌^◌, ◌≤◌, ◌<◌}
use native.Mathlib.Omega.{arith}
use native.Mathlib.Decide.{dec_le, ℕ_discrete}
use mathlib.Core.Path.{◌≡◌, refl, sym, ap, ◌∙◌}
use mathlib.Core.Bool.{Bool, true, false}
use mathlib.Core.List.{List, [], ◌∷◌, ◌++◌, append_assoc}
use lib.Dec.{eqb}
use lib.ListN.{drop}
use borrow.Author.Tests.{eq-eqb, ne_eqb}
use Rattle.rules.specs.Choice.{pick}
use Rattle.rules.specs.Text.{text, byte, pointed}
use Rattle.rules.specs.Figures.{critical_for}
use Rattle.rules.specs.Report.{limit_text}
use Rattle.rules.specs.Ledger.{Ledger, held}
use Rattle.history.specs.Verdict.{Marked, quotient, upper, lower, Against, Concludes}
use Rattle.history.proofs.OccursLaws.{occurs, occurs_append, Lacks, written, Apart, blank_apart, larger_apart, smaller_apart, equal_apart, pointed_lacks, limit_lacks, cut_same}
use Rattle.history.proofs.FigureLaws.{never_none, pointed_same}

-- ---- a line of a figure, a byte m, a blank, a limit, a blank and a word, read as one of a figure, a mark b, a blank, the same figure, a
-- blank and a word, where neither the mark nor a blank stands in the figure or the limit
one_most : (t : Bool) → pick {A = ℕ} t 1 0 ≤ 1
one_most true = omega arith
one_most false = omega arith

module _ (P L W F w : List ℕ) (m b : ℕ) (pb : Lacks b P) (lb : Lacks b L) (wb : Lacks b W) (bb : Lacks b (text " ")) (pp : Lacks 32 P) (ll : Lacks 32 L)
    (e : P ++ (m ∷ 32 ∷ (L ++ (32 ∷ W))) ≡ F ++ (b ∷ 32 ∷ (F ++ (32 ∷ w)))) where
  -- the mark stands once, so not in F
  once : pick (eqb m b) 1 0 ≡ occurs b F + (1 + (occurs b F + occurs b w))
  unfolding occurs
  once =
      let self : pick {A = ℕ} (eqb b b) 1 0 ≡ 1 = rw (eq-eqb b b refl) refl in
      omega (
        arith,
        ap (occurs b) e,
        occurs_append b P (m ∷ 32 ∷ (L ++ (32 ∷ W))),
        occurs_append b L (32 ∷ W),
        occurs_append b F (b ∷ 32 ∷ (F ++ (32 ∷ w))),
        occurs_append b F (32 ∷ w),
        pb.is,
        lb.is,
        wb.is,
        bb.is,
      )

  pub is_mark : m ≡ b
  is_mark = by (ℕ_discrete m b)
    where
      by : Dec (m ≡ b) → m ≡ b
      by (yes q) = q
      by (no q) = let none : pick {A = ℕ} (eqb m b) 1 0 ≡ 0 = rw (ne_eqb m b q) refl in absurd (omega (arith, once))

  figure_lacks : Lacks b F
  figure_lacks = record { is = omega (arith, once, one_most (eqb m b)) }

  first : (P ≡ F) × (32 ∷ (L ++ (32 ∷ W)) ≡ 32 ∷ (F ++ (32 ∷ w)))
  first = cut_same b P F (32 ∷ (L ++ (32 ∷ W))) (32 ∷ (F ++ (32 ∷ w))) pb figure_lacks (rw is_mark at e)

  pub same_figure : (P ≡ L) × (W ≡ w)
  same_figure =
      let second = cut_same 32 L F W w ll (rw first.0 at pp) (ap (drop 1) first.1) in
      (first.0 ∙ sym second.0, second.1)

-- the parts of a line from its end on
six_parts : (a b c d e f : List ℕ) → a ++ b ++ c ++ d ++ e ++ f ≡ a ++ (b ++ (c ++ (d ++ (e ++ f))))
six_parts a b c d e f = simp append_assoc

seven_parts : (a b c d e f g : List ℕ) → a ++ b ++ c ++ d ++ e ++ f ++ g ≡ a ++ (b ++ (c ++ (d ++ (e ++ (f ++ g)))))
seven_parts a b c d e f g = simp append_assoc

-- ---- a line of H
record OneByte (mark : List ℕ) : Type 0 where
  is : ℕ
  byte_is : mark ≡ byte is

module _ (g : Ledger) (value : ℕ) (mark word : List ℕ) (m : Marked (upper g) (value * (quotient g).under + lower g) mark)
    (against : (v : ℕ) → critical_for g.card (held g) ≡ Some v → Against g value v word)
    (high : value < 10 ^ 22) (critical_high : (v : ℕ) → critical_for g.card (held g) ≡ Some v → v < 10 ^ 22)
    (word-lacks : (b : ℕ) → Apart b → Lacks b word) where
  abbrev critical : Option ℕ
  critical = critical_for g.card (held g)

  abbrev line : List ℕ
  line = text "H " ++ pointed 2 value ++ mark ++ text " " ++ limit_text 2 critical ++ text " " ++ word

  one_byte : OneByte mark
  one_byte = by (dec_le (upper g) (value * (quotient g).under + lower g)) (dec_le (value * (quotient g).under + lower g) (upper g))
    where
      by : Dec (upper g ≤ value * (quotient g).under + lower g) → Dec (value * (quotient g).under + lower g ≤ upper g) → OneByte mark
      by (yes p) (yes q) = record { is = 61; byte_is = m.equal (omega arith) }
      by (yes p) (no q) = record { is = 45; byte_is = m.smaller (omega arith) }
      by (no p) q = record { is = 43; byte_is = m.larger (omega arith) }

  -- what is read off the line: its mark, equal figures, and its word
  read : (b : ℕ) → Apart b → Lacks b (text " ") → (figure w : List ℕ) → line ≡ text "H " ++ figure ++ (b ∷ 32 ∷ []) ++ figure ++ text " " ++ w
      → (mark ≡ byte b) × (pointed 2 value ≡ limit_text 2 critical) × (word ≡ w)
  read b a blank figure w e =
      let k = one_byte in
      let P = pointed 2 value in
      let L = limit_text 2 critical in
      let marked : line ≡ text "H " ++ P ++ byte k.is ++ text " " ++ L ++ text " " ++ word = ap (λ (l : List ℕ). text "H " ++ P ++ l ++ text " " ++ L ++ text " " ++ word) k.byte_is in
      let whole : text "H " ++ (P ++ (k.is ∷ 32 ∷ (L ++ (32 ∷ word)))) ≡ text "H " ++ (figure ++ (b ∷ 32 ∷ (figure ++ (32 ∷ w)))) =
      sym (marked ∙ seven_parts (text "H ") P (byte k.is) (text " ") L (text " ") word)
      ∙ (e ∙ six_parts (text "H ") figure (b ∷ 32 ∷ []) figure (text " ") w) in
      let lacks-figure = pointed_lacks a 2 value in
      let lacks-limit = limit_lacks a 2 critical in
      let blank-figure = pointed_lacks blank_apart 2 value in
      let blank-limit = limit_lacks blank_apart 2 critical in
      let cut = ap (drop 2) whole in
      let is = is_mark P L word figure w k.is b lacks-figure lacks-limit (word-lacks b a) blank blank-figure blank-limit cut in
      let same = same_figure P L word figure w k.is b lacks-figure lacks-limit (word-lacks b a) blank blank-figure blank-limit cut in
      (k.byte_is ∙ ap byte is, same.0, same.1)

  over_by : (l : Option ℕ) → critical ≡ l → pointed 2 value ≡ limit_text 2 l → value * (quotient g).under + lower g < upper g → word ≡ text "over"
  unfolding limit_text
  over_by None q e h = absurd (never_none 2 value e)
  over_by (Some v) q e h =
      let same = pointed_same value v high (critical_high v q) e in
      (against v q).over (rw same at (let k : (value + 10 * g.card.head.offset) * (quotient g).under < upper g = omega arith in k))

  kept_by : (l : Option ℕ) → critical ≡ l → pointed 2 value ≡ limit_text 2 l → upper g ≤ value * (quotient g).under + lower g → word ≡ text "kept"
  unfolding limit_text
  kept_by None q e h = absurd (never_none 2 value e)
  kept_by (Some v) q e h =
      let same = pointed_same value v high (critical_high v q) e in
      let most : upper g ≤ (v + 10 * g.card.head.offset) * (quotient g).under = rw same at (let k : upper g ≤ (value + 10 * g.card.head.offset) * (quotient g).under = omega arith in k) in
      (against v q).kept (λ x. omega arith)

  pub concluded : Concludes line
  unfolding occurs
  concluded =
      record {
        larger = λ figure w e. let r = read 43 larger_apart (written _ refl) figure w e in sym r.2 ∙ over_by critical refl r.1 (m.only_larger r.0);
        equal = λ figure w e. let r = read 61 equal_apart (written _ refl) figure w e in sym r.2 ∙ kept_by critical refl r.1 (omega (arith, m.only_equal r.0));
        smaller = λ figure w e. let r = read 45 smaller_apart (written _ refl) figure w e in sym r.2 ∙ kept_by critical refl r.1 (omega (arith, m.only_smaller r.0));
      }
