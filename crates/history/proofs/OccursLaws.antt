-- How often a byte stands in a text: texts without a byte, the lines that they make, and a text cut at a byte. Assumes nothing.
use Rattle.std.specs.Prelude.{Option, None, Some}
use Prim.Native.Nat.{ℕ, zero, suc, ◌+◌, ◌/◌, ◌^◌}
use native.Mathlib.Omega.{arith}
use mathlib.Core.Path.{◌≡◌, refl, sym, ap, ap₂, ◌∙◌}
use mathlib.Core.Bool.{Bool, true, false}
use mathlib.Core.List.{List, [], ◌∷◌, ◌++◌, append_assoc, append-nil}
use lib.Dec.{eqb, ltb}
use lib.ListN.{get_or, drop}
use borrow.Author.Tests.{eq-eqb, ne_eqb}
use Rattle.rules.specs.Choice.{pick}
use Rattle.rules.specs.Text.{text, byte, last_digit, decimals, decimal, last_digits, pointed}
use Rattle.rules.specs.Lines.{ended, cut_from, lines_of}
use Rattle.rules.specs.Report.{mark_text, verdict_word, limit_text, lot_word}
use Rattle.rules.specs.declared.Side.{Side}
use Rattle.rules.specs.declared.Side.TheVariants.{Unrounded, Equal, Larger, Smaller}
use Rattle.rules.specs.declared.Verdict.{Verdict}
use Rattle.rules.specs.declared.Verdict.TheVariants.{Kept, Over, Undecided}
use Rattle.rules.proofs.LineLaws.{no_lines}

unfoldable pub occurs : ℕ → List ℕ → ℕ
occurs b [] = 0
occurs b (x ∷ xs) = pick (eqb x b) 1 0 + occurs b xs

pub occurs_append : (b : ℕ) (u v : List ℕ) → occurs b (u ++ v) ≡ occurs b u + occurs b v
unfolding occurs
occurs_append b [] v = omega arith
occurs_append b (x ∷ u) v = omega (arith, occurs_append b u v)

-- the byte b does not stand in the text
pub record Lacks (b : ℕ) (l : List ℕ) : Type 0 where
  pub is : occurs b l ≡ 0

-- a text that is written out: by computing
pub written : {b : ℕ} (l : List ℕ) → occurs b l ≡ 0 → Lacks b l
written l e = record { is = e }

-- one text behind another
pub joined : {b : ℕ} {u v : List ℕ} → Lacks b u → Lacks b v → Lacks b (u ++ v)
joined {b} {u} {v} p q = record { is = omega (arith, occurs_append b u v, p.is, q.is) }

lacks_head : (b x : ℕ) (l : List ℕ) → Lacks b (x ∷ l) → x ≡ b → ⊥
unfolding occurs
lacks_head b x l p e = let z : 1 + occurs b l ≡ 0 = rw (eq-eqb x b e) at p.is in omega arith

lacks_tail : (b x : ℕ) (l : List ℕ) → Lacks b (x ∷ l) → Lacks b l
unfolding occurs
lacks_tail b x l p = record { is = omega (arith, p.is) }

-- ---- a byte that stands in no figure and in no word of a line of H: no digit, no point, no letter of these words
pub record Apart (b : ℕ) : Type 0 where
  pub digit : (n : ℕ) → Lacks b (byte (last_digit n))
  pub point : Lacks b (text ".")
  pub none : Lacks b (text "none")
  pub kept : Lacks b (text "kept")
  pub over : Lacks b (text "over")
  pub undecided : Lacks b (text "open")

other_digit : (b n : ℕ) → (last_digit n ≡ b → ⊥) → Lacks b (byte (last_digit n))
unfolding occurs
other_digit b n h = record { is = rw (ne_eqb (last_digit n) b h) refl }

-- shown by computing: the end byte, the blank and the three marks
apart_of : (b : ℕ) → ((n : ℕ) → last_digit n ≡ b → ⊥) → occurs b (text ".") ≡ 0 → occurs b (text "none") ≡ 0 → occurs b (text "kept") ≡ 0
    → occurs b (text "over") ≡ 0 → occurs b (text "open") ≡ 0 → Apart b
apart_of b digit point none kept over undecided =
    record {
      digit = λ n. other_digit b n (digit n);
      point = written _ point;
      none = written _ none;
      kept = written _ kept;
      over = written _ over;
      undecided = written _ undecided;
    }

pub end_apart : Apart 10
unfolding occurs
end_apart = apart_of 10 (λ n e. omega arith) refl refl refl refl refl

pub blank_apart : Apart 32
unfolding occurs
blank_apart = apart_of 32 (λ n e. omega arith) refl refl refl refl refl

pub larger_apart : Apart 43
unfolding occurs
larger_apart = apart_of 43 (λ n e. omega arith) refl refl refl refl refl

pub smaller_apart : Apart 45
unfolding occurs
smaller_apart = apart_of 45 (λ n e. omega arith) refl refl refl refl refl

pub equal_apart : Apart 61
unfolding occurs
equal_apart = apart_of 61 (λ n e. omega arith) refl refl refl refl refl

-- ---- digits
module _ {b : ℕ} (digit : (n : ℕ) → Lacks b (byte (last_digit n))) where
  decimals_lack : (f n : ℕ) → Lacks b (decimals f n)
  unfolding decimals
  decimals_lack zero n = digit n
  decimals_lack (suc f) n = go (ltb n 10) (decimals_lack f (n / 10))
    where
      go : (t : Bool) → Lacks b (decimals f (n / 10)) → Lacks b (pick t (byte (last_digit n)) (decimals f (n / 10) ++ byte (last_digit n)))
      go true r = digit n
      go false r = joined r (digit n)

  pub decimal_lacks : (n : ℕ) → Lacks b (decimal n)
  unfolding decimal
  decimal_lacks n = decimals_lack 19 n

  places_lack : (k n : ℕ) → Lacks b (last_digits k n)
  unfolding last_digits occurs
  places_lack zero n = written [] refl
  places_lack (suc k) n = joined (places_lack k (n / 10)) (digit n)

-- the point stands in no whole number
pub point_lacks : (n : ℕ) → Lacks 46 (decimal n)
point_lacks n = decimal_lacks (λ n. other_digit 46 n (λ e. omega arith)) n

-- ---- the parts of a line
module _ {b : ℕ} (a : Apart b) where
  pub pointed_lacks : (k n : ℕ) → Lacks b (pointed k n)
  unfolding pointed
  pointed_lacks k n = go (eqb k 0)
    where
      go : (t : Bool) → Lacks b (pick t (decimal n) (decimal (n / 10 ^ k) ++ text "." ++ last_digits k n))
      go true = decimal_lacks a.digit n
      go false = joined (joined (decimal_lacks a.digit (n / 10 ^ k)) a.point) (places_lack a.digit k n)

  pub limit_lacks : (k : ℕ) (l : Option ℕ) → Lacks b (limit_text k l)
  unfolding limit_text
  limit_lacks k None = a.none
  limit_lacks k (Some v) = pointed_lacks k v

  pub verdict_lacks : (v : Verdict) → Lacks b (verdict_word v)
  unfolding verdict_word
  verdict_lacks Kept = a.kept
  verdict_lacks Over = a.over
  verdict_lacks Undecided = a.undecided

-- no end byte
pub mark_endless : (s : Side) → Lacks 10 (mark_text s)
unfolding mark_text occurs
mark_endless Unrounded = written _ refl
mark_endless Equal = written _ refl
mark_endless Larger = written _ refl
mark_endless Smaller = written _ refl

pub lot_endless : (v : Verdict) → Lacks 10 (lot_word v)
unfolding lot_word occurs
lot_endless Kept = written _ refl
lot_endless Over = written _ refl
lot_endless Undecided = written _ refl

-- ---- a text cut at the first place of a byte
pub cut_same : (b : ℕ) (u v x y : List ℕ) → Lacks b u → Lacks b v → u ++ (b ∷ x) ≡ v ++ (b ∷ y) → (u ≡ v) × (x ≡ y)
cut_same b [] [] x y p q e = (refl, ap (drop 1) e)
cut_same b [] (d ∷ v) x y p q e = absurd (lacks_head b d v q (sym (ap (λ (l : List ℕ). get_or l 0 0) e)))
cut_same b (c ∷ u) [] x y p q e = absurd (lacks_head b c u p (ap (λ (l : List ℕ). get_or l 0 0) e))
cut_same b (c ∷ u) (d ∷ v) x y p q e =
    let r = cut_same b u v x y (lacks_tail b c u p) (lacks_tail b d v q) (ap (drop 1) e) in
    (ap₂ ◌∷◌ (ap (λ (l : List ℕ). get_or l 0 0) e) r.0, r.1)

-- ---- lines
pub cut_line : (l sofar rest : List ℕ) → Lacks 10 l → cut_from sofar (l ++ (10 ∷ rest)) ≡ ended (sofar ++ l) ∷ lines_of rest
unfolding cut_from
cut_line [] sofar rest e = simp append-nil
cut_line (x ∷ xs) sofar rest e =
    rw (ne_eqb x 10 (lacks_head 10 x xs e)) (cut_line xs (sofar ++ (x ∷ [])) rest (lacks_tail 10 x xs e) ∙ simp append_assoc)

pub five_lines : {a b c d e : List ℕ} → Lacks 10 a → Lacks 10 b → Lacks 10 c → Lacks 10 d → Lacks 10 e
    → lines_of ((a ++ text "\n") ++ (b ++ text "\n") ++ (c ++ text "\n") ++ (d ++ text "\n") ++ (e ++ text "\n")) ≡ ended a ∷ ended b ∷ ended c ∷ ended d ∷ ended e ∷ []
five_lines {a} {b} {c} {d} {e} p q r s t =
    let from-e = e ++ (10 ∷ []) in
    let from-d = d ++ (10 ∷ from-e) in
    let from-c = c ++ (10 ∷ from-d) in
    ap lines_of (simp append_assoc)
    ∙ (cut_line a [] (b ++ (10 ∷ from-c)) p
    ∙ rw (cut_line b [] from-c q, cut_line c [] from-d r, cut_line d [] from-e s, cut_line e [] [] t, no_lines))
