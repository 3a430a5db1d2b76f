-- Each line that the writer spells, and one of a weighed result, is the frame that it stands for. Assumes nothing.
use mathlib.Core.Path.{◌≡◌, refl, sym, ap, ◌∙◌}
use mathlib.Core.Bool.{true, or-true, true≢false}
use mathlib.Core.List.{List, [], ◌∷◌, ◌++◌, append_assoc, append-nil}
use Prim.Native.Nat.{ℕ, zero, suc, ◌+◌, ◌/◌, ◌%◌, ◌^◌, ◌≤◌, ◌<◌}
use native.Mathlib.Omega.{arith}
use native.Mathlib.Decide.{dec_le}
use lib.ListN.{length, get_or, take, drop, length-append}
use lib.Seq.{take_at, drop-append-add}
use lib.Ieee.{binary32, of_bits}
use borrow.Author.Tests.{eq-eqb, ne_eqb, le-leb}
use Rattle.rules.specs.Limits.{lot_digits, card_digits, critical_digits, range_digits, result_digits, end_digits, balance_digits}
use Rattle.rules.specs.Text.{byte}
use Rattle.rules.specs.Lines.{ended, cut_from, lines_of}
use Rattle.rules.specs.Fields.{is_digit, all_digits, number_behind, number, field_of, digits, digit_of}
use Rattle.rules.specs.Frames.{sized, lot_frame, card_frame, critical_frame, range_frame, result_frame, end_frame, balance_frame, kind_frame, frame_of}
use Rattle.rules.specs.Writing.{lot_line, card_line, critical_line, range_line, result_line, end_line}
use Rattle.rules.specs.Cards.{head_of}
use Rattle.rules.specs.declared.Frame.{Frame}
use Rattle.rules.specs.declared.Frame.TheVariants as frame
use Rattle.rules.proofs.Tests.{and_both, and_left, and_right}
use Rattle.rules.proofs.FieldLaws.{digit_low, digit_high, length_digits, number_digits}
use Rattle.round_trip_theorems.specs.Statement.{balance_line}

-- ---- digits
digit_is : (n : ℕ) → n < 16 → is_digit (digit_of n) ≡ true
digit_is n h = by (dec_le 10 n)
  where
    by : Dec (10 ≤ n) → is_digit (digit_of n) ≡ true
    by (yes p) = rw (digit_high n p) (simp (le-leb 65 (55 + n) (omega arith), le-leb (55 + n) 70 (omega arith), or-true))
    by (no p) = rw (digit_low n (omega arith)) (simp (le-leb 48 (48 + n) (omega arith), le-leb (48 + n) 57 (omega arith)))

all_append : (a b : List ℕ) → all_digits a ≡ true → all_digits b ≡ true → all_digits (a ++ b) ≡ true
unfolding all_digits
all_append [] b p q = q
all_append (x ∷ a) b p q = and_both (and_left (is_digit x) _ p) (all_append a b (and_right (is_digit x) _ p) q)

all_digits_lem : (k n : ℕ) → all_digits (digits k n) ≡ true
unfolding digits all_digits
all_digits_lem zero n = refl
all_digits_lem (suc k) n = all_append (digits k (n / 16)) _ (all_digits_lem k (n / 16)) (and_both (digit_is (n % 16) (omega arith)) refl)

-- ---- a line of digits with its end byte
cut_digits : (d sofar rest : List ℕ) → all_digits d ≡ true → cut_from sofar (d ++ (10 ∷ rest)) ≡ ended (sofar ++ d) ∷ lines_of rest
unfolding cut_from all_digits
cut_digits [] sofar rest p = rw (append-nil sofar) refl
cut_digits (x ∷ d) sofar rest p =
    let digit = and_left (is_digit x) (all_digits d) p in
    rw (ne_eqb x 10 (λ e. true≢false (sym digit ∙ ap is_digit e)))
    (cut_digits d (sofar ++ byte x) rest (and_right (is_digit x) (all_digits d) p) ∙ rw append_assoc refl)

pub line_first : (d rest : List ℕ) → all_digits d ≡ true → lines_of (d ++ (10 ∷ rest)) ≡ ended d ∷ lines_of rest
line_first d rest p = cut_digits d [] rest p

-- ---- fields, one behind the other
record Field : Type 0 where
  width : ℕ
  value : ℕ

abbrev field : ℕ → ℕ → Field
field k n = record { width = k; value = n }

abbrev spelt : List Field → List ℕ
spelt [] = []
spelt (f ∷ fs) = digits f.width f.value ++ spelt fs

abbrev width_of : List Field → ℕ
width_of [] = 0
width_of (f ∷ fs) = f.width + width_of fs

spelt_all : (fs : List Field) → all_digits (spelt fs) ≡ true
spelt_all [] = unfold all_digits in refl
spelt_all (f ∷ fs) = all_append (digits f.width f.value) (spelt fs) (all_digits_lem f.width f.value) (spelt_all fs)

spelt_length : (fs : List Field) → length (spelt fs) ≡ width_of fs
spelt_length [] = refl
spelt_length (f ∷ fs) = simp (length-append, length_digits, spelt_length fs)

-- each of them is read back
abbrev field_at : List Field → ℕ → Field
field_at fs j = get_or fs j (field 0 0)

reads : (fs : List Field) (j : ℕ) → (field_at fs j).value < 16 ^ (field_at fs j).width → field_of (spelt fs) (width_of (take j fs)) (field_at fs j).width ≡ (field_at fs j).value
unfolding field_of
reads [] j h = unfold number number_behind in refl
reads (f ∷ fs) zero h =
    let d = digits f.width f.value in
    rw (take_at d (spelt fs) f.width (length_digits f.width f.value)) (number_digits f.width f.value h)
reads (f ∷ fs) (suc j) h =
    let d = digits f.width f.value in
    let a = width_of (take j fs) in
    let skip = ap (λ (i : ℕ). drop (i + a) (d ++ spelt fs)) (sym (length_digits f.width f.value)) ∙ drop-append-add d (spelt fs) a in
    ap (λ (l : List ℕ). number (take (field_at fs j).width l)) skip ∙ reads fs j h

-- ---- the line x has the digits of the frame f, and the end byte
pub record Spells (x : List ℕ) (f : Frame) : Type 0 where
  pub digits : List ℕ
  pub ends : x ≡ digits ++ byte 10
  pub all : all_digits digits ≡ true
  pub is : frame_of digits ≡ f

-- by its kind k and the fields fs behind it, of n digits in all
spells : (k : ℕ) (fs : List Field) (n : ℕ) (x : List ℕ) (f g : Frame) → k < 256 → width_of (field 2 k ∷ fs) ≡ n → x ≡ spelt (field 2 k ∷ fs) ++ byte 10
    → kind_frame k (spelt (field 2 k ∷ fs)) ≡ sized (spelt (field 2 k ∷ fs)) n f → f ≡ g → Spells x g
unfolding frame_of
spells k fs n x f g h w e r q =
    let gs = field 2 k ∷ fs in
    let d = spelt gs in
    let size : length d ≡ n = spelt_length gs ∙ w in
    let long : 2 ≤ length d = omega (arith, spelt_length gs) in
    record {
      digits = d;
      ends = e;
      all = spelt_all gs;
      is = rw (spelt_all gs, le-leb 2 (length d) long, reads gs 0 h) (r ∙ rw (eq-eqb (length d) n size) q);
    }

-- ---- the seven kinds
pub lot_spells : (a n : ℕ) → a < 256 → n < 65536 → Spells (lot_line a n) (frame.Lot a n)
unfolding lot_line kind_frame lot_frame
lot_spells a n ha hn =
    let fs = field 2 a ∷ field 4 n ∷ [] in
    let gs = field 2 1 ∷ fs in
    spells 1 fs lot_digits _ _ _ (omega arith) refl (simp append_assoc) refl (λ i. frame.Lot (reads gs 1 ha i) (reads gs 2 hn i))

pub card_spells : (f g n : ℕ) → f < 256 → g < 256 → n < 65536 → Spells (card_line (head_of f g n)) (frame.Card f g n)
unfolding card_line kind_frame card_frame
card_spells f g n hf hg hn =
    let fs = field 2 f ∷ field 2 g ∷ field 4 n ∷ [] in
    let gs = field 2 2 ∷ fs in
    spells 2 fs card_digits _ _ _ (omega arith) refl (simp append_assoc) refl (λ i. frame.Card (reads gs 1 hf i) (reads gs 2 hg i) (reads gs 3 hn i))

pub critical_spells : (n v : ℕ) → n < 256 → v < 65536 → Spells (critical_line n v) (frame.Critical n v)
unfolding critical_line kind_frame critical_frame
critical_spells n v hn hv =
    let fs = field 2 n ∷ field 4 v ∷ [] in
    let gs = field 2 3 ∷ fs in
    spells 3 fs critical_digits _ _ _ (omega arith) refl (simp append_assoc) refl (λ i. frame.Critical (reads gs 1 hn i) (reads gs 2 hv i))

pub range_spells : (l h b r : ℕ) → l < 256 → h < 256 → b < 65536 → r < 65536 → Spells (range_line l h b r) (frame.Range l h b r)
unfolding range_line kind_frame range_frame
range_spells l h b r hl hh hb hr =
    let fs = field 2 l ∷ field 2 h ∷ field 4 b ∷ field 4 r ∷ [] in
    let gs = field 2 4 ∷ fs in
    spells 4 fs range_digits _ _ _ (omega arith) refl (simp append_assoc) refl
    (λ i. frame.Range (reads gs 1 hl i) (reads gs 2 hh i) (reads gs 3 hb i) (reads gs 4 hr i))

pub result_spells : (c x : ℕ) → c < 65536 → x < 65536 → Spells (result_line c x) (frame.Result c x)
unfolding result_line kind_frame result_frame
result_spells c x hc hx =
    let fs = field 4 c ∷ field 4 x ∷ [] in
    let gs = field 2 5 ∷ fs in
    spells 5 fs result_digits _ _ _ (omega arith) refl (simp append_assoc) refl (λ i. frame.Result (reads gs 1 hc i) (reads gs 2 hx i))

pub end_spells : (n : ℕ) → n < 256 → Spells (end_line n) (frame.End n)
unfolding end_line kind_frame end_frame
end_spells n hn =
    let fs = field 2 n ∷ [] in
    spells 6 fs end_digits _ _ _ (omega arith) refl (simp append_assoc) refl (λ i. frame.End (reads (field 2 6 ∷ fs) 1 hn i))

pub balance_spells : (c s a b : ℕ) → c < 65536 → s < 256 → a < 4294967296 → b < 4294967296
    → Spells (balance_line c s a b) (frame.Balance c s (record { component = of_bits binary32 a; remainder = of_bits binary32 b }))
unfolding balance_line kind_frame balance_frame
balance_spells c s a b hc hs ha hb =
    let fs = field 4 c ∷ field 2 s ∷ field 8 a ∷ field 8 b ∷ [] in
    let gs = field 2 7 ∷ fs in
    spells 7 fs balance_digits _ _ _ (omega arith) refl (simp append_assoc) refl
    (λ i. frame.Balance (reads gs 1 hc i) (reads gs 2 hs i) (record { component = of_bits binary32 (reads gs 3 ha i); remainder = of_bits binary32 (reads gs 4 hb i) }))
