-- The line with some numbers: how long it is, what a number more adds to it, and where it is printed. Assumes nothing.
use Rattle.std.proofs.Common.{◌≡◌, ℕ, ◌+◌, ◌*◌, ◌≤◌, ◌<◌, List, [], ◌∷◌, ◌++◌, Ok, Err, length, get_or, take, refl, sym, ap, ◌∙◌, subst, arith, append_assoc, append-nil, length-append}
use Rattle.std.specs.List.{sum_by}
use Rattle.std.proofs.lemmas.List.Sums.{sum_by-cons}
use Rattle.std.proofs.lemmas.List.{take_more, take_all}
use Rattle.rules.specs.Numbers.{text_answer}
use Rattle.rules.specs.Text.{text, decimal, laid_in}
use Rattle.rules.specs.declared.Refusal.TheVariants.{BufferShort}
use Rattle.rules.proofs.TextLaws.{length_decimal, short_is, fits_is}
use Rattle.decimal.specs.Laying.{LaysAt, Fitting, LaysLine}
use Rattle.decimal.proofs.LayingLaws.{then_piece, a_line}
use Rattle.refusal_lines.specs.Numbered.{spaced_length, spaced, numbers_line}

-- ---- lengths
spaced_long : (ns : List ℕ) → length (spaced ns) ≡ sum_by spaced_length ns
spaced_long [] = refl
spaced_long (n ∷ ns) = rw (sum_by-cons spaced_length n ns) (simp length-append (omega (arith, spaced_long ns)))

line_long : (ns : List ℕ) → 8 + sum_by spaced_length ns ≡ length (numbers_line ns)
unfolding numbers_line
line_long ns = simp length-append (omega (arith, spaced_long ns))

pub widths_few : (ns : List ℕ) → sum_by spaced_length ns ≤ 21 * length ns
widths_few [] = omega arith
widths_few (n ∷ ns) = rw (sum_by-cons spaced_length n ns) (omega (arith, length_decimal n, widths_few ns))

-- ---- a number more, and the end
spaced_push : (ns : List ℕ) (x : ℕ) → spaced (ns ++ x ∷ []) ≡ spaced ns ++ text " " ++ decimal x
spaced_push [] x = append-nil (text " " ++ decimal x)
spaced_push (n ∷ ns) x = ap (λ l. text " " ++ decimal n ++ l) (spaced_push ns x) ∙ simp append_assoc

pub one_number : (ns : List ℕ) (i : ℕ) (d e f g : List ℕ) (a b r : ℕ) → i < length ns → Fitting (text "REFUSED" ++ spaced (take i ns)) 0 d e a
    → LaysAt (text " ") a e f b → length f ≡ length e → LaysAt (decimal (get_or ns i 0)) b f g r → length g ≡ length f
    → Fitting (text "REFUSED" ++ spaced (take (i + 1) ns)) 0 d g r
one_number ns i d e f g a b r h l m p n q =
    let all = then_piece _ _ _ _ _ _ _ _ (then_piece _ _ _ _ _ _ _ _ l m p) n q in
    let more : spaced (take (i + 1) ns) ≡ spaced (take i ns) ++ text " " ++ decimal (get_or ns i 0) = ap spaced (take_more ns i 0 h) ∙ spaced_push (take i ns) (get_or ns i 0) in
    subst (λ t. Fitting t 0 d g r) (sym (ap (λ t. text "REFUSED" ++ t) more ∙ simp append_assoc)) all

pub line_end : (ns : List ℕ) (i : ℕ) (d e f : List ℕ) (a r : ℕ) → length ns ≤ i → Fitting (text "REFUSED" ++ spaced (take i ns)) 0 d e a
    → LaysAt (text "\n") a e f r → length f ≡ length e → LaysLine (numbers_line ns) d f r
unfolding numbers_line
line_end ns i d e f a r h l m p =
    a_line _ _ _ _ (subst (λ x. Fitting (text "REFUSED" ++ spaced x ++ text "\n") 0 d f r) (take_all i ns h) (then_piece _ _ _ _ _ _ _ _ l m p))

-- ---- where it fits, and where it does not
pub line_short : (ns d : List ℕ) (n : ℕ) → n ≡ sum_by spaced_length ns → length d < 8 + n → text_answer (Err BufferShort) d ≡ laid_in (numbers_line ns) d
line_short ns d n q h = sym (short_is (numbers_line ns) d (omega (arith, line_long ns)))

pub line_laid : (ns d e : List ℕ) (n r : ℕ) → n ≡ sum_by spaced_length ns → 8 + n ≤ length d → LaysLine (numbers_line ns) d e r
    → text_answer (Ok r) e ≡ laid_in (numbers_line ns) d
line_laid ns d e n r q h l =
    let f : length (numbers_line ns) ≤ length d = omega (arith, line_long ns) in
    rw ((l.fits f).count, (l.fits f).text, fits_is (numbers_line ns) d f) refl
