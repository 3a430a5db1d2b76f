-- What lotmixing keeps of its words: one word more, and what is said to them. Assumes nothing.
use mathlib.Core.Path.{◌≡◌, refl, sym, ap, ◌∙◌}
use mathlib.Core.Bool.{true, false, ◌&&◌, and_assoc}
use mathlib.Core.List.{List, [], ◌∷◌, ◌++◌, map}
use Prim.Native.Nat.{ℕ, zero, suc, ◌+◌, ◌-◌, ◌≤◌, ◌<◌}
use native.Mathlib.Numerals.{add-one}
use native.Mathlib.Omega.{arith}
use lib.ListN.{length, take, set, length-append}
use lib.Seq.{take_all, take-suc-set, take-append-le, length-take-le}
use Rattle.std.specs.Prelude.{Option, Some, None}
use Rattle.rules.specs.Decimals.{is_number}
use Rattle.rules.proofs.Tests.{and_true, and_false}
use Rattle.decimal_words.specs.Words.{word_value, word_of}
use Rattle.decimal_words.proofs.WordLaws.{is_number_lem, is_no_number}
use Rattle.program_words.specs.Saying.{usage, said_of}
use Rattle.program_lines.specs.Printing.{all_numbers, said_to_mixing}
use Rattle.lotmixing.specs.declared.numbers.Numbers.{Numbers}
use Rattle.lotmixing.specs.Listing.{most_kept, numbers_in, OneMore, ReadOf, said_to_numbers}
use Rattle.lotmixing.proofs.Exact.{exact}

-- ---- one number more
pub kept_full : (xs : List ℕ) (n x : ℕ) → most_kept ≤ n → length xs ≡ most_kept → take n xs ≡ take most_kept (take n xs ++ (x ∷ []))
kept_full xs n x h e = rw (take_all n xs (omega arith), take-append-le most_kept xs (x ∷ []) (omega arith), take_all most_kept xs (omega arith))

pub kept_more : (xs : List ℕ) (n x : ℕ) → n < most_kept → length xs ≡ most_kept → take (n + 1) (set xs n x) ≡ take most_kept (take n xs ++ (x ∷ []))
kept_more xs n x h e =
    rw (add-one, take-suc-set xs n x (omega arith))
    (sym (take_all most_kept (take n xs ++ (x ∷ [])) (omega (arith, length-append (take n xs) (x ∷ []), length-take-le n xs (omega arith)))))

-- ---- one word more
all_more : (ws : List (List ℕ)) (w : List ℕ) → all_numbers (ws ++ (w ∷ [])) ≡ all_numbers ws && is_number w
unfolding all_numbers
all_more [] w = and_true (is_number w)
all_more (v ∷ ws) w = rw (all_more ws w) (sym (and_assoc (is_number v) (all_numbers ws) (is_number w)))

values_more : (ws : List (List ℕ)) (w : List ℕ) → map word_value (ws ++ (w ∷ [])) ≡ map word_value ws ++ (word_value w ∷ [])
values_more [] w = refl
values_more (v ∷ ws) w = rw (values_more ws w)

take_again : (k : ℕ) (xs ys : List ℕ) → take k (take k xs ++ ys) ≡ take k (xs ++ ys)
take_again zero xs ys = refl
take_again (suc k) [] ys = refl
take_again (suc k) (x ∷ xs) ys = ap (λ (l : List ℕ). x ∷ l) (take_again k xs ys)

module _ (ws : List (List ℕ)) (w : List ℕ) where
  pub keep_none : all_numbers ws ≡ false → all_numbers (ws ++ (w ∷ [])) ≡ false
  keep_none e = all_more ws w ∙ rw e

  pub keep_other : word_of w ≡ None → all_numbers (ws ++ (w ∷ [])) ≡ false
  keep_other e = all_more ws w ∙ rw (is_no_number w e) (and_false (all_numbers ws))

  module _ {x : ℕ} (e : word_of w ≡ Some x) where
    pub keep_all : all_numbers (ws ++ (w ∷ [])) ≡ all_numbers ws
    keep_all = all_more ws w ∙ rw (is_number_lem w e).0 (and_true (all_numbers ws))

    pub keep_values : (xs : List ℕ) → xs ≡ take most_kept (map word_value ws)
        → take most_kept (xs ++ (x ∷ [])) ≡ take most_kept (map word_value (ws ++ (w ∷ [])))
    keep_values xs f = rw (f, (is_number_lem w e).1, values_more ws w) (take_again most_kept (map word_value ws) (word_value w ∷ []))

pub ruleset keeping = (keep_none, keep_other, keep_all, keep_values)

-- ---- what is said
pub said_other : (ws : List (List ℕ)) → all_numbers ws ≡ false → usage ≡ said_to_mixing ws
unfolding said_to_mixing
said_other [] e = refl
said_other (w ∷ ws) e = rw e

pub said_kept : (ws : List (List ℕ)) (xs : List ℕ) → all_numbers ws ≡ true → xs ≡ take most_kept (map word_value ws)
    → said_to_numbers xs ≡ said_to_mixing ws
unfolding said_to_mixing
said_kept [] xs a e = rw e
said_kept (w ∷ ws) xs a e = rw (e, a) (ap said_of (exact w ws))

-- ---- all words
pub read_none : (n : Numbers) → numbers_in n ≡ [] → ReadOf 0 (Some n)
unfolding all_numbers
read_none n e = record { words = []; count = refl; right = (refl, e) }

pub read_more : (i : ℕ) (l m : Option Numbers) → 1 ≤ i → ReadOf (i - 1) l → OneMore l m → ReadOf (i + 1 - 1) m
read_more i l m h r o = record {
  words = r.words ++ (o.word ∷ []);
  count = omega (arith, r.count, length-append r.words (o.word ∷ []));
  right = o.right r.words r.right;
}
