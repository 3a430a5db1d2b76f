-- What the numbers that lotmixing keeps are answered with is right for all words and their exact numbers. Assumes nothing.
use mathlib.Core.Path.{◌≡◌, refl, sym, ◌∙◌}
use mathlib.Core.List.{List, [], ◌∷◌, map}
use Prim.Native.Nat.{ℕ, ◌+◌, ◌≤◌}
use native.Mathlib.Decide.{dec_le}
use native.Mathlib.Omega.{arith}
use lib.Dec.{leb}
use lib.ListN.{length, take}
use lib.Seq.{take_all, length-take-le}
use borrow.Author.Tests.{lt-leb}
use Rattle.rules.specs.Limits.{fewest_mixed, most_mixed}
use Rattle.rules.specs.Mixing.{mixing_of}
use Rattle.rules.specs.Numbers.{refuses}
use Rattle.rules.proofs.Tests.{and_false}
use Rattle.rules.specs.Decimals.{decimal_value}
use Rattle.decimal_words.specs.Words.{capped, word_value}
use Rattle.decimal_words.proofs.Largest.{mixing_capped}

-- results, one more than may be mixed
abbrev pub too_many : ℕ
too_many = most_mixed + 1

too_many_lem : (xs : List ℕ) (t : ℕ) → too_many ≤ length xs → mixing_of xs t ≡ refuses 17
too_many_lem xs t h = rw (lt-leb (length xs) most_mixed (omega arith), and_false (leb fewest_mixed (length xs)))

-- so longer lists are answered alike
first_alike : (xs : List ℕ) (t : ℕ) → mixing_of (take too_many xs) t ≡ mixing_of xs t
first_alike xs t = by (dec_le too_many (length xs))
  where
    by : Dec (too_many ≤ length xs) → mixing_of (take too_many xs) t ≡ mixing_of xs t
    by (yes p) = too_many_lem (take too_many xs) t (omega (arith, length-take-le too_many xs p)) ∙ sym (too_many_lem xs t p)
    by (no p) = rw (take_all too_many xs (omega arith))

values : (ws : List (List ℕ)) → map word_value ws ≡ map capped (map decimal_value ws)
values [] = refl
values (w ∷ ws) = rw (values ws)

pub exact : (t : List ℕ) (ws : List (List ℕ))
    → mixing_of (take too_many (map word_value ws)) (word_value t) ≡ mixing_of (map decimal_value ws) (decimal_value t)
exact t ws = first_alike (map word_value ws) (word_value t) ∙ rw (values ws) (mixing_capped (map decimal_value ws) (decimal_value t))
