-- What a match on a word's bytes says of the test for a word that is written out. Assumes nothing.
use mathlib.Core.Path.{◌≡◌, refl, sym, ◌∙◌}
use mathlib.Core.Bool.{Bool, true, false}
use mathlib.Core.List.{List}
use mathlib.Core.Logic.{◌⊎◌, inl, inr}
use Prim.Native.Nat.{ℕ}
use lib.ListN.{length}
use Rattle.std.specs.Bool.{Decides}
use Rattle.std.proofs.Common.{rules}
use Rattle.std.proofs.lemmas.Slice.Eq.{HasBytesAt, compares_Decides, text_from_reads}
use Rattle.rules.specs.Text.{text}
use Rattle.program_lines.specs.Printing.{same}

same_decides : (a b : List ℕ) → Decides (same a b) (a ≡ b)
unfolding same
same_decides a b = compares_Decides same (search rules) a b

-- the word t has the bytes of w, or differs from it in its length or in a byte
same_cases : (t w : List ℕ) → HasBytesAt w 0 w → ((same t w ≡ true) × (length t ≡ length w) × HasBytesAt t 0 w)
    ⊎ ((same t w ≡ false) × (length t ≡ length w → HasBytesAt t 0 w → ⊥))
same_cases t w own = by (same t w) refl
  where
    by : (b : Bool) → same t w ≡ b → ((same t w ≡ true) × (length t ≡ length w) × HasBytesAt t 0 w)
        ⊎ ((same t w ≡ false) × (length t ≡ length w → HasBytesAt t 0 w → ⊥))
    by true e = let k : t ≡ w = (same_decides t w).0 e in inl (e, rw k refl, rw k own)
    by false e = inr (e, λ h r. let k : true ≡ false = sym ((same_decides t w).1 (text_from_reads t w h r)) ∙ e in cc)

pub same_label : (t : List ℕ) → ((same t (text "label") ≡ true) × (length t ≡ 5) × HasBytesAt t 0 (text "label"))
    ⊎ ((same t (text "label") ≡ false) × (length t ≡ 5 → HasBytesAt t 0 (text "label") → ⊥))
same_label t = same_cases t (text "label") (refl, (refl, (refl, (refl, (refl, tt)))))

pub same_pair : (t : List ℕ) → ((same t (text "pair") ≡ true) × (length t ≡ 4) × HasBytesAt t 0 (text "pair"))
    ⊎ ((same t (text "pair") ≡ false) × (length t ≡ 4 → HasBytesAt t 0 (text "pair") → ⊥))
same_pair t = same_cases t (text "pair") (refl, (refl, (refl, (refl, tt))))

pub ruleset same_words = (same_label, same_pair)
