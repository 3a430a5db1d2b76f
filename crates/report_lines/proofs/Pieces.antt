-- A line from its pieces, each laid where the one before it ended. Assumes nothing.
use Prim.Native.Nat.{ℕ}
use mathlib.Core.Path.{◌≡◌, sym, ap}
use mathlib.Core.List.{List, ◌++◌, append-nil}
use lib.ListN.{length}
use Rattle.rules.specs.Text.{text, decimal, pointed}
use Rattle.rules.specs.Report.{count_line, mark_text}
use Rattle.rules.specs.declared.Side.TheVariants.{Unrounded}
use Rattle.rules.proofs.TextLaws.{pointed_none}
use Rattle.decimal.specs.Laying.{LaysAt, Fitting, LaysLine}
use Rattle.decimal.proofs.LayingLaws.{piece, then_piece, a_line}

pub starts : {t d e : List ℕ} {r : ℕ} → LaysAt t 0 d e r → length e ≡ length d → Fitting t 0 d e r
starts l k = piece _ _ _ _ _ l k

pub goes_on : {t u d e f : List ℕ} {a r : ℕ} → Fitting t 0 d e a → LaysAt u a e f r → length f ≡ length e → Fitting (t ++ u) 0 d f r
goes_on l m k = then_piece _ _ _ _ _ _ _ _ l m k

pub ends : {t u d e f : List ℕ} {a r : ℕ} → Fitting t 0 d e a → LaysAt u a e f r → length f ≡ length e → LaysLine (t ++ u) d f r
ends l m k = a_line _ _ _ _ (goes_on l m k)

-- N has no decimal places and no mark
pub count_is : (n : ℕ) → count_line n ≡ text "N " ++ pointed 0 n ++ mark_text Unrounded ++ text "\n"
unfolding count_line mark_text
count_is n = rw (pointed_none n) (ap (λ (l : List ℕ). text "N " ++ l ++ text "\n") (sym (append-nil (decimal n))))
