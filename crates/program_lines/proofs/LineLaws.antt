-- Laws of the lines of lotsampling, lottolerance and lotmixing. Assumes nothing.
use mathlib.Core.Path.{◌≡◌, ap, subst, ◌∙◌}
use mathlib.Core.Bool.{Bool, true, false}
use mathlib.Core.List.{List, ◌++◌}
use Prim.Native.Nat.{ℕ, ◌+◌, ◌≤◌, ◌<◌}
use native.Mathlib.Omega.{arith}
use lib.Dec.{eqb}
use lib.ListN.{length, drop, length-append}
use Rattle.rules.specs.Choice.{pick}
use Rattle.rules.specs.Text.{text, decimal, laid}
use Rattle.rules.proofs.TextLaws.{length_decimal}
use Rattle.decimal.specs.Laying.{Laid, LaysAt, Fitting}
use Rattle.decimal.proofs.LayingLaws.{laying_fits}
use Rattle.buffers.specs.Counts.{IsPrefixLen}
use Rattle.buffers.proofs.Counting.{prefix_len_of_le}
use Rattle.program_words.specs.Saying.{Said, usage, refused, value}
use Rattle.program_lines.specs.Lines.{line_places, ended, line_of, yes_or_no}

length_ended : (t : List ℕ) → length (ended t) ≡ length t + 1
length_ended t = length-append t (text "\n")

-- a line whose length was looked at first is laid where it fits
pub ended_fits : (t d e : List ℕ) (r : ℕ) → length t < length d → Fitting (ended t) 0 d e r → LaysAt (ended t) 0 d e r
ended_fits t d e r h f =
    let fits : 0 + length (ended t) ≤ length d = omega (arith, length_ended t) in
    laying_fits (ended t) 0 d e r fits (f.fits fits)

-- ---- a line in a buffer that holds it
-- it has at most one byte more than the texts that it is made of
line_most : (how : List ℕ) (worded : ℕ → List ℕ) → length how < line_places → ((v : ℕ) → length (worded v) < line_places) → (said : Said)
    → length (line_of how worded said) ≤ line_places
line_most how worded h w usage = omega (arith, length_ended how)
line_most how worded h w (refused e) =
    omega (arith, length_ended (text "REFUSED " ++ decimal e), length-append (text "REFUSED ") (decimal e), length_decimal e)
line_most how worded h w (value v) = omega (arith, length_ended (worded v), w v)

pub yes_or_no_most : (y n : List ℕ) → length y < line_places → length n < line_places → (v : ℕ) → length (yes_or_no y n v) < line_places
yes_or_no_most y n p q v = by (eqb v 1)
  where
    by : (b : Bool) → length (pick b y n) < line_places
    by true = p
    by false = q

line_whole : (t d e : List ℕ) (r : ℕ) → length t ≤ length d → LaysAt t 0 d e r → (Laid t d e r) × (IsPrefixLen r e)
unfolding laid
line_whole t d e r h l =
    let x = l.fits (omega arith) in
    let size : length e ≡ length t + length (drop (length t) d) = ap length x.text ∙ length-append t (drop (length t) d) in
    (record { count = omega (arith, x.count); text = x.text }, prefix_len_of_le r e (omega (arith, x.count)))

-- the same of whatever is shown to be what is said
pub line_answers : (how : List ℕ) (worded : ℕ → List ℕ) (said : Said) {d e : List ℕ} {r : ℕ} → LaysAt (line_of how worded said) 0 d e r
    → line_places ≡ length d → length how < line_places → ((v : ℕ) → length (worded v) < line_places)
    → ((right : Said) → said ≡ right → Laid (line_of how worded right) d e r) × (IsPrefixLen r e)
line_answers how worded said {d} {e} {r} l n h w =
    let whole = line_whole (line_of how worded said) d e r (omega (arith, line_most how worded h w said)) l in
    (λ right q. subst (λ (s : Said). Laid (line_of how worded s) d e r) q whole.0, whole.1)
