-- Runs of bytes: a line, up to its end byte, and the digits at its front.
use Rattle.std.specs.Prelude.{Bool, not, List, [], ◌∷◌, ℕ, suc, eqb, take, drop}
use Rattle.rules.specs.Choice.{pick}
use Rattle.rules.specs.Fields.{is_digit}

-- how many bytes stand before the first that fails the test; all of them where none does
unfoldable pub run_of : (ℕ → Bool) → List ℕ → ℕ
run_of p [] = 0
run_of p (x ∷ xs) = pick (p x) (suc (run_of p xs)) 0

-- the run that starts at a
unfoldable pub run_at : (ℕ → Bool) → List ℕ → ℕ → List ℕ
run_at p s a = take (run_of p (drop a s)) (drop a s)

-- any byte but the end byte
abbrev pub is_of_line : ℕ → Bool
is_of_line x = not (eqb x 10)

-- the line that starts at a, without its end byte
abbrev pub line_at : List ℕ → ℕ → List ℕ
line_at s a = run_at is_of_line s a

-- the cutter's part: the digits of the line that starts at a, which is the line where it has nothing but digits
abbrev pub digits_at : List ℕ → ℕ → List ℕ
digits_at s a = run_at is_digit s a
