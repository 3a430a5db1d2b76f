-- The map from container to X, as a function: what it has at each container.
-- Only containers 1 to n count, n the number of containers of the lot.
use Rattle.std.specs.Prelude.{ℕ, zero, suc, ◌+◌, ◌*◌, min, max, Bool, true, false, ◌||◌, ◌&&◌, eqb}
use Rattle.rules.specs.Choice.{pick}
use Rattle.rules.specs.Limits.{widest}

pub data Content : Type 0 where
  free : Content
  holds : ℕ → Content

abbrev pub Contents : Type 0
Contents = ℕ → Content

abbrev pub is_held : Content → Bool
is_held free = false
is_held (holds x) = true

-- nothing held
abbrev pub none : Contents
none k = free

-- p at k, and elsewhere as before
abbrev pub put : Contents → ℕ → Content → Contents
put f k p j = pick (eqb j k) p (f j)

abbrev pub or_else : Content → Content → Content
or_else free q = q
or_else (holds x) q = holds x

-- what either holds
abbrev pub union : Contents → Contents → Contents
union f g k = or_else (f k) (g k)

-- the sum of the weight w over the containers 1 to n
unfoldable pub total : (Content → ℕ) → ℕ → Contents → ℕ
total w zero f = 0
total w (suc n) f = total w n f + w (f (suc n))

-- a held result counts 1, X, or the square of X
abbrev pub one : Content → ℕ
one free = 0
one (holds x) = 1

abbrev pub value : Content → ℕ
value free = 0
value (holds x) = x

abbrev pub square : Content → ℕ
square free = 0
square (holds x) = x * x

-- how many of the containers 1 to n are held
abbrev pub size : ℕ → Contents → ℕ
size n f = total one n f

-- whether one of the containers 1 to n is held by both
unfoldable pub shared : ℕ → Contents → Contents → Bool
shared zero f g = false
shared (suc n) f g = shared n f g || (is_held (f (suc n)) && is_held (g (suc n)))

-- the largest X of the containers 1 to n; 0 where none is held
unfoldable pub largest : ℕ → Contents → ℕ
largest zero f = 0
largest (suc n) f = max (largest n f) (value (f (suc n)))

-- a free place stands above every X
abbrev pub value_or_widest : Content → ℕ
value_or_widest free = widest
value_or_widest (holds x) = x

-- the smallest X of the containers 1 to n; where none is held, the widest number
unfoldable pub smallest : ℕ → Contents → ℕ
smallest zero f = widest
smallest (suc n) f = min (smallest n f) (value_or_widest (f (suc n)))
