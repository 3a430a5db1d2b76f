-- The number of primary samples for k containers of c whole kg (000, 2.5.1.2).
use Rattle.std.specs.Prelude.{Bool, ◌&&◌, ℕ, ◌+◌, ◌-◌, ◌*◌, ◌/◌, max, leb, ltb}
use Rattle.rules.specs.Choice.{pick}
use Rattle.rules.specs.Limits.{widest}
use Rattle.rules.specs.Numbers.{Answered, gives, refuses}

-- the parts of m that n is divided into, a begun one counted
abbrev pub begun_parts : ℕ → ℕ → ℕ
begun_parts n m = (n + (m - 1)) / m

-- Table 2A, containers up to 100 kg
unfoldable pub table2_a : ℕ → ℕ
table2_a k =
    pick (leb k 4) (3 * k)
    (pick (leb k 8) (2 * k)
    (pick (leb k 15) k
    (pick (leb k 30) 15
    (pick (leb k 59) 20 30))))

-- Table 2B, on the weight of the lot in kg
unfoldable pub table2_b : ℕ → ℕ
table2_b w =
    pick (leb w 500) 5
    (pick (leb w 3000) (max 5 (begun_parts w 300))
    (pick (leb w 20000) (max 10 (begun_parts w 500))
    (max 40 (begun_parts w 700))))

-- below 15 kg, units of as many containers as the whole quotient 100 by c count as containers
unfoldable pub units_of : ℕ → ℕ → ℕ
units_of k c = begun_parts k (100 / c)

-- up to 15 containers give the same number each: raised to the next multiple of k, unless it is one already
unfoldable pub raised : ℕ → ℕ → ℕ
raised k n = pick (leb k 15) (begun_parts n k * k) n

unfoldable pub samples_of : ℕ → ℕ → ℕ
samples_of k c =
    pick (ltb c 15) (table2_a (units_of k c))
    (pick (leb c 100) (table2_a k)
    (raised k (table2_b (k * c))))

-- each is 1 to 65535
abbrev pub in_table : ℕ → Bool
in_table n = leb 1 n && leb n widest

abbrev pub sampling_of : ℕ → ℕ → Answered
sampling_of k c = pick (in_table k && in_table c) (gives (samples_of k c)) (refuses 17)
