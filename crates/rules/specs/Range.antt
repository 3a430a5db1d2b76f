-- The range of the held results, said by what the map holds and not by how it is found.
use Rattle.std.specs.Prelude.{ℕ, ◌≤◌, ◌≡◌}
use Rattle.rules.specs.Limits.{widest}
use Rattle.rules.specs.Contents.{Contents, holds, size}
use Rattle.rules.specs.declared.Range.{Range}

-- one of the containers 1 to n has the result x
pub record Has (n : ℕ) (f : Contents) (x : ℕ) : Type 0 where
  pub container : ℕ
  pub first : 1 ≤ container
  pub last : container ≤ n
  pub result : f container ≡ holds x

-- The number read is N. For N from 1 the smallest and the largest are both held, and no held result lies outside them. Where nothing
-- is held, the ends are those that the figures have then.
pub record IsRange (n : ℕ) (f : Contents) (r : Range) : Type 0 where
  pub number : r.read ≡ size n f
  pub smallest : 1 ≤ size n f → Has n f r.smallest
  pub largest : 1 ≤ size n f → Has n f r.largest
  pub within : (x : ℕ) → Has n f x → (r.smallest ≤ x) × (x ≤ r.largest)
  pub nothing : size n f ≡ 0 → (r.smallest ≡ widest) × (r.largest ≡ 0)
