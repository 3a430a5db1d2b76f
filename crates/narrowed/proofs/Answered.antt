-- What is handed on is answered, and leaves the ledger, as the exact numbers do. Assumes nothing.
use mathlib.Core.Path.{◌≡◌, refl}
use mathlib.Core.Bool.{Bool, true, false, ◌||◌}
use Prim.Native.Nat.{ℕ, ◌≤◌, ◌<◌}
use native.Mathlib.Omega.{arith}
use native.Mathlib.Decide.{dec_le}
use lib.Dec.{eqb, ltb}
use borrow.Author.Tests.{ne_eqb, lt-ltb, le-leb, lt-leb}
use Rattle.rules.specs.Choice.{pick}
use Rattle.rules.specs.Limits.{widest, highest_x}
use Rattle.rules.specs.Contents.{is_held}
use Rattle.rules.specs.Ledger.{Ledger, judged, containers, entered, enter_on, withdraw_on}
use Rattle.narrowed.specs.Narrowed.{kept_container, kept_x}

refused_same : (b : Bool) (g u v : Ledger) → judged (pick b 6 7) g u ≡ judged (pick b 6 7) g v
refused_same true g u v = refl
refused_same false g u v = refl

pub enter_kept : (g : Ledger) (k x : ℕ) → containers g ≤ widest → enter_on g (kept_container k) (kept_x x) ≡ enter_on g k x
enter_kept g k x h = go (dec_le k widest) (dec_le x widest)
  where
    go : Dec (k ≤ widest) → Dec (x ≤ widest) → enter_on g (kept_container k) (kept_x x) ≡ enter_on g k x
    go (no p) q = simp (lt-leb k widest (omega arith), ne_eqb k 0 (λ e. omega arith), lt-ltb (containers g) k (omega arith))
    go (yes p) (yes q) = let e : kept_x x ≡ x = omega arith in rw (le-leb k widest p, e)
    go (yes p) (no q) =
        rw (le-leb k widest p, lt-ltb highest_x (kept_x x) (omega arith), lt-ltb highest_x x (omega arith))
        (refused_same (eqb k 0 || ltb (containers g) k) g (entered g k (kept_x x)) (entered g k x))

-- a withdraw, where neither 0 nor a container above the widest number is held
pub withdraw_kept : (g : Ledger) (k : ℕ) → is_held (g.contents 0) ≡ false → (widest < k → is_held (g.contents k) ≡ false)
    → withdraw_on g (kept_container k) ≡ withdraw_on g k
withdraw_kept g k z h = go (dec_le k widest)
  where
    go : Dec (k ≤ widest) → withdraw_on g (kept_container k) ≡ withdraw_on g k
    go (yes p) = rw (le-leb k widest p)
    go (no p) = let q : widest < k = omega arith in rw (lt-leb k widest q, z, h q)
