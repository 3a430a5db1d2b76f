-- What a fold over the places for critical values, and one over the rows, comes to. Assumes nothing.
use Prim.Native.Nat.{ℕ, zero, suc, ◌≤◌}
use native.Mathlib.Omega.{arith}
use native.Mathlib.Numerals.{add-one}
use native.Mathlib.Nat.{zero-add}
use mathlib.Core.Path.{◌≡◌, refl}
use mathlib.Core.Bool.{Bool, true, ◌&&◌}
use mathlib.Core.List.{List}
use lib.ListN.{length, take}
use lib.Seq.{take_all, get_or-take, length-take-le}
use Rattle.std.specs.List.{fold, enumerate_from, zip}
use Rattle.std.proofs.lemmas.List.Sums.{fold_more}
use Rattle.std.proofs.lemmas.List.FromFn.{length-enumerate_from, get_or-enumerate_from}
use Rattle.std.proofs.lemmas.Slice.Zip.{length-zip, get_or-zip}
use Rattle.rules.specs.Limits.{criticals}
use Rattle.rules.specs.Cards.{row_good, rows_good, critical_good, criticals_good}
use Rattle.rules.specs.declared.Card.{Card}

abbrev pub and_critical : Bool → ℕ × ℕ → Bool
and_critical ok p = ok && critical_good p.0 p.1

first_criticals : (l : List ℕ) (n : ℕ) → n ≤ length l → fold and_critical true (take n (enumerate_from 0 l)) ≡ criticals_good l n
unfolding criticals_good
first_criticals l zero h = refl
first_criticals l (suc n) h =
    rw (
      ← add-one n,
      fold_more and_critical true (enumerate_from 0 l) n (0, 0) (omega (arith, length-enumerate_from 0 l)),
      first_criticals l n (omega arith),
      get_or-enumerate_from 0 l n (0, 0) (omega arith),
      zero-add n,
      add-one n,
    ) refl

pub all_criticals : (l : List ℕ) → length l ≡ criticals → fold and_critical true (enumerate_from 0 l) ≡ criticals_good l criticals
all_criticals l e = rw (← first_criticals l criticals (omega arith), take_all criticals (enumerate_from 0 l) (omega (arith, length-enumerate_from 0 l))) refl

-- the first n places of the three lists that are tested
abbrev pub tested : Card → ℕ → List ((ℕ × ℕ) × ℕ)
tested c n = zip (zip (take n c.lowest) (take n c.highest)) (take n c.bound)

abbrev pub and_row : Bool → (ℕ × ℕ) × ℕ → Bool
and_row ok r = ok && row_good r.0.0 r.0.1 r.1

first_rows : (c : Card) (m n : ℕ) → n ≤ m → m ≤ length c.lowest → m ≤ length c.highest → m ≤ length c.bound
    → fold and_row true (take n (tested c m)) ≡ rows_good c n
unfolding rows_good
first_rows c m zero h l u b = refl
first_rows c m (suc n) h l u b =
    let lows : length (take m c.lowest) ≡ m = length-take-le m c.lowest l in
    let highs : length (take m c.highest) ≡ m = length-take-le m c.highest u in
    let bounds : length (take m c.bound) ≡ m = length-take-le m c.bound b in
    let pairs = length-zip (take m c.lowest) (take m c.highest) in
    rw (
      ← add-one n,
      fold_more and_row true (tested c m) n ((0, 0), 0) (omega (arith, length-zip (zip (take m c.lowest) (take m c.highest)) (take m c.bound))),
      first_rows c m n (omega arith) l u b,
      get_or-zip (zip (take m c.lowest) (take m c.highest)) (take m c.bound) n ((0, 0), 0) (omega arith) (omega arith),
      get_or-zip (take m c.lowest) (take m c.highest) n (0, 0) (omega arith) (omega arith),
      get_or-take m c.lowest n 0 (omega arith),
      get_or-take m c.highest n 0 (omega arith),
      get_or-take m c.bound n 0 (omega arith),
    ) refl

pub all_rows : (c : Card) (n : ℕ) → n ≤ length c.lowest → n ≤ length c.highest → n ≤ length c.bound → fold and_row true (tested c n) ≡ rows_good c n
all_rows c n l u b =
    let pairs = length-zip (take n c.lowest) (take n c.highest) in
    rw (← first_rows c n n (omega arith) l u b, take_all n (tested c n) (omega (arith, length-zip (zip (take n c.lowest) (take n c.highest)) (take n c.bound), length-take-le n c.bound b))) refl
