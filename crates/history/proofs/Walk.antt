-- The walk that finds the range, on every tally that a list of calls ends with. Assumes nothing.
use Prim.Native.Nat.{ℕ, zero, suc, ◌≤◌, min}
use native.Mathlib.Omega.{arith}
use mathlib.Core.Path.{◌≡◌, refl, ap}
use mathlib.Core.List.{List}
use lib.ListN.{length, take}
use lib.Seq.{get_or-take, length-take-le}
use Rattle.rules.specs.Limits.{widest, most_held}
use Rattle.rules.specs.Contents.{largest}
use Rattle.rules.specs.Ledger.{Ledger, containers}
use Rattle.rules.specs.Range.{IsRange}
use Rattle.rules.specs.declared.Figures.{Figures}
use Rattle.rules.specs.declared.Range.{Range}
use Rattle.rules.proofs.RangeLaws.{is_range, range_only}
use Rattle.tally.specs.declared.Tally.{Tally}
use Rattle.tally.specs.View.{view}
use Rattle.tally.specs.Calls.{Sound}
use Rattle.held_lists.specs.Places.{stored, RangeRead}
use Rattle.tally.proofs.Sums.{different, figures_are, low_results}
use Rattle.history.specs.Walk.{Walked, EveryWalk}
use Rattle.history.proofs.Agreement.{agrees}

-- the range of a map is that of its figures
walked : (g : Ledger) (r : Range) → largest (containers g) g.contents ≤ widest → IsRange (containers g) g.contents r → Walked g r
walked g r most h =
    let e = range_only (containers g) g.contents r _ h (is_range (containers g) g.contents most) in
    record { held = h; shown = omega (arith, ap (λ (s : Range). s.smallest) e, ap (λ (s : Range). s.largest) e) }

-- the map is that of the results that count
stored_counted : (ks vs : List ℕ) (m n : ℕ) → n ≤ m → stored ks (take m vs) n ≡ stored ks vs n
unfolding stored
stored_counted ks vs m zero h = refl
stored_counted ks vs m (suc n) h = simp (get_or-take m vs n 0 (omega arith), stored_counted ks vs m n (omega arith))

sound_walked : (t : Tally) → Sound t → (r : Range) → RangeRead (take t.held t.results) (min (length (take t.held t.results)) most_held) r → Walked (view t) r
sound_walked t s r h =
    let size : length (take t.held t.results) ≡ t.held = length-take-le t.held t.results (omega (arith, s.small, s.values)) in
    let all : min (length (take t.held t.results)) most_held ≡ t.held = omega (arith, size, s.small) in
    let map = (rw all at h).map t.lot.containers t.containers (different t s) in
    walked (view t) r (omega (arith, ap (λ (f : Figures). f.largest) (figures_are t s), low_results t s))
    (rw (stored_counted t.containers t.results t.held t.held (omega arith)) at map)

pub every_walk : EveryWalk
every_walk =
    record {
      walks = λ cs ns t p κ results e r x.
          let i = agrees p in
          rw (← i.same) (sound_walked t i.sound r (rw e at x));
    }
