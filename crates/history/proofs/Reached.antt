-- What the ledgers have that are reported: those of a sound tally with at least five results, and those that a sheet spells. Assumes
-- nothing.
use Rattle.std.specs.Prelude.{Some}
use Prim.Native.Nat.{ℕ, zero, suc, ◌+◌, ◌^◌, ◌≤◌, ◌<◌}
use native.Mathlib.Omega.{arith}
use native.Mathlib.Decide.{dec_le}
use mathlib.Core.Path.{◌≡◌, refl, ap}
use mathlib.Core.Bool.{true, false}
use mathlib.Core.List.{List}
use lib.ListN.{get_or}
use Rattle.rules.specs.Limits.{least_reported, most_held, criticals, highest_x}
use Rattle.rules.specs.Contents.{Contents, total, one, size, largest}
use Rattle.rules.specs.Cards.{criticals_good}
use Rattle.rules.specs.Attributes.{is_void}
use Rattle.rules.specs.Figures.{figures, reported_h, critical_at, critical_for}
use Rattle.rules.specs.Spread.{HeadWithin}
use Rattle.rules.specs.Ledger.{Ledger, containers, held}
use Rattle.rules.specs.declared.Figures.{Figures}
use Rattle.rules.specs.declared.Lot.{Lot}
use Rattle.rules.specs.declared.Card.{Card}
use Rattle.rules.proofs.Bounds.{opened_head, bounds_by}
use Rattle.rules.proofs.CardLaws.{critical_at_lem, open_criticals}
use Rattle.rules.proofs.ContentLaws.{free_is}
use Rattle.rules.proofs.CountLaws.{total_counted, largest_counted}
use Rattle.rules.proofs.LedgerLaws.{enter_tells, enter_held}
use Rattle.rules.proofs.SpreadLaws.{highest_most}
use Rattle.tally.specs.declared.Tally.{Tally}
use Rattle.tally.specs.View.{view}
use Rattle.tally.specs.Calls.{Sound}
use Rattle.tally.proofs.Steps.{size_is_lem}
use Rattle.tally.proofs.Sums.{figures_are, low_results}
use Rattle.reading_theorems.specs.Spelling.{Entry, Made, opens, enters}
use Rattle.history.specs.Verdict.{attribute, quotient}

-- a good card, and results that are not too many and not too high
pub record Reached (g : Ledger) : Type 0 where
  pub head : HeadWithin g.card.head
  pub criticals_good_lem : criticals_good g.card.critical criticals ≡ true
  pub few : held g ≤ most_held
  pub low : largest (containers g) g.contents ≤ highest_x

-- ---- of a sound tally
-- where something is held there is a lot, so the card was accepted by an open
nothing : (n : ℕ) (f : Contents) → n ≡ 0 → size n f ≡ 0
unfolding total
nothing n f e = rw e

pub sound_reached : (t : Tally) → Sound t → least_reported ≤ held (view t) → Reached (view t)
sound_reached t s h = go (dec_le 1 t.lot.containers)
  where
    go : Dec (1 ≤ t.lot.containers) → Reached (view t)
    go (yes p) =
        let accepted = s.good p in
        record {
          head = opened_head t.lot t.card accepted;
          criticals_good_lem = open_criticals t.lot t.card accepted;
          few = omega (arith, size_is_lem t s, s.small);
          low = omega (arith, ap (λ (f : Figures). f.largest) (figures_are t s), low_results t s);
        }
    go (no p) = absurd (omega (arith, nothing t.lot.containers (view t).contents (omega arith)))

-- ---- of a sheet: an open that is accepted, and enters that are
pub made_reached : {l : Lot} {c : Card} {es : List Entry} {g : Ledger} → Made l c es g → Reached g
made_reached {l} {c} (opens e) =
    rw e
    (record {
      head = opened_head l c e;
      criticals_good_lem = open_criticals l c e;
      few = omega (arith, (total_counted one refl).nothing l.containers);
      low = omega (arith, largest_counted.nothing l.containers);
    })
made_reached (enters {g = g} k x m e) =
    let r = made_reached m in
    let t = enter_tells g k x e in
    let room : held g + 1 ≤ most_held = omega (arith, t.room) in
    let more = enter_held g k x e in
    rw e
    (record {
      head = r.head;
      criticals_good_lem = r.criticals_good_lem;
      few = omega (arith, rw e at more);
      low = omega (arith, largest_counted.more (containers g) g.contents k x t.above t.inside (omega (arith, t.low)) (free_is (g.contents k) t.clear), r.low, t.low);
    })

-- ---- the two figures of H keep within twenty-two digits
module _ (g : Ledger) (r : Reached g) (many : least_reported ≤ held g) where
  pub value_high : is_void (attribute g) (held g) (figures g).sum ≡ false → (reported_h (quotient g) g.card.head.offset).nearest < 10 ^ 22
  value_high e =
      omega (arith, (bounds_by (attribute g) g.card.head (containers g) g.contents r.head r.low many e).reported, highest_most (attribute g))

  pub critical_high : (v : ℕ) → critical_for g.card (held g) ≡ Some v → v < 10 ^ 22
  critical_high v e = by (get_or g.card.critical (held g) 0) refl e
    where
      by : (p : ℕ) → get_or g.card.critical (held g) 0 ≡ p → critical_at p ≡ Some v → v < 10 ^ 22
      by zero q e = let z : ◌≡◌ {A = ℕ} 0 1 = cc in absurd (omega arith)
      by (suc p) q e =
          let same : p ≡ v = cc in
          omega (arith, (critical_at_lem g.card.critical (held g) r.criticals_good_lem (omega (arith, r.few))).1)
