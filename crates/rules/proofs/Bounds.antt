-- H never exceeds 1,250.00 for percentages and 12,500.00 for counts: neither the exact fraction nor the reported decimal. Assumes nothing.
use mathlib.Core.Path.{◌≡◌, sym, ◌∙◌}
use mathlib.Core.Bool.{Bool, true, false, ◌&&◌, true≢false}
use Prim.Native.Nat.{ℕ, ◌+◌, ◌*◌, ◌≤◌, ◌<◌}
use native.Mathlib.Decide.{dec_le}
use native.Mathlib.Omega.{arith}
use lib.Dec.{eqb, leb}
use borrow.Author.Tests.{le-ltb, leb-true, eqb-true}
use Rattle.rules.specs.Choice.{pick}
use Rattle.rules.specs.Limits.{highest_x, least_reported, least_factor, most_factor, most_offset, most_seeds}
use Rattle.rules.specs.Cards.{seeds_good, head_good, open_number}
use Rattle.rules.specs.Attributes.{attribute_of, is_void}
use Rattle.rules.specs.Contents.{Contents, largest}
use Rattle.rules.specs.Figures.{figures_of, ratio, reported_h, exceeds}
use Rattle.rules.specs.declared.Attribute.{Attribute}
use Rattle.rules.specs.declared.Fraction.{Fraction}
use Rattle.rules.specs.Spread.{HeadWithin}
use Rattle.rules.specs.declared.Head.{Head}
use Rattle.rules.specs.declared.Card.{Card}
use Rattle.rules.specs.declared.Lot.{Lot}
use Rattle.rules.proofs.Tests.{and_left, and_right}
use Rattle.rules.proofs.CardLaws.{open_card}
use Rattle.rules.proofs.RoundingLaws.{above_over}
use Rattle.rules.proofs.SpreadLaws.{spread_of, highest_h, ratio_le, under_positive}

-- n is at most 1000 for percentages, and 0 for counts
seeds_few : (a n : ℕ) → seeds_good a n ≡ true → n ≤ most_seeds
seeds_few a n e = by (leb a 1) e
  where
    by : (b : Bool) → pick b (leb 1 n && leb n most_seeds) (eqb n 0) ≡ true → n ≤ most_seeds
    by true q = leb-true n most_seeds (and_right (leb 1 n) (leb n most_seeds) q)
    by false q = omega (arith, eqb-true n 0 q)

-- what a good card's F and n are
pub good_head : (a : ℕ) (h : Head) → head_good a h ≡ true → HeadWithin h
good_head a h e =
    let t = and_right (leb least_factor h.factor) _ e in
    let u = and_right (leb h.factor most_factor) _ t in
    record {
      factor = leb-true least_factor h.factor (and_left (leb least_factor h.factor) _ e);
      factor_high = leb-true h.factor most_factor (and_left (leb h.factor most_factor) _ t);
      seeds = seeds_few a h.seeds (and_right (leb h.offset most_offset) _ u);
    }

-- so of the card of an accepted open
pub opened_head : (l : Lot) (c : Card) → open_number l c ≡ 0 → HeadWithin c.head
opened_head l c opens = good_head l.attribute c.head (and_left (head_good l.attribute c.head) _ (open_card l c opens))

-- The bounds, for every lot and card that an open accepts and every map of at least five results, none too high, whose mean is not void.
pub record Bounded (highest : ℕ) (q : Fraction) (g : ℕ) : Type 0 where
  -- the exact fraction V/W, and so H, is at most the bound
  pub exact : q.over ≤ highest * q.under
  -- exact H does not exceed it
  pub never : exceeds q g (100 * highest) ≡ false
  -- nor does the reported decimal, in hundredths
  pub reported : (reported_h q g).nearest ≤ 100 * highest

reported_le : (highest : ℕ) (q : Fraction) (g : ℕ) → 0 < q.under → q.over ≤ highest * q.under → Bounded highest q g
reported_le highest q g pos h = record { exact = h; never = never; reported = by (dec_le (reported_h q g).nearest (100 * highest)) }
  where
    never : exceeds q g (100 * highest) ≡ false
    never = unfold exceeds in le-ltb ((100 * highest + 10 * g) * q.under) (100 * q.over) (omega arith)

    by : Dec ((reported_h q g).nearest ≤ 100 * highest) → (reported_h q g).nearest ≤ 100 * highest
    by (yes p) = p
    by (no p) = absurd (true≢false (sym (above_over q g pos (100 * highest) (omega arith)) ∙ never))

pub bounds_by : (a : Attribute) (h : Head) (n : ℕ) (f : Contents) → HeadWithin h → largest n f ≤ highest_x → least_reported ≤ (figures_of n f).count
    → is_void a (figures_of n f).count (figures_of n f).sum ≡ false → Bounded (highest_h a) (ratio a h (figures_of n f)) h.offset
bounds_by a h n f w high many valid =
    reported_le (highest_h a) (ratio a h (figures_of n f)) h.offset
    (under_positive a h (figures_of n f) valid (omega arith) (omega (arith, w.factor)))
    (ratio_le a h (figures_of n f) (spread_of highest_x n f high) many w)

pub bounds : (l : Lot) (c : Card) (n : ℕ) (f : Contents) → open_number l c ≡ 0 → largest n f ≤ highest_x → least_reported ≤ (figures_of n f).count
    → is_void (attribute_of l.attribute) (figures_of n f).count (figures_of n f).sum ≡ false
    → Bounded (highest_h (attribute_of l.attribute)) (ratio (attribute_of l.attribute) c.head (figures_of n f)) c.head.offset
bounds l c n f opens high many valid = bounds_by (attribute_of l.attribute) c.head n f (opened_head l c opens) high many valid
