-- Ledgers whose sheet reads back: those of sound tallies that were opened, and those that a sheet yields. Assumes nothing.
use mathlib.Core.Path.{◌≡◌, refl, sym, ◌∙◌}
use mathlib.Core.List.{List}
use Prim.Native.Nat.{ℕ, zero, suc, ◌≤◌, ◌<◌, min}
use native.Mathlib.Omega.{arith}
use native.Mathlib.Decide.{ℕ_discrete}
use lib.ListN.{length, get_or, take}
use lib.Seq.{get_or-take, length-take-le}
use borrow.Author.Tests.{eq-eqb}
use Rattle.rules.specs.Limits.{most_held, criticals, most_rows, highest_x, widest}
use Rattle.rules.specs.Contents.{Contents, free, holds, put, one, total}
use Rattle.rules.specs.Cards.{open_number, cut_to_rows}
use Rattle.rules.specs.Ledger.{Ledger, containers, enter_number}
use Rattle.rules.specs.Lines.{lines_of}
use Rattle.rules.specs.Reading.{accepted, at_start, read_of}
use Rattle.rules.specs.declared.Lot.{Lot}
use Rattle.rules.specs.declared.Card.{Card}
use Rattle.rules.proofs.ContentLaws.{put_same, put_other, total_none}
use Rattle.rules.proofs.LedgerLaws.{enter_tells, enter_held}
use Rattle.rules.proofs.CardLaws.{open_rows}
use Rattle.reading_theorems.specs.Spelling.{Entry, Made, opens, enters}
use Rattle.reading_theorems.proofs.Accepted.{accepted_sheet}
use Rattle.reading_theorems.proofs.Spelt.{sheet_made}
use Rattle.reading_theorems.proofs.Ready.{rows_same, start_ready, ready_led}
use Rattle.held_lists.specs.Places.{stored}
use Rattle.tally.specs.View.{view}
use Rattle.tally.specs.Calls.{Sized, Sound}
use Rattle.tally.specs.declared.Tally.{Tally}
use Rattle.held_lists.proofs.Stored.{stored_free}
use Rattle.tally.proofs.Steps.{size_is_lem}

-- a lot and a card as an opened ledger has them: good, cut to their rows, and each number fits its field
pub record Carded (l : Lot) (c : Card) : Type 0 where
  pub opens : open_number l c ≡ 0
  pub few : l.containers ≤ widest
  pub critical : length c.critical ≡ criticals
  pub lowest : length c.lowest ≡ c.rows
  pub highest : length c.highest ≡ c.rows
  pub bound : length c.bound ≡ c.rows
  pub tolerated : length c.tolerated ≡ c.rows
  pub narrow : (i : ℕ) → i < c.rows → get_or c.tolerated i 0 ≤ widest

-- a map of the containers 1 to n
pub record WritableResults (n : ℕ) (f : Contents) : Type 0 where
  pub none : f 0 ≡ free
  pub outside : (k : ℕ) → n < k → f k ≡ free
  pub low : (k x : ℕ) → f k ≡ holds x → x ≤ highest_x
  pub small : total one n f ≤ most_held

pub record Writable (g : Ledger) : Type 0 where
  pub carded : Carded g.lot g.card
  pub placed : WritableResults (containers g) g.contents

-- ---- lot and card
-- an open does not look past the last row
pub open_cut : (l : Lot) (c : Card) → open_number l (cut_to_rows c) ≡ open_number l c
open_cut l c =
    rw
    (rows_same (cut_to_rows c) c (min c.rows most_rows)
    (λ i h.
    let k : i < c.rows = omega arith in
    (get_or-take c.rows c.lowest i 0 k, get_or-take c.rows c.highest i 0 k, get_or-take c.rows c.bound i 0 k)))
    refl

carded : (l : Lot) (c : Card) → open_number l c ≡ 0 → l.containers ≤ widest → Sized c → Carded l (cut_to_rows c)
carded l c e few s =
    let m = open_rows l c e in
    let size : (x : List ℕ) → length x ≡ most_rows → length (take c.rows x) ≡ c.rows = λ x q. length-take-le c.rows x (omega arith) in
    record {
      opens = open_cut l c ∙ e;
      few = few;
      critical = s.full.critical;
      lowest = size c.lowest s.full.lowest;
      highest = size c.highest s.full.highest;
      bound = size c.bound s.full.bound;
      tolerated = size c.tolerated s.full.tolerated;
      narrow = λ i h. rw (get_or-take c.rows c.tolerated i 0 h) (s.narrow i);
    }

-- ---- the map
no_place : {A : Type 0} {x : ℕ} → free ≡ holds x → A
no_place e = absurd (let z : ◌≡◌ {A = ℕ} 0 1 = cc in omega arith)

inner : (a b : ℕ) → holds a ≡ holds b → a ≡ b
inner a b e = cc

-- one result more, not too high
low_put : (f : Contents) (c x k y : ℕ) → x ≤ highest_x → (f k ≡ holds y → y ≤ highest_x) → put f c (holds x) k ≡ holds y → y ≤ highest_x
low_put f c x k y h r e = by (ℕ_discrete k c)
  where
    by : Dec (k ≡ c) → y ≤ highest_x
    by (yes q) = omega (arith, inner x y (sym (rw q (put_same f c (holds x))) ∙ e))
    by (no q) = r (sym (put_other f c (holds x) k q) ∙ e)

-- ---- a sound tally
stored_low : (ks vs : List ℕ) (n k x : ℕ) → ((i : ℕ) → i < n → get_or vs i 0 ≤ highest_x) → stored ks vs n k ≡ holds x → x ≤ highest_x
unfolding stored
stored_low ks vs zero k x h e = no_place e
stored_low ks vs (suc n) k x h e =
    low_put (stored ks vs n) (get_or ks n 0) (get_or vs n 0) k x (h n (omega arith)) (stored_low ks vs n k x (λ i q. h i (omega arith))) e

pub sound_placed : (t : Tally) → Sound t → WritableResults t.lot.containers (view t).contents
sound_placed t s =
    record {
      none = stored_free t.containers t.results t.held 0 (λ i q e. omega (arith, s.above i q));
      outside = λ k r. stored_free t.containers t.results t.held k (λ i q e. omega (arith, s.inside i q));
      low = λ k x e. stored_low t.containers t.results t.held k x s.low e;
      small = omega (arith, size_is_lem t s, s.small);
    }

pub sound_writable : (t : Tally) → Sound t → 1 ≤ t.lot.containers → Writable (view t)
sound_writable t s h = record { carded = carded t.lot t.card (s.good h) s.few s.sized; placed = sound_placed t s }

-- ---- what a sheet yields: an open and its enters made it
pub made_writable : (l : Lot) (c : Card) (es : List Entry) (g : Ledger) → l.containers ≤ widest → Sized c → Made l c es g → Writable g
made_writable l c es g few s (opens q) =
    rw (eq-eqb (open_number l c) 0 q)
    (record {
      carded = carded l c q few s;
      placed = record { none = refl; outside = λ k h. refl; low = λ k x e. no_place e; small = rw (total_none one l.containers refl) (omega arith) };
    })
made_writable l c es g few s (enters {es = ds} {g = h} k x m q) =
    let w = made_writable l c ds h few s m in
    let n = enter_tells h k x q in
    let held = rw (eq-eqb (enter_number h k x) 0 q) at (enter_held h k x q) in
    rw (eq-eqb (enter_number h k x) 0 q)
    (record {
      carded = w.carded;
      placed =
          record {
            none = put_other h.contents k (holds x) 0 (λ e. omega (arith, n.above)) ∙ w.placed.none;
            outside = λ j i. put_other h.contents k (holds x) j (λ e. omega (arith, n.inside)) ∙ w.placed.outside j i;
            low = λ j y e. low_put h.contents k x j y n.low (w.placed.low j y) e;
            small = omega (arith, held, n.room);
          };
    })

-- and as many lines as it has were read
pub yields : (sheet : List ℕ) (g : Ledger) (m : ℕ) → read_of sheet ≡ accepted g m → Writable g × (m ≡ length (lines_of sheet))
yields sheet g m q =
    let a = accepted_sheet sheet g m q in
    let v = a.last in
    let r = ready_led at_start v start_ready a.leads in
    (made_writable v.lot v.card _ g r.few (record { full = r.full; narrow = r.narrow }) (sheet_made sheet g m a), omega (arith, a.lines))
