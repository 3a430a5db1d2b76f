-- The lines of a comma list one after another: one law for each way the reader goes. Assumes nothing.
use mathlib.Core.Path.{◌≡◌, refl, sym, ap, ◌∙◌}
use mathlib.Core.Bool.{Bool, true, false, true≢false}
use mathlib.Core.List.{List}
use Rattle.std.specs.Prelude.{Option, Some, None, Result, Ok, Err, ⊤, is_err}
use Prim.Native.Nat.{ℕ, ◌+◌, ◌-◌, ◌≤◌, ◌<◌}
use native.Mathlib.Omega.{arith}
use lib.Dec.{eqb}
use lib.ListN.{length, drop}
use borrow.Author.Tests.{ne_eqb}
use Rattle.rules.specs.Choice.{pick}
use Rattle.rules.specs.Numbers.{number_of, number_in}
use Rattle.rules.specs.Lines.{lines_of}
use Rattle.rules.specs.Attributes.{attribute_of}
use Rattle.rules.specs.Ledger.{Ledger, Judged, enter_number}
use Rattle.rules.specs.ListReading.{Listed, say_of, line_on, goes_on, enter_lines, list_on}
use Rattle.rules.specs.declared.Attribute.{Attribute}
use Rattle.rules.specs.declared.Fault.{Fault}
use Rattle.rules.specs.declared.Lot.{Lot}
use Rattle.rules.specs.declared.Place.TheVariants as place
use Rattle.rules.specs.declared.Refusal.{Refusal}
use Rattle.rules.specs.declared.Refusal.TheVariants.{BadListLine}
use Rattle.rules.proofs.RefusalLaws.{never_zero}
use Rattle.cutter.specs.Runs.{line_at}
use Rattle.cutter.proofs.Lines.{lines_ended, lines_unended, lines_none}
use Rattle.list_lines.specs.Lines.{entry_on, ReadAt}
use Rattle.list_lines.specs.declared.Entry.{Entry}
use Rattle.list_lines.specs.declared.LineRead.{LineRead}
use Rattle.list_lines.proofs.LineLaws.{line_kept}
use Rattle.tally.specs.View.{view}
use Rattle.tally.specs.Calls.{Sound}
use Rattle.tally.specs.declared.Tally.{Tally}
use Rattle.list_reader.specs.Promise.{EntersEntry, told_by, Takes, Lists}

-- ---- what is left of the list s from a on, where the ledger is g and the next line has the number n
unfoldable pub left : Ledger → List ℕ → ℕ → Ledger → ℕ → Listed
left was s a g n = enter_lines was (lines_of (drop a s)) g (n - 1)

abbrev stopped : Ledger → ℕ → ℕ → Listed
stopped was e n = record { number = e; line = n; ledger = was }

module _ (was : Ledger) (s : List ℕ) (a : ℕ) (g : Ledger) (n : ℕ) (from : 1 ≤ n) where
  number : n - 1 + 1 ≡ n
  number = omega arith

  left_unended : a < length s → length s ≤ a + length (line_at s a) → left was s a g n ≡ stopped was 20 n
  unfolding left enter_lines
  left_unended h k = rw (lines_unended s a h k, number) refl

  left_line : a + length (line_at s a) < length s → (j : Judged) → line_on g (say_of (attribute_of was.lot.attribute) (line_at s a)) ≡ j
      → left was s a g n ≡ goes_on was j n (enter_lines was (lines_of (drop (a + length (line_at s a) + 1) s)) j.ledger n)
  unfolding left enter_lines
  left_line h j e = rw (lines_ended s a h, e, number) refl

  left_none : length s ≤ a → left was s a g n ≡ record { number = 0; line = 0; ledger = g }
  unfolding left enter_lines
  left_none h = rw (lines_none s a h) refl

-- a line leaves the lot
pick_lot : (b : Bool) (g h : Ledger) → g.lot ≡ h.lot → (pick b g h).lot ≡ h.lot
pick_lot true g h e = e
pick_lot false g h e = refl

entry_lot : (g : Ledger) (n : Option Entry) → (entry_on g n).ledger.lot ≡ g.lot
entry_lot g None = refl
entry_lot g (Some e) = pick_lot (eqb (enter_number g e.container e.x) 0) _ g refl

-- ---- the walk: u has been reached from t
pub record Reached (t : Tally) (s : List ℕ) (u : Tally) (a n : ℕ) : Type 0 where
  pub within : a ≤ length s
  pub from : 1 ≤ n
  pub most : n ≤ a + 1
  pub sound : Sound t → Sound u
  pub lot : Sound t → u.lot ≡ t.lot
  pub same : Sound t → list_on (view t) s ≡ left (view t) s a (view u) n

pub reached_start : (t : Tally) (s : List ℕ) → Reached t s t 0 1
unfolding left list_on
reached_start t s =
    record { within = omega arith; from = omega arith; most = omega arith; sound = λ h. h; lot = λ h. refl; same = λ h. refl }

module _ (t : Tally) (s : List ℕ) (u : Tally) (a n : ℕ) (r : Reached t s u a n) where
  pub taken_all : length s ≤ a → Takes t s (Ok tt) u
  unfolding told_by
  taken_all h =
      record {
        right = λ k. r.same k ∙ left_none (view t) s a (view u) n r.from h;
        sound = r.sound;
        file = tt;
      }

  module _ (b : Attribute) (told : b ≡ attribute_of u.lot.attribute) (f : LineRead) (at : ReadAt b s a f) (more : a < length s) where
    end_is : f.end ≡ a + length (line_at s a)
    end_is = omega (arith, at.end)

    pub taken_unended : length s ≤ f.end → Takes t s (Err (record { refusal = BadListLine; place = place.List n })) u
    unfolding told_by
    taken_unended h =
        record {
          right = λ k. r.same k ∙ left_unended (view t) s a (view u) n r.from more (omega (arith, end_is));
          sound = r.sound;
          file = refl;
        }

    module _ (whole : f.end < length s) where
      -- the line's step, by its answer
      stepped : (e : Result ⊤ Refusal) (v : Tally) → EntersEntry u f.entry e v → Sound t
          → line_on (view u) (say_of (attribute_of t.lot.attribute) (line_at s a)) ≡ record { number = number_in e; ledger = view v }
      stepped e v w k =
          let q : attribute_of t.lot.attribute ≡ b = sym (told ∙ ap (λ (l : Lot). attribute_of l.attribute) (r.lot k)) in
          ap (λ (c : Attribute). line_on (view u) (say_of c (line_at s a))) q
          ∙ (sym (line_kept (view u) (say_of b (line_at s a)) (r.sound k).few)
          ∙ (ap (entry_on (view u)) (sym at.entry) ∙ sym (w.right (r.sound k))))

      after : (e : Result ⊤ Refusal) (v : Tally) → EntersEntry u f.entry e v → Sound t
          → list_on (view t) s ≡ goes_on (view t) (record { number = number_in e; ledger = view v }) n (enter_lines (view t) (lines_of (drop (a + length (line_at s a) + 1) s)) (view v) n)
      after e v w k =
          r.same k
          ∙ left_line (view t) s a (view u) n r.from (omega (arith, end_is)) (record { number = number_in e; ledger = view v }) (stepped e v w k)

      pub taken_stopped : (e : Refusal) (v : Tally) → EntersEntry u f.entry (Err e) v → Takes t s (Err (record { refusal = e; place = place.List n })) v
      unfolding told_by
      taken_stopped e v w =
          record {
            right = λ k. after (Err e) v w k ∙ rw (ne_eqb (number_of e) 0 (never_zero e)) refl;
            sound = λ k. w.sound (r.sound k);
            file = refl;
          }

      pub reached_more : (o : ⊤) (v : Tally) → EntersEntry u f.entry (Ok o) v → Reached t s v (f.end + 1) (n + 1)
      unfolding left
      reached_more o v w =
          let q : n + 1 - 1 ≡ n = omega arith in
          record {
            within = omega arith;
            from = omega arith;
            most = omega (arith, r.most, end_is);
            sound = λ k. w.sound (r.sound k);
            lot = λ k. ap (λ (j : Judged). j.ledger.lot) (w.right (r.sound k)) ∙ (entry_lot (view u) f.entry ∙ r.lot k);
            same = λ k. after (Ok o) v w k ∙ rw (end_is, q) refl;
          }

-- ---- the call
pub list_refused : (t : Tally) (s : List ℕ) (e : Result ⊤ Fault) (u : Tally) → Takes t s e u → is_err e ≡ true → Lists t s e t
unfolding told_by
list_refused t s (Ok a) u h z = absurd (true≢false (sym z))
list_refused t s (Err f) u h z = record { kept = refl; right = λ k. sym (h.right k); sound = λ k. k; file = h.file }

pub list_accepted : (t : Tally) (s : List ℕ) (e : Result ⊤ Fault) (u : Tally) → Takes t s e u → is_err e ≡ false → Lists t s e u
unfolding told_by
list_accepted t s (Ok a) u h z = record { kept = tt; right = λ k. sym (h.right k); sound = h.sound; file = tt }
list_accepted t s (Err f) u h z = absurd (true≢false z)
