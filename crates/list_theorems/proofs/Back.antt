-- The list of a sound tally, read into an empty ledger of its lot and card. Assumes nothing.
use mathlib.Core.Path.{◌≡◌, refl, sym, ap, ◌∙◌}
use mathlib.Core.List.{List, [], ◌++◌, append_assoc, append-nil}
use Prim.Native.Nat.{ℕ, zero, suc, ◌+◌, ◌≤◌, ◌<◌}
use native.Mathlib.Omega.{arith}
use Rattle.rules.specs.Limits.{most_held, widest}
use Rattle.rules.specs.Lines.{Line, lines_of}
use Rattle.rules.specs.Contents.{Content, Contents, free, holds, none, one, total}
use Rattle.rules.specs.Ledger.{Ledger, Judged, containers, held, with_contents}
use Rattle.rules.specs.Attributes.{attribute_of}
use Rattle.rules.specs.ListReading.{say_of, line_on, enter_lines, list_on}
use Rattle.rules.specs.ListWriting.{place_listed, list_lines, places_in, list_of}
use Rattle.rules.proofs.ContentLaws.{put_self}
use Rattle.rules.proofs.LineLaws.{no_lines}
use Rattle.rules.proofs.ListLaws.{lines_go, lines_over}
use Rattle.tally.specs.View.{view}
use Rattle.tally.specs.Calls.{Sound}
use Rattle.tally.specs.declared.Tally.{Tally}
use Rattle.round_trip_theorems.proofs.Writable.{WritableResults, sound_placed}
use Rattle.round_trip_theorems.proofs.ResultLines.{upto, upto_above, upto_all, upto_none, upto_more, upto_size, total_next, total_rise, accepted_as, enter_good}
use Rattle.list_theorems.proofs.Spelt.{line_text, line_says_lem, written_first}

-- the ledger before the list, with what f has up to n entered
abbrev ledger_upto : Ledger → Contents → ℕ → Ledger
ledger_upto g f n = with_contents g (upto f n)

module _ (g : Ledger) (f : Contents) (few : containers g ≤ widest) (w : WritableResults (containers g) f) where
  -- one line more
  line_back : (n x m : ℕ) (rest : List ℕ) → suc n ≤ containers g → f (suc n) ≡ holds x
      → enter_lines g (lines_of (place_listed (places_in g) (suc n) (holds x) ++ rest)) (ledger_upto g f n) m ≡ enter_lines g (lines_of rest) (ledger_upto g f (suc n)) (m + 1)
  line_back n x m rest h e =
      let low = w.low (suc n) x e in
      let a = attribute_of g.lot.attribute in
      let here = ledger_upto g f n in
      let room : held here < most_held = omega (arith, upto_size f n (containers g) w.none (omega arith), total_rise f (suc n) (containers g) h, total_next f n, ap one e, w.small) in
      let step : line_on here (say_of a (line_text (places_in g) (suc n) x)) ≡ accepted_as (ledger_upto g f (suc n)) =
      ap (line_on here) (line_says_lem a (suc n) x (omega arith) (omega arith))
      ∙ (enter_good here (suc n) x (omega arith) h low (upto_above f n (suc n) (omega arith)) room
      ∙ ap (λ (q : Contents). accepted_as (with_contents g q)) (upto_more f n (holds x) e)) in
      ap (λ (l : List Line). enter_lines g l here m) (written_first (places_in g) (suc n) x rest)
      ∙ (lines_go g _ (lines_of rest) here m (ap (λ (j : Judged). j.number) step)
      ∙ ap (λ (j : Judged). enter_lines g (lines_of rest) j.ledger (m + 1)) step)

  all_back : (n : ℕ) (rest : List ℕ) → n ≤ containers g
      → enter_lines g (lines_of (list_lines (places_in g) f n ++ rest)) (ledger_upto g f 0) 0 ≡ enter_lines g (lines_of rest) (ledger_upto g f n) (total one n f)
  unfolding list_lines
  all_back zero rest h = unfold total in refl
  all_back (suc n) rest h =
      ap (λ (l : List ℕ). enter_lines g (lines_of l) (ledger_upto g f 0) 0) (append_assoc (list_lines (places_in g) f n) (place_listed (places_in g) (suc n) (f (suc n))) rest)
      ∙ (all_back n (place_listed (places_in g) (suc n) (f (suc n)) ++ rest) (omega arith) ∙ go (f (suc n)) refl)
    where
      go : (p : Content) → f (suc n) ≡ p
          → enter_lines g (lines_of (place_listed (places_in g) (suc n) p ++ rest)) (ledger_upto g f n) (total one n f) ≡ enter_lines g (lines_of rest) (ledger_upto g f (suc n)) (total one (suc n) f)
      go free e =
          let same = sym (put_self (upto f n) (suc n) free (upto_above f n (suc n) (omega arith))) ∙ upto_more f n free e in
          let count : total one n f ≡ total one (suc n) f = omega (arith, total_next f n, ap one e) in
          ap (λ (q : Contents). enter_lines g (lines_of rest) (with_contents g q) (total one n f)) same ∙ ap (enter_lines g (lines_of rest) (ledger_upto g f (suc n))) count
      go (holds x) e =
          let count : total one n f + 1 ≡ total one (suc n) f = omega (arith, total_next f n, ap one e) in
          line_back n x (total one n f) rest h e ∙ ap (enter_lines g (lines_of rest) (ledger_upto g f (suc n))) count

  list_back : g.contents ≡ none → list_on g (list_lines (places_in g) f (containers g)) ≡ record { number = 0; line = 0; ledger = with_contents g f }
  unfolding list_on
  list_back e =
      let N = containers g in
      let text = list_lines (places_in g) f N in
      ap (λ (l : List ℕ). enter_lines g (lines_of l) g 0) (sym (append-nil text))
      ∙ (ap (λ (q : Contents). enter_lines g (lines_of (text ++ [])) (with_contents g q) 0) (e ∙ sym (upto_none f w.none))
      ∙ (all_back N [] (omega arith)
      ∙ (ap (λ (l : List Line). enter_lines g l (ledger_upto g f N) (total one N f)) no_lines
      ∙ (lines_over g (ledger_upto g f N) (total one N f)
      ∙ ap (λ (q : Contents). record { number = 0; line = 0; ledger = with_contents g q }) (upto_all f N w.outside)))))

-- the list of a sound tally, on its ledger with nothing held
pub written_back_lem : (t : Tally) → Sound t → list_on (with_contents (view t) none) (list_of (view t)) ≡ record { number = 0; line = 0; ledger = view t }
unfolding list_of
written_back_lem t s = list_back (with_contents (view t) none) (view t).contents s.few (sound_placed t s) refl
