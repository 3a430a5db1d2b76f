-- What is counted over all containers of the lot is counted over the list of results. Assumes nothing.
use Prim.Native.Nat.{ℕ}
use native.Mathlib.Omega.{arith}
use mathlib.Core.Path.{◌≡◌, refl, sym, ap, ◌∙◌}
use mathlib.Core.List.{List, [], ◌∷◌, ◌++◌}
use Rattle.rules.specs.Contents.{Content, Contents, holds, value, square}
use Rattle.rules.specs.Figures.{figures}
use Rattle.rules.specs.Ledger.{Ledger, containers}
use Rattle.rules.specs.declared.Lot.{Lot}
use Rattle.rules.specs.declared.Card.{Card}
use Rattle.rules.proofs.ContentLaws.{free_is}
use Rattle.rules.proofs.CountLaws.{Counted, total_counted, largest_counted, smallest_counted}
use Rattle.rules.proofs.LedgerLaws.{enter_tells}
use Rattle.reading_theorems.specs.Spelling.{Entry, Made, opens, enters}
use Rattle.reading_theorems.proofs.Spelt.{made_held}
use Rattle.evaluation.specs.Entries.{gathered, figures_over}

gathered_last : (op : ℕ → ℕ → ℕ) (w : Content → ℕ) (n : ℕ) (es : List Entry) (e : Entry) → gathered op w n (es ++ (e ∷ [])) ≡ op (gathered op w n es) (w (holds e.x))
unfolding gathered
gathered_last op w n [] e = refl
gathered_last op w n (d ∷ es) e = gathered_last op w (op n (w (holds d.x))) es e

-- of a ledger that these results make
counted : {l : Lot} {c : Card} {es : List Entry} {g : Ledger} (op : ℕ → ℕ → ℕ) (start : ℕ) (w : Content → ℕ) (t : ℕ → Contents → ℕ)
    → Counted op start w t → Made l c es g → t (containers g) g.contents ≡ gathered op w start es
counted {l} op start w t s (opens q) = rw q (unfold gathered in s.nothing l.containers)
counted op start w t s (enters {es = ds} {g = h} k x m q) =
    let n = enter_tells h k x q in
    let e : Entry = record { container = k; x = x } in
    rw q
    (s.more (containers h) h.contents k x n.above n.inside (omega (arith, n.low)) (free_is (h.contents k) n.clear)
    ∙ ap (λ (i : ℕ). op i (w (holds x))) (counted op start w t s m)
    ∙ sym (gathered_last op w start ds e))

pub figures_are : (l : Lot) (c : Card) (es : List Entry) (g : Ledger) → Made l c es g → figures g ≡ figures_over es
unfolding figures_over
figures_are l c es g made =
    λ i. record {
      count = made_held made i;
      sum = counted _ _ _ _ (total_counted value refl) made i;
      squares = counted _ _ _ _ (total_counted square refl) made i;
      smallest = counted _ _ _ _ smallest_counted made i;
      largest = counted _ _ _ _ largest_counted made i;
    }
