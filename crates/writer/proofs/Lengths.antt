-- How long the lines are. Assumes nothing.
use mathlib.Core.Path.{◌≡◌, refl}
use mathlib.Core.Bool.{Bool, true, false, not}
use mathlib.Core.List.{List, []}
use Prim.Native.Nat.{ℕ, zero, suc, ◌+◌, ◌-◌, ◌*◌}
use native.Mathlib.Numerals.{add-one}
use native.Mathlib.Omega.{arith}
use lib.Dec.{eqb}
use lib.ListN.{length, get_or, length-append}
use Rattle.rules.specs.Choice.{pick}
use Rattle.rules.specs.Limits.{criticals, lot_bytes, card_bytes, critical_bytes, range_bytes, result_bytes, end_bytes}
use Rattle.rules.specs.Contents.{Content, Contents, free, holds, one, total}
use Rattle.rules.specs.Ledger.{Ledger, held, containers}
use Rattle.rules.specs.Writing.{lot_line, card_line, critical_line, range_line, result_line, end_line, maybe_line, critical_lines, range_lines, place_line, result_lines, sheet_with, sheet_of}
use Rattle.rules.specs.declared.Head.{Head}
use Rattle.rules.specs.declared.Card.{Card}
use Rattle.rules.proofs.FieldLaws.{length_digits}
use Rattle.writer.specs.Promise.{counted, is_filled, filled, card_room, sheet_room}
use Rattle.writer.proofs.Counting.{filled_none, filled_next}

lot_length : (a n : ℕ) → length (lot_line a n) ≡ lot_bytes
unfolding lot_line
lot_length a n = simp (length-append, length_digits)

card_length : (h : Head) → length (card_line h) ≡ card_bytes
unfolding card_line
card_length h = simp (length-append, length_digits)

critical_length : (k v : ℕ) → length (critical_line k v) ≡ critical_bytes
unfolding critical_line
critical_length k v = simp (length-append, length_digits)

range_length : (l h b r : ℕ) → length (range_line l h b r) ≡ range_bytes
unfolding range_line
range_length l h b r = simp (length-append, length_digits)

result_length : (c x : ℕ) → length (result_line c x) ≡ result_bytes
unfolding result_line
result_length c x = simp (length-append, length_digits)

end_length : (n : ℕ) → length (end_line n) ≡ end_bytes
unfolding end_line
end_length n = simp (length-append, length_digits)

-- ---- the lines of one kind
maybe_length : (k v : ℕ) → length (maybe_line k v) ≡ critical_bytes * counted (is_filled v)
maybe_length k v = go (eqb v 0)
  where
    go : (b : Bool) → length (pick b [] (critical_line k (v - 1))) ≡ critical_bytes * counted (not b)
    go true = refl
    go false = critical_length k (v - 1)

criticals_length : (l : List ℕ) (n : ℕ) → length (critical_lines l n) ≡ critical_bytes * filled l n
unfolding critical_lines
criticals_length l zero = omega (arith, filled_none l)
criticals_length l (suc n) =
    let next = rw (add-one n) at (filled_next l n) in
    simp length-append (omega (arith, next, criticals_length l n, maybe_length n (get_or l n 0)))

ranges_length : (c : Card) (n : ℕ) → length (range_lines c n) ≡ range_bytes * n
unfolding range_lines
ranges_length c zero = refl
ranges_length c (suc n) =
    simp length-append
    (omega (arith, ranges_length c n, range_length (get_or c.lowest n 0) (get_or c.highest n 0) (get_or c.bound n 0) (get_or c.tolerated n 0)))

place_length : (k : ℕ) (p : Content) → length (place_line k p) ≡ result_bytes * one p
place_length k free = refl
place_length k (holds x) = result_length k x

results_length : (f : Contents) (n : ℕ) → length (result_lines f n) ≡ result_bytes * total one n f
unfolding result_lines total
results_length f zero = refl
results_length f (suc n) = simp length-append (omega (arith, results_length f n, place_length (suc n) (f (suc n))))

-- ---- the sheet
pub length_with : (g : Ledger) (results : List ℕ) → length (sheet_with g results) ≡ card_room g.card + length results + end_bytes
length_with g results =
    simp length-append
    (omega (
      arith,
      lot_length g.lot.attribute (containers g),
      card_length g.card.head,
      criticals_length g.card.critical criticals,
      ranges_length g.card g.card.rows,
      end_length (held g),
    ))

pub sheet_length : (g : Ledger) → length (sheet_of g) ≡ sheet_room g.card (held g)
unfolding sheet_of
sheet_length g =
    let lines = result_lines g.contents (containers g) in
    omega (arith, length_with g lines, results_length g.contents (containers g))
