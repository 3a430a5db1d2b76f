-- No refusal has the number 0: it tells that a call is accepted. Assumes nothing.
use mathlib.Core.Path.{◌≡◌, refl, sym, ap, ◌∙◌}
use Prim.Native.Nat.{ℕ}
use lib.Dec.{eqb}
use borrow.Author.Tests.{eqb-false, ne_eqb}
use Rattle.std.specs.Prelude.{Result, Ok, Err, IsErrAnd}
use Rattle.rules.specs.Choice.{pick}
use Rattle.rules.specs.Numbers.{number_of, text_size}
use Rattle.rules.specs.declared.Refusal.{Refusal}
use Rattle.rules.specs.declared.Refusal.TheVariants.{BadLine, OutOfTurn, BadLot, BadCard, CardFull, NoSuchContainer, ResultTooHigh, AlreadyHeld, Full, NotHeld, OtherLot, SharedContainer, TooManyTogether, CountWrong, TooFew, BufferShort, OutsideTable, NotSteady, BadWeight, BadListLine}

pub never_zero : (e : Refusal) → number_of e ≡ 0 → ⊥
never_zero BadLine = eqb-false 1 0 refl
never_zero OutOfTurn = eqb-false 2 0 refl
never_zero BadLot = eqb-false 3 0 refl
never_zero BadCard = eqb-false 4 0 refl
never_zero CardFull = eqb-false 5 0 refl
never_zero NoSuchContainer = eqb-false 6 0 refl
never_zero ResultTooHigh = eqb-false 7 0 refl
never_zero AlreadyHeld = eqb-false 8 0 refl
never_zero Full = eqb-false 9 0 refl
never_zero NotHeld = eqb-false 10 0 refl
never_zero OtherLot = eqb-false 11 0 refl
never_zero SharedContainer = eqb-false 12 0 refl
never_zero TooManyTogether = eqb-false 13 0 refl
never_zero CountWrong = eqb-false 14 0 refl
never_zero TooFew = eqb-false 15 0 refl
never_zero BufferShort = eqb-false 16 0 refl
never_zero OutsideTable = eqb-false 17 0 refl
never_zero NotSteady = eqb-false 18 0 refl
never_zero BadWeight = eqb-false 19 0 refl
never_zero BadListLine = eqb-false 20 0 refl

-- what `?` hands on is the refusal that was given
pub passed_on : {A : Type 0} {r : Result A Refusal} {e : Refusal} → IsErrAnd r (λ f. f ≡ e) → r ≡ Err e
passed_on {r = Ok x} h = absurd h
passed_on {r = Err f} h = ap Err h

-- the refusal that has a number
pub of_number : ℕ → Refusal
of_number n =
    (pick (eqb n 1) BadLine
    (pick (eqb n 2) OutOfTurn
    (pick (eqb n 3) BadLot
    (pick (eqb n 4) BadCard
    (pick (eqb n 5) CardFull
    (pick (eqb n 6) NoSuchContainer
    (pick (eqb n 7) ResultTooHigh
    (pick (eqb n 8) AlreadyHeld
    (pick (eqb n 9) Full
    (pick (eqb n 10) NotHeld
    (pick (eqb n 11) OtherLot
    (pick (eqb n 12) SharedContainer
    (pick (eqb n 13) TooManyTogether
    (pick (eqb n 14) CountWrong
    (pick (eqb n 15) TooFew
    (pick (eqb n 16) BufferShort
    (pick (eqb n 17) OutsideTable
    (pick (eqb n 18) NotSteady
    (pick (eqb n 19) BadWeight
    BadListLine)))))))))))))))))))

pub of_number_back : (e : Refusal) → of_number (number_of e) ≡ e
unfolding of_number
of_number_back BadLine = refl
of_number_back OutOfTurn = refl
of_number_back BadLot = refl
of_number_back BadCard = refl
of_number_back CardFull = refl
of_number_back NoSuchContainer = refl
of_number_back ResultTooHigh = refl
of_number_back AlreadyHeld = refl
of_number_back Full = refl
of_number_back NotHeld = refl
of_number_back OtherLot = refl
of_number_back SharedContainer = refl
of_number_back TooManyTogether = refl
of_number_back CountWrong = refl
of_number_back TooFew = refl
of_number_back BufferShort = refl
of_number_back OutsideTable = refl
of_number_back NotSteady = refl
of_number_back BadWeight = refl
of_number_back BadListLine = refl

-- the answer that has a number, and a length where it has none
pub answer_by : ℕ → ℕ → Result ℕ Refusal
answer_by e n = pick (eqb e 0) (Ok n) (Err (of_number e))

pub answer_back : (r : Result ℕ Refusal) → answer_by (text_size r).number (text_size r).size ≡ r
unfolding answer_by
answer_back (Ok n) = refl
answer_back (Err e) = rw (ne_eqb (number_of e) 0 (never_zero e)) (ap Err (of_number_back e))

-- an answer with the number of a refusal is that refusal
pub refusal_by_number : (r : Result ℕ Refusal) (e : Refusal) → (text_size r).number ≡ number_of e → r ≡ Err e
unfolding answer_by
refusal_by_number r e q =
    sym (answer_back r) ∙ (ap (λ (n : ℕ). answer_by n (text_size r).size) q ∙ rw (ne_eqb (number_of e) 0 (never_zero e)) (ap Err (of_number_back e)))
