-- No sheet that is accepted is longer than 8,229 bytes. Assumes nothing.
use Prim.{Unit, tt}
use mathlib.Core.Bool.{Bool, true, false}
use mathlib.Core.List.{List, [], ◌∷◌, ◌++◌}
use Prim.Native.Nat.{ℕ, suc, ◌+◌, ◌≤◌}
use native.Mathlib.Omega.{arith}
use lib.Dec.{eqb}
use lib.ListN.{length, length-append}
use Rattle.rules.specs.Choice.{pick}
use Rattle.rules.specs.Text.{byte}
use Rattle.rules.specs.Lines.{Line, ended, unended, cut_from, lines_of}
use Rattle.rules.specs.Reading.{State, at_start}
use Rattle.reading_theorems.specs.Lengths.{NoneLonger}
use Rattle.reading_theorems.proofs.Accepted.{Leads, line, accepted_sheet}
use Rattle.reading_theorems.proofs.Fitting.{frame_fits}
use Rattle.reading_theorems.proofs.Falling.{room, falls, room_start}

abbrev IsEnded : Line → Type 0
IsEnded (ended d) = Unit {0}
IsEnded unended = ⊥

leads_ended : {l : Line} {ls : List Line} {s v : State} → Leads s (l ∷ ls) v → IsEnded l
leads_ended (line t rest) = tt

-- the bytes of lines that are taken, behind the bytes so far of a line, are no more than can be taken
within : (bytes sofar : List ℕ) (s v : State) → Leads s (cut_from sofar bytes) v → length sofar + length bytes ≤ room s
unfolding cut_from
within [] [] s v l = omega arith
within [] (x ∷ xs) s v l = absurd (leads_ended l)
within (x ∷ xs) sofar s v l = by (eqb x 10) (λ u r. omega (arith, within xs [] u v r)) (λ r. within xs (sofar ++ byte x) s v r) l
  where
    by : (b : Bool) → ((u : State) → Leads u (lines_of xs) v → length xs ≤ room u) → (Leads s (cut_from (sofar ++ byte x) xs) v → length (sofar ++ byte x) + length xs ≤ room s)
        → Leads s (pick b (ended sofar ∷ lines_of xs) (cut_from (sofar ++ byte x) xs)) v → length sofar + suc (length xs) ≤ room s
    by true f g (line {u = u} t rest) = omega (arith, f u rest, falls (length sofar) s u (frame_fits sofar) t)
    by false f g l = let q = g l in omega (arith, simp length-append at q)

pub none_longer : NoneLonger
none_longer sheet g n q =
    let a = accepted_sheet sheet g n q in
    omega (arith, within sheet [] at_start a.last a.leads, room_start)
