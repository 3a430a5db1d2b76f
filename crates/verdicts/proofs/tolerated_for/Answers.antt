-- `verdicts::tolerated_for` meets its contract: the search over the rows stops at the first that serves. Assumes nothing.
use Rattle.std.proofs.Common.{rules, ◌≡◌, ℕ, true, false, min}
use borrow.Author.Tests.{tests}
use Rattle.std.proofs.lemmas.Iterator.{first_from_Range}
use Rattle.rules.specs.Limits.{most_rows}
use Rattle.rules.specs.Figures.{row_serves}
use Rattle.rules.specs.declared.Fraction.{Fraction}
use Rattle.verdicts.proofs.FirstRow.{first_found}
use Rattle.verdicts.proofs.tolerated_for.Goals as goal

pub returns : goal.returns
returns c =
    let a = c.args in
    let mean : Fraction = record { over = a.mean; under = a.scale } in
    let serves = λ (k : ℕ). row_serves a.c k a.n mean in
    let rows : c.min.result ≡ min a.c.rows most_rows = search rules in
    rw (← rows)
    (first_found a.c a.n mean _ _ _
    (first_from_Range _ _ _ _ (λ k. serves k ≡ true) (λ k. serves k ≡ false) c.find.ensures.ran
    (λ x q k. search (rules, tests)) (λ x q k. search (rules, tests)))
    (search rules))
