-- `cutter::line_end` meets its contract.
use mathlib.Core.Path.{sym, ap, ◌∙◌}
use native.Mathlib.Omega.{arith}
use lib.ListN.{get_or}
use borrow.Author.Rules.{rules}
use borrow.Author.Tests.{eqb-true}
use Rattle.rules.specs.Fields.{is_digit}
use Rattle.rules.proofs.Tests.{and_left, and_right}
use Rattle.cutter.proofs.Runs.{eights}
use Rattle.cutter.proofs.line_end.Goals as goal
use Rattle.cutter.proofs.line_end.Goals.{then-end-le16, else-end-le16}

pub returns-then-all_digits-2 : goal.returns-then-all_digits-2
returns-then-all_digits-2 c =
    let l = c.args.rest.now in
    let end = c.likely_digits-end.result in
    let last = c.all_digits-then-all_digits in
    let both = c.if-all_digits-rest.true in
    eights is_digit l end (omega arith) (omega arith) (omega arith)
    (sym c.all_digits.ensures ∙ c.if-all_digits.true) (sym last.ensures ∙ and_left last.result _ both)
    (λ h. elim c.if-end-le16.branch [ then-end-le16 w ↦ absurd (omega arith) | else-end-le16 w ↦ search rules ])
    (ap is_digit (eqb-true (get_or l end 0) 10 (and_right last.result _ both)))
