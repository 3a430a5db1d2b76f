use Rattle.std.proofs.Common.{rules, tests, arith, not, reverse, ◌∙◌}
use Rattle.std.specs.Prelude.{eqb}
use Rattle.std.proofs.lemmas.Iterator.Adapters.{YieldsList-from_rev_slice}
use Rattle.std.proofs.lemmas.Iterator.Consumers.{count_from_yields_List}
use Rattle.std.proofs.lemmas.Iterator.Search.{YieldsList-from_take_while}
use Rattle.std.proofs.lemmas.List.Folds.{length-prefix_len}
use Rattle.lotenter.proofs.Ending.{look_back}
use Rattle.lotenter.proofs.ended_bytes.Goals as goal

pub returns : goal.returns
returns c =
    let list = c.args.list.now in
    let behind =
    count_from_yields_List c.take_while.result _ c.count-behind.ensures.ran
    (YieldsList-from_take_while _ (λ x. not (eqb x 10)) (YieldsList-from_rev_slice list cc) c.take_while.ensures.closure c.take_while.ensures.done (λ x b q k. search (rules, tests)))
    ∙ length-prefix_len (λ x. not (eqb x 10)) (reverse list) in
    (look_back list _ behind, omega arith)
