-- `cards::criticals_good` meets its contract.
use mathlib.Core.Path.{◌∙◌}
use mathlib.Core.Bool.{true}
use native.Mathlib.Omega.{arith}
use borrow.Author.Rules.{rules}
use Rattle.std.proofs.lemmas.Iterator.{YieldsList-from_slice}
use Rattle.std.proofs.lemmas.Iterator.Consumers.{YieldsList-at, YieldsList-from_enumerate, fold_from_yields_List}
use Rattle.cards.proofs.Folded.{and_critical, all_criticals}
use Rattle.cards.proofs.criticals_good.Goals as goal
use Rattle.rules.proofs.Capacity.{capacity}

pub returns : goal.returns
returns c =
    fold_from_yields_List _ and_critical true c.fold.result c.fold.ensures.ran
    (YieldsList-from_enumerate (YieldsList-at c.enumerate.ensures.source (YieldsList-from_slice c.args.c.now.critical cc)) cc)
    (λ ok p r q k. search rules)
    ∙ all_criticals c.args.c.now.critical (omega (arith, capacity))
