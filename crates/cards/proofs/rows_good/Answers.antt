-- `cards::rows_good` meets its contract.
use mathlib.Core.Path.{◌∙◌}
use mathlib.Core.Bool.{true}
use native.Mathlib.Omega.{arith}
use borrow.Author.Rules.{rules}
use lib.ListN.{take}
use Rattle.std.proofs.lemmas.Iterator.{YieldsList-from_slice, YieldsList-from_zip}
use Rattle.std.proofs.lemmas.Iterator.Consumers.{YieldsList-at, fold_from_yields_List}
use Rattle.cards.proofs.Folded.{and_row, all_rows}
use Rattle.cards.proofs.rows_good.Goals as goal

pub returns : goal.returns
returns c =
    fold_from_yields_List _ and_row true c.fold.result c.fold.ensures.ran
    (YieldsList-from_zip
    (YieldsList-at c.zip-2.ensures.first (YieldsList-from_zip
    (YieldsList-at c.zip.ensures.first (YieldsList-from_slice (take c.args.n c.args.c.now.lowest) cc))
    (YieldsList-from_slice (take c.args.n c.args.c.now.highest) cc)))
    (YieldsList-from_slice (take c.args.n c.args.c.now.bound) cc))
    (λ ok r s q k. search rules)
    ∙ all_rows c.args.c.now c.args.n (omega arith) (omega arith) (omega arith)
