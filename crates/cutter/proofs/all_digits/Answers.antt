-- `cutter::all_digits` meets its contract: what the turns say together.
use mathlib.Core.Bool.{true, ◌&&◌}
use mathlib.Core.Path.{◌∙◌}
use borrow.Author.Rules.{rules}
use Rattle.std.proofs.lemmas.Iterator.{YieldsList-from_slice}
use Rattle.std.proofs.lemmas.Iterator.Consumers.{fold_from_yields_List}
use Rattle.rules.specs.Fields.{is_digit}
use Rattle.cutter.proofs.Runs.{all_by_fold}
use Rattle.cutter.proofs.all_digits.Goals as goal

pub returns : goal.returns
returns c =
    let bytes = c.args.bytes.now in
    fold_from_yields_List _ (λ ok x. ok && is_digit x) true _ c.fold.ensures.ran (YieldsList-from_slice bytes (search rules)) (λ a x b q k. search rules)
    ∙ all_by_fold is_digit bytes true
