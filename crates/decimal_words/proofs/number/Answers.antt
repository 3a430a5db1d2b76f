-- `decimal_words::number` meets its contract: a digit is a step of the walk. Assumes nothing.
use Rattle.std.proofs.Common.{rules, ◌∙◌}
use Rattle.decimal_words.proofs.Walks.{walk_ends}
use Rattle.decimal_words.proofs.WordLaws.{with_digit, word_walked}
use Rattle.decimal_words.proofs.number.Goals as goal

pub returns : goal.returns
returns c =
    walk_ends with_digit _ _ _ _ _ c.args.word.now c.iter.ensures.rest c.try_fold.ensures.ran (λ p x q k. search rules) (λ f b x k. search rules)
    ∙ word_walked _ (search rules)
