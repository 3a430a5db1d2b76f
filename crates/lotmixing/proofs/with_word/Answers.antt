use Rattle.lotmixing.proofs.with_word.Goals as goal

pub returns-clause-adds : goal.returns-clause-adds
returns-clause-adds c = rw c.word.ensures.result_value at c.with_bytes.ensures

pub returns-clause-by_index : goal.returns-clause-by_index
returns-clause-by_index c = λ word given. rw (c.word.ensures.by_index word given) at c.with_bytes.ensures
