use Rattle.lotenter.proofs.answer.Goals as goal

pub returns : goal.returns
returns c =
    let told = c.text_to.ensures in
    record { by_index = λ s l b d. told.by_index s l (c.sheet_of.ensures.sheet s b) (c.front-lines.ensures l d); prefix_len = told.prefix_len }
