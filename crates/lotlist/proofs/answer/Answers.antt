use Rattle.lotlist.proofs.answer.Goals as goal

pub returns : goal.returns
returns c =
    let said = c.text_to.ensures in
    record { by_index = λ input begins. said.by_index input (c.sheet_of.ensures.sheet input begins); prefix_len = said.prefix_len }
