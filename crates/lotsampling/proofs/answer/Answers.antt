use Rattle.lotsampling.proofs.answer.Goals as goal

pub returns : goal.returns
returns c =
    let said = c.line_to.ensures in
    record { by_index = λ v w f g. rw (c.word-v.ensures.by_index v f, c.word-w.ensures.by_index w g) at said.text; prefix_len = said.prefix_len }
