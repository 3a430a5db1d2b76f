use Rattle.std.proofs.Common.{arith}
use Rattle.rules.specs.Printing.{listed_for}
use Rattle.program_input.proofs.Beginning.{sheet_says}
use Rattle.program_input.proofs.Texts.{laid_text}
use Rattle.lotlist.proofs.text_to.Goals as goal

pub returns : goal.returns
unfolding listed_for
returns c =
    let printed = c.print in
    let laid = laid_text _ _ _ printed.result _ c.unwrap_or.ensures printed.ensures.text (omega (arith, printed.ensures.most)) printed.auto.buf in
    record { by_index = λ input begins. rw (sheet_says input c.args.sheet.now begins) at laid.0; prefix_len = laid.1 }
