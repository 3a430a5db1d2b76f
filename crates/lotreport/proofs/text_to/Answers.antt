use Rattle.std.proofs.Common.{arith}
use Rattle.rules.specs.Printing.{printed_for}
use Rattle.reading_theorems.proofs.Longest.{printed_most}
use Rattle.program_input.proofs.Beginning.{sheet_says}
use Rattle.program_input.proofs.Texts.{laid_text}
use Rattle.lotreport.proofs.text_to.Goals as goal

pub returns : goal.returns
unfolding printed_for
returns c =
    let laid = laid_text _ _ _ c.judge.result _ c.unwrap_or.ensures c.judge.ensures (omega (arith, printed_most c.args.sheet.now)) c.judge.auto.buf in
    record { by_index = λ input begins. rw (sheet_says input c.args.sheet.now begins) at laid.0; prefix_len = laid.1 }
