use Rattle.std.proofs.Common.{rules, ◌∙◌}
use Rattle.program_input.proofs.Beginning.{sheet_says}
use Rattle.lotenter.proofs.Telling.{told_for}
use Rattle.lotenter.proofs.text_to.Goals as goal

pub returns : goal.returns
returns c =
    let shown = c.enter_lines.ensures (search rules) in
    record {
      by_index = λ s l b d. shown.bytes ∙ told_for s l c.args.list.now d (sheet_says s c.args.sheet.now b) c.lines_of.ensures;
      prefix_len = shown.counts;
    }
