use Rattle.std.proofs.Common.{rules}
use Rattle.lotenter.proofs.Entering.{entered_shows, fault_shown, usage_shows}
use Rattle.lotenter.proofs.enter_lines.Goals as goal

pub returns-in-Ok : goal.returns-in-Ok
returns-in-Ok c = λ room. rw c.if-whole.true (entered_shows _ _ _ room c.in-Ok.ensures).0

pub returns-in-Ok-2 : goal.returns-in-Ok-2
returns-in-Ok-2 c = λ room.
    rw (c.if-whole.false, (entered_shows _ _ _ room c.in-Ok-2.ensures).1) (usage_shows (search rules) c.bytes.ensures)

pub returns-in-Err : goal.returns-in-Err
returns-in-Err c = λ room.
    let fault = c.print_fault in
    fault_shown _ _ _ room c.in-Err.is _ c.enter_list.ensures (search rules) c.args.whole _ fault.result _ _ _ c.file-file.ensures c.line-line.ensures
    c.unwrap_or.ensures fault.ensures fault.auto.buf
