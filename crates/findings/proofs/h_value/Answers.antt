-- `findings::h_value` meets its contract. Assumes nothing.
use mathlib.Core.Path.{refl, ◌∙◌}
use Rattle.findings.proofs.ValueLaws.{h_value, h_verdict}
use Rattle.findings.proofs.h_value.Goals as goal

pub returns : goal.returns
returns c =
    let a = c.args in
    let d = c.divide-d.ensures in
    let less = rw c.from.ensures at c.less-h.ensures in
    let value = less ∙ h_value a.q _ a.offset c.requires d in
    let verdict = c.verdict_of_h.ensures ∙ h_verdict a.q _ a.offset c.requires d a.critical in
    rw (value, verdict) refl
