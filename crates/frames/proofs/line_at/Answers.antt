-- `frames::line_at` meets its contract.
use mathlib.Core.Path.{refl, sym, ◌∙◌}
use native.Mathlib.Omega.{arith}
use Rattle.cutter.proofs.Lines.{digits_within, digits_all}
use Rattle.frames.proofs.Framed.{end_at, line_bad, line_ended}
use Rattle.frames.proofs.line_at.Goals as goal

pub overflow_add-end : goal.overflow_add-end
overflow_add-end c = omega (arith, digits_within _ _ _ c.cut-line.ensures.bytes)

pub invariant_of-frame : goal.invariant_of-frame
invariant_of-frame c = record { all_digits = digits_all _ _ _ c.cut-line.ensures.bytes }

pub returns-then-eq : goal.returns-then-eq
returns-then-eq c =
    let t = end_at _ _ _ refl _ c.get.ensures.lookup _ c.eq.ensures in
    line_ended _ _ _ c.cut-line.ensures.bytes (sym t ∙ c.if-eq.true) _ c.frame-frame.ensures

pub returns-else-eq : goal.returns-else-eq
returns-else-eq c =
    let t = end_at _ _ _ refl _ c.get.ensures.lookup _ c.eq.ensures in
    line_bad _ _ _ c.cut-line.ensures.bytes (sym t ∙ c.if-eq.false)
