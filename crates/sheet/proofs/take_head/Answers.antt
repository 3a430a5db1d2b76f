-- `sheet::take_head` meets its contract.
use Rattle.std.proofs.Common.{refl, ◌∙◌, false, arith}
use Rattle.sheet.specs.Promise.{read_rest}
use Rattle.sheet.proofs.Following.{taken_frame, line_comes, line_next, results_follow, rest_none, unended}
use Rattle.sheet.proofs.take_head.Goals as goal

pub loop-at-init : goal.loop-at-init
unfolding read_rest
loop-at-init c =
    (record { within = omega arith; first = omega arith; few = omega arith }, rw c.start-p.ensures refl, rw c.start-p.ensures refl)

pub overflow_add-at : goal.overflow_add-at
overflow_add-at c =
    let taken = rw c.in-Ok-Some.field-0-is at c.in-Ok-Some.ensures in
    let next = line_next c.loop-at.invariant.0 c.loop-at-test.true c.line_at-head_line.ensures (taken_frame _ _ taken.right) in
    omega (arith, next.0.within)

pub loop-at-smaller : goal.loop-at-smaller
loop-at-smaller c =
    let taken = rw c.in-Ok-Some.field-0-is at c.in-Ok-Some.ensures in
    let next = line_next c.loop-at.invariant.0 c.loop-at-test.true c.line_at-head_line.ensures (taken_frame _ _ taken.right) in
    omega (arith, next.0.within, next.1)

pub loop-at-preserved : goal.loop-at-preserved
loop-at-preserved c =
    let loop = c.loop-at in
    let taken = rw c.in-Ok-Some.field-0-is at c.in-Ok-Some.ensures in (
      (line_next loop.invariant.0 c.loop-at-test.true c.line_at-head_line.ensures (taken_frame _ _ taken.right)).0,
      taken.unopened,
      line_comes loop.invariant.0 c.loop-at-test.true c.line_at-head_line.ensures _ loop.invariant.2 taken.right,
    )

pub returns-in-Ok-None : goal.returns-in-Ok-None
returns-in-Ok-None c =
    let loop = c.loop-at in
    results_follow loop.invariant.0 c.loop-at-test.true c.line_at-head_line.ensures _ _ _ loop.invariant.2 loop.invariant.1 (rw c.in-Ok-None.field-0-is at c.in-Ok-None.ensures)

pub returns-in-Err : goal.returns-in-Err
returns-in-Err c =
    let loop = c.loop-at in
    record { right = line_comes loop.invariant.0 c.loop-at-test.true c.line_at-head_line.ensures _ loop.invariant.2 c.in-Err.ensures.right; file = refl }

pub returns : goal.returns
returns c =
    let loop = c.loop-at in
    record { right = loop.invariant.2 ∙ rest_none loop.invariant.0 c.loop-at-test.false _ false (unended loop.p.stage loop.invariant.1); file = refl }
