-- `sheet::take_results` meets its contract.
use Rattle.std.proofs.Common.{refl, sym, ◌∙◌, true, false, arith}
use Rattle.sheet.proofs.Following.{result_frame_lem, line_comes, line_next, rest_none}
use Rattle.sheet.proofs.take_results.Goals as goal

pub overflow_add-at : goal.overflow_add-at
overflow_add-at c =
    let next = line_next c.loop-at.invariant.0 c.loop-at-test.true c.line_at-result_line.ensures (result_frame_lem _ c.in-Ok.ensures.result) in
    omega (arith, next.0.within)

pub loop-at-smaller : goal.loop-at-smaller
loop-at-smaller c =
    let next = line_next c.loop-at.invariant.0 c.loop-at-test.true c.line_at-result_line.ensures (result_frame_lem _ c.in-Ok.ensures.result) in
    omega (arith, next.0.within, next.1)

pub loop-at-preserved : goal.loop-at-preserved
loop-at-preserved c =
    let loop = c.loop-at in
    let taken = c.in-Ok.ensures in (
      (line_next loop.invariant.0 c.loop-at-test.true c.line_at-result_line.ensures (result_frame_lem _ taken.result)).0,
      λ s. let sofar = loop.invariant.1 s in (
        taken.proper sofar.0,
        λ last. line_comes loop.invariant.0 c.loop-at-test.true c.line_at-result_line.ensures _ (sofar.1 last) (taken.right last sofar.0),
      ),
    )

pub returns-in-Err : goal.returns-in-Err
returns-in-Err c last s =
    let loop = c.loop-at in
    let sofar = loop.invariant.1 s in
    record {
      right = line_comes loop.invariant.0 c.loop-at-test.true c.line_at-result_line.ensures _ (sofar.1 last) (c.in-Err.ensures.right last sofar.0);
      file = refl;
    }

pub returns-then-is_ended : goal.returns-then-is_ended
returns-then-is_ended c last s =
    let loop = c.loop-at in
    let sofar = loop.invariant.1 s in
    let ended = rest_none loop.invariant.0 c.loop-at-test.false _ true (sym c.is_ended.ensures ∙ c.if-is_ended.true) in
    record { right = sofar.1 last ∙ ended; sound = sofar.0.sound }

pub returns : goal.returns
returns c last s =
    let loop = c.loop-at in
    let ended = rest_none loop.invariant.0 c.loop-at-test.false _ false (sym c.is_ended.ensures ∙ c.if-is_ended.false) in
    record { right = (loop.invariant.1 s).1 last ∙ ended; file = refl }
