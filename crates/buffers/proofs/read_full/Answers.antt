use Rattle.std.proofs.Common.{sym, subst, rules}
use Rattle.std.specs.Io.KnownBytes.{Consumes}
use Rattle.std.proofs.KnownBytes.{Consumes-trans}
use Rattle.buffers.proofs.Reading.{take-put_mid_more}
use Rattle.buffers.proofs.read_full.Goals as goal

pub loop-done-preserved : goal.loop-done-preserved
loop-done-preserved g c = record {
  within = search rules;
  bytes = subst (Consumes _ _) (sym (take-put_mid_more _ _ _ _ _ c.loop-done.invariant.within c.in_ok-n.ensures.bound.0)) (Consumes-trans _ _ _ _ _ c.loop-done.invariant.bytes c.in_ok-n.ensures.bytes.0);
}
