-- `cutter::cut` meets its contract.
use mathlib.Core.Path.{◌≡◌, ap}
use Prim.Native.Nat.{ℕ, ◌+◌, min}
use native.Mathlib.Omega.{arith}
use lib.ListN.{length}
use Rattle.std.proofs.lemmas.List.{take_rest}
use Rattle.rules.specs.Fields.{is_digit}
use Rattle.cutter.proofs.Runs.{run_is, run_part}
use Rattle.cutter.proofs.cut.Goals as goal

pub returns : goal.returns
returns c =
    let s = c.args.sheet in
    let b = c.min-start in
    let q : b.result + s.ref_ptr.1 ≡ s.ref_ptr.1 + min c.args.at (length s.now) = omega arith in
    record {
      bytes = run_part is_digit s.now c.args.at b.result (b.result + c.line_end.result) b.ensures (rw (c.line_end.ensures, take_rest, run_is));
      place = ap (λ (n : ℕ). (s.ref_ptr.0, n)) q;
    }
