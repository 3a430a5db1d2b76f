-- `tally::enter_in` meets its promise: one place more, or the very lists. Assumes nothing.
use mathlib.Core.Path.{refl}
use Prim.Native.Nat.{◌<◌}
use native.Mathlib.Omega.{arith}
use Rattle.std.specs.Prelude.{Ok, Err}
use Rattle.rules.proofs.RefusalLaws.{never_zero, passed_on}
use Rattle.rules.proofs.Capacity.{capacity}
use Rattle.tally.proofs.Steps.{enter_in_room, enters_in, enters_not_in}
use Rattle.tally.proofs.enter_in.Goals as goal
use Rattle.tally.proofs.enter_in.Goals.{In_ok-check_enter}

-- there is room for one more
room : (c : In_ok-check_enter) → c.args.held < 200
room c =
    let a = c.args in
    rw (← capacity) (enter_in_room a.lot a.containers.now a.results.now a.held a.container a.x (Ok tt) c.in_ok-check_enter.ensures refl)

pub offset_bounds-containers-held : goal.offset_bounds-containers-held
offset_bounds-containers-held c = omega (arith, room c)

pub bounds-containers-held : goal.bounds-containers-held
bounds-containers-held c = room (goal.at.bounds-containers-held c).In_ok-check_enter

pub offset_bounds-results-held : goal.offset_bounds-results-held
offset_bounds-results-held c = omega (arith, room (goal.at.offset_bounds-results-held c).In_ok-check_enter)

pub bounds-results-held : goal.bounds-results-held
bounds-results-held c = room (goal.at.bounds-results-held c).In_ok-check_enter

pub returns-in_err-check_enter : goal.returns-in_err-check_enter
returns-in_err-check_enter c =
    rw (passed_on c.from_residual.ensures.1) (enters_not_in _ _ _ _ _ _ (Err _) c.in_err-check_enter.ensures (never_zero _))

pub returns : goal.returns
returns c = enters_in _ _ _ _ _ _ (Ok tt) c.in_ok-check_enter.ensures refl
