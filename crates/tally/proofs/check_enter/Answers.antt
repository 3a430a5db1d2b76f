-- `tally::check_enter` meets its promise. Assumes nothing.
use Rattle.std.proofs.Common.{rules, ap, ◌∙◌}
use borrow.Author.Tests.{le-ltb}
use Rattle.rules.specs.Contents.{is_held, Contents}
use Rattle.rules.proofs.Capacity.{capacity}
use Rattle.tally.specs.Calls.{on_lists}
use Rattle.tally.proofs.Steps.{same_stored, already_held, is_full, may_enter}
use Rattle.tally.proofs.check_enter.Goals as goal

pub returns-then-found : goal.returns-then-found
returns-then-found c vs =
    let a = c.args in
    let ks = a.containers.now in
    let look = c.held_containers.ensures in
    let found = c.is_held-found.ensures vs ∙ ap (λ (f : Contents). is_held (f a.container)) (same_stored ks a.held c.held_containers.result.now look.0 look.1 vs) in
    already_held (on_lists a.lot ks vs a.held) a.container a.x (search rules) (le-ltb 10000 a.x c.if-high.false) _ found c.if-found.true

pub returns-then-full : goal.returns-then-full
returns-then-full c vs =
    let a = c.args in
    let ks = a.containers.now in
    let look = c.held_containers.ensures in
    let found = c.is_held-found.ensures vs ∙ ap (λ (f : Contents). is_held (f a.container)) (same_stored ks a.held c.held_containers.result.now look.0 look.1 vs) in
    is_full (on_lists a.lot ks vs a.held) a.container a.x (search rules) (le-ltb 10000 a.x c.if-high.false) _ found (search rules) (search (rules, capacity))

pub returns : goal.returns
returns c vs =
    let a = c.args in
    let ks = a.containers.now in
    let look = c.held_containers.ensures in
    let found = c.is_held-found.ensures vs ∙ ap (λ (f : Contents). is_held (f a.container)) (same_stored ks a.held c.held_containers.result.now look.0 look.1 vs) in
    may_enter (on_lists a.lot ks vs a.held) a.container a.x (search rules) (le-ltb 10000 a.x c.if-high.false) _ found c.if-found.false (search (rules, capacity))
