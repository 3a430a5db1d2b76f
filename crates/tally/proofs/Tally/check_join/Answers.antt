-- `tally::Tally::check_join` meets its promise: one law for each answer. Assumes nothing.
use Rattle.std.proofs.Common.{sym, ◌∙◌}
use Rattle.tally.proofs.Joining.{met_in, join_shared, join_many, join_good}
use Rattle.tally.proofs.Tally.check_join.Goals as goal
use Rattle.rules.proofs.Capacity.{capacity}

pub returns-then-meet : goal.returns-then-meet
returns-then-meet c =
    let t = c.args.self.now in
    let o = c.args.other.now in
    let a = c.held_containers-held.ensures in
    let b = c.held_containers-others.ensures in
    join_shared t o (sym c.is_alike.ensures ∙ c.if-not-is_alike.false) _ (c.meet.ensures t.results ∙ met_in t o _ _ a.0 a.1 b.0 b.1) c.if-meet.true

pub returns-then-self-other-gt-MOST_HELD : goal.returns-then-self-other-gt-MOST_HELD
returns-then-self-other-gt-MOST_HELD c =
    let t = c.args.self.now in
    let o = c.args.other.now in
    let a = c.held_containers-held.ensures in
    let b = c.held_containers-others.ensures in
    join_many t o (sym c.is_alike.ensures ∙ c.if-not-is_alike.false) _ (c.meet.ensures t.results ∙ met_in t o _ _ a.0 a.1 b.0 b.1) c.if-meet.false
    (rw capacity c.if-self-other-gt-MOST_HELD.true)

pub returns : goal.returns
returns c =
    let t = c.args.self.now in
    let o = c.args.other.now in
    let a = c.held_containers-held.ensures in
    let b = c.held_containers-others.ensures in
    join_good t o (sym c.is_alike.ensures ∙ c.if-not-is_alike.false) _ (c.meet.ensures t.results ∙ met_in t o _ _ a.0 a.1 b.0 b.1) c.if-meet.false
    (rw capacity c.if-self-other-gt-MOST_HELD.false)
