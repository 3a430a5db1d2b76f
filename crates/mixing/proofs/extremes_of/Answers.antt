use Rattle.std.proofs.Common.{rules, ◌≡◌}
use Rattle.std.specs.List.{fold}
use Rattle.std.proofs.iter.runs.Made.{chains}
use Rattle.mixing.proofs.Extremes.{wider, gathered}
use Rattle.mixing.proofs.extremes_of.Goals as goal

pub returns : goal.returns
returns c =
    let folded : c.fold.result ≡ fold wider (0, 10000) c.args.results.now = search (rules, chains) in gathered _ folded
