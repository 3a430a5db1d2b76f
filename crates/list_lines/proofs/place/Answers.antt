-- `list_lines::place` meets its contract. Assumes nothing.
use Rattle.std.proofs.Common.{rules, tests, eqb, ◌∙◌}
use Rattle.std.proofs.lemmas.Iterator.{YieldsList-from_slice}
use Rattle.std.proofs.lemmas.Iterator.Search.{position_from_yields_List}
use Rattle.list_lines.proofs.LineLaws.{place_is}
use Rattle.list_lines.proofs.place.Goals as goal

pub returns : goal.returns
returns c =
    position_from_yields_List (λ x. eqb x c.args.b) _ _ _ c.position.ensures.ran (YieldsList-from_slice c.args.s.now cc) (λ x b q k. search (rules, tests))
    ∙ place_is c.args.b c.args.s.now
