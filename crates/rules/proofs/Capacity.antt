-- The one law on how many results are held at most: the number of the definitions is that of the code. Every proof that has to know it
-- cites this. Assumes nothing.
use mathlib.Core.Path.{◌≡◌, refl}
use Rattle.rules.specs.Limits.{most_held}
use Rattle.rules.specs.declared.TheConstants.{MOST_HELD}

pub capacity : most_held ≡ MOST_HELD
unfolding most_held
capacity = refl
