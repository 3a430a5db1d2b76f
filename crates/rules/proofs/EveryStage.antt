-- What is so at every stage of a sheet. Assumes nothing.
use mathlib.Core.Path.{◌≡◌, refl}
use Rattle.rules.specs.Stages.{may_stand}
use Rattle.rules.specs.declared.Stage.{Stage}
use Rattle.rules.specs.declared.Stage.TheVariants as stage

pub at_every_stage : (P : Stage → Type 0) → P stage.Start → P stage.Lot → P stage.Card → P stage.Critical → P stage.Range → P stage.Result → P stage.End
    → (s : Stage) → P s
at_every_stage P a b c d e f g stage.Start = a
at_every_stage P a b c d e f g stage.Lot = b
at_every_stage P a b c d e f g stage.Card = c
at_every_stage P a b c d e f g stage.Critical = d
at_every_stage P a b c d e f g stage.Range = e
at_every_stage P a b c d e f g stage.Result = f
at_every_stage P a b c d e f g stage.End = g

-- a result, the end and a weighed result may stand at the same places
pub end_stands : (s : Stage) → may_stand 6 s ≡ may_stand 5 s
end_stands = at_every_stage (λ s. may_stand 6 s ≡ may_stand 5 s) refl refl refl refl refl refl refl

pub balance_stands : (s : Stage) → may_stand 7 s ≡ may_stand 5 s
balance_stands = at_every_stage (λ s. may_stand 7 s ≡ may_stand 5 s) refl refl refl refl refl refl refl
