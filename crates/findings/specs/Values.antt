-- H and R, each from what it is worked out of and what it is set against.
use Rattle.std.specs.Prelude.{ℕ, ltb, Option}
use Rattle.rules.specs.Attributes.{places_of_x}
use Rattle.rules.specs.Figures.{reported_h, exceeds, range_of, verdict_on}
use Rattle.rules.specs.declared.Attribute.{Attribute}
use Rattle.rules.specs.declared.Figures.{Figures}
use Rattle.rules.specs.declared.Fraction.{Fraction}
use Rattle.rules.specs.declared.Side.TheVariants.{Unrounded}
use Rattle.rules.specs.declared.Value.{Value}

-- H of V/W and G, against a critical value
abbrev pub h_against : Fraction → ℕ → Option ℕ → Value
h_against q g l =
    record {
      places = 2;
      value = (reported_h q g).nearest;
      side = (reported_h q g).side;
      limit = l;
      verdict = verdict_on (λ v. exceeds q g v) l;
    }

-- R of the figures, against a tolerated range
abbrev pub r_against : Attribute → Figures → Option ℕ → Value
r_against a f l =
    record { places = places_of_x a; value = range_of f; side = Unrounded; limit = l; verdict = verdict_on (λ v. ltb v (range_of f)) l }
