-- What lotsampling, lottolerance and lotmixing say to their words.
use Rattle.std.specs.Prelude.{Bool, ℕ, eqb, Option, Some, None, Result, Ok, Err}
use Rattle.rules.specs.Choice.{pick}
use Rattle.rules.specs.Numbers.{Answered, number_of}
use Rattle.program_words.specs.declared.Unsaid.{Unsaid}
use Rattle.program_words.specs.declared.Unsaid.TheVariants.{Usage, Refused}

-- how the program is used, a refusal's number, or a value
pub data Said : Type 0 where
  usage : Said
  refused : ℕ → Said
  value : ℕ → Said

-- to a call's answer: the refusal's number, or the value
abbrev pub said_of : Answered → Said
said_of a = pick (eqb a.number 0) (value a.value) (refused a.number)

-- two words: their numbers where there are as many words as the program takes and both are plain decimal numbers
abbrev pub two_numbers : Bool → Option ℕ → Option ℕ → Option (ℕ × ℕ)
two_numbers counted (Some a) (Some b) = pick counted (Some (a, b)) None
two_numbers counted (Some a) None = None
two_numbers counted None w = None

-- to two numbers: what a call says; else how the program is used
abbrev pub said_to_two : (ℕ → ℕ → Said) → Option (ℕ × ℕ) → Said
said_to_two call (Some p) = call p.0 p.1
said_to_two call None = usage

-- ---- what an answer of the program's code says
abbrev pub in_place_of_value : Unsaid → Said
in_place_of_value Usage = usage
in_place_of_value (Refused e) = refused (number_of e)

abbrev pub number_said : Result ℕ Unsaid → Said
number_said (Ok v) = value v
number_said (Err e) = in_place_of_value e

-- 1 for within and for mixable, 0 for out and for not mixable
abbrev pub test_said : Result Bool Unsaid → Said
test_said (Ok b) = value (pick b 1 0)
test_said (Err e) = in_place_of_value e
