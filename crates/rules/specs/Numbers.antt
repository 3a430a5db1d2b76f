-- The number that documents 01 and 02 give to each refusal, and for each answer its number and its value. 0: none applies.
use Rattle.std.specs.Prelude.{ℕ, List, Bool, ⊤, Result, Ok, Err}
use Rattle.rules.specs.Choice.{pick}
use Rattle.rules.specs.declared.Refusal.{Refusal}
use Rattle.rules.specs.declared.Refusal.TheVariants.{BadLine, OutOfTurn, BadLot, BadCard, CardFull, NoSuchContainer, ResultTooHigh, AlreadyHeld, Full, NotHeld, OtherLot, SharedContainer, TooManyTogether, CountWrong, TooFew, BufferShort, OutsideTable, NotSteady, BadWeight, BadListLine}

abbrev pub number_of : Refusal → ℕ
number_of BadLine = 1
number_of OutOfTurn = 2
number_of BadLot = 3
number_of BadCard = 4
number_of CardFull = 5
number_of NoSuchContainer = 6
number_of ResultTooHigh = 7
number_of AlreadyHeld = 8
number_of Full = 9
number_of NotHeld = 10
number_of OtherLot = 11
number_of SharedContainer = 12
number_of TooManyTogether = 13
number_of CountWrong = 14
number_of TooFew = 15
number_of BufferShort = 16
number_of OutsideTable = 17
number_of NotSteady = 18
number_of BadWeight = 19
number_of BadListLine = 20

-- ---- calls that answer no value: the refusal's number, or 0
abbrev pub number_in : Result ⊤ Refusal → ℕ
number_in (Ok _) = 0
number_in (Err e) = number_of e

-- ---- calls that answer a number: the refusal's number, or 0 and the value
pub record Answered : Type 0 where
  pub number : ℕ
  pub value : ℕ

abbrev pub tells : ℕ → ℕ → Answered
tells e v = record { number = e; value = v }

-- a value, and a refusal, which has none
abbrev pub gives : ℕ → Answered
gives v = tells 0 v

abbrev pub refuses : ℕ → Answered
refuses e = tells e 0

-- the number of primary samples, tenths of a milligram, X in hundredths of a percent
abbrev pub answer_of : Result ℕ Refusal → Answered
answer_of (Ok v) = gives v
answer_of (Err e) = refuses (number_of e)

-- 1 for within and for mixable, 0 for out and for not mixable
abbrev pub test_answer : Result Bool Refusal → Answered
test_answer (Ok b) = gives (pick b 1 0)
test_answer (Err e) = refuses (number_of e)

-- ---- calls that write: the refusal's number, or 0 and the text's length
pub record TextSize : Type 0 where
  pub number : ℕ
  pub size : ℕ

abbrev pub has_size : ℕ → ℕ → TextSize
has_size e n = record { number = e; size = n }

-- a text's length, and a refusal, which has no text
abbrev pub size_is : ℕ → TextSize
size_is n = has_size 0 n

abbrev pub no_text : ℕ → TextSize
no_text e = has_size e 0

abbrev pub text_size : Result ℕ Refusal → TextSize
text_size (Ok n) = size_is n
text_size (Err e) = no_text (number_of e)

-- ---- the same with the whole buffer afterwards
pub record TextAnswer : Type 0 where
  pub number : ℕ
  pub size : ℕ
  pub bytes : List ℕ

abbrev pub with_bytes : TextSize → List ℕ → TextAnswer
with_bytes s b = record { number = s.number; size = s.size; bytes = b }

abbrev pub wrote : ℕ → List ℕ → TextAnswer
wrote n b = with_bytes (size_is n) b

abbrev pub refuses_text : ℕ → List ℕ → TextAnswer
refuses_text e b = with_bytes (no_text e) b

abbrev pub text_answer : Result ℕ Refusal → List ℕ → TextAnswer
text_answer r b = with_bytes (text_size r) b
