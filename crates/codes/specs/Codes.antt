-- An answer as one number, for a host program.
use Rattle.std.specs.Prelude.{ℕ, ◌+◌, ◌*◌, min, eqb, Result, Ok, Err}
use Rattle.rules.specs.Choice.{pick}
use Rattle.rules.specs.Limits.{widest}
use Rattle.rules.specs.Numbers.{number_of, Answered, TextSize}
use Rattle.rules.specs.OnSheets.{file_of, line_of}
use Rattle.rules.specs.declared.Fault.{Fault}

-- the first number of more than 32 bits, and a refusal's number
abbrev pub refusal_code : ℕ → ℕ
refusal_code e = 4294967296 + e

-- a value where the call is not refused, which is number 0
unfoldable pub code_of : ℕ → ℕ → ℕ
code_of number value = pick (eqb number 0) value (refusal_code number)

-- the value, which has 32 bits, or the refusal
abbrev pub answer_code : Answered → ℕ
answer_code a = code_of a.number a.value

-- the text's length, or the refusal
abbrev pub size_code : TextSize → ℕ
size_code s = code_of s.number s.size

-- ---- calls on a sheet
-- a refusal's number, and behind it the file and the line of its fault: 8 bits for the number, 8 for the file, 16 for the line
abbrev pub fault_code : ℕ → ℕ → ℕ → ℕ
fault_code e file line = refusal_code e + 256 * file + 65536 * line

-- the length of the sheet after the call, or the refusal, with a line of at most 16 bits
abbrev pub call_code_of : Result ℕ Fault → ℕ
call_code_of (Ok n) = n
call_code_of (Err f) = fault_code (number_of f.refusal) (file_of f.place) (min (line_of f.place) widest)
