-- What a call that writes answers a host program.
use Rattle.std.specs.Prelude.{List, ℕ, eqb}
use Rattle.rules.specs.Choice.{pick}
use Rattle.rules.specs.Numbers.{TextAnswer}
use Rattle.rules.specs.Reading.{SheetOutcome, accepted, refused, read_of}
use Rattle.rules.specs.Writing.{write_on}
use Rattle.rules.specs.OnSheets.{SheetAnswer}
use Rattle.codes.specs.Codes.{refusal_code, code_of, fault_code}

-- what a call answers, and the whole buffer afterwards
pub record CodeAndBytes : Type 0 where
  pub code : ℕ
  pub bytes : List ℕ

abbrev pub code_and_bytes : ℕ → List ℕ → CodeAndBytes
code_and_bytes r b = record { code = r; bytes = b }

abbrev pub text_code : TextAnswer → CodeAndBytes
text_code t = code_and_bytes (code_of t.number t.size) t.bytes

-- a sheet that was read, written back: as the writer has it; or the reader's refusal, and the buffer as it was
abbrev pub written_back : SheetOutcome → List ℕ → CodeAndBytes
written_back (accepted g lines) d = text_code (write_on g d)
written_back (refused e line) d = code_and_bytes (refusal_code e) d

abbrev pub rewrite_on : List ℕ → List ℕ → CodeAndBytes
rewrite_on sheet d = written_back (read_of sheet) d

-- a call on a sheet: the length of the sheet after it; or the refusal, with the file and the exact line of its fault
abbrev pub call_code : SheetAnswer → CodeAndBytes
call_code a = code_and_bytes (pick (eqb a.number 0) a.size (fault_code a.number a.file a.line)) a.bytes
