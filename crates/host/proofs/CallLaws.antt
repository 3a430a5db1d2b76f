-- The answer of a call on a sheet as one number. Assumes nothing.
use mathlib.Core.Path.{◌≡◌, ap, ◌∙◌}
use mathlib.Core.List.{List}
use Prim.Native.Nat.{ℕ, ◌≤◌, min}
use native.Mathlib.Omega.{arith}
use borrow.Author.Tests.{ne_eqb}
use Rattle.std.specs.Prelude.{Result, Ok, Err}
use Rattle.rules.specs.Limits.{widest}
use Rattle.rules.specs.Numbers.{number_of}
use Rattle.rules.specs.OnSheets.{SheetAnswer, file_of, line_of, on_sheet_answer}
use Rattle.rules.specs.declared.Fault.{Fault}
use Rattle.rules.proofs.RefusalLaws.{never_zero}
use Rattle.codes.specs.Codes.{fault_code, call_code_of}
use Rattle.host.specs.Coding.{code_and_bytes, call_code}

-- a line that has 16 bits is told exactly
pub call_code_lem : (o : Result ℕ Fault) {b : List ℕ} {a : SheetAnswer} {r : ℕ} → on_sheet_answer o b ≡ a → a.line ≤ widest → r ≡ call_code_of o → code_and_bytes r b ≡ call_code a
call_code_lem (Ok n) {b} e h q = ap (λ (m : ℕ). code_and_bytes m b) q ∙ ap call_code e
call_code_lem (Err f) {b} {a} {r} e h q =
    let few : line_of f.place ≤ widest = omega (arith, ap (λ (s : SheetAnswer). s.line) e) in
    let exact : min (line_of f.place) widest ≡ line_of f.place = omega arith in
    ap (λ (m : ℕ). code_and_bytes m b) (q ∙ ap (fault_code (number_of f.refusal) (file_of f.place)) exact)
    ∙ rw (ne_eqb (number_of f.refusal) 0 (never_zero f.refusal)) at (ap call_code e)
