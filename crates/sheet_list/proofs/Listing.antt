-- What is printed for a sheet, from the answers that lead to it, and that it fits. Assumes nothing.
use Rattle.std.specs.Prelude.{Result}
use mathlib.Core.Path.{◌≡◌}
use mathlib.Core.List.{List}
use Prim.Native.Nat.{ℕ, ◌≤◌}
use native.Mathlib.Omega.{arith}
use lib.ListN.{length}
use Rattle.rules.specs.Numbers.{TextAnswer, number_of, text_answer}
use Rattle.rules.specs.Text.{laid_in}
use Rattle.rules.specs.Reading.{read_of}
use Rattle.rules.specs.Printing.{refused_line, listed_for}
use Rattle.rules.specs.declared.Refusal.{Refusal}
use Rattle.reading_theorems.specs.Lengths.{longest_list}
use Rattle.reading_theorems.proofs.Longest.{refused_most}
use Rattle.rules.specs.OnSheets.{line_of}
use Rattle.rules.specs.declared.Fault.{Fault}
use Rattle.rules.proofs.Capacity.{capacity}
use Rattle.tally.specs.declared.Tally.{Tally}
use Rattle.sheet.specs.Promise.{FaultOf, TallyOf}
use Rattle.list_writer.specs.Promise.{WroteList}
use Rattle.list_writer.proofs.ListLength.{list_most}

module _ (s d : List ℕ) where
  pub listed_refused : (f : Fault) → FaultOf (read_of s) f → {line : ℕ} → line ≡ line_of f.place → {x : TextAnswer} → x ≡ laid_in (refused_line (number_of f.refusal) line) d
      → (x ≡ laid_in (listed_for s) d) × (length (listed_for s) ≤ longest_list)
  unfolding listed_for
  listed_refused f reads {line} q h = rw (reads.right, ← q) (h, omega (arith, refused_most (number_of f.refusal) line))

  pub listed_accepted : {t : Tally} {lines : ℕ} → TallyOf (read_of s) t lines → {p : Result ℕ Refusal} {e : List ℕ} → WroteList t d e p
      → (text_answer p e ≡ laid_in (listed_for s) d) × (length (listed_for s) ≤ longest_list)
  unfolding listed_for
  listed_accepted {t} reads w = rw reads.right (w.right reads.sound, omega (arith, list_most t reads.sound, reads.sound.small, capacity))
