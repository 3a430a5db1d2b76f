-- A text that fits stands at the front of the buffer. Assumes nothing.
use mathlib.Core.Path.{◌≡◌, refl, ap, ◌∙◌}
use Rattle.std.specs.Prelude.{Result, Ok, Err}
use Rattle.std.specs.Result.{result_unwrap_or}
use mathlib.Core.List.{List}
use Prim.Native.Nat.{ℕ, ◌≤◌}
use native.Mathlib.Omega.{arith}
use lib.ListN.{length}
use Rattle.rules.specs.Numbers.{TextAnswer, text_size, text_answer}
use Rattle.rules.specs.Text.{laid_in}
use Rattle.rules.specs.declared.Refusal.{Refusal}
use Rattle.rules.proofs.TextLaws.{fits_is}
use Rattle.buffers.specs.Counts.{IsPrefixLen}
use Rattle.buffers.proofs.Counting.{prefix_len_of_le}
use Rattle.decimal.specs.Laying.{Laid}

size_of : (r : Result ℕ Refusal) → result_unwrap_or r 0 ≡ (text_size r).size
size_of (Ok n) = refl
size_of (Err e) = refl

pub laid_text : (t d e : List ℕ) (r : Result ℕ Refusal) (n : ℕ) → n ≡ result_unwrap_or r 0 → text_answer r e ≡ laid_in t d → length t ≤ length d → length e ≡ length d
    → Laid t d e n × IsPrefixLen n e
laid_text t d e r n i q h k =
    let laid = q ∙ fits_is t d h in
    let size : n ≡ length t = i ∙ size_of r ∙ ap (λ (t : TextAnswer). t.size) laid in
    (record { count = size; text = ap (λ (t : TextAnswer). t.bytes) laid }, prefix_len_of_le n e (omega arith))
