-- A text in a buffer, read off an answer. Assumes nothing.
use Prim.Native.Nat.{ℕ}
use mathlib.Core.Path.{◌≡◌, refl, ap}
use mathlib.Core.Bool.{Bool, true, false}
use mathlib.Core.List.{List}
use lib.Dec.{ltb}
use lib.ListN.{length, take, drop}
use lib.Seq.{take_at}
use borrow.Author.Tests.{eqb-false}
use Rattle.rules.specs.Choice.{pick}
use Rattle.rules.specs.Numbers.{TextAnswer, wrote, refuses_text}
use Rattle.rules.specs.Text.{laid, laid_in}
use Rattle.rules.proofs.TextLaws.{drop_laid}

-- an answer with a text at the buffer's front; that of a refusal is empty
abbrev pub with_text : ℕ → List ℕ → List ℕ → TextAnswer
with_text e t b = record { number = e; size = length t; bytes = laid t b }

pub front_and_rest : (e : ℕ) (t b : List ℕ) (o : TextAnswer) → o ≡ with_text e t b
    → (take o.size o.bytes ≡ t) × (drop o.size o.bytes ≡ drop o.size b)
front_and_rest e t b o p = rw p (unfold laid in take_at t (drop (length t) b) (length t) refl, drop_laid t b)

-- an accepted answer has the text
pub laid_text : (t b : List ℕ) (n : ℕ) (a : List ℕ) → wrote n a ≡ laid_in t b → (take n a ≡ t) × (drop n a ≡ drop n b)
unfolding laid_in
laid_text t b n a = by (ltb (length b) (length t))
  where
    by : (q : Bool) → wrote n a ≡ pick q (refuses_text 16 b) (with_text 0 t b) → (take n a ≡ t) × (drop n a ≡ drop n b)
    by true z = absurd (eqb-false 0 16 refl (ap (λ (o : TextAnswer). o.number) z))
    by false z = front_and_rest 0 t b (wrote n a) z

-- and its length
pub laid_length : (t b : List ℕ) (n : ℕ) (a : List ℕ) → wrote n a ≡ laid_in t b → n ≡ length t
unfolding laid_in
laid_length t b n a = by (ltb (length b) (length t))
  where
    by : (q : Bool) → wrote n a ≡ pick q (refuses_text 16 b) (with_text 0 t b) → n ≡ length t
    by true z = absurd (eqb-false 0 16 refl (ap (λ (o : TextAnswer). o.number) z))
    by false z = ap (λ (o : TextAnswer). o.size) z
