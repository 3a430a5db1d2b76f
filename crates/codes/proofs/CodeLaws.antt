-- The code of an answer, by its number and its value. Assumes nothing.
use mathlib.Core.Path.{◌≡◌, refl}
use Prim.Native.Nat.{ℕ}
use borrow.Author.Tests.{ne_eqb}
use Rattle.rules.specs.Numbers.{number_of}
use Rattle.rules.specs.declared.Refusal.{Refusal}
use Rattle.rules.proofs.RefusalLaws.{never_zero}
use Rattle.codes.specs.Codes.{refusal_code, code_of}

pub value : (v : ℕ) → code_of 0 v ≡ v
unfolding code_of
value v = refl

pub refused : (e : Refusal) → code_of (number_of e) 0 ≡ refusal_code (number_of e)
unfolding code_of
refused e = rw (ne_eqb (number_of e) 0 (never_zero e)) refl

pub ruleset code_laws = (value, refused)
