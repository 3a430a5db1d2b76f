-- What a program says to a call's answer, said by `?`: the value, or the refusal's number. Assumes nothing.
use mathlib.Core.Path.{◌≡◌}
use borrow.Author.Tests.{ne_eqb}
use Rattle.rules.specs.Numbers.{number_of, refuses}
use Rattle.rules.specs.declared.Refusal.{Refusal}
use Rattle.rules.proofs.RefusalLaws.{never_zero}
use Rattle.program_words.specs.Saying.{refused, said_of}

pub refusal_said : (e : Refusal) → said_of (refuses (number_of e)) ≡ refused (number_of e)
refusal_said e = rw (ne_eqb (number_of e) 0 (never_zero e))
