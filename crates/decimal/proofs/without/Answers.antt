-- As many turns as k, each of which takes a digit off.
use Rattle.std.proofs.Common.{◌≡◌, List, [], ◌∷◌, ◌++◌, ℕ, ◌/◌, ◌^◌, length, refl, rules, add-one, length-append}
use Rattle.std.specs.List.{range_with_len}
use Rattle.std.proofs.iter.Yields.{nat_range_steps}
use Rattle.std.proofs.lemmas.Fn.{fold_over}
use Rattle.std.proofs.lemmas.Iterator.{YieldsList-from_range}
use Rattle.std.proofs.lemmas.List.FromFn.{length-range_with_len}
use native.Mathlib.Nat.{div-div-eq-div-mul, pow-suc, sub-zero}
use Rattle.decimal.proofs.without.Goals as goal

-- one turn more
turn : (n a b : ℕ) (x : ℕ) (ys : List ℕ) → a ≡ n / 10 ^ length ys → b ≡ a / 10 → b ≡ n / 10 ^ length (ys ++ (x ∷ []))
turn n a b x ys e f = rw (f, e, length-append, add-one, pow-suc, ← div-div-eq-div-mul)

pub returns : goal.returns
returns c =
    rw (← length-range_with_len 0 c.args.k)
    (fold_over nat_range_steps (λ x. x) _ (λ (turns : List ℕ) (rest : ℕ). rest ≡ c.args.n / 10 ^ length turns) _
    (λ ys a x b f e k. (turn _ _ _ _ _ e (search rules), search rules)) _ (range_with_len 0 c.args.k) c.args.n c.fold.result
    (YieldsList-from_range 0 c.args.k c.args.k refl (sub-zero _)).runs (search rules) c.fold.ensures.ran)
