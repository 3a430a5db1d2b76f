-- What `try_fold` over a slice comes to, by what each of its calls does. Assumes nothing.
use mathlib.Core.Path.{◌≡◌, sym, ap, ◌∙◌}
use mathlib.Core.List.{List, [], ◌∷◌}
use native.Mathlib.Omega.{arith}
use lib.ListN.{length}
use denote.Ref.{Bor}
use Rattle.std.specs.Prelude.{Option, Some, None, MatchOption, option_and_then}
use Rattle.std.specs.List.{FoldsTo}
use Rattle.std.specs.Iterator.{YieldsThen}
use Rattle.std.proofs.Common.{Iter}
use Rattle.std.proofs.iter.Yields.{fronts}

-- a walk over a list, a step at each item, up to the first item at which there is none
abbrev pub walked : {A B : Type 0} → (B → A → Option B) → B → List A → Option B
walked step b [] = Some b
walked step b (x ∷ xs) = option_and_then (λ c. walked step c xs) (step b x)

module _ {A B F : Type 0} (Turn : F × B → Bor A → F × B → Type 0) (Stop : F → B → Bor A → Type 0) (step : B → A → Option B)
    (turns : (p : F × B) (x : Bor A) (q : F × B) → Turn p x q → step p.1 x.now ≡ Some q.1) (r : Option B)
    (stops : (f : F) (b : B) (x : Bor A) → Stop f b x → (step b x.now ≡ None) × (r ≡ None)) where
  nothing_left : (w : List A) (b a : B) → length w ≡ 0 → r ≡ Some a → a ≡ b → r ≡ walked step b w
  nothing_left [] b a z e k = cc
  nothing_left (x ∷ w) b a z e k = absurd (omega arith)

  ended : (xs : List (Bor A)) (o : Option (Bor A)) (f f' : F) (b a : B) (s u : Iter A)
      → YieldsThen fronts s xs o u → FoldsTo Turn (f, b) xs (f', a) → MatchOption o (r ≡ Some a) (Stop f' a) → r ≡ walked step b s.rest.now
  ended [] None f f' b a s u y t e =
      let same : a ≡ b = sym (ap (λ (q : F × B). q.1) t) in
      let end : length s.rest.now ≡ 0 = ap (λ (i : Iter A). length i.rest.now) y.1 ∙ y.2.0 in
      nothing_left s.rest.now b a end e same
  ended [] (Some x) f f' b a s u y t e =
      let same : a ≡ b = sym (ap (λ (q : F × B). q.1) t) in
      let at : s.rest.now ≡ x.now ∷ u.rest.now = ap (λ (i : Iter A). i.rest.now) y.1 ∙ y.2 in
      let end = stops f' a x e in
      rw (at, ← same, end.0) end.1
  ended (x ∷ xs) o f f' b a s u y t e =
      let at : s.rest.now ≡ x.now ∷ y.1.0.rest.now = y.1.1 in
      rw (at, turns (f, b) x t.0 t.1) (ended xs o t.0.0 f' t.0.1 a y.1.0 u (y.0, y.1.2, y.2) t.2 e)

-- the same from what `try_fold` says of its calls on w
pub walk_ends : {A B F : Type 0} {Turn : F × B → Bor A → F × B → Type 0} {Stop : F → B → Bor A → Type 0} (step : B → A → Option B)
    (f : F) (b : B) (r : Option B) (s u : Iter A) (w : List A) → s.rest.now ≡ w
    → (xs : List (Bor A)) × (o : Option (Bor A)) × (f' : F) × (a : B) × YieldsThen fronts s xs o u × FoldsTo Turn (f, b) xs (f', a)
    × MatchOption o (r ≡ Some a) (Stop f' a)
    → ((p : F × B) (x : Bor A) (q : F × B) → Turn p x q → step p.1 x.now ≡ Some q.1)
    → ((f : F) (b : B) (x : Bor A) → Stop f b x → (step b x.now ≡ None) × (r ≡ None)) → r ≡ walked step b w
walk_ends step f b r s u w e h turns stops =
    ended _ _ step turns r stops h.0 h.1 f h.2 b h.3 s u h.4 h.5 h.6 ∙ ap (walked step b) e
