-- A text that takes the reader from one state to another, whatever stands behind it. Assumes nothing.
use mathlib.Core.Path.{◌≡◌, refl, ap, ◌∙◌}
use mathlib.Core.List.{List, [], ◌∷◌, ◌++◌, append_assoc}
use Prim.Native.Nat.{ℕ, ◌+◌}
use Rattle.rules.specs.Lines.{lines_of}
use Rattle.rules.specs.Reading.{State, goes, step_of, read_from}
use Rattle.rules.specs.declared.Frame.{Frame}
use Rattle.round_trip_theorems.proofs.Spelled.{Spells, line_first}

-- from s, to a state of which P holds
pub record Reaches (x : List ℕ) (s : State) (P : State → Type 0) : Type 0 where
  pub last : State
  pub holds : P last
  -- how many lines have been read, where n had been
  pub lines : ℕ → ℕ
  pub same : (rest : List ℕ) (n : ℕ) → read_from (lines_of (x ++ rest)) s n ≡ read_from (lines_of rest) last (lines n)

module _ (P : State → Type 0) where
  pub reach_none : (s : State) → P s → Reaches [] s P
  reach_none s h = record { last = s; holds = h; lines = λ n. n; same = λ rest n. refl }

  pub reach_line : (x : List ℕ) (f : Frame) (s u : State) → Spells x f → step_of f s ≡ goes u → P u → Reaches x s P
  unfolding read_from
  reach_line x f s u p r h = record {
    last = u;
    holds = h;
    lines = λ n. n + 1;
    same = λ rest n. ap (λ (l : List ℕ). read_from (lines_of (l ++ rest)) s n) p.ends ∙ rw append_assoc (step rest n);
  }
    where
      step : (rest : List ℕ) (n : ℕ) → read_from (lines_of (p.digits ++ (10 ∷ rest))) s n ≡ read_from (lines_of rest) u (n + 1)
      step rest n = rw (line_first p.digits rest p.all, p.is, r) refl

  pub reach_then : (Q : State → Type 0) (x y : List ℕ) (s : State) → Reaches x s P → ((u : State) → P u → Reaches y u Q) → Reaches (x ++ y) s Q
  reach_then Q x y s a next =
      let b = next a.last a.holds in
      record {
        last = b.last;
        holds = b.holds;
        lines = λ n. b.lines (a.lines n);
        same = λ rest n. rw append_assoc (a.same (y ++ rest) n ∙ b.same rest (a.lines n));
      }
