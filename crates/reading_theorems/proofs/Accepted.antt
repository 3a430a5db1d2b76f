-- A sheet that is accepted: each of its lines is taken, and the last one is its end. Assumes nothing.
use mathlib.Core.Path.{◌≡◌, refl}
use mathlib.Core.Bool.{Bool, true, false}
use mathlib.Core.List.{List, [], ◌∷◌}
use Prim.Native.Nat.{ℕ, ◌+◌}
use native.Mathlib.Omega.{arith}
use lib.ListN.{length}
use Rattle.rules.specs.Choice.{pick}
use Rattle.rules.specs.Ledger.{Ledger}
use Rattle.rules.specs.Stages.{is_ended}
use Rattle.rules.specs.Lines.{Line, ended, unended, lines_of}
use Rattle.rules.specs.Frames.{frame_of}
use Rattle.rules.specs.Reading.{State, Next, goes, stops, accepted, refused, step_of, after, read_from, at_start, read_of}
use Rattle.rules.proofs.Taken.{Taken, taken}

-- the lines that lead from a state to another, each of them taken
pub data Leads : State → List Line → State → Type 0 where
  nothing : {s : State} → Leads s [] s
  line : {s u v : State} {d : List ℕ} {ls : List Line} → Taken s (frame_of d) u → Leads u ls v → Leads s (ended d ∷ ls) v

-- the lines ls, behind n lines that led to s, are accepted as g with m lines
pub record AcceptedFrom (ls : List Line) (s : State) (n : ℕ) (g : Ledger) (m : ℕ) : Type 0 where
  pub last : State
  pub leads : Leads s ls last
  pub ends : is_ended last.stage ≡ true
  pub ledger : last.ledger ≡ g
  pub lines : m ≡ n + length ls

pub refused_not : {A : Type 0} {g : Ledger} {m e n : ℕ} → refused e n ≡ accepted g m → A
refused_not q = absurd (let z : ◌≡◌ {A = ℕ} 0 1 = cc in omega arith)

pub same_ledger : {g h : Ledger} {m n : ℕ} → accepted g m ≡ accepted h n → g ≡ h
same_ledger q = cc

pub same_lines : {g h : Ledger} {m n : ℕ} → accepted g m ≡ accepted h n → m ≡ n
same_lines q = cc

pub accepted_from : (ls : List Line) (s : State) (n : ℕ) (g : Ledger) (m : ℕ) → read_from ls s n ≡ accepted g m → AcceptedFrom ls s n g m
unfolding read_from
accepted_from [] s n g m q = by (is_ended s.stage) refl q
  where
    by : (b : Bool) → is_ended s.stage ≡ b → pick b (accepted s.ledger n) (refused 2 (n + 1)) ≡ accepted g m → AcceptedFrom [] s n g m
    by true e q = record { last = s; leads = nothing; ends = e; ledger = same_ledger q; lines = omega (arith, same_lines q) }
    by false e q = refused_not q
accepted_from (unended ∷ ls) s n g m q = refused_not q
accepted_from (ended d ∷ ls) s n g m q = by (step_of (frame_of d) s) refl (λ u. accepted_from ls u (n + 1) g m) q
  where
    by : (x : Next) → step_of (frame_of d) s ≡ x → ((u : State) → read_from ls u (n + 1) ≡ accepted g m → AcceptedFrom ls u (n + 1) g m)
        → after x (n + 1) (λ t. read_from ls t (n + 1)) ≡ accepted g m → AcceptedFrom (ended d ∷ ls) s n g m
    by (goes u) e rest q =
        let r = rest u q in
        record { last = r.last; leads = line (taken (frame_of d) s u e) r.leads; ends = r.ends; ledger = r.ledger; lines = omega (arith, r.lines) }
    by (stops e) f rest q = refused_not q

pub accepted_sheet : (sheet : List ℕ) (g : Ledger) (m : ℕ) → read_of sheet ≡ accepted g m → AcceptedFrom (lines_of sheet) at_start 0 g m
unfolding read_of
accepted_sheet sheet g m q = accepted_from (lines_of sheet) at_start 0 g m q
