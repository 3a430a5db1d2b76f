-- The lines of a sheet one after the other: what a line comes to, where the next one starts, and the line with which the results
-- begin. Assumes nothing.
use mathlib.Core.Path.{◌≡◌, refl, sym, ap, ◌∙◌, subst}
use mathlib.Core.Bool.{Bool, true, false, true≢false}
use mathlib.Core.List.{List}
use Prim.Native.Nat.{ℕ, ◌+◌, ◌-◌, ◌≤◌, ◌<◌}
use native.Mathlib.Decide.{dec_le}
use native.Mathlib.Omega.{arith}
use Rattle.std.specs.Prelude.{Result, Ok, Err, ⊤, IsErrAnd}
use lib.Dec.{eqb}
use lib.ListN.{length, drop}
use borrow.Author.Tests.{ne_eqb, lt-ltb, le-ltb}
use Rattle.rules.specs.Choice.{pick, unless}
use Rattle.rules.specs.Limits.{most_held}
use Rattle.rules.specs.Numbers.{number_of}
use Rattle.rules.specs.Cards.{open_number}
use Rattle.rules.specs.Fields.{all_digits}
use Rattle.rules.specs.Lines.{lines_of}
use Rattle.rules.specs.Frames.{frame_of}
use Rattle.rules.specs.Stages.{is_opened, is_ended}
use Rattle.rules.specs.Reading.{State, Next, goes, stops, SheetOutcome, accepted, refused, step_of, after, read_from}
use Rattle.rules.specs.declared.Lot.{Lot}
use Rattle.rules.specs.declared.Card.{Card}
use Rattle.rules.specs.declared.Refusal.{Refusal}
use Rattle.rules.specs.declared.Stage.{Stage}
use Rattle.rules.specs.declared.Stage.TheVariants as stage
use Rattle.rules.specs.declared.Fault.{Fault}
use Rattle.rules.specs.declared.Frame.{Frame}
use Rattle.rules.specs.declared.Frame.TheVariants.{Bad}
use Rattle.cutter.specs.Runs.{line_at}
use Rattle.frames.specs.declared.FramedLine.{FramedLine}
use Rattle.frames.specs.Promise.{LineAt}
use Rattle.cutter.proofs.Lines.{lines_ended, lines_unended, lines_none}
use Rattle.held_lists.specs.Places.{stored}
use Rattle.tally.specs.Calls.{Opens, Sound, fresh_tally}
use Rattle.head_steps.specs.declared.Progress.{Progress}
use Rattle.head_steps.specs.Promise.{state_of, is_result, HeadEnds, just_opened}
use Rattle.result_steps.specs.Promise.{opened_state}
use Rattle.rules.proofs.EveryStage.{at_every_stage}
use Rattle.rules.proofs.RefusalLaws.{never_zero}
use Rattle.head_steps.proofs.HeadLaws.{begin_step}
use Rattle.tally.specs.View.{tally_of}
use Rattle.tally.specs.declared.Tally.{Tally}
use Rattle.sheet.specs.declared.Reading.{Reading}
use Rattle.sheet.specs.Promise.{FaultOf, ReadAs, Starts, read_rest, read_opened, HeadRead}

bad_frame : (l : List ℕ) → all_digits l ≡ false → frame_of l ≡ Bad
unfolding frame_of
bad_frame l e = rw e refl

-- a line that is taken is not bad
pub taken_frame : {u : State} (f : Frame) (t : State) → step_of f t ≡ goes u → f ≡ Bad → ⊥
taken_frame f t q e = let z : ◌≡◌ {A = ℕ} 0 1 = cc (ap (λ (g : Frame). step_of g t) e) in omega arith

pub result_frame_lem : (f : Frame) → is_result f ≡ true → f ≡ Bad → ⊥
result_frame_lem f q e = true≢false (sym q ∙ ap is_result e)

after_unless : (b : Bool) (e n : ℕ) (x : Next) (k : State → SheetOutcome) → after (unless b (stops e) x) n k ≡ unless b (refused e n) (after x n k)
after_unless true e n x k = refl
after_unless false e n x k = refl

-- ---- the line that starts at a, the n-th, with the frame and the end that were found
module _ {s : List ℕ} {a n : ℕ} {f : FramedLine} (starts : Starts s a n) (h : a < length s) (at : LineAt s a f) where
  -- where the line ends, and what is left of the sheet behind it
  abbrev over : ℕ
  over = a + length (line_at s a)

  abbrev behind : State → SheetOutcome
  behind u = read_rest s (f.end + 1) u (n + 1)

  -- a line without its end byte, with another byte than digits before it, or of digits alone
  ways : {A : Type 0} → (length s ≤ over → f.frame ≡ Bad → A) → (over < length s → f.frame ≡ frame_of (line_at s a) → f.frame ≡ Bad → A)
      → (over < length s → f.frame ≡ frame_of (line_at s a) → over ≡ f.end → A) → A
  ways {A} unended other digits = by_end (dec_le (length s) over)
    where
      by_digits : over < length s → f.frame ≡ frame_of (line_at s a) → (b : Bool) → all_digits (line_at s a) ≡ b → A
      by_digits k q true e = digits k q (sym (at.end e))
      by_digits k q false e = other k q (q ∙ bad_frame (line_at s a) e)

      by_end : Dec (length s ≤ over) → A
      by_end (yes k) = unended k (at.frame ∙ rw (le-ltb over (length s) k) refl)
      by_end (no k) =
          let i : over < length s = omega arith in
          by_digits i (at.frame ∙ rw (lt-ltb over (length s) i) refl) (all_digits (line_at s a)) refl

  -- what the sheet comes to is what the line comes to, and what is left behind it
  line_is : (t : State) → read_rest s a t n ≡ after (step_of f.frame t) n behind
  unfolding read_rest read_from
  line_is t =
      let number : n - 1 + 1 ≡ n = omega arith in
      let next : n ≡ n + 1 - 1 = omega arith in
      ways
      (λ k q. rw (lines_unended s a h k, number, q) refl)
      (λ k q r. rw (lines_ended s a k, number, ← q, r) refl)
      (λ k q e. rw (lines_ended s a k, number, ← q) (λ i. after (step_of f.frame t) n (λ u. read_from (lines_of (drop (e i + 1) s)) u (next i))))

  pub line_comes : {o : SheetOutcome} {x : Next} (t : State) → o ≡ read_rest s a t n → step_of f.frame t ≡ x → o ≡ after x n behind
  line_comes t e q = e ∙ (line_is t ∙ ap (λ (y : Next). after y n behind) q)

  -- a line that is not bad has its end byte, and the next one may start behind it
  pub line_next : (f.frame ≡ Bad → ⊥) → Starts s (f.end + 1) (n + 1) × (a < f.end + 1)
  line_next z =
      ways (λ k q. absurd (z q)) (λ k q r. absurd (z r)) (λ k q e. (record { within = omega arith; first = omega arith; few = omega arith }, omega arith))

  -- the results begin with it
  pub results_follow : {o : SheetOutcome} (p : Progress) (c d : Card) → o ≡ read_rest s a (state_of p c) n → is_opened p.stage ≡ false
      → HeadEnds f.frame p c d → HeadRead o s p.lot d p.last a n
  results_follow p c d q i e =
      let number = open_number p.lot c in
      let state = just_opened p.lot c p.last in
      record {
        right =
            line_comes (state_of p c) q (begin_step p c f.frame i e.begins)
            ∙ (after_unless (eqb number 0) number n (step_of f.frame state) behind
            ∙ (ap (unless (eqb number 0) (refused number n)) (sym (line_is state))
            ∙ ap (λ (k : Card). read_opened s a p.lot k p.last n) (sym e.kept)));
        starts = starts;
      }

-- ---- behind the last line
pub rest_none : {s : List ℕ} {a n : ℕ} → Starts s a n → length s ≤ a → (t : State) (b : Bool) → is_ended t.stage ≡ b
    → read_rest s a t n ≡ pick b (accepted t.ledger (n - 1)) (refused 2 n)
unfolding read_rest read_from
rest_none {s} {a} {n} starts end t b e = let q : n - 1 + 1 ≡ n = omega arith in rw (lines_none s a end, q, e) refl

-- a sheet does not end before the lot is opened
pub unended : (s : Stage) → is_opened s ≡ false → is_ended s ≡ false
unended = at_every_stage (λ s. is_opened s ≡ false → is_ended s ≡ false) (λ e. refl) (λ e. refl) (λ e. refl) (λ e. refl) (λ e. refl) (λ e. refl) (λ e. e)

-- nothing is held, and both sums are 0
abbrev pub Empty : Tally → Type 0
Empty t = t ≡ tally_of t.lot t.card t.containers t.results 0 0 0

-- a fresh tally with another lot and another card is such
pub empty_still : (t : Tally) (l : Lot) (c : Card) → t ≡ fresh_tally → Empty (tally_of l c t.containers t.results t.held t.sum t.squares)
empty_still t l c e = ap (λ (u : Tally). tally_of l c t.containers t.results u.held u.sum u.squares) e

-- ---- the answer to the open, where the results begin
module _ (s : List ℕ) (a n last : ℕ) {l : Lot} {c : Card} where
  pub open_refused : {e : Refusal} → Opens l c (Err e) → refused (number_of e) n ≡ read_opened s a l c last n
  open_refused {e} answer = rw (← answer.right, ne_eqb (number_of e) 0 (never_zero e)) refl

-- such a tally, whose lot may be opened with its card
module _ (t : Tally) (e : Empty t) {u : ⊤} (answer : Opens t.lot t.card (Ok u)) where
  pub open_sound : length t.containers ≡ most_held → length t.results ≡ most_held → Sound t
  open_sound k v = subst Sound (sym e) (answer.sound refl t.containers t.results k v)

  pub open_accepted : (s : List ℕ) (a n last : ℕ) → read_rest s a (opened_state last stage.Result t) n ≡ read_opened s a t.lot t.card last n
  unfolding stored
  open_accepted s a n last = ap (λ (v : Tally). read_rest s a (opened_state last stage.Result v) n) e ∙ rw (← answer.right) refl

-- ---- what `?` hands on is the fault that was given
pub refused_as : (o : SheetOutcome) (r : Result Reading Fault) (f : Fault) → IsErrAnd r (λ g. g ≡ f) → FaultOf o f → ReadAs o r
refused_as o (Ok q) f h g = absurd h
refused_as o (Err g) f h q = rw h q

pub fault_as : {o q : SheetOutcome} {f : Fault} → o ≡ q → FaultOf q f → FaultOf o f
fault_as e h = record { right = e ∙ h.right; file = h.file }
