-- The lines of the results and the end. Assumes nothing.
use mathlib.Core.Path.{◌≡◌, refl, sym, ap, ◌∙◌, fun_ext}
use mathlib.Core.Bool.{true}
use mathlib.Core.List.{List}
use Prim.Native.Nat.{ℕ, zero, suc, ◌+◌, ◌≤◌, ◌<◌}
use native.Mathlib.Omega.{arith}
use native.Mathlib.Decide.{ℕ_discrete, dec_le}
use lib.Dec.{leb}
use borrow.Author.Tests.{eq-eqb, ne_eqb, le-leb, lt-leb, le-ltb}
use Rattle.rules.specs.Choice.{pick}
use Rattle.rules.specs.Limits.{most_held, highest_x, widest}
use Rattle.rules.specs.Contents.{Content, Contents, free, holds, none, put, one, total}
use Rattle.rules.specs.Ledger.{Ledger, Judged, judged, containers, held, opened, with_contents, enter_number, enter_on}
use Rattle.rules.specs.Stages.{may_stand, is_ended}
use Rattle.rules.specs.Reading.{State, Next, goes, and_then, begun, on_ledger, result_step, end_step, step_of}
use Rattle.rules.specs.Writing.{result_line, place_line, result_lines, end_line}
use Rattle.rules.specs.declared.Lot.{Lot}
use Rattle.rules.specs.declared.Card.{Card}
use Rattle.rules.specs.declared.Stage.TheVariants as stage
use Rattle.rules.specs.declared.Frame.{Frame}
use Rattle.rules.specs.declared.Frame.TheVariants as frame
use Rattle.rules.proofs.ContentLaws.{put_same, put_other, put_self, total_put, total_none}
use Rattle.rules.proofs.Capacity.{capacity}
use Rattle.round_trip_theorems.proofs.Spelled.{Spells, result_spells, end_spells}
use Rattle.round_trip_theorems.proofs.Writable.{WritableResults}
use Rattle.round_trip_theorems.proofs.Reached.{Reaches, reach_none, reach_then, reach_line}

-- ---- what f has at the containers up to n
abbrev pub upto : Contents → ℕ → Contents
upto f n k = pick (leb k n) (f k) free

pub upto_above : (f : Contents) (n k : ℕ) → n < k → upto f n k ≡ free
upto_above f n k h = rw (lt-leb k n h) refl

pub upto_all : (f : Contents) (n : ℕ) → ((k : ℕ) → n < k → f k ≡ free) → upto f n ≡ f
upto_all f n h = fun_ext λ k. by k (dec_le k n)
  where
    by : (k : ℕ) → Dec (k ≤ n) → upto f n k ≡ f k
    by k (yes q) = rw (le-leb k n q) refl
    by k (no q) = upto_above f n k (omega arith) ∙ sym (h k (omega arith))

pub upto_none : (f : Contents) → f 0 ≡ free → upto f 0 ≡ none
upto_none f z = fun_ext λ k. by k (dec_le k 0)
  where
    by : (k : ℕ) → Dec (k ≤ 0) → upto f 0 k ≡ free
    by k (yes q) = let e : k ≡ 0 = omega arith in rw (e, z) refl
    by k (no q) = upto_above f 0 k (omega arith)

pub upto_more : (f : Contents) (n : ℕ) (p : Content) → f (suc n) ≡ p → put (upto f n) (suc n) p ≡ upto f (suc n)
upto_more f n p e = fun_ext λ k. by k (ℕ_discrete k (suc n)) (dec_le k n)
  where
    by : (k : ℕ) → Dec (k ≡ suc n) → Dec (k ≤ n) → put (upto f n) (suc n) p k ≡ upto f (suc n) k
    by k (yes q) d = rw (q, put_same (upto f n) (suc n) p, le-leb (suc n) (suc n) (omega arith)) (sym e)
    by k (no q) (yes d) = put_other (upto f n) (suc n) p k q ∙ rw (le-leb k n d, le-leb k (suc n) (omega arith)) refl
    by k (no q) (no d) = put_other (upto f n) (suc n) p k q ∙ (upto_above f n k (omega arith) ∙ sym (upto_above f (suc n) k (omega arith)))

pub total_next : (f : Contents) (n : ℕ) → total one (suc n) f ≡ total one n f + one (f (suc n))
unfolding total
total_next f n = refl

pub upto_size : (f : Contents) (n m : ℕ) → f 0 ≡ free → n ≤ m → total one m (upto f n) ≡ total one n f
upto_size f zero m z h = rw (upto_none f z) (total_none one m refl ∙ unfold total in refl)
upto_size f (suc n) m z h =
    ap (total one m) (sym (upto_more f n (f (suc n)) refl))
    ∙ omega (
      arith,
      total_put one m (upto f n) (suc n) (f (suc n)) (omega arith) h,
      ap one (upto_above f n (suc n) (omega arith)),
      upto_size f n m z (omega arith),
      total_next f n,
    )

pub total_rise : (f : Contents) (a b : ℕ) → a ≤ b → total one a f ≤ total one b f
total_rise f a zero h = let z : a ≡ 0 = omega arith in rw z (omega arith)
total_rise f a (suc b) h = by (dec_le a b) (λ (q : a ≤ b). total_rise f a b q)
  where
    by : Dec (a ≤ b) → (a ≤ b → total one a f ≤ total one b f) → total one a f ≤ total one (suc b) f
    by (yes q) r = omega (arith, r q, total_next f b)
    by (no q) r = let z : a ≡ suc b = omega arith in rw z (omega arith)

-- ---- an accepted enter
-- what a step is answered that is accepted, and leads to g
abbrev pub accepted_as : Ledger → Judged
accepted_as g = record { number = 0; ledger = g }

pub enter_good : (g : Ledger) (c x : ℕ) → 1 ≤ c → c ≤ containers g → x ≤ highest_x → g.contents c ≡ free → held g < most_held
    → enter_on g c x ≡ accepted_as (with_contents g (put g.contents c (holds x)))
enter_good g c x z h l e r =
    let accepted : enter_number g c x ≡ 0 = simp (ne_eqb c 0 (λ q. omega arith), le-ltb (containers g) c h, le-ltb highest_x x l, e, lt-leb most_held (held g) r) in
    ap (λ (n : ℕ). judged n g (with_contents g (put g.contents c (holds x)))) accepted

-- ---- what the reader has behind the lines of containers 1 to n: the ledger with their results, and as many result frames
abbrev pub ledger_at : Lot → Card → Contents → ℕ → Ledger
ledger_at t c f n = with_contents (opened t c) (upto f n)

pub record ResultsReadBack (t : Lot) (c : Card) (f : Contents) (n : ℕ) (s : State) : Type 0 where
  pub begins : begun s ≡ accepted_as (ledger_at t c f n)
  pub count : s.results ≡ total one n f
  pub turns : (may_stand 5 s.stage ≡ true) × (may_stand 6 s.stage ≡ true)

-- behind the end
abbrev pub Ended : Lot → Card → Contents → State → Type 0
Ended t c f s = (is_ended s.stage ≡ true) × (s.ledger ≡ ledger_at t c f t.containers)

module _ (t : Lot) (c : Card) (f : Contents) (few : t.containers ≤ widest) (w : WritableResults t.containers f) where
  abbrev Read : ℕ → State → Type 0
  Read n s = ResultsReadBack t c f n s

  -- one result more, by a line that enters it
  pub one_result : (n x : ℕ) → n < t.containers → f (suc n) ≡ holds x → (u : State) → Read n u → (y : List ℕ) (fr : Frame) → Spells y fr
      → step_of fr u ≡ and_then (enter_on (ledger_at t c f n) (suc n) x) (λ g. goes (on_ledger u stage.Result (u.results + 1) g)) → Reaches y u (Read (suc n))
  one_result n x h e u r y fr spelt step =
      let goes_on : Ledger → Next = λ g. goes (on_ledger u stage.Result (u.results + 1) g) in
      let low = w.low (suc n) x e in
      let more = total_next f n in
      let one_more = ap one e in
      let room : held (ledger_at t c f n) < most_held = omega (arith, upto_size f n t.containers w.none (omega arith), total_rise f (suc n) t.containers h, w.small) in
      let entered = enter_good (ledger_at t c f n) (suc n) x (omega arith) h low (upto_above f n (suc n) (omega arith)) room in
      reach_line (Read (suc n)) y fr u (on_ledger u stage.Result (u.results + 1) (ledger_at t c f (suc n))) spelt
      (step ∙ (ap (λ (j : Judged). and_then j goes_on) entered ∙ ap (λ (q : Contents). goes_on (with_contents (opened t c) q)) (upto_more f n (holds x) e)))
      (record { begins = refl; count = omega (arith, r.count); turns = (refl, refl) })

  one_place : (n : ℕ) → n < t.containers → (u : State) → Read n u → Reaches (place_line (suc n) (f (suc n))) u (Read (suc n))
  unfolding result_step
  one_place n h u r = by (f (suc n)) refl
    where
      by : (p : Content) → f (suc n) ≡ p → Reaches (place_line (suc n) p) u (Read (suc n))
      by free e =
          let same = sym (put_self (upto f n) (suc n) free (upto_above f n (suc n) (omega arith))) ∙ upto_more f n free e in
          reach_none (Read (suc n)) u
          (record {
            begins = r.begins ∙ ap (λ (q : Contents). accepted_as (with_contents (opened t c) q)) same;
            count = omega (arith, r.count, total_next f n, ap one e);
            turns = r.turns;
          })
      by (holds x) e =
          let low = w.low (suc n) x e in
          one_result n x h e u r (result_line (suc n) x) (frame.Result (suc n) x) (result_spells (suc n) x (omega arith) (omega arith))
          (rw (r.turns.0, r.begins) refl)

  pub results_reach : (s : State) → Read 0 s → (n : ℕ) → n ≤ t.containers → Reaches (result_lines f n) s (Read n)
  unfolding result_lines
  results_reach s r zero h = reach_none (Read 0) s r
  results_reach s r (suc n) h = reach_then (Read n) (Read (suc n)) _ _ s (results_reach s r n (omega arith)) (one_place n h)

  pub end_reach : (u : State) → Read t.containers u → Reaches (end_line (total one t.containers f)) u (Ended t c f)
  unfolding end_step
  end_reach u r =
      let n = total one t.containers f in
      reach_line (Ended t c f) (end_line n) (frame.End n) u (on_ledger u stage.End u.results (ledger_at t c f t.containers))
      (end_spells n (omega (arith, w.small, capacity)))
      (rw (r.turns.1, r.begins, eq-eqb n u.results (sym r.count)) refl)
      (refl, refl)
