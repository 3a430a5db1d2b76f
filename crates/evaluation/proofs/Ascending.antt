-- What is written of the containers 1 to n in ascending order is written from the list of results, sorted by container. Assumes nothing.
use Prim.Native.Nat.{ℕ, zero, suc, ◌-◌, ◌≤◌, ◌<◌}
use native.Mathlib.Omega.{arith}
use native.Mathlib.Decide.{ℕ_discrete}
use mathlib.Core.Bool.{Bool, true, false, true≢false}
use mathlib.Core.Path.{◌≡◌, refl, sym, ap, ap₂, ◌∙◌}
use mathlib.Core.List.{List, [], ◌∷◌, ◌++◌, append-nil}
use lib.Dec.{ltb}
use borrow.Author.Tests.{ltb-true, ltb-false}
use Rattle.rules.specs.Choice.{pick}
use Rattle.rules.specs.Limits.{criticals}
use Rattle.rules.specs.Contents.{Content, Contents, free, holds, is_held, none, put}
use Rattle.rules.specs.Ledger.{Ledger, containers}
use Rattle.rules.specs.Writing.{place_line, result_line, result_lines, end_line, lot_line, card_line, critical_lines, range_lines, sheet_of}
use Rattle.rules.specs.ListWriting.{list_line, place_listed, list_lines, places_in, list_of}
use Rattle.rules.specs.declared.Lot.{Lot}
use Rattle.rules.specs.declared.Card.{Card}
use Rattle.rules.proofs.ContentLaws.{free_is, put_same, put_other, put_comm}
use Rattle.rules.proofs.LedgerLaws.{enter_tells}
use Rattle.reading_theorems.specs.Spelling.{Entry, Made, opens, enters}
use Rattle.reading_theorems.proofs.Spelt.{made_held}
use Rattle.evaluation.specs.Entries.{insert, sorted_onto, lines_up, ascending}
use Rattle.evaluation.specs.QuickLists.{list_text, sheet_text}

-- ---- what a list of results has at each container
abbrev contents_of : List Entry → Contents
contents_of [] = none
contents_of (d ∷ ds) = put (contents_of ds) d.container (holds d.x)

-- from n down to 1, each container lower than the one before it
data Descends : ℕ → List Entry → Type 0 where
  done : {n : ℕ} → Descends n []
  next : {n : ℕ} {d : Entry} {ds : List Entry} → 1 ≤ d.container → d.container ≤ n → Descends (d.container - 1) ds → Descends n (d ∷ ds)

wider : {m : ℕ} {ds : List Entry} (n : ℕ) → m ≤ n → Descends m ds → Descends n ds
wider n h done = done
wider n h (next a b r) = next {n = n} a (omega arith) r

free_above : {n : ℕ} {ds : List Entry} (k : ℕ) → n < k → Descends n ds → contents_of ds k ≡ free
free_above k h done = refl
free_above k h (next {d} {ds} a b r) =
    put_other (contents_of ds) d.container (holds d.x) k (λ e. omega arith) ∙ free_above k (omega arith) r

-- a container without a result is no result's container
free_of : (d : Entry) (ds : List Entry) (k : ℕ) → contents_of (d ∷ ds) k ≡ free → (k ≡ d.container → ⊥) × (contents_of ds k ≡ free)
free_of d ds k e = by (ℕ_discrete k d.container)
  where
    by : Dec (k ≡ d.container) → (k ≡ d.container → ⊥) × (contents_of ds k ≡ free)
    by (yes q) = absurd (true≢false (ap is_held (sym (ap (contents_of (d ∷ ds)) q ∙ put_same (contents_of ds) d.container (holds d.x)) ∙ e)))
    by (no q) = (q, sym (put_other (contents_of ds) d.container (holds d.x) k q) ∙ e)

-- ---- one result more
insert_descends : {n : ℕ} {ds : List Entry} (e : Entry) → 1 ≤ e.container → e.container ≤ n → contents_of ds e.container ≡ free → Descends n ds → Descends n (insert e ds)
unfolding insert
insert_descends e a b f done = next a b done
insert_descends {n} e a b f (next {d} {ds} i j r) = by (ltb d.container e.container) refl (λ l q. insert_descends e a l q r)
  where
    by : (t : Bool) → ltb d.container e.container ≡ t
        → (e.container ≤ d.container - 1 → contents_of ds e.container ≡ free → Descends (d.container - 1) (insert e ds))
        → Descends n (pick t (e ∷ d ∷ ds) (d ∷ insert e ds))
    by true t g = let h = ltb-true d.container e.container t in next a b (next {n = e.container - 1} i (omega arith) r)
    by false t g =
        let h = ltb-false d.container e.container t in
        let o = free_of d ds e.container f in
        let other = o.0 in
        next i j (g (omega arith) o.1)

insert_contents : (e : Entry) (ds : List Entry) → contents_of ds e.container ≡ free → contents_of (insert e ds) ≡ put (contents_of ds) e.container (holds e.x)
unfolding insert
insert_contents e [] f = refl
insert_contents e (d ∷ ds) f = by (ltb d.container e.container) (free_of d ds e.container f) (insert_contents e ds)
  where
    by : (t : Bool) → (e.container ≡ d.container → ⊥) × (contents_of ds e.container ≡ free)
        → (contents_of ds e.container ≡ free → contents_of (insert e ds) ≡ put (contents_of ds) e.container (holds e.x))
        → contents_of (pick t (e ∷ d ∷ ds) (d ∷ insert e ds)) ≡ put (contents_of (d ∷ ds)) e.container (holds e.x)
    by true o g = refl
    by false o g =
        ap (λ (f : Contents). put f d.container (holds d.x)) (g o.1)
        ∙ put_comm (contents_of ds) e.container d.container (holds e.x) (holds d.x) o.0

sorted_last : (ds es : List Entry) (e : Entry) → sorted_onto ds (es ++ (e ∷ [])) ≡ insert e (sorted_onto ds es)
unfolding sorted_onto
sorted_last ds [] e = refl
sorted_last ds (d ∷ es) e = sorted_last (insert d ds) es e

-- ---- the results of a ledger
record Sorted (g : Ledger) (ds : List Entry) : Type 0 where
  contents : contents_of ds ≡ g.contents
  descends : Descends (containers g) ds

made_sorted : {l : Lot} {c : Card} {es : List Entry} {g : Ledger} → Made l c es g → Sorted g (sorted_onto [] es)
made_sorted (opens q) = unfold sorted_onto in rw q (record { contents = refl; descends = done })
made_sorted (enters {es = ds} {g = h} k x m q) =
    let n = enter_tells h k x q in
    let e : Entry = record { container = k; x = x } in
    let r = made_sorted m in
    let f = ap (λ (f : Contents). f k) r.contents ∙ free_is (h.contents k) n.clear in
    rw (q, sorted_last [] ds e)
    (record {
      contents = insert_contents e (sorted_onto [] ds) f ∙ ap (λ (f : Contents). put f k (holds x)) r.contents;
      descends = insert_descends e n.above n.inside f r.descends;
    })

-- ---- a text t that has a line w for each result, container by container
module _
    (w : ℕ → ℕ → List ℕ)
    (line : ℕ → Content → List ℕ)
    (nothing : (k : ℕ) → line k free ≡ [])
    (something : (k x : ℕ) → line k (holds x) ≡ w k x)
    (t : Contents → ℕ → List ℕ)
    (first : (f : Contents) → t f 0 ≡ [])
    (more : (f : Contents) (n : ℕ) → t f (suc n) ≡ t f n ++ line (suc n) (f (suc n)))
  where
    beyond : (f : Contents) (k : ℕ) (p : Content) (n : ℕ) → n < k → t (put f k p) n ≡ t f n
    beyond f k p zero h = first (put f k p) ∙ sym (first f)
    beyond f k p (suc n) h =
        more (put f k p) n ∙ (rw (beyond f k p n (omega arith), put_other f k p (suc n) (λ e. omega arith)) (sym (more f n)))

    without : (f : Contents) (n : ℕ) → f (suc n) ≡ free → t f (suc n) ≡ t f n
    without f n e = more f n ∙ (rw (e, nothing (suc n), append-nil))

    written : (n : ℕ) (ds : List Entry) → Descends n ds → t (contents_of ds) n ≡ lines_up w ds
    unfolding lines_up
    written zero [] done = first none
    written zero (d ∷ ds) (next a b r) = absurd (omega arith)
    written (suc n) [] done = without none n refl ∙ written n [] done
    written (suc n) (d ∷ ds) (next a b r) = by (ℕ_discrete d.container (suc n)) (written n ds) (written n (d ∷ ds))
      where
        by : Dec (d.container ≡ suc n) → (Descends n ds → t (contents_of ds) n ≡ lines_up w ds) → (Descends n (d ∷ ds) → t (contents_of (d ∷ ds)) n ≡ lines_up w (d ∷ ds))
            → t (contents_of (d ∷ ds)) (suc n) ≡ lines_up w ds ++ w d.container d.x
        by (yes q) f g =
            let f0 = contents_of ds in
            let p = holds d.x in
            more (contents_of (d ∷ ds)) n
            ∙ ap₂ (λ (a b : List ℕ). a ++ b)
            (beyond f0 d.container p n (omega arith) ∙ f (wider n (omega arith) r))
            (ap (λ (k : ℕ). line k (contents_of (d ∷ ds) k)) (sym q) ∙ (ap (line d.container) (put_same f0 d.container p) ∙ something d.container d.x))
        by (no q) f g =
            let low : d.container ≤ n = omega arith in
            without (contents_of (d ∷ ds)) n (free_above (suc n) (omega arith) (next {n = n} {d = d} a low r)) ∙ g (next a low r)

    made_written : {l : Lot} {c : Card} {es : List Entry} {g : Ledger} → Made l c es g → t g.contents (containers g) ≡ ascending w es
    made_written {es} {g} m =
        let r = made_sorted m in
        ap (λ (f : Contents). t f (containers g)) (sym r.contents) ∙ written (containers g) (sorted_onto [] es) r.descends

-- ---- the list and the sheet
pub list_is : {l : Lot} {c : Card} {es : List Entry} {g : Ledger} → Made l c es g → list_of g ≡ list_text g es
unfolding list_of list_lines
list_is {g} m =
    made_written (list_line (places_in g)) (place_listed (places_in g)) (λ k. refl) (λ k x. refl) (list_lines (places_in g)) (λ f. refl) (λ f n. refl) m

pub sheet_is : {l : Lot} {c : Card} {es : List Entry} {g : Ledger} → Made l c es g → sheet_of g ≡ sheet_text g es
unfolding sheet_of result_lines
sheet_is {g} m =
    ap₂
    (λ (r : List ℕ) (n : ℕ).
    lot_line g.lot.attribute (containers g)
    ++ card_line g.card.head
    ++ critical_lines g.card.critical criticals
    ++ range_lines g.card g.card.rows
    ++ r
    ++ end_line n)
    (made_written result_line place_line (λ k. refl) (λ k x. refl) result_lines (λ f. refl) (λ f n. refl) m)
    (made_held m)
