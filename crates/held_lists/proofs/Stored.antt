-- Laws of the map that two lists stand for. Assumes nothing.
use Prim.Native.Nat.{ℕ, zero, suc, ◌+◌, ◌≤◌, ◌<◌}
use native.Mathlib.Omega.{arith}
use native.Mathlib.Numerals.{add-one}
use native.Mathlib.Decide.{ℕ_discrete, dec_lt}
use mathlib.Core.Bool.{Bool, true, false, ◌||◌}
use mathlib.Core.Path.{◌≡◌, refl, sym, ap, ◌∙◌, subst}
use mathlib.Core.List.{List}
use lib.ListN.{length, get_or, set, take}
use lib.Dec.{eqb, ltb}
use lib.Seq.{get_or-set_same, get_or-set_other, set-get_or, get_or-take}
use borrow.Author.Tests.{eq-eqb, ne_eqb, lt-ltb, le-ltb}
use Rattle.rules.specs.Choice.{pick}
use Rattle.rules.specs.Contents.{Content, Contents, free, holds, put, is_held, total, one, size}
use Rattle.rules.proofs.Tests.{or_false}
use Rattle.rules.proofs.ContentLaws.{put_same, put_other, put_self, put_put, put_comm, total_put, total_none}
use Rattle.std.specs.Prelude.{Option, Some, None, MatchOption, HoldsAt}
use Rattle.std.specs.List.{AllWithin}
use Rattle.held_lists.specs.Places.{stored, Apart, Without, FoundAt, Found}

pub fewer : (l : List ℕ) (n : ℕ) → Apart l (suc n) → Apart l n
fewer l n h i j a b e = h i j (omega arith) (omega arith) e

pub last_without : (l : List ℕ) (n : ℕ) → Apart l (suc n) → Without l n (get_or l n 0)
last_without l n h i a e = let q : i ≡ n = h i n (omega arith) (omega arith) e in omega arith

pub stored_free : (ks vs : List ℕ) (n k : ℕ) → Without ks n k → stored ks vs n k ≡ free
unfolding stored
stored_free ks vs zero k h = refl
stored_free ks vs (suc n) k h =
    put_other (stored ks vs n) (get_or ks n 0) (holds (get_or vs n 0)) k (λ e. h n (omega arith) (sym e))
    ∙ stored_free ks vs n k (λ i a. h i (omega arith))

-- what a stored container holds
pub stored_is : (ks vs : List ℕ) (n i : ℕ) → Apart ks n → i < n → stored ks vs n (get_or ks i 0) ≡ holds (get_or vs i 0)
unfolding stored
stored_is ks vs zero i h g = absurd (omega arith)
stored_is ks vs (suc n) i h g = go (ℕ_discrete i n) (λ q. stored_is ks vs n i (fewer ks n h) q)
  where
    go : Dec (i ≡ n) → (i < n → stored ks vs n (get_or ks i 0) ≡ holds (get_or vs i 0)) → put (stored ks vs n) (get_or ks n 0) (holds (get_or vs n 0)) (get_or ks i 0) ≡ holds (get_or vs i 0)
    go (yes q) r = rw q (put_same (stored ks vs n) (get_or ks n 0) (holds (get_or vs n 0)))
    go (no q) r =
        put_other (stored ks vs n) (get_or ks n 0) (holds (get_or vs n 0)) (get_or ks i 0) (λ e. q (h i n (omega arith) (omega arith) e)) ∙ r (omega arith)

pub stored_held : (ks vs : List ℕ) (n k i : ℕ) → i < n → get_or ks i 0 ≡ k → is_held (stored ks vs n k) ≡ true
unfolding stored
stored_held ks vs zero k i a e = absurd (omega arith)
stored_held ks vs (suc n) k i a e = go (ℕ_discrete k (get_or ks n 0)) (ℕ_discrete i n) (stored_held ks vs n k i)
  where
    go : Dec (k ≡ get_or ks n 0) → Dec (i ≡ n) → (i < n → get_or ks i 0 ≡ k → is_held (stored ks vs n k) ≡ true)
        → is_held (put (stored ks vs n) (get_or ks n 0) (holds (get_or vs n 0)) k) ≡ true
    go (yes q) d r = simp (eq-eqb k (get_or ks n 0) q)
    go (no h) (yes q) r = absurd (h (sym e ∙ ap (λ (j : ℕ). get_or ks j 0) q))
    go (no h) (no g) r = simp (ne_eqb k (get_or ks n 0) h) (r (omega arith) e)

-- a look at one place more
or-true : (b : Bool) → b || true ≡ true
or-true true = refl
or-true false = refl

held_pick : (b : Bool) (v : ℕ) (q : Content) → is_held q || b ≡ is_held (pick b (holds v) q)
held_pick true v q = or-true (is_held q)
held_pick false v q = or_false (is_held q)

pub held_turn : (ks vs : List ℕ) (n k : ℕ) {found : Bool} → found ≡ is_held (stored ks vs n k) → found || eqb k (get_or ks n 0) ≡ is_held (stored ks vs (n + 1) k)
unfolding stored
held_turn ks vs n k q =
    ap (λ (t : Bool). t || eqb k (get_or ks n 0)) q
    ∙ (held_pick (eqb k (get_or ks n 0)) (get_or vs n 0) (stored ks vs n k) ∙ ap (λ (m : ℕ). is_held (stored ks vs m k)) (sym (add-one n)))

-- what a look at the first n places finds
pub found_held : (ks vs : List ℕ) (n k r : ℕ) → FoundAt ks n k r → ltb r n ≡ is_held (stored ks vs n k)
found_held ks vs n k r f = go (dec_lt r n)
  where
    go : Dec (r < n) → ltb r n ≡ is_held (stored ks vs n k)
    go (yes h) = lt-ltb r n h ∙ sym (stored_held ks vs n k r h (f.here h))
    go (no g) = le-ltb r n (omega arith) ∙ sym (ap is_held (stored_free ks vs n k (λ i h. f.before i (omega (arith, f.within)))))

-- what a look from the first place on finds
pub found_first : (l : List ℕ) (k : ℕ) (r : Option ℕ)
    → MatchOption r (AllWithin (λ x. x ≡ k → ⊥) l 0 (length l)) (λ i. (i < length l) × HoldsAt (λ x. x ≡ k) l i × AllWithin (λ x. x ≡ k → ⊥) l 0 i)
    → Found l k r
found_first l k None h = λ i a. h i 0 (omega arith) a
found_first l k (Some i) h = (h.0, record { within = omega (arith, h.0); before = λ j a. h.2 j 0 (omega arith) a; here = λ a. h.1 0 })

-- the places that count are those of the list that is cut to them
pub stored_cut : (ks vs : List ℕ) (m n : ℕ) → n ≤ m → stored (take m ks) vs n ≡ stored ks vs n
unfolding stored
stored_cut ks vs m zero h = refl
stored_cut ks vs m (suc n) h = simp (get_or-take m ks n 0 (omega arith), stored_cut ks vs m n (omega arith))

pub found_cut : (l : List ℕ) (n k r : ℕ) → FoundAt (take n l) n k r → FoundAt l n k r
found_cut l n k r f =
    record {
      within = f.within;
      before = λ i h e. f.before i h (get_or-take n l i 0 (omega (arith, f.within)) ∙ e);
      here = λ h. sym (get_or-take n l r 0 h) ∙ f.here h;
    }

-- a store past the first n places
pub stored_frame : (ks vs : List ℕ) (n j k v : ℕ) → n ≤ j → stored (set ks j k) (set vs j v) n ≡ stored ks vs n
unfolding stored
stored_frame ks vs zero j k v h = refl
stored_frame ks vs (suc n) j k v h =
    simp (get_or-set_other ks j n k 0 (λ e. omega arith), get_or-set_other vs j n v 0 (λ e. omega arith), stored_frame ks vs n j k v (omega arith))

-- one more
pub stored_more : (ks vs : List ℕ) (n k v : ℕ) → n < length ks → n < length vs → stored (set ks n k) (set vs n v) (suc n) ≡ put (stored ks vs n) k (holds v)
unfolding stored
stored_more ks vs n k v a b =
    simp (get_or-set_same ks n k 0 a, get_or-set_same vs n v 0 b, stored_frame ks vs n n k v (omega arith))

-- the weight of what is stored: one more place, one more weight
pub stored_total : (w : Content → ℕ) (m : ℕ) (ks vs : List ℕ) (n : ℕ) → w free ≡ 0 → Apart ks (suc n) → 1 ≤ get_or ks n 0 → get_or ks n 0 ≤ m
    → total w m (stored ks vs (suc n)) ≡ total w m (stored ks vs n) + w (holds (get_or vs n 0))
unfolding stored
stored_total w m ks vs n e h a b =
    omega (
      arith,
      total_put w m (stored ks vs n) (get_or ks n 0) (holds (get_or vs n 0)) a b,
      ap w (stored_free ks vs n (get_or ks n 0) (last_without ks n h)),
      e,
    )

pub stored_size : (m : ℕ) (ks vs : List ℕ) (n : ℕ) → Apart ks n → ((i : ℕ) → i < n → 1 ≤ get_or ks i 0) → ((i : ℕ) → i < n → get_or ks i 0 ≤ m)
    → size m (stored ks vs n) ≡ n
stored_size m ks vs zero h a b = unfold stored in total_none one m refl
stored_size m ks vs (suc n) h a b =
    stored_total one m ks vs n refl h (a n (omega arith)) (b n (omega arith))
    ∙ (ap (λ (x : ℕ). x + 1) (stored_size m ks vs n (fewer ks n h) (λ i g. a i (omega arith)) (λ i g. b i (omega arith))) ∙ add-one n)

-- one place of the first n has another container and another result
pub stored_replaced : (ks vs : List ℕ) (n i k v : ℕ) → i < n → n ≤ length ks → n ≤ length vs → Apart ks n → Without ks n k
    → stored (set ks i k) (set vs i v) n ≡ put (put (stored ks vs n) (get_or ks i 0) free) k (holds v)
unfolding stored
stored_replaced ks vs zero i k v a lk lv h w = absurd (omega arith)
stored_replaced ks vs (suc n) i k v a lk lv h w = go (ℕ_discrete i n) (stored_replaced ks vs n i k v)
  where
    go : Dec (i ≡ n)
        → (i < n → n ≤ length ks → n ≤ length vs → Apart ks n → Without ks n k
        → stored (set ks i k) (set vs i v) n ≡ put (put (stored ks vs n) (get_or ks i 0) free) k (holds v))
        → stored (set ks i k) (set vs i v) (suc n) ≡ put (put (stored ks vs (suc n)) (get_or ks i 0) free) k (holds v)
    go (yes e) r =
        subst (λ (j : ℕ). stored (set ks j k) (set vs j v) (suc n) ≡ put (put (stored ks vs (suc n)) (get_or ks j 0) free) k (holds v)) (sym e)
        (rw (get_or-set_same ks n k 0 lk, get_or-set_same vs n v 0 lv, stored_frame ks vs n n k v (omega arith))
        (ap (λ (f : Contents). put f k (holds v))
        (sym
        (put_put (stored ks vs n) (get_or ks n 0) (holds (get_or vs n 0)) free
        ∙ put_self (stored ks vs n) (get_or ks n 0) free (stored_free ks vs n (get_or ks n 0) (last_without ks n h))))))
    go (no g) r =
        rw (
          get_or-set_other ks i n k 0 (λ q. g (sym q)),
          get_or-set_other vs i n v 0 (λ q. g (sym q)),
          r (omega arith) (omega arith) (omega arith) (fewer ks n h) (λ j q. w j (omega arith)),
        )
        (put_comm (put (stored ks vs n) (get_or ks i 0) free) k (get_or ks n 0) (holds v) (holds (get_or vs n 0)) (λ q. w n (omega arith) (sym q))
        ∙ ap (λ (f : Contents). put f k (holds v)) (put_comm (stored ks vs n) (get_or ks i 0) (get_or ks n 0) free (holds (get_or vs n 0)) (λ q. g (h i n a (omega arith) q))))

-- place i has what the last of the n + 1 has, and the last is left off: what was at place i is gone
pub stored_dropped : (ks vs : List ℕ) (n i : ℕ) → i ≤ n → n < length ks → n < length vs → Apart ks (suc n)
    → stored (set ks i (get_or ks n 0)) (set vs i (get_or vs n 0)) n ≡ put (stored ks vs (suc n)) (get_or ks i 0) free
unfolding stored
stored_dropped ks vs n i a lk lv h = go (ℕ_discrete i n)
  where
    go : Dec (i ≡ n) → stored (set ks i (get_or ks n 0)) (set vs i (get_or vs n 0)) n ≡ put (put (stored ks vs n) (get_or ks n 0) (holds (get_or vs n 0))) (get_or ks i 0) free
    go (yes e) =
        rw (e, set-get_or ks n 0, set-get_or vs n 0)
        (sym
        (put_put (stored ks vs n) (get_or ks n 0) (holds (get_or vs n 0)) free
        ∙ put_self (stored ks vs n) (get_or ks n 0) free (stored_free ks vs n (get_or ks n 0) (last_without ks n h))))
    go (no g) =
        stored_replaced ks vs n i (get_or ks n 0) (get_or vs n 0) (omega arith) (omega arith) (omega arith) (fewer ks n h) (last_without ks n h)
        ∙ put_comm (stored ks vs n) (get_or ks i 0) (get_or ks n 0) free (holds (get_or vs n 0)) (λ q. g (h i n (omega arith) (omega arith) q))
