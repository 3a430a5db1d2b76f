-- What is printed for the lines that were read is printed for every list that begins with the bytes read. Assumes nothing.
use mathlib.Core.Path.{◌≡◌, refl, sym, ap, ◌∙◌}
use mathlib.Core.List.{List}
use Prim.Native.Nat.{ℕ, ◌≤◌, ◌<◌}
use native.Mathlib.Omega.{arith}
use native.Mathlib.Decide.{ℕ_discrete, dec_lt}
use lib.Dec.{ltb}
use lib.ListN.{length, take, length-take}
use lib.Seq.{take_all}
use borrow.Author.Tests.{eq-eqb, ne_eqb, lt-ltb, le-ltb}
use Rattle.rules.specs.Choice.{pick}
use Rattle.rules.specs.Limits.{list_places}
use Rattle.rules.specs.Ledger.{Ledger}
use Rattle.rules.specs.Reading.{SheetOutcome, accepted, refused, read_of}
use Rattle.rules.specs.ListReading.{list_on}
use Rattle.rules.specs.Printing.{after_list, entered, entered_for, ended_lines, is_told, outcome_told, enter_prints}
use Rattle.rules.proofs.ListLaws.{list_told}
use Rattle.lotenter.specs.Entering.{entered_part, usage_line, text_of}

module _ (sheet list read : List ℕ) (b : read ≡ take list_places list) where
  -- the bytes that were read are the whole list
  whole : length read < list_places → (read ≡ list) × (length list < list_places)
  whole h = let short : length list < list_places = omega (arith, length-take list_places list, ap length b) in (b ∙ take_all list_places list (omega arith), short)

  -- or they fill their places, and then a faulty line among those that end in them decides
  decides : (g : Ledger) → list_places ≤ length list → ((list_on g (ended_lines read)).number ≡ 0 → ⊥) → list_on g list ≡ list_on g (ended_lines read)
  decides g h z =
      list_told g list list_places h (λ q. z (ap (λ (w : List ℕ). (list_on g (ended_lines w)).number) b ∙ q)) ∙ ap (λ (w : List ℕ). list_on g (ended_lines w)) (sym b)

  told_alike : text_of (read_of sheet) (entered_part read) (ltb (length read) list_places) ≡ enter_prints sheet list
  unfolding text_of enter_prints entered_for
  told_alike = by (read_of sheet) (dec_lt (length read) list_places)
    where
      cut : (g : Ledger) → list_places ≤ length read → list_places ≤ length list → Dec ((list_on g (ended_lines read)).number ≡ 0)
          → text_of (accepted g 0) (entered_part read) (ltb (length read) list_places) ≡ pick (is_told g list) (after_list (list_on g list)) usage_line
      cut g k f (yes z) =
          rw (
            le-ltb (length read) list_places k,
            le-ltb (length list) list_places f,
            ← b,
            eq-eqb (list_on g (ended_lines read)).number 0 z,
          )
          refl
      cut g k f (no z) =
          rw (
            le-ltb (length read) list_places k,
            le-ltb (length list) list_places f,
            ← b,
            decides g f z,
            ne_eqb (list_on g (ended_lines read)).number 0 z,
          )
          refl

      by : (o : SheetOutcome) → Dec (length read < list_places) → text_of o (entered_part read) (ltb (length read) list_places) ≡ pick (outcome_told o list) (entered o list) usage_line
      by (refused e line) d = refl
      by (accepted g m) (yes h) =
          let w = whole h in rw (lt-ltb (length read) list_places h, w.0, lt-ltb (length list) list_places w.1) refl
      by (accepted g m) (no h) =
          cut g (omega arith) (omega (arith, length-take list_places list, ap length b)) (ℕ_discrete (list_on g (ended_lines read)).number 0)

  -- the same of a sheet that says what this one says
  pub told_for : {o : SheetOutcome} {lines : List ℕ} → o ≡ read_of sheet → lines ≡ entered_part read → text_of o lines (ltb (length read) list_places) ≡ enter_prints sheet list
  told_for {o} {lines} e f =
      ap (λ (x : SheetOutcome). text_of x lines (ltb (length read) list_places)) e
      ∙ (ap (λ (x : List ℕ). text_of (read_of sheet) x (ltb (length read) list_places)) f ∙ told_alike)
