-- What is printed for a sheet and lines of a list, from the answer of the call that enters them. Assumes nothing.
use Rattle.std.specs.Prelude.{Result, Ok, Err}
use Rattle.std.specs.Result.{result_unwrap_or}
use mathlib.Core.Path.{◌≡◌, refl, sym, ap, ◌∙◌}
use mathlib.Core.Bool.{Bool, true, false, ◌||◌}
use mathlib.Core.List.{List}
use Prim.Native.Nat.{ℕ, ◌≤◌}
use native.Mathlib.Omega.{arith}
use native.Mathlib.Decide.{ℕ_discrete}
use lib.ListN.{length, take, length-append, length-drop}
use lib.Seq.{take_at}
use borrow.Author.Tests.{eq-eqb, ne_eqb, eqb-false}
use Rattle.rules.specs.Numbers.{number_of, text_answer}
use Rattle.rules.specs.Text.{laid, laid_in}
use Rattle.rules.specs.Ledger.{Ledger}
use Rattle.rules.specs.Reading.{SheetOutcome, accepted, refused, read_of}
use Rattle.rules.specs.Writing.{sheet_of}
use Rattle.rules.specs.ListReading.{list_on}
use Rattle.rules.specs.OnSheets.{SheetAnswer, file_of, line_of, on_sheet_answer, call_on, enter_list_sheet}
use Rattle.rules.specs.Printing.{fault_line}
use Rattle.rules.specs.declared.Fault.{Fault}
use Rattle.rules.specs.declared.Refusal.{Refusal}
use Rattle.rules.proofs.TextLaws.{length_decimal}
use Rattle.reading_theorems.specs.Lengths.{longest_written}
use Rattle.buffers.proofs.Counting.{prefix_len_of_le}
use Rattle.decimal.specs.Laying.{LaysAt}
use Rattle.program_input.proofs.Texts.{laid_text}
use Rattle.lotenter.specs.Entering.{usage_line, text_of, Shows}
use Rattle.lotenter.proofs.Fitting.{Placed, sheet_placed, list_placed, sheet_most, written_is}

-- ---- a text at the front of a buffer
pub laid_shows : (t d e : List ℕ) (r : ℕ) → length t ≤ length d → r ≡ length t → e ≡ laid t d → Shows t e r
unfolding laid
laid_shows t d e r h c q =
    let size : length e ≡ length d = ap length q ∙ simp (length-append, length-drop) (omega arith) in
    record { bytes = ap (take r) q ∙ take_at t _ r (sym c); counts = prefix_len_of_le r e (omega arith) }

-- ---- what the call answers
or-true : (b : Bool) → b || true ≡ true
or-true true = refl
or-true false = refl

module _ (s l d : List ℕ) (room : longest_written ≤ length d) where
  -- the sheet after it, where the sheet is read and every line is entered
  pub entered_shows : {n : ℕ} {e : List ℕ} → on_sheet_answer (Ok n) e ≡ enter_list_sheet s l d → Shows (text_of (read_of s) l true) e n × (text_of (read_of s) l false ≡ usage_line)
  unfolding enter_list_sheet text_of
  entered_shows {n} {e} q = by (read_of s) (sheet_placed s) q
    where
      number : {a b : SheetAnswer} → a ≡ b → a.file ≡ b.file
      number h = ap (λ (a : SheetAnswer). a.file) h

      at : (g : Ledger) → Placed g → Dec ((list_on g l).number ≡ 0) → on_sheet_answer (Ok n) e ≡ call_on 2 (accepted g 0) (λ g. list_on g l) d
          → Shows (text_of (accepted g 0) l true) e n × (text_of (accepted g 0) l false ≡ usage_line)
      at g p (yes z) q =
          let p' = list_placed g l p z in
          let t = sheet_of (list_on g l).ledger in
          let w = rw (eq-eqb (list_on g l).number 0 z, written_is (list_on g l).ledger d p' room) at q in
          rw (eq-eqb (list_on g l).number 0 z)
          (laid_shows t d e n (omega (arith, (sheet_most (list_on g l).ledger p').1)) (ap (λ (a : SheetAnswer). a.size) w) (ap (λ (a : SheetAnswer). a.bytes) w), refl)
      at g p (no z) q = absurd (eqb-false 0 2 refl (number (rw (ne_eqb (list_on g l).number 0 z) at q)))

      by : (o : SheetOutcome) → ((g : Ledger) (m : ℕ) → o ≡ accepted g m → Placed g) → on_sheet_answer (Ok n) e ≡ call_on 2 o (λ g. list_on g l) d
          → Shows (text_of o l true) e n × (text_of o l false ≡ usage_line)
      by (accepted g m) f q = at g (f g m refl) (ℕ_discrete (list_on g l).number 0) q
      by (refused f line) g q = absurd (eqb-false 0 1 refl (number q))

  -- a fault in one of the two
  fault_printed : (f : Fault) (e : List ℕ) (whole : Bool) → on_sheet_answer (Err f) e ≡ enter_list_sheet s l d
      → text_of (read_of s) l whole ≡ fault_line (number_of f.refusal) (file_of f.place) (line_of f.place)
  unfolding enter_list_sheet text_of
  fault_printed f e whole q = by (read_of s) (sheet_placed s) q
    where
      told : {a b : SheetAnswer} → a ≡ b → fault_line a.number a.file a.line ≡ fault_line b.number b.file b.line
      told h = ap (λ (a : SheetAnswer). fault_line a.number a.file a.line) h

      at : (g : Ledger) → Placed g → Dec ((list_on g l).number ≡ 0) → on_sheet_answer (Err f) e ≡ call_on 2 (accepted g 0) (λ g. list_on g l) d
          → text_of (accepted g 0) l whole ≡ fault_line (number_of f.refusal) (file_of f.place) (line_of f.place)
      at g p (yes z) q =
          let p' = list_placed g l p z in
          let w = rw (eq-eqb (list_on g l).number 0 z, written_is (list_on g l).ledger d p' room) at q in
          absurd (omega (arith, (sheet_most (list_on g l).ledger p').0, ap (λ (a : SheetAnswer). a.size) w))
      at g p (no z) q = rw (ne_eqb (list_on g l).number 0 z, or-true whole) (sym (told (rw (ne_eqb (list_on g l).number 0 z) at q)))

      by : (o : SheetOutcome) → ((g : Ledger) (m : ℕ) → o ≡ accepted g m → Placed g) → on_sheet_answer (Err f) e ≡ call_on 2 o (λ g. list_on g l) d
          → text_of o l whole ≡ fault_line (number_of f.refusal) (file_of f.place) (line_of f.place)
      by (accepted g m) h q = at g (h g m refl) (ℕ_discrete (list_on g l).number 0) q
      by (refused n m) h q = sym (told q)

-- ---- the texts that are laid then
fault_most : (e file line : ℕ) → length (fault_line e file line) ≤ longest_written
unfolding fault_line
fault_most e file line = simp length-append (omega (arith, length_decimal e, length_decimal file, length_decimal line))

fault_shows : (d e : List ℕ) (r : Result ℕ Refusal) (z n file line : ℕ) → longest_written ≤ length d → z ≡ result_unwrap_or r 0 → text_answer r e ≡ laid_in (fault_line n file line) d
    → length e ≡ length d → Shows (fault_line n file line) e z
fault_shows d e r z n file line h i q k =
    let t = fault_line n file line in
    let fits : length t ≤ length d = omega (arith, fault_most n file line) in
    let w = (laid_text t d e r z i q fits k).0 in
    laid_shows t d e z fits w.count w.text

pub usage_shows : {d e : List ℕ} {r : ℕ} → longest_written ≤ length d → LaysAt usage_line 0 d e r → Shows usage_line e r
usage_shows {d} {e} {r} h w = let x = w.fits (omega arith) in laid_shows usage_line d e r (omega arith) x.count x.text

-- the line of a fault, whatever of the list was read
pub fault_shown : (s l d : List ℕ) (room : longest_written ≤ length d) {o : Result ℕ Fault} {f : Fault} → o ≡ Err f → (e : List ℕ) → on_sheet_answer o e ≡ enter_list_sheet s l d
    → longest_written ≤ length e → (whole : Bool) (e' : List ℕ) (r : Result ℕ Refusal) (z file line : ℕ) → file ≡ file_of f.place → line ≡ line_of f.place → z ≡ result_unwrap_or r 0
    → text_answer r e' ≡ laid_in (fault_line (number_of f.refusal) file line) e → length e' ≡ length e
    → Shows (text_of (read_of s) l whole) e' z
fault_shown s l d room {f = f} is e q h whole e' r z file line x y i p k =
    rw (fault_printed s l d room f e whole (rw is at q)) (fault_shows e e' r z (number_of f.refusal) (file_of f.place) (line_of f.place) h i (rw (x, y) at p) k)
