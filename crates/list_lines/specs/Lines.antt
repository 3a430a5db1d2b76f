-- How a line of a comma list is handed on, in numbers of 32 and of 16 bits.
use Rattle.std.specs.Prelude.{◌≡◌, true, false, List, ℕ, ◌+◌, min, length, Option, Some, None, MatchOption}
use denote.Ref.{Bor}
use Rattle.rules.specs.Ledger.{Ledger, Judged, enter_on}
use Rattle.rules.specs.ListReading.{Reads, wrong, reads, Says, bad, says, say_of, has, before, behind}
use Rattle.rules.specs.declared.Attribute.{Attribute}
use Rattle.cutter.specs.Runs.{line_at}
use Rattle.decimal_words.specs.Words.{capped}
use Rattle.narrowed.specs.Narrowed.{kept_container, kept_x}
use Rattle.list_lines.specs.declared.LineRead.{LineRead}
use Rattle.list_lines.specs.declared.Entry.{Entry}

-- ---- a line
abbrev pub entry_of : Says → Option Entry
entry_of bad = None
entry_of (says k x) = Some (record { container = kept_container k; x = kept_x x })

-- the step of what is handed on
abbrev pub entry_on : Ledger → Option Entry → Judged
entry_on g None = record { number = 20; ledger = g }
entry_on g (Some e) = enter_on g e.container e.x

-- the line of s from a on is read as r, whether or not its end byte is there
pub record ReadAt (t : Attribute) (s : List ℕ) (a : ℕ) (r : LineRead) : Type 0 where
  pub end : r.end ≡ min a (length s) + length (line_at s a)
  pub entry : r.entry ≡ entry_of (say_of t (line_at s a))

-- ---- its parts and numbers
-- what stands before the first b and behind it, where there is one
abbrev pub Parted : ℕ → List ℕ → Option (Bor (List ℕ) × Bor (List ℕ)) → Type 0
Parted b w r = MatchOption r (has b w ≡ false) (λ p. (has b w ≡ true) × (p.0.now ≡ before b w) × (p.1.now ≡ behind b w))

abbrev pub number_is : Reads → Option ℕ
number_is wrong = None
number_is (reads n) = Some (capped n)
