-- A comma list (document 02's term): lines of container, comma, value, each ended by byte 0A; and what a list does to a ledger.
use Rattle.std.specs.Prelude.{Bool, ◌&&◌, List, [], ◌∷◌, ℕ, suc, ◌+◌, ◌*◌, eqb, ltb, length, get_or, take, drop}
use Rattle.rules.specs.Choice.{pick, unless}
use Rattle.rules.specs.Decimals.{all_decimal, decimal_value, is_number}
use Rattle.rules.specs.Lines.{Line, ended, unended, lines_of}
use Rattle.rules.specs.Attributes.{attribute_of}
use Rattle.rules.specs.Ledger.{Ledger, Judged, enter_on}
use Rattle.rules.specs.declared.Attribute.{Attribute}
use Rattle.rules.specs.declared.Attribute.TheVariants.{Purity, Germination, Count}

-- ---- numbers
-- the exact number that a word says, or none
pub data Reads : Type 0 where
  wrong : Reads
  reads : ℕ → Reads

-- two digits or more, of which the first is 0
abbrev pub leads_zero : List ℕ → Bool
leads_zero w = ltb 1 (length w) && eqb (get_or w 0 0) 48

-- a plain number: digits alone, one at least, and no leading zero; the single digit 0 is one
unfoldable pub plain_of : List ℕ → Reads
plain_of w = pick (leads_zero w) wrong (pick (is_number w) (reads (decimal_value w)) wrong)

-- ---- parts of a line
-- how many bytes stand before the first b; all of them where there is none
unfoldable pub first : ℕ → List ℕ → ℕ
first b [] = 0
first b (x ∷ xs) = pick (eqb x b) 0 (suc (first b xs))

abbrev pub has : ℕ → List ℕ → Bool
has b w = ltb (first b w) (length w)

-- what stands before the first b, and behind it
abbrev pub before : ℕ → List ℕ → List ℕ
before b w = take (first b w) w

abbrev pub behind : ℕ → List ℕ → List ℕ
behind b w = drop (first b w + 1) w

-- the bytes of a comma and of a point
abbrev pub comma : ℕ
comma = 44

abbrev pub point : ℕ
point = 46

-- ---- values
-- the digits behind the point, one or two, in hundredths: a single one counts tenths
unfoldable pub hundredths_of : List ℕ → Reads
hundredths_of w =
    unless (all_decimal w) wrong
    (pick (eqb (length w) 1) (reads (10 * decimal_value w))
    (pick (eqb (length w) 2) (reads (decimal_value w)) wrong))

-- whole percents and hundredths
abbrev pub percent : Reads → Reads → Reads
percent (reads n) (reads f) = reads (100 * n + f)
percent (reads n) wrong = wrong
percent wrong q = wrong

-- a percentage in hundredths: a plain number, with or without a point and what stands behind it
unfoldable pub percent_of : List ℕ → Reads
percent_of w = percent (plain_of (before point w)) (pick (has point w) (hundredths_of (behind point w)) (reads 0))

-- X: hundredths of a percent, or whole seeds
abbrev pub value_of : Attribute → List ℕ → Reads
value_of Purity w = percent_of w
value_of Germination w = percent_of w
value_of Count w = plain_of w

-- ---- lines
-- what a line says: container and X, or nothing, which is a bad line
pub data Says : Type 0 where
  bad : Says
  says : ℕ → ℕ → Says

abbrev pub both : Reads → Reads → Says
both (reads k) (reads x) = says k x
both (reads k) wrong = bad
both wrong q = bad

-- the container stands before the first comma, the value behind it
unfoldable pub say_of : Attribute → List ℕ → Says
say_of a l = unless (has comma l) bad (both (plain_of (before comma l)) (value_of a (behind comma l)))

-- bytes behind the last end byte are a bad line
abbrev pub line_says : Attribute → Line → Says
line_says a (ended l) = say_of a l
line_says a unended = bad

-- ---- a list on a ledger
-- the step of one line: 20, or the enter that it is
abbrev pub line_on : Ledger → Says → Judged
line_on g bad = record { number = 20; ledger = g }
line_on g (says k x) = enter_on g k x

-- what a list is answered: the number, 0 for accepted, and the line where it is refused, else 0; and the ledger after it
pub record Listed : Type 0 where
  pub number : ℕ
  pub line : ℕ
  pub ledger : Ledger

-- a line's step goes on to the rest of the list; a refusal ends the list, and the ledger is as before the list
abbrev pub goes_on : Ledger → Judged → ℕ → Listed → Listed
goes_on was j n rest = pick (eqb j.number 0) rest (record { number = j.number; line = n; ledger = was })

-- the lines one after another, n lines having been entered
unfoldable pub enter_lines : Ledger → List Line → Ledger → ℕ → Listed
enter_lines was [] g n = record { number = 0; line = 0; ledger = g }
enter_lines was (l ∷ ls) g n =
    let j = line_on g (line_says (attribute_of was.lot.attribute) l) in
    goes_on was j (n + 1) (enter_lines was ls j.ledger (n + 1))

-- the sixth step of the ledger: a list
unfoldable pub list_on : Ledger → List ℕ → Listed
list_on g s = enter_lines g (lines_of s) g 0
