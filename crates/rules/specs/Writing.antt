-- The sheet of a ledger: the card's frames in their order, results in ascending container order.
use Rattle.std.specs.Prelude.{List, [], ◌++◌, ℕ, zero, suc, ◌-◌, eqb, get_or}
use Rattle.rules.specs.Choice.{pick}
use Rattle.rules.specs.Limits.{criticals}
use Rattle.rules.specs.Numbers.{TextAnswer, refuses_text}
use Rattle.rules.specs.Text.{byte, laid_in}
use Rattle.rules.specs.Fields.{digits}
use Rattle.rules.specs.Contents.{Content, Contents, free, holds}
use Rattle.rules.specs.Ledger.{Ledger, held, containers}
use Rattle.rules.specs.declared.Head.{Head}
use Rattle.rules.specs.declared.Card.{Card}

-- a line's last field, of k digits, and the end byte
abbrev pub ending : ℕ → ℕ → List ℕ
ending k n = digits k n ++ byte 10

unfoldable pub lot_line : ℕ → ℕ → List ℕ
lot_line a n = digits 2 1 ++ digits 2 a ++ ending 4 n

unfoldable pub card_line : Head → List ℕ
card_line h = digits 2 2 ++ digits 2 h.factor ++ digits 2 h.offset ++ ending 4 h.seeds

unfoldable pub critical_line : ℕ → ℕ → List ℕ
critical_line k v = digits 2 3 ++ digits 2 k ++ ending 4 v

unfoldable pub range_line : ℕ → ℕ → ℕ → ℕ → List ℕ
range_line l h b r = digits 2 4 ++ digits 2 l ++ (digits 2 h ++ digits 4 b) ++ ending 4 r

unfoldable pub result_line : ℕ → ℕ → List ℕ
result_line c x = digits 2 5 ++ digits 4 c ++ ending 4 x

unfoldable pub end_line : ℕ → List ℕ
end_line n = digits 2 6 ++ ending 2 n

-- a place of the card has one more than the critical value, 0 where there is none
abbrev pub maybe_line : ℕ → ℕ → List ℕ
maybe_line k v = pick (eqb v 0) [] (critical_line k (v - 1))

-- the critical values for fewer than n results
unfoldable pub critical_lines : List ℕ → ℕ → List ℕ
critical_lines l zero = []
critical_lines l (suc n) = critical_lines l n ++ maybe_line n (get_or l n 0)

-- the first n rows
unfoldable pub range_lines : Card → ℕ → List ℕ
range_lines c zero = []
range_lines c (suc n) = range_lines c n ++ range_line (get_or c.lowest n 0) (get_or c.highest n 0) (get_or c.bound n 0) (get_or c.tolerated n 0)

abbrev pub place_line : ℕ → Content → List ℕ
place_line k free = []
place_line k (holds x) = result_line k x

-- the results of containers 1 to n, in ascending order
unfoldable pub result_lines : Contents → ℕ → List ℕ
result_lines f zero = []
result_lines f (suc n) = result_lines f n ++ place_line (suc n) (f (suc n))

-- a sheet with these lines for the results
abbrev pub sheet_with : Ledger → List ℕ → List ℕ
sheet_with g results =
    lot_line g.lot.attribute (containers g)
    ++ card_line g.card.head
    ++ critical_lines g.card.critical criticals
    ++ range_lines g.card g.card.rows
    ++ results
    ++ end_line (held g)

-- the sheet that is written: each result as 05, weighed or not
unfoldable pub sheet_of : Ledger → List ℕ
sheet_of g = sheet_with g (result_lines g.contents (containers g))

-- the sheet writer: bad lot where none was opened, buffer short, or the sheet
abbrev pub write_on : Ledger → List ℕ → TextAnswer
write_on g d = pick (eqb (containers g) 0) (refuses_text 3 d) (laid_in (sheet_of g) d)
