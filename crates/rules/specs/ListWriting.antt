-- The held results of a ledger as a comma list, in ascending container order.
use Rattle.std.specs.Prelude.{List, [], ◌++◌, ℕ, zero, suc}
use Rattle.rules.specs.Numbers.{TextAnswer}
use Rattle.rules.specs.Text.{byte, decimal, pointed, laid_in}
use Rattle.rules.specs.Attributes.{attribute_of, places_of_x}
use Rattle.rules.specs.Contents.{Content, Contents, free, holds}
use Rattle.rules.specs.Ledger.{Ledger, containers}
use Rattle.rules.specs.ListReading.{comma}

-- a line: container, comma, X with its places, end byte
unfoldable pub list_line : ℕ → ℕ → ℕ → List ℕ
list_line places k x = decimal k ++ byte comma ++ pointed places x ++ byte 10

abbrev pub place_listed : ℕ → ℕ → Content → List ℕ
place_listed places k free = []
place_listed places k (holds x) = list_line places k x

-- the results of containers 1 to n, in ascending order
unfoldable pub list_lines : ℕ → Contents → ℕ → List ℕ
list_lines places f zero = []
list_lines places f (suc n) = list_lines places f n ++ place_listed places (suc n) (f (suc n))

-- two places for percentages, none for counts
abbrev pub places_in : Ledger → ℕ
places_in g = places_of_x (attribute_of g.lot.attribute)

-- the list that is written: no bytes where nothing is held, as before an open
unfoldable pub list_of : Ledger → List ℕ
list_of g = list_lines (places_in g) g.contents (containers g)

-- the list writer: buffer short, or the list
abbrev pub write_list_on : Ledger → List ℕ → TextAnswer
write_list_on g d = laid_in (list_of g) d
