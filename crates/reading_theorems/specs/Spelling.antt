-- A sheet says an open and its enters: which they are, and the ledger that they make.
use Rattle.std.specs.Prelude.{◌≡◌, List, [], ◌∷◌, ◌++◌, ℕ}
use Rattle.rules.specs.Lines.{Line, ended, unended, lines_of}
use Rattle.rules.specs.Frames.{frame_of}
use Rattle.rules.specs.Cards.{head_of, with_head, with_critical, with_row, fresh_lot, fresh_card}
use Rattle.rules.specs.Weights.{weighing_of}
use Rattle.rules.specs.Ledger.{Ledger, open_on, enter_on, fresh_ledger}
use Rattle.rules.specs.declared.Lot.{Lot}
use Rattle.rules.specs.declared.Card.{Card}
use Rattle.rules.specs.declared.Frame.{Frame}
use Rattle.rules.specs.declared.Frame.TheVariants as frame

-- the arguments of an enter
pub record Entry : Type 0 where
  pub container : ℕ
  pub x : ℕ

-- The ledger that these calls make, each of them accepted, on a fresh tally: an open of the lot with the card, and then the
-- enters, in their order.
pub data Made (l : Lot) (c : Card) : List Entry → Ledger → Type 0 where
  opens : (open_on fresh_ledger l c).number ≡ 0 → Made l c [] (open_on fresh_ledger l c).ledger
  enters : {es : List Entry} {g : Ledger} (k x : ℕ) → Made l c es g → (enter_on g k x).number ≡ 0 → Made l c (es ++ (record { container = k; x = x } ∷ [])) (enter_on g k x).ledger

-- the results of a sheet: its 05 frames and its 07 frames with the X that was weighed, in their order
abbrev pub entry_of : Frame → List Entry
entry_of frame.Bad = []
entry_of (frame.Lot a n) = []
entry_of (frame.Card f g n) = []
entry_of (frame.Critical k v) = []
entry_of (frame.Range l h b r) = []
entry_of (frame.Result c x) = record { container = c; x = x } ∷ []
entry_of (frame.End n) = []
entry_of (frame.Balance c s p) = record { container = c; x = (weighing_of s p).value } ∷ []

unfoldable pub entries_in : List Line → List Entry
entries_in [] = []
entries_in (unended ∷ ls) = entries_in ls
entries_in (ended d ∷ ls) = entry_of (frame_of d) ++ entries_in ls

abbrev pub entries_of : List ℕ → List Entry
entries_of sheet = entries_in (lines_of sheet)

-- its lot: that of its 01 frame
abbrev pub lot_by : Frame → Lot → Lot
lot_by frame.Bad l = l
lot_by (frame.Lot a n) l = record { attribute = a; containers = n }
lot_by (frame.Card f g n) l = l
lot_by (frame.Critical k v) l = l
lot_by (frame.Range lo hi b r) l = l
lot_by (frame.Result c x) l = l
lot_by (frame.End n) l = l
lot_by (frame.Balance k s p) l = l

-- its card: the head of its 02 frame, and what its 03 and 04 frames add
abbrev pub card_by : Frame → Card → Card
card_by frame.Bad c = c
card_by (frame.Lot a n) c = c
card_by (frame.Card f g n) c = with_head c (head_of f g n)
card_by (frame.Critical k v) c = with_critical c k v
card_by (frame.Range lo hi b r) c = with_row c lo hi b r
card_by (frame.Result k x) c = c
card_by (frame.End n) c = c
card_by (frame.Balance k s p) c = c

unfoldable pub lot_in : Lot → List Line → Lot
lot_in l [] = l
lot_in l (unended ∷ ls) = lot_in l ls
lot_in l (ended d ∷ ls) = lot_in (lot_by (frame_of d) l) ls

unfoldable pub card_in : Card → List Line → Card
card_in c [] = c
card_in c (unended ∷ ls) = card_in c ls
card_in c (ended d ∷ ls) = card_in (card_by (frame_of d) c) ls

abbrev pub sheet_lot : List ℕ → Lot
sheet_lot sheet = lot_in fresh_lot (lines_of sheet)

abbrev pub sheet_card : List ℕ → Card
sheet_card sheet = card_in fresh_card (lines_of sheet)

-- g is made by the open and the enters that the sheet says, each of them accepted
abbrev pub Spelled : List ℕ → Ledger → Type 0
Spelled sheet g = Made (sheet_lot sheet) (sheet_card sheet) (entries_of sheet) g
