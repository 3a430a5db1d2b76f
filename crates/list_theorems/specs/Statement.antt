-- Held results are written as a comma list, and read into an empty tally of the same lot and card they come back as held; how long a
-- list is; and a call on the sheet of a tally is the call on the tally. Each step is what the called function's own contract promises.
use Rattle.std.specs.Prelude.{◌≡◌, List, ℕ, zero, suc, ◌+◌, ◌*◌, ◌≤◌, length, take, Result, Ok, ⊤}
use base.Fml.{Lft}
use Rattle.std.specs.Borrow.{Bor, MutBor}
use Rattle.rules.specs.Limits.{most_held, highest_x, widest}
use Rattle.rules.specs.Contents.{none}
use Rattle.rules.specs.Cards.{cut_to_rows}
use Rattle.rules.specs.Lines.{lines_of}
use Rattle.rules.specs.Ledger.{Ledger, containers, held, with_contents, enter_on, withdraw_on}
use Rattle.rules.specs.ListReading.{list_on}
use Rattle.rules.specs.Writing.{sheet_of}
use Rattle.rules.specs.ListWriting.{list_of}
use Rattle.rules.specs.OnSheets.{without_line, after_call, enter_sheet, withdraw_sheet, enter_list_sheet}
use Rattle.rules.specs.declared.Lot.{Lot}
use Rattle.rules.specs.declared.Card.{Card}
use Rattle.rules.specs.declared.Refusal.{Refusal}
use Rattle.rules.specs.declared.Fault.{Fault}
use Rattle.reading_theorems.specs.Lengths.{longest_list}
use Rattle.tally.specs.View.{view}
use Rattle.tally.specs.declared.Tally.{Tally}
use Rattle.list_reader.specs.Promise.{listed}
use Rattle.history.specs.Calls.{Calls, start, opens, enters, judge, ledger, Answer}
use Rattle.history.specs.Run.{Run}
use Rattle.history.specs.Steps.{OpenStep, WriteStep, ListStep, WriteListStep}
use Rattle.round_trip_theorems.specs.Statement.{full_card}

-- a list is accepted, and the tally u after it has lot, card and results of g
pub record ComesBack (r : Result ⊤ Fault) (u : Tally) (g : Ledger) : Type 0 where
  pub accepted : (listed r (view u)).number ≡ 0
  pub line : (listed r (view u)).line ≡ 0
  pub same : view u ≡ g

-- a list was written, of so many bytes
pub record IsWritten (w : Result ℕ Refusal) : Type 0 where
  pub bytes : ℕ
  pub is : w ≡ Ok bytes

-- ---- how long a list is
-- the most bytes of a line, its end byte included: five digits, a comma, and six bytes of a percentage
abbrev pub line_bytes : ℕ
line_bytes = 13

-- a purity lot of the most containers
abbrev pub wide_lot : Lot
wide_lot = record { attribute = 0; containers = widest }

-- an open of it, and after it an enter of the highest result for each of n containers of five digits
unfoldable pub listing : ℕ → Calls
listing zero = opens start wide_lot full_card
listing (suc n) = enters (listing n) (10000 + n) highest_x

-- ---- calls on a sheet
-- each call on the sheet is the call on the ledger g, whatever the buffer: the answer, with file and line, and what the buffer has
pub record AsOnLedger (sheet : List ℕ) (g : Ledger) : Type 0 where
  pub enters : (k x : ℕ) (d : List ℕ) → enter_sheet sheet k x d ≡ after_call 0 (without_line (enter_on g k x)) d
  pub withdraws : (k : ℕ) (d : List ℕ) → withdraw_sheet sheet k d ≡ after_call 0 (without_line (withdraw_on g k)) d
  pub lists : (list d : List ℕ) → enter_list_sheet sheet list d ≡ after_call 2 (list_on g list) d

-- ---- all that is said, of tallies that a list of calls ends with
pub record ListTrip : Type 0 where
  -- what the list writer's call laid down for t, read into a tally of the same lot and card that holds nothing: the call accepts it, and
  -- the tally after it has the lot, the card and the results of t
  pub back : (cs ds : Calls) (ns ms : List Answer) (t : Tally) (u v : MutBor Tally) → Run cs ns t → Run ds ms u.now → ledger ds ≡ with_contents (ledger cs) none
      → (κ₁ : Lft) (b : MutBor (List ℕ)) (n : ℕ) (a : MutBor (List ℕ)) → WriteListStep κ₁ t b (Ok n) a
      → (κ₂ κ₃ : Lft) (list : Bor (List ℕ)) (r : Result ⊤ Fault) → list.now ≡ take n a.now → ListStep κ₂ κ₃ u list r v → ComesBack r v.now (ledger cs)
  -- the same into the tally that an open of this lot and card leaves, on any tally at all, once a lot is opened
  pub reopened : (cs : Calls) (ns : List Answer) (t : Tally) → Run cs ns t → 1 ≤ containers (ledger cs)
      → (κ : Lft) (o u : MutBor Tally) (c : Card) (e : Result ⊤ Refusal) → cut_to_rows c ≡ (ledger cs).card → OpenStep κ o (ledger cs).lot c e u
      → (κ₁ : Lft) (b : MutBor (List ℕ)) (n : ℕ) (a : MutBor (List ℕ)) → WriteListStep κ₁ t b (Ok n) a
      → (κ₂ κ₃ : Lft) (v w : MutBor Tally) → v.now ≡ u.now
      → (list : Bor (List ℕ)) (r : Result ⊤ Fault) → list.now ≡ take n a.now → ListStep κ₂ κ₃ v list r w → ComesBack r w.now (ledger cs)
  -- a list that is written has at most 13 bytes for each held result, none where nothing is held, and so at most 2,600
  pub each : (cs : Calls) (ns : List Answer) (t : Tally) → Run cs ns t → (κ : Lft) (b : MutBor (List ℕ)) (n : ℕ) (a : MutBor (List ℕ)) → WriteListStep κ t b (Ok n) a → n ≤ line_bytes * held (ledger cs)
  pub short : (cs : Calls) (ns : List Answer) (t : Tally) → Run cs ns t → (κ : Lft) (b : MutBor (List ℕ)) (n : ℕ) (a : MutBor (List ℕ)) → WriteListStep κ t b (Ok n) a → n ≤ longest_list
  -- and one has that length: each of these calls is accepted
  pub calls : (n : ℕ) → n ≤ most_held → (judge (listing n)).number ≡ 0
  pub long : length (list_of (ledger (listing most_held))) ≡ longest_list
  -- a buffer of 2,600 bytes is never short
  pub room : (cs : Calls) (ns : List Answer) (t : Tally) → Run cs ns t → (κ : Lft) (b : MutBor (List ℕ)) (w : Result ℕ Refusal) (a : MutBor (List ℕ)) → longest_list ≤ length b.now → WriteListStep κ t b w a → IsWritten w
  -- by the definitions: a list that is accepted has at most 13 bytes a line, and at most 2,600
  pub lines : (g : Ledger) (s : List ℕ) → containers g ≤ widest → (list_on g s).number ≡ 0 → length s ≤ line_bytes * length (lines_of s)
  pub few : (g : Ledger) (s : List ℕ) → containers g ≤ widest → (list_on g s).number ≡ 0 → length s ≤ longest_list
  -- a call on the sheet of t, once a lot is opened, is the call on what t holds; and so on what the sheet writer's call laid down for t
  pub on_sheet : (cs : Calls) (ns : List Answer) (t : Tally) → Run cs ns t → 1 ≤ containers (ledger cs) → AsOnLedger (sheet_of (ledger cs)) (ledger cs)
  pub on_written : (cs : Calls) (ns : List Answer) (t : Tally) → Run cs ns t → (κ : Lft) (b : MutBor (List ℕ)) (n : ℕ) (a : MutBor (List ℕ)) → WriteStep κ t b (Ok n) a → AsOnLedger (take n a.now) (ledger cs)
