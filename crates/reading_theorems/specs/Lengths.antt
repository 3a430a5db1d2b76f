-- How long a sheet and a comma list can be, and how many bytes of an input decide what is printed for it.
use Rattle.std.specs.Prelude.{◌≡◌, List, ℕ, ◌+◌, ◌≤◌, length, take}
use Rattle.rules.specs.Limits.{most_bytes}
use Rattle.rules.specs.Ledger.{Ledger}
use Rattle.rules.specs.Reading.{accepted, read_of}
use Rattle.rules.specs.Printing.{printed_for}

-- the longest sheet that is written
abbrev pub longest_written : ℕ
longest_written = 5429

-- the longest sheet that is accepted: each of its results is weighed
abbrev pub longest_read : ℕ
longest_read = 8229

-- the longest comma list that is written, and the longest that is accepted
abbrev pub longest_list : ℕ
longest_list = 2600

-- as many bytes as the longest accepted sheet has, and those of one line more, which makes it a faulty one
abbrev pub bytes_that_decide : ℕ
bytes_that_decide = longest_read + most_bytes

-- no sheet that is accepted is longer
abbrev pub NoneLonger : Type 0
NoneLonger = (sheet : List ℕ) (g : Ledger) (lines : ℕ) → read_of sheet ≡ accepted g lines → length sheet ≤ longest_read

-- what is printed for the first bytes of an input is printed for all of it, however many follow
abbrev pub PrefixDecides : Type 0
PrefixDecides = (input : List ℕ) (k : ℕ) → bytes_that_decide ≤ k → printed_for (take k input) ≡ printed_for input
