-- What the cutter promises.
use Rattle.std.specs.Prelude.{◌≡◌, List, ℕ, ◌+◌, min, length}
use Rattle.std.specs.Borrow.{Bor}
use Rattle.cutter.specs.Runs.{digits_at}

-- r is the digits of the line of the sheet s that starts at `at`, and it is that very part of the sheet: it points to the sheet's own
-- bytes, from `at` on (from the sheet's end on where `at` is past it)
pub record CutAt (s : Bor (List ℕ)) (at : ℕ) (r : Bor (List ℕ)) : Type 0 where
  pub bytes : r.now ≡ digits_at s.now at
  pub place : r.ref_ptr ≡ (s.ref_ptr.0, s.ref_ptr.1 + min at (length s.now))
