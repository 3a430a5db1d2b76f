-- A count that is within a buffer counts what the buffer has at its front.
use Rattle.std.proofs.Common.{ℕ, ◌≤◌, List, sym, length}
use Rattle.std.proofs.Math.Seq.{length-take-le}
use Rattle.buffers.specs.Counts.{IsPrefixLen}

pub prefix_len_of_le : (n : ℕ) (xs : List ℕ) → n ≤ length xs → IsPrefixLen n xs
prefix_len_of_le n xs h = (h, sym (length-take-le n xs h))
