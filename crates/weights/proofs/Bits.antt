-- Floats made from 32 bits. Assumes nothing.
use mathlib.Core.Path.{◌≡◌, refl, sym, ◌∙◌}
use mathlib.Core.Bool.{not}
use Prim.Native.Nat.{ℕ, ◌%◌, ◌≤◌, ◌<◌}
use lib.Dec.{T}
use lib.Ieee.{nan, binary32, nan_bits, of_bits}
use lib.Ieee.Bits.{nan_bits_is, nan_bits_above}
use borrow.Author.Tests.{lt-ltb, le-ltb}
use Rattle.rules.proofs.FloatLaws.{nan_of}

quiet : of_bits binary32 2143289344 ≡ nan
unfolding of_bits
quiet = refl

pub same_nan : (b : ℕ) → 2139095040 < b % 2147483648 → of_bits binary32 b ≡ of_bits binary32 2143289344
same_nan b h =
    nan_of (of_bits binary32 b) (sym (nan_bits_is binary32 b) ∙ nan_bits_above binary32 b ∙ lt-ltb 2139095040 (b % 2147483648) h) ∙ sym quiet

pub not_nan : (b : ℕ) → b % 2147483648 ≤ 2139095040 → T (not (nan_bits binary32 b))
not_nan b h = rw (nan_bits_above binary32 b, le-ltb 2139095040 (b % 2147483648) h) tt
