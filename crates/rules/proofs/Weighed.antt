-- Chosen weights, samples and sheets of point 1 of document 02, in one table, true of the definitions. Assumes nothing.
use mathlib.Core.Path.{◌≡◌, refl}
use mathlib.Core.List.{List, [], ◌∷◌}
use Prim.Native.Nat.{ℕ}
use Rattle.rules.specs.Numbers.{Answered, gives, refuses, answer_of}
use Rattle.rules.specs.Weights.{tenths_of, weighed_of}
use Rattle.rules.proofs.Cases.{Case, prints, answers, by_definition, by_document}

-- a weight by its bits
abbrev weight : ℕ → Answered
weight b = answer_of (tenths_of b)

-- a sample by its status and the bits of component and remainder
abbrev sample : ℕ → ℕ → ℕ → Answered
sample status c r = answer_of (weighed_of status c r)

abbrev pub weighed_table : List Case
weighed_table =
    -- zero, the least number, the largest subnormal one
    answers (weight 0) (gives 0)
    ∷ answers (weight 1) (gives 0)
    ∷ answers (weight 0x007f_ffff) (gives 0)
    -- 2 ^ -15 g; 0.00005 g as a float, which lies below a half; the next float, which lies above it
    ∷ answers (weight 0x3800_0000) (gives 0)
    ∷ answers (weight 0x3851_b717) (gives 0)
    ∷ answers (weight 0x3851_b718) (gives 1)
    -- exact halves, 1/32 and 3/32 g, and the float before the first
    ∷ answers (weight 0x3d00_0000) (gives 313)
    ∷ answers (weight 0x3dc0_0000) (gives 938)
    ∷ answers (weight 0x3cff_ffff) (gives 312)
    -- 1 g, and the floats before, at and after 1000 g
    ∷ answers (weight 0x3f80_0000) (gives 10000)
    ∷ answers (weight 0x4479_ffff) (gives 9999999)
    ∷ answers (weight 0x447a_0000) (gives 10000000)
    ∷ answers (weight 0x447a_0001) (refuses 19)
    -- the largest number, infinity, and what is not a number
    ∷ answers (weight 0x7f7f_ffff) (refuses 19)
    ∷ answers (weight 0x7f80_0000) (refuses 19)
    ∷ answers (weight 0x7f80_0001) (refuses 19)
    ∷ answers (weight 0x7fc0_0000) (refuses 19)
    ∷ answers (weight 0xffff_ffff) (refuses 19)
    -- minus zero, minus one
    ∷ answers (weight 0x8000_0000) (refuses 19)
    ∷ answers (weight 0xbf80_0000) (refuses 19)
    -- 1 g and 2 g; 1 g and 1 g; 1 g and nothing
    ∷ answers (sample 0 0x3f80_0000 0x4000_0000) (gives 3333)
    ∷ answers (sample 0 0x3f80_0000 0x3f80_0000) (gives 5000)
    ∷ answers (sample 0 0x3f80_0000 0) (gives 10000)
    -- 1 tenth of a milligram in 20000: half of a hundredth of a percent
    ∷ answers (sample 0 0x38d1_b717 0x3fff_fcb9) (gives 1)
    -- both rounded to zero; the first rounded up to one tenth
    ∷ answers (sample 0 0x3851_b717 0x3851_b717) (refuses 19)
    ∷ answers (sample 0 0x3851_b718 0x3851_b717) (gives 10000)
    -- minus zero, infinity, above 1000 g, in either place
    ∷ answers (sample 0 0x8000_0000 0x3f80_0000) (refuses 19)
    ∷ answers (sample 0 0x3f80_0000 0x7f80_0000) (refuses 19)
    ∷ answers (sample 0 0x3f80_0000 0x447a_0001) (refuses 19)
    -- another status goes before the weights
    ∷ answers (sample 1 0x3f80_0000 0x3f80_0000) (refuses 18)
    ∷ answers (sample 2 0x7fc0_0000 0) (refuses 18)
    ∷ answers (sample 255 0 0) (refuses 18)
    -- the sheet of document 01, four of its results weighed: 98 g and 2 g, 97 g and 3 g, 99 g and 1 g
    ∷ prints
    "01000028\n020A0A03E8\n0305009B\n040509264800C8\n0700030042C4000040000000\n0700080042C2000040400000\n05000C26AC\n0700110042C4000040000000\n0700280042C4000040000000\n0605\n"
    "N 5\nMEAN 98.00=\nH 1.55+ 1.55 over\nR 2.00 2.00 kept\nLOT heterogeneous\n"
    -- weighed results count in 06, and alone too
    ∷ prints "01000028\n020A0A03E8\n07000300447A000000000000\n0600\n" "REFUSED 14 4\n"
    ∷ prints "01000028\n020A0A03E8\n07000300447A000000000000\n0601\n" "REFUSED 15 4\n"
    -- 1: a digit too few; kind 08
    ∷ prints "01000028\n020A0A03E8\n070003004479000000000000\n07000300447A00000000000\n" "REFUSED 1 4\n"
    ∷ prints "01000028\n020A0A03E8\n08000300447A000000000000\n" "REFUSED 1 3\n"
    -- 2 before the card's head, behind the end, and for germination and counts, before 6 and 18
    ∷ prints "01000028\n07000300447A000000000000\n" "REFUSED 2 2\n"
    ∷ prints "01000028\n020A0A03E8\n0600\n07000300447A000000000000\n" "REFUSED 2 4\n"
    ∷ prints "01010028\n020A0A03E8\n07000001447A000000000000\n" "REFUSED 2 3\n"
    ∷ prints "01020028\n020A0A0000\n07000300447A000000000000\n" "REFUSED 2 3\n"
    -- 6 and 8 before 18, and 18 before 19
    ∷ prints "01000028\n020A0A03E8\n070029018000000000000000\n" "REFUSED 6 3\n"
    ∷ prints "01000028\n020A0A03E8\n0500032648\n070003018000000000000000\n" "REFUSED 8 4\n"
    ∷ prints "01000028\n020A0A03E8\n070003018000000000000000\n" "REFUSED 18 3\n"
    ∷ prints "01000028\n020A0A03E8\n070003008000000000000000\n" "REFUSED 19 3\n"
    -- behind a weighed result the container is held
    ∷ prints "01000028\n020A0A03E8\n07000300447A000000000000\n0500032648\n" "REFUSED 8 4\n"
    ∷ []

pub weighed : by_definition weighed_table ≡ by_document weighed_table
unfolding by_definition
weighed = refl
