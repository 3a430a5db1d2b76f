-- The marked cases C1 to C12 of document 01, in one table, true of the definitions: sheets with every byte that lotreport prints, and
-- calls with their answers. Assumes nothing.
use mathlib.Core.Path.{◌≡◌, refl}
use mathlib.Core.List.{List, [], ◌∷◌}
use Rattle.rules.specs.Numbers.{gives}
use Rattle.rules.specs.Sampling.{sampling_of}
use Rattle.rules.specs.Tolerance.{label_of, pair_of}
use Rattle.rules.proofs.Cases.{Case, prints, answers, by_definition, by_document}

abbrev pub table : List Case
table =
    -- C1 the sheet of document 01
    prints
    "01000028\n020A0A03E8\n0305009B\n040509264800C8\n0500032648\n05000825E4\n05000C26AC\n0500112648\n0500282648\n0605\n"
    "N 5\nMEAN 98.00=\nH 1.55+ 1.55 over\nR 2.00 2.00 kept\nLOT heterogeneous\n"
    -- C2 its critical 1.56
    ∷ prints
    "01000028\n020A0A03E8\n0305009C\n040509264800C8\n0500032648\n05000825E4\n05000C26AC\n0500112648\n0500282648\n0605\n"
    "N 5\nMEAN 98.00=\nH 1.55+ 1.56 kept\nR 2.00 2.00 kept\nLOT even\n"
    -- C3 F = G = 11, critical 1.22: exact H is 1.2191
    ∷ prints
    "01000028\n020B0B03E8\n0305007A\n040509264800C8\n0500032648\n05000825E4\n05000C26AC\n0500112648\n0500282648\n0605\n"
    "N 5\nMEAN 98.00=\nH 1.22- 1.22 kept\nR 2.00 2.00 kept\nLOT even\n"
    -- C4 five at 99.80: the limit itself is not void
    ∷ prints
    "01000028\n020A0A03E8\n0305009B\n040509264800C8\n05000326FC\n05000826FC\n05000C26FC\n05001126FC\n05002826FC\n0605\n"
    "N 5\nMEAN 99.80=\nH 0.00- 1.55 kept\nR 0.00 none open\nLOT open\n"
    -- C5 one of them 99.81
    ∷ prints
    "01000028\n020A0A03E8\n0305009B\n040509264800C8\n05000326FC\n05000826FD\n05000C26FC\n05001126FC\n05002826FC\n0605\n"
    "N 5\nMEAN 99.80+\nH void\nR void\nLOT void\n"
    -- C6 counts 0 0 0 0 10, F = G = 10, critical 9.00
    ∷ prints
    "01020028\n020A0A0000\n03050384\n0500030000\n0500080000\n05000C0000\n0500110000\n050028000A\n0605\n"
    "N 5\nMEAN 2.0=\nH 9.00= 9.00 kept\nR 10 none open\nLOT open\n"
    -- C7 the same, F = 32, G = 0, critical 3.12: exact H is 3.125
    ∷ prints
    "01020028\n0220000000\n03050138\n0500030000\n0500080000\n05000C0000\n0500110000\n050028000A\n0605\n"
    "N 5\nMEAN 2.0=\nH 3.13- 3.12 over\nR 10 none open\nLOT heterogeneous\n"
    -- C8 the same, critical 3.13
    ∷ prints
    "01020028\n0220000000\n03050139\n0500030000\n0500080000\n05000C0000\n0500110000\n050028000A\n0605\n"
    "N 5\nMEAN 2.0=\nH 3.13- 3.13 kept\nR 10 none open\nLOT open\n"
    -- C9 4 and 10 seeds within; 0 and 5 within; 0 and 6 out
    ∷ answers (pair_of 4 10) (gives 1)
    ∷ answers (pair_of 0 5) (gives 1)
    ∷ answers (pair_of 0 6) (gives 0)
    -- C10 labelled 4: 7 within, 9 out
    ∷ answers (label_of 4 7) (gives 1)
    ∷ answers (label_of 4 9) (gives 0)
    -- C11 4 containers of 50 kg: 12; 16: 15
    ∷ answers (sampling_of 4 50) (gives 12)
    ∷ answers (sampling_of 16 50) (gives 15)
    -- C12 34 of 3 kg: 6; 20 of 1,001 kg: 40; 2 of 200 kg: 6
    ∷ answers (sampling_of 34 3) (gives 6)
    ∷ answers (sampling_of 20 1001) (gives 40)
    ∷ answers (sampling_of 2 200) (gives 6)
    ∷ []

pub marked : by_definition table ≡ by_document table
unfolding by_definition
marked = refl
