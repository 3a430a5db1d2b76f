-- Chosen sheets of point 2 of document 02, in one table, true of the definitions: the row by the printed mean, void by the exact one.
-- Assumes nothing.
use mathlib.Core.Path.{◌≡◌, refl}
use mathlib.Core.List.{List, [], ◌∷◌}
use Rattle.rules.proofs.Cases.{Case, prints, by_definition, by_document}

abbrev pub printed_means : List Case
printed_means =
    -- purity, the rows of 98.00 with the tolerated range 2.00 and of 98.01 with 1.00
    -- five with a mean of 98.004, printed 98.00: the row of 98.00
    prints
    "01000028\n020A0A03E8\n04053C264800C8\n04053C26490064\n0500012648\n05000225E4\n05000326AC\n0500042648\n050005264A\n0605\n"
    "N 5\nMEAN 98.00+\nH 1.56- none open\nR 2.00 2.00 kept\nLOT open\n"
    -- 98.006, printed 98.01: the row of 98.01
    ∷ prints
    "01000028\n020A0A03E8\n04053C264800C8\n04053C26490064\n0500012648\n05000225E4\n05000326AC\n0500042648\n050005264B\n0605\n"
    "N 5\nMEAN 98.01-\nH 1.56- none open\nR 2.00 1.00 over\nLOT heterogeneous\n"
    -- six with a mean of 98.005, half up printed 98.01
    ∷ prints
    "01000028\n020A0A03E8\n04053C264800C8\n04053C26490064\n0500012648\n05000225E4\n05000326AC\n0500042648\n050005264B\n0500062648\n0606\n"
    "N 6\nMEAN 98.01-\nH 1.05- none open\nR 2.00 1.00 over\nLOT heterogeneous\n"
    -- ten with a mean of 98.004, printed with all its places: past 98.00
    ∷ prints
    "01000028\n020A0A03E8\n04053C264800C8\n04053C26490064\n0500012648\n05000225E4\n05000326AC\n050004264C\n0500052648\n0500062648\n0500072648\n0500082648\n0500092648\n05000A2648\n060A\n"
    "N 10\nMEAN 98.004=\nH 0.14- none open\nR 2.00 1.00 over\nLOT heterogeneous\n"
    -- ten with a mean of 98.000: the bound itself serves
    ∷ prints
    "01000028\n020A0A03E8\n04053C264800C8\n04053C26490064\n0500012648\n05000225E4\n05000326AC\n0500042648\n0500052648\n0500062648\n0500072648\n0500082648\n0500092648\n05000A2648\n060A\n"
    "N 10\nMEAN 98.000=\nH 0.13+ none open\nR 2.00 2.00 kept\nLOT open\n"
    -- germination, the same rows: 21 with a mean of 98.00048, printed 98.000; 98.00095, printed 98.001
    ∷ prints
    "01010028\n020A0A03E8\n04053C264800C8\n04053C26490064\n05000125E4\n05000226AC\n0500032649\n0500042648\n0500052648\n0500062648\n0500072648\n0500082648\n0500092648\n05000A2648\n05000B2648\n05000C2648\n05000D2648\n05000E2648\n05000F2648\n0500102648\n0500112648\n0500122648\n0500132648\n0500142648\n0500152648\n0615\n"
    "N 21\nMEAN 98.000+\nH 0.00- none open\nR 2.00 2.00 kept\nLOT open\n"
    ∷ prints
    "01010028\n020A0A03E8\n04053C264800C8\n04053C26490064\n05000125E4\n05000226AC\n050003264A\n0500042648\n0500052648\n0500062648\n0500072648\n0500082648\n0500092648\n05000A2648\n05000B2648\n05000C2648\n05000D2648\n05000E2648\n05000F2648\n0500102648\n0500112648\n0500122648\n0500132648\n0500142648\n0500152648\n0615\n"
    "N 21\nMEAN 98.001-\nH 0.00- none open\nR 2.00 1.00 over\nLOT heterogeneous\n"
    -- counts, the rows of 10 with the tolerated range 4 and of 11 with 2: 10.1 of nine; 10.10 and 10.00 of ten
    ∷ prints
    "01020028\n020A0A0000\n04053C000A0004\n04053C000B0002\n0500010008\n050002000C\n050003000B\n050004000A\n050005000A\n050006000A\n050007000A\n050008000A\n050009000A\n0609\n"
    "N 9\nMEAN 10.1+\nH 0.00- none open\nR 4 2 over\nLOT heterogeneous\n"
    ∷ prints
    "01020028\n020A0A0000\n04053C000A0004\n04053C000B0002\n0500010008\n050002000C\n050003000B\n050004000A\n050005000A\n050006000A\n050007000A\n050008000A\n050009000A\n05000A000A\n060A\n"
    "N 10\nMEAN 10.10=\nH 0.00- none open\nR 4 2 over\nLOT heterogeneous\n"
    ∷ prints
    "01020028\n020A0A0000\n04053C000A0004\n04053C000B0002\n0500010008\n050002000C\n050003000A\n050004000A\n050005000A\n050006000A\n050007000A\n050008000A\n050009000A\n05000A000A\n060A\n"
    "N 10\nMEAN 10.00=\nH 0.00- none open\nR 4 4 kept\nLOT open\n"
    -- void by the exact mean, though the limit is printed: purity 99.804 and 0.198, germination 99.004
    ∷ prints
    "01000028\n020A0A03E8\n04053C271000C8\n05000126FC\n05000226FC\n05000326FC\n05000426FC\n05000526FE\n0605\n"
    "N 5\nMEAN 99.80+\nH void\nR void\nLOT void\n"
    ∷ prints
    "01000028\n020A0A03E8\n04053C271000C8\n0500010014\n0500020014\n0500030014\n0500040014\n0500050013\n0605\n"
    "N 5\nMEAN 0.20-\nH void\nR void\nLOT void\n"
    ∷ prints
    "01010028\n020A0A03E8\n04053C271000C8\n05000126AC\n05000226AC\n05000326AC\n05000426AC\n05000526AE\n0605\n"
    "N 5\nMEAN 99.00+\nH void\nR void\nLOT void\n"
    ∷ []

pub by_printed_mean : by_definition printed_means ≡ by_document printed_means
unfolding by_definition
by_printed_mean = refl
