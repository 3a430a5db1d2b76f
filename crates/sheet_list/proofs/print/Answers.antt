-- `sheet_list::print` meets its contract. Assumes nothing.
use Rattle.sheet_list.proofs.Listing.{listed_refused, listed_accepted}
use Rattle.sheet_list.proofs.print.Goals as goal

pub returns-in-Err : goal.returns-in-Err
returns-in-Err c =
    let listed = listed_refused _ _ c.in-Err.fault c.in-Err.ensures c.line.ensures c.print_refused.ensures in
    record { text = listed.0; most = listed.1 }

pub returns-in-Ok : goal.returns-in-Ok
returns-in-Ok c =
    let listed = listed_accepted _ _ c.in-Ok.ensures c.write_list.ensures in
    record { text = listed.0; most = listed.1 }
