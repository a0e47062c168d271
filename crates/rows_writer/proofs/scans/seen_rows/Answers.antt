-- `rows_writer::seen_rows` meets its contract: two scans of the rows, the second by what the first has measured.
use Rattle.rows_writer.proofs.ScanLaws.{seen_found}
use Rattle.rows_writer.proofs.scans.seen_rows.Goals as goal

pub returns : goal.returns
returns c = seen_found _ _ _ _ _ _ _ c.measuring.ensures c.scan_rows-first.ensures c.looking-second.ensures c.scan_rows.ensures
