use Rattle.rows_walks.proofs.ScanLaws.{row_looked, row-measured}
use Rattle.rows_walks.proofs.scans.scan_row.Goals as goal

pub returns-then-scan : goal.returns-then-scan
returns-then-scan c = row_looked _ _ c.args.scan _ c.row_numbers-c.ensures _ c.if-scan.true c.look_at_call.ensures

pub returns : goal.returns
returns c = row-measured _ _ c.args.scan _ c.row_numbers-c.ensures _ c.if-scan.false c.measure.ensures
