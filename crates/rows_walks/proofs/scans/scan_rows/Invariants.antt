-- `rows_walks::scan_rows`: what is left to look at gives what all rows give, by the same index.
use Rattle.std.proofs.Common.{◌≡◌, drop}
use Rattle.rows_walks.specs.Walks.{scanned}
use Rattle.rows_walks.proofs.scans.scan_rows.Given as goal

abbrev pub invariant-loop-row : goal.invariant-loop-row
invariant-loop-row l = (scanned l.text (drop l.row-index l.rows) l.z ≡ scanned l.text l.rows l.initial.z) × (l.z.blocks ≡ l.initial.z.blocks)
