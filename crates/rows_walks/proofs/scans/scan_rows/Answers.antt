-- `rows_walks::scan_rows` meets its contract: a turn looks at one row more.
use Rattle.std.proofs.Common.{sym, ◌∙◌, ap, ◌+◌, drop}
use Rattle.rows_walks.specs.declared.Scan.{Scan}
use Rattle.rows_walks.specs.Walks.{scanned}
use Rattle.rows_walks.proofs.ScanLaws.{row_blocks, scan_step, scan_end}
use Rattle.rows_walks.proofs.scans.scan_rows.Goals as goal

pub loop-row-preserved : goal.loop-row-preserved
loop-row-preserved c =
    let e = c.scan_row-z.ensures in (
      ap (λ (z : Scan). scanned c.args.text.now (drop (c.loop-row.row-index + 1) c.args.rows.now) z) e ∙ sym (scan_step _ _ _ _ c.loop-row-test.true) ∙ c.loop-row.invariant.0,
      ap (λ (z : Scan). z.blocks) e ∙ row_blocks _ _ _ ∙ c.loop-row.invariant.1,
    )

pub returns : goal.returns
returns c = sym (scan_end _ _ _ _ c.loop-row-test.false) ∙ c.loop-row.invariant.0
