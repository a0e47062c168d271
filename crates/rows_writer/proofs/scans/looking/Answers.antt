-- `rows_writer::looking` meets its contract: an index, or none; and what was measured stays.
use mathlib.Core.Path.{refl}
use Rattle.rows_writer.proofs.ScanLaws.{looks_index, looks_none, looked_short}
use Rattle.rows_writer.proofs.scans.looking.Goals as goal

pub index_text-requires : goal.index_text-requires
index_text-requires c = looked_short _ _ c.if-within-short.true

pub returns-then-within-short : goal.returns-then-within-short
returns-then-within-short c = looks_index _ _ _ _ refl c.index_text.ensures

pub returns-else-within-short : goal.returns-else-within-short
returns-else-within-short c = looks_none _ _ _
