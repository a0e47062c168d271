use native.Mathlib.Omega.{arith}
use Rattle.lin_spec.proofs.Utf8.{longest-within}
use Rattle.text.proofs.IndexLaws.{indexed_first}
use Rattle.document_writer.proofs.Answers.{write-long}
use Rattle.document_writer.proofs.documents.write_document.Goals as goal

pub returns-then-text-gt-LIMIT : goal.returns-then-text-gt-LIMIT
returns-then-text-gt-LIMIT c = write-long _ _ _ _ c.if-text-gt-LIMIT.true

pub overflow_cast-next : goal.overflow_cast-next
overflow_cast-next c = record { fits = omega (arith, longest-within c.args.text.now, c.well_formed_len-first.ensures, c.if-text-gt-LIMIT.false) }

pub write_looked-requires : goal.write_looked-requires
write_looked-requires c = (c.if-text-gt-LIMIT.false, c.well_formed_len-first.ensures, indexed_first c.args.text.now _ c.well_formed_len-first.ensures)
