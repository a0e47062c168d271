use Rattle.document_writer.proofs.RunLaws.{run_stands, run_alone}
use Rattle.document_writer.proofs.documents.put_run.Goals as goal

pub put_all-requires : goal.put_all-requires
put_all-requires c = rw (run_stands c.args.text.now c.args.rows.now c.args.i c.args.run c.if-run.true c.part.ensures c.as_place.ensures) c.requires.0

pub returns-then-run : goal.returns-then-run
returns-then-run c = rw (run_stands c.args.text.now c.args.rows.now c.args.i c.args.run c.if-run.true c.part.ensures c.as_place.ensures) at c.put_all.ensures

pub put_token-requires : goal.put_token-requires
put_token-requires c = rw (run_alone c.args.text.now c.args.rows.now c.args.i c.args.run c.if-run.false _ c.document_row_at.ensures) c.requires.0

pub returns : goal.returns
returns c = rw (run_alone c.args.text.now c.args.rows.now c.args.i c.args.run c.if-run.false _ c.document_row_at.ensures) at c.put_token.ensures
