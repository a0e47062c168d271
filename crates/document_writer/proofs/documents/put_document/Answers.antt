-- `document_writer::put_document` meets its contract: a turn takes one run off what is left to write.
use Prim.Native.Nat.{◌+◌}
use mathlib.Core.List.{[], ◌++◌}
use native.Mathlib.Omega.{arith}
use lib.ListN.{drop}
use Rattle.lin_spec.specs.Records.{bytes_at}
use Rattle.lin_spec.specs.Document.{document_text}
use Rattle.document_writer.specs.declared.documents.Run.{Run}
use Rattle.document_writer.specs.Rows.{run_text, RunAt}
use Rattle.output.proofs.Laws.{Left, roomy, step, finish}
use Rattle.document_writer.proofs.RowLaws.{trailing-left}
use Rattle.document_writer.proofs.RunLaws.{run-left}
use Rattle.document_writer.proofs.documents.put_document.Goals as goal

pub loop-i-preserved : goal.loop-i-preserved
loop-i-preserved c =
    let turn : (r : Run) → RunAt c.args.text.now c.args.rows.now c.loop-i.i r → Left c.loop-i.out c.loop-i.o (run_text c.args.text.now c.args.rows.now c.loop-i.i r ++ document_text c.args.text.now (drop (c.loop-i.i + r.words) c.args.rows.now) c.args.trailing) c.args.out.now 0 (document_text c.args.text.now c.args.rows.now c.args.trailing) = λ r v. run-left c.args.text.now c.args.rows.now c.loop-i.i c.args.trailing c.loop-i.invariant.1 r v in
    let v = c.run_at-run.ensures in
    (omega (arith, v.within), step (turn _ v) c.put_run-o.ensures)

pub put_span-requires : goal.put_span-requires
put_span-requires c =
    let last : Left c.loop-i.out c.loop-i.o (bytes_at c.args.text.now c.args.trailing ++ []) c.args.out.now 0 (document_text c.args.text.now c.args.rows.now c.args.trailing) = trailing-left c.args.text.now c.args.rows.now c.args.trailing c.loop-i.i c.loop-i.invariant.1 (omega arith) in
    roomy _ _ (last)

pub returns : goal.returns
returns c =
    let last : Left c.loop-i.out c.loop-i.o (bytes_at c.args.text.now c.args.trailing ++ []) c.args.out.now 0 (document_text c.args.text.now c.args.rows.now c.args.trailing) = trailing-left c.args.text.now c.args.rows.now c.args.trailing c.loop-i.i c.loop-i.invariant.1 (omega arith) in
    finish (step (last) c.put_span.ensures)
