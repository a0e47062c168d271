-- `document_writer::run_at` meets its contract. The loop's invariant: the rows so far are the text from start to stop.
use Prim.Native.Nat.{◌+◌, ◌-◌, ◌*◌, ◌≤◌}
use native.Mathlib.Omega.{arith}
use mathlib.Core.Path.{◌≡◌, refl, ap, ◌∙◌}
use lib.ListN.{length, take, drop, length-take, length-drop}
use Rattle.document_writer.specs.Rows.{document_row, document_row_at}
use Rattle.document_writer.proofs.RowLaws.{row_chunk, row_in_rest}
use Rattle.document_writer.proofs.RunLaws.{run-first, run-turn, run-done, run_single}
use Rattle.document_writer.proofs.documents.run_at.Goals as goal

pub returns-then-first-start : goal.returns-then-first-start
returns-then-first-start c = run_single _ _ _ c.requires

pub loop-row-init : goal.loop-row-init
loop-row-init c = (refl, run-first _ _ _ c.requires _ c.document_row_at.ensures _ _ c.row_end-first.ensures c.if-first-start.false)

pub loop-row-preserved : goal.loop-row-preserved
loop-row-preserved c =
    let ws = c.args.rows.now in
    let j = c.args.i + 4 in
    let k = c.loop-row.row-index * 4 in
    let rest = take (length ws - j) (drop j ws) in
    let q = row_chunk rest _ _ _ c.as_chunks.ensures.front c.as_chunks.ensures.front_len c.loop-row-test.true in
    let at : j + k ≡ c.args.i + c.loop-row.words = omega arith in
    let room : 4 ≤ length ws - (c.args.i + c.loop-row.words) = omega (arith, q.0, length-take (length ws - j) (drop j ws), length-drop j ws) in
    let e = c.row_of.ensures ∙ q.1 ∙ row_in_rest ws j k ∙ ap (λ n. document_row (document_row_at ws n)) at in
    let s : c.args.i + (c.loop-row.words + 4) ≡ c.args.i + c.loop-row.words + 4 = omega arith in
    (omega arith, rw s (run-turn _ _ _ _ _ _ c.loop-row.invariant.1 room _ e _ c.row_end-next.ensures c.if-next-stop.false))

pub returns : goal.returns
returns c =
    let s : c.args.i + c.loop-row.words - c.args.i ≡ c.loop-row.words = omega arith in
    rw s at (run-done _ _ _ _ _ _ c.as_place-start.ensures c.loop-row.invariant.1)
