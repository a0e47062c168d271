-- `document_writer::put_token` meets its contract: a run of puts, each of which takes one piece off what is left to write.
-- what is left to write after k of the puts
use lib.ListN.{drop}
use Rattle.output.specs.Put.{joined}
use Rattle.output.proofs.Laws.{Left, start, roomy, step, finish}
use Rattle.document_writer.specs.Rows.{token_pieces, token_text}
use Rattle.document_writer.proofs.documents.put_token.Goals as goal

pub put_span-a-requires : goal.put_span-a-requires
put_span-a-requires c =
    let after-0 : (Left c.args.out.now c.args.at (joined (drop 0 (token_pieces c.args.text.now c.args.row))) c.args.out.now c.args.at (token_text c.args.text.now c.args.row)) = unfold token_text in start c.requires in
    roomy _ _ (after-0)

pub put-b-requires : goal.put-b-requires
put-b-requires c =
    let after-0 : (Left c.args.out.now c.args.at (joined (drop 0 (token_pieces c.args.text.now c.args.row))) c.args.out.now c.args.at (token_text c.args.text.now c.args.row)) = unfold token_text in start c.requires in
    let after-1 : (Left c.put_span-a.new.out c.put_span-a.result (joined (drop 1 (token_pieces c.args.text.now c.args.row))) c.args.out.now c.args.at (token_text c.args.text.now c.args.row)) = step (after-0) c.put_span-a.ensures in
    roomy _ _ (after-1)

pub put_span-c-requires : goal.put_span-c-requires
put_span-c-requires c =
    let after-0 : (Left c.args.out.now c.args.at (joined (drop 0 (token_pieces c.args.text.now c.args.row))) c.args.out.now c.args.at (token_text c.args.text.now c.args.row)) = unfold token_text in start c.requires in
    let after-1 : (Left c.put_span-a.new.out c.put_span-a.result (joined (drop 1 (token_pieces c.args.text.now c.args.row))) c.args.out.now c.args.at (token_text c.args.text.now c.args.row)) = step (after-0) c.put_span-a.ensures in
    let after-2 : (Left c.put-b.new.out c.put-b.result (joined (drop 2 (token_pieces c.args.text.now c.args.row))) c.args.out.now c.args.at (token_text c.args.text.now c.args.row)) = step (after-1) c.put-b.ensures in
    roomy _ _ (after-2)

pub put-requires : goal.put-requires
put-requires c =
    let after-0 : (Left c.args.out.now c.args.at (joined (drop 0 (token_pieces c.args.text.now c.args.row))) c.args.out.now c.args.at (token_text c.args.text.now c.args.row)) = unfold token_text in start c.requires in
    let after-1 : (Left c.put_span-a.new.out c.put_span-a.result (joined (drop 1 (token_pieces c.args.text.now c.args.row))) c.args.out.now c.args.at (token_text c.args.text.now c.args.row)) = step (after-0) c.put_span-a.ensures in
    let after-2 : (Left c.put-b.new.out c.put-b.result (joined (drop 2 (token_pieces c.args.text.now c.args.row))) c.args.out.now c.args.at (token_text c.args.text.now c.args.row)) = step (after-1) c.put-b.ensures in
    let after-3 : (Left c.put_span-c.new.out c.put_span-c.result (joined (drop 3 (token_pieces c.args.text.now c.args.row))) c.args.out.now c.args.at (token_text c.args.text.now c.args.row)) = step (after-2) c.put_span-c.ensures in
    roomy _ _ (after-3)

pub returns : goal.returns
returns c =
    let after-0 : (Left c.args.out.now c.args.at (joined (drop 0 (token_pieces c.args.text.now c.args.row))) c.args.out.now c.args.at (token_text c.args.text.now c.args.row)) = unfold token_text in start c.requires in
    let after-1 : (Left c.put_span-a.new.out c.put_span-a.result (joined (drop 1 (token_pieces c.args.text.now c.args.row))) c.args.out.now c.args.at (token_text c.args.text.now c.args.row)) = step (after-0) c.put_span-a.ensures in
    let after-2 : (Left c.put-b.new.out c.put-b.result (joined (drop 2 (token_pieces c.args.text.now c.args.row))) c.args.out.now c.args.at (token_text c.args.text.now c.args.row)) = step (after-1) c.put-b.ensures in
    let after-3 : (Left c.put_span-c.new.out c.put_span-c.result (joined (drop 3 (token_pieces c.args.text.now c.args.row))) c.args.out.now c.args.at (token_text c.args.text.now c.args.row)) = step (after-2) c.put_span-c.ensures in
    let after-4 : (Left c.put.new.out c.put.result (joined (drop 4 (token_pieces c.args.text.now c.args.row))) c.args.out.now c.args.at (token_text c.args.text.now c.args.row)) = step (after-3) c.put.ensures in
    finish (after-4)
