-- `writer_texts::put_after` meets its contract: a run of puts, each of which takes one piece off what is left to write.
-- what is left to write after k of the puts
use lib.ListN.{drop}
use Rattle.output.specs.Put.{joined}
use Rattle.output.proofs.Laws.{Left, start, roomy, step, finish}
use Rattle.lin_spec.specs.Records.{bytes_at}
use Rattle.writer_texts.specs.Texts.{after_pieces, after_text}
use Rattle.writer_texts.proofs.texts.put_after.Goals as goal

pub put_all-a-requires : goal.put_all-a-requires
put_all-a-requires c =
    let after-0 : (Left c.args.out.now c.args.at (joined (drop 0 (after_pieces c.args.marks.pipe c.args.marks.line c.args.word.now (bytes_at c.args.text.now c.args.x)))) c.args.out.now c.args.at (after_text c.args.marks.pipe c.args.marks.line c.args.word.now (bytes_at c.args.text.now c.args.x))) = unfold after_text in start c.requires in
    roomy _ _ (after-0)

pub put_clean-b-requires : goal.put_clean-b-requires
put_clean-b-requires c =
    let after-0 : (Left c.args.out.now c.args.at (joined (drop 0 (after_pieces c.args.marks.pipe c.args.marks.line c.args.word.now (bytes_at c.args.text.now c.args.x)))) c.args.out.now c.args.at (after_text c.args.marks.pipe c.args.marks.line c.args.word.now (bytes_at c.args.text.now c.args.x))) = unfold after_text in start c.requires in
    let after-1 : (Left c.put_all-a.new.out c.put_all-a.result (joined (drop 1 (after_pieces c.args.marks.pipe c.args.marks.line c.args.word.now (bytes_at c.args.text.now c.args.x)))) c.args.out.now c.args.at (after_text c.args.marks.pipe c.args.marks.line c.args.word.now (bytes_at c.args.text.now c.args.x))) = step (after-0) c.put_all-a.ensures in
    roomy _ _ (after-1)

pub put-requires : goal.put-requires
put-requires c =
    let after-0 : (Left c.args.out.now c.args.at (joined (drop 0 (after_pieces c.args.marks.pipe c.args.marks.line c.args.word.now (bytes_at c.args.text.now c.args.x)))) c.args.out.now c.args.at (after_text c.args.marks.pipe c.args.marks.line c.args.word.now (bytes_at c.args.text.now c.args.x))) = unfold after_text in start c.requires in
    let after-1 : (Left c.put_all-a.new.out c.put_all-a.result (joined (drop 1 (after_pieces c.args.marks.pipe c.args.marks.line c.args.word.now (bytes_at c.args.text.now c.args.x)))) c.args.out.now c.args.at (after_text c.args.marks.pipe c.args.marks.line c.args.word.now (bytes_at c.args.text.now c.args.x))) = step (after-0) c.put_all-a.ensures in
    let after-2 : (Left c.put_clean-b.new.out c.put_clean-b.result (joined (drop 2 (after_pieces c.args.marks.pipe c.args.marks.line c.args.word.now (bytes_at c.args.text.now c.args.x)))) c.args.out.now c.args.at (after_text c.args.marks.pipe c.args.marks.line c.args.word.now (bytes_at c.args.text.now c.args.x))) = step (after-1) c.put_clean-b.ensures in
    roomy _ _ (after-2)

pub returns : goal.returns
returns c =
    let after-0 : (Left c.args.out.now c.args.at (joined (drop 0 (after_pieces c.args.marks.pipe c.args.marks.line c.args.word.now (bytes_at c.args.text.now c.args.x)))) c.args.out.now c.args.at (after_text c.args.marks.pipe c.args.marks.line c.args.word.now (bytes_at c.args.text.now c.args.x))) = unfold after_text in start c.requires in
    let after-1 : (Left c.put_all-a.new.out c.put_all-a.result (joined (drop 1 (after_pieces c.args.marks.pipe c.args.marks.line c.args.word.now (bytes_at c.args.text.now c.args.x)))) c.args.out.now c.args.at (after_text c.args.marks.pipe c.args.marks.line c.args.word.now (bytes_at c.args.text.now c.args.x))) = step (after-0) c.put_all-a.ensures in
    let after-2 : (Left c.put_clean-b.new.out c.put_clean-b.result (joined (drop 2 (after_pieces c.args.marks.pipe c.args.marks.line c.args.word.now (bytes_at c.args.text.now c.args.x)))) c.args.out.now c.args.at (after_text c.args.marks.pipe c.args.marks.line c.args.word.now (bytes_at c.args.text.now c.args.x))) = step (after-1) c.put_clean-b.ensures in
    let after-3 : (Left c.put.new.out c.put.result (joined (drop 3 (after_pieces c.args.marks.pipe c.args.marks.line c.args.word.now (bytes_at c.args.text.now c.args.x)))) c.args.out.now c.args.at (after_text c.args.marks.pipe c.args.marks.line c.args.word.now (bytes_at c.args.text.now c.args.x))) = step (after-2) c.put.ensures in
    finish (after-3)
