-- `writer::put_front` meets its contract: a run of puts, each of which takes one piece off what is left to write.
-- what is left to write after k of the puts
use Rattle.board_lent.specs.Heads.{board_of}
use Rattle.writer.specs.Pieces.{front_pieces, front_text}
use lib.ListN.{drop}
use Rattle.output.specs.Put.{joined}
use Rattle.output.proofs.Laws.{Left, start, roomy, step, finish}
use Rattle.writer.proofs.front.put_front.Goals as goal

pub put_heading-a-requires : goal.put_heading-a-requires
put_heading-a-requires c =
    let after-0 : (Left c.args.out.now c.args.at (joined (drop 0 (front_pieces c.args.marks.pipe c.args.marks.line c.args.text.now (board_of c.args.head c.args.counts.now)))) c.args.out.now c.args.at (front_text c.args.marks.pipe c.args.marks.line c.args.text.now (board_of c.args.head c.args.counts.now))) = unfold front_text in start c.requires.0 in
    roomy _ _ (after-0)

pub put_dealing-requires : goal.put_dealing-requires
put_dealing-requires c =
    let after-0 : (Left c.args.out.now c.args.at (joined (drop 0 (front_pieces c.args.marks.pipe c.args.marks.line c.args.text.now (board_of c.args.head c.args.counts.now)))) c.args.out.now c.args.at (front_text c.args.marks.pipe c.args.marks.line c.args.text.now (board_of c.args.head c.args.counts.now))) = unfold front_text in start c.requires.0 in
    let after-1 : (Left c.put_heading-a.new.out c.put_heading-a.result (joined (drop 1 (front_pieces c.args.marks.pipe c.args.marks.line c.args.text.now (board_of c.args.head c.args.counts.now)))) c.args.out.now c.args.at (front_text c.args.marks.pipe c.args.marks.line c.args.text.now (board_of c.args.head c.args.counts.now))) = step (after-0) c.put_heading-a.ensures in
    (roomy _ _ (after-1), c.requires.1)

pub shape_of-out : goal.shape_of-out
shape_of-out c =
    let after-0 : (Left c.args.out.now c.args.at (joined (drop 0 (front_pieces c.args.marks.pipe c.args.marks.line c.args.text.now (board_of c.args.head c.args.counts.now)))) c.args.out.now c.args.at (front_text c.args.marks.pipe c.args.marks.line c.args.text.now (board_of c.args.head c.args.counts.now))) = unfold front_text in start c.requires.0 in
    let after-1 : (Left c.put_heading-a.new.out c.put_heading-a.result (joined (drop 1 (front_pieces c.args.marks.pipe c.args.marks.line c.args.text.now (board_of c.args.head c.args.counts.now)))) c.args.out.now c.args.at (front_text c.args.marks.pipe c.args.marks.line c.args.text.now (board_of c.args.head c.args.counts.now))) = step (after-0) c.put_heading-a.ensures in
    let after-2 : (Left c.put_dealing.new.out c.put_dealing.result (joined (drop 2 (front_pieces c.args.marks.pipe c.args.marks.line c.args.text.now (board_of c.args.head c.args.counts.now)))) c.args.out.now c.args.at (front_text c.args.marks.pipe c.args.marks.line c.args.text.now (board_of c.args.head c.args.counts.now))) = step (after-1) c.put_dealing.ensures in
    (after-2).long

pub returns : goal.returns
returns c =
    let after-0 : (Left c.args.out.now c.args.at (joined (drop 0 (front_pieces c.args.marks.pipe c.args.marks.line c.args.text.now (board_of c.args.head c.args.counts.now)))) c.args.out.now c.args.at (front_text c.args.marks.pipe c.args.marks.line c.args.text.now (board_of c.args.head c.args.counts.now))) = unfold front_text in start c.requires.0 in
    let after-1 : (Left c.put_heading-a.new.out c.put_heading-a.result (joined (drop 1 (front_pieces c.args.marks.pipe c.args.marks.line c.args.text.now (board_of c.args.head c.args.counts.now)))) c.args.out.now c.args.at (front_text c.args.marks.pipe c.args.marks.line c.args.text.now (board_of c.args.head c.args.counts.now))) = step (after-0) c.put_heading-a.ensures in
    let after-2 : (Left c.put_dealing.new.out c.put_dealing.result (joined (drop 2 (front_pieces c.args.marks.pipe c.args.marks.line c.args.text.now (board_of c.args.head c.args.counts.now)))) c.args.out.now c.args.at (front_text c.args.marks.pipe c.args.marks.line c.args.text.now (board_of c.args.head c.args.counts.now))) = step (after-1) c.put_dealing.ensures in
    finish (after-2)
