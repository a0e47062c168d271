-- `writer::put_board` meets its contract: a run of puts, each of which takes one piece off what is left to write.
-- what is left to write after k of the puts
use Rattle.board_lent.specs.Heads.{board_of}
use Rattle.lin_spec.specs.Append.{written_form}
use Rattle.writer_texts.specs.Calls.{calls_bytes}
use Rattle.writer.specs.Pieces.{board_pieces}
use Rattle.writer.specs.Filing.{filing}
use Rattle.writer.proofs.PieceLaws.{written_is}
use lib.ListN.{drop}
use Rattle.output.specs.Put.{joined}
use Rattle.output.proofs.Laws.{Left, start, roomy, step, finish}
use Rattle.writer.proofs.boards.put_board.Goals as goal

pub put_front-a-requires : goal.put_front-a-requires
put_front-a-requires c =
    let after-0 : (Left c.args.out.now c.args.at (joined (drop 0 (board_pieces c.args.marks.pipe c.args.marks.line c.args.text.now (board_of c.args.head c.args.counts.now) (calls_bytes c.args.marks.pipe c.args.marks.line c.args.text.now c.args.rows.now) c.args.cards.now))) c.args.out.now c.args.at (written_form (filing c.args.marks c.args.text.now (board_of c.args.head c.args.counts.now) c.args.rows.now c.args.cards.now))) = rw (← written_is c.args.marks c.args.text.now (board_of c.args.head c.args.counts.now) c.args.rows.now c.args.cards.now) (start c.requires.0) in
    (roomy _ _ (after-0), c.requires.2)

pub put_calls-b-requires : goal.put_calls-b-requires
put_calls-b-requires c =
    let after-0 : (Left c.args.out.now c.args.at (joined (drop 0 (board_pieces c.args.marks.pipe c.args.marks.line c.args.text.now (board_of c.args.head c.args.counts.now) (calls_bytes c.args.marks.pipe c.args.marks.line c.args.text.now c.args.rows.now) c.args.cards.now))) c.args.out.now c.args.at (written_form (filing c.args.marks c.args.text.now (board_of c.args.head c.args.counts.now) c.args.rows.now c.args.cards.now))) = rw (← written_is c.args.marks c.args.text.now (board_of c.args.head c.args.counts.now) c.args.rows.now c.args.cards.now) (start c.requires.0) in
    let after-1 : (Left c.put_front-a.new.out c.put_front-a.result (joined (drop 1 (board_pieces c.args.marks.pipe c.args.marks.line c.args.text.now (board_of c.args.head c.args.counts.now) (calls_bytes c.args.marks.pipe c.args.marks.line c.args.text.now c.args.rows.now) c.args.cards.now))) c.args.out.now c.args.at (written_form (filing c.args.marks c.args.text.now (board_of c.args.head c.args.counts.now) c.args.rows.now c.args.cards.now))) = step (after-0) c.put_front-a.ensures in
    roomy _ _ (after-1)

pub put_back-requires : goal.put_back-requires
put_back-requires c =
    let after-0 : (Left c.args.out.now c.args.at (joined (drop 0 (board_pieces c.args.marks.pipe c.args.marks.line c.args.text.now (board_of c.args.head c.args.counts.now) (calls_bytes c.args.marks.pipe c.args.marks.line c.args.text.now c.args.rows.now) c.args.cards.now))) c.args.out.now c.args.at (written_form (filing c.args.marks c.args.text.now (board_of c.args.head c.args.counts.now) c.args.rows.now c.args.cards.now))) = rw (← written_is c.args.marks c.args.text.now (board_of c.args.head c.args.counts.now) c.args.rows.now c.args.cards.now) (start c.requires.0) in
    let after-1 : (Left c.put_front-a.new.out c.put_front-a.result (joined (drop 1 (board_pieces c.args.marks.pipe c.args.marks.line c.args.text.now (board_of c.args.head c.args.counts.now) (calls_bytes c.args.marks.pipe c.args.marks.line c.args.text.now c.args.rows.now) c.args.cards.now))) c.args.out.now c.args.at (written_form (filing c.args.marks c.args.text.now (board_of c.args.head c.args.counts.now) c.args.rows.now c.args.cards.now))) = step (after-0) c.put_front-a.ensures in
    let after-2 : (Left c.put_calls-b.new.out c.put_calls-b.result (joined (drop 2 (board_pieces c.args.marks.pipe c.args.marks.line c.args.text.now (board_of c.args.head c.args.counts.now) (calls_bytes c.args.marks.pipe c.args.marks.line c.args.text.now c.args.rows.now) c.args.cards.now))) c.args.out.now c.args.at (written_form (filing c.args.marks c.args.text.now (board_of c.args.head c.args.counts.now) c.args.rows.now c.args.cards.now))) = step (after-1) c.put_calls-b.ensures in
    (roomy _ _ (after-2), c.requires.1)

pub shape_of-out : goal.shape_of-out
shape_of-out c =
    let after-0 : (Left c.args.out.now c.args.at (joined (drop 0 (board_pieces c.args.marks.pipe c.args.marks.line c.args.text.now (board_of c.args.head c.args.counts.now) (calls_bytes c.args.marks.pipe c.args.marks.line c.args.text.now c.args.rows.now) c.args.cards.now))) c.args.out.now c.args.at (written_form (filing c.args.marks c.args.text.now (board_of c.args.head c.args.counts.now) c.args.rows.now c.args.cards.now))) = rw (← written_is c.args.marks c.args.text.now (board_of c.args.head c.args.counts.now) c.args.rows.now c.args.cards.now) (start c.requires.0) in
    let after-1 : (Left c.put_front-a.new.out c.put_front-a.result (joined (drop 1 (board_pieces c.args.marks.pipe c.args.marks.line c.args.text.now (board_of c.args.head c.args.counts.now) (calls_bytes c.args.marks.pipe c.args.marks.line c.args.text.now c.args.rows.now) c.args.cards.now))) c.args.out.now c.args.at (written_form (filing c.args.marks c.args.text.now (board_of c.args.head c.args.counts.now) c.args.rows.now c.args.cards.now))) = step (after-0) c.put_front-a.ensures in
    let after-2 : (Left c.put_calls-b.new.out c.put_calls-b.result (joined (drop 2 (board_pieces c.args.marks.pipe c.args.marks.line c.args.text.now (board_of c.args.head c.args.counts.now) (calls_bytes c.args.marks.pipe c.args.marks.line c.args.text.now c.args.rows.now) c.args.cards.now))) c.args.out.now c.args.at (written_form (filing c.args.marks c.args.text.now (board_of c.args.head c.args.counts.now) c.args.rows.now c.args.cards.now))) = step (after-1) c.put_calls-b.ensures in
    let after-3 : (Left c.put_back.new.out c.put_back.result (joined (drop 3 (board_pieces c.args.marks.pipe c.args.marks.line c.args.text.now (board_of c.args.head c.args.counts.now) (calls_bytes c.args.marks.pipe c.args.marks.line c.args.text.now c.args.rows.now) c.args.cards.now))) c.args.out.now c.args.at (written_form (filing c.args.marks c.args.text.now (board_of c.args.head c.args.counts.now) c.args.rows.now c.args.cards.now))) = step (after-2) c.put_back.ensures in
    (after-3).long

pub returns : goal.returns
returns c =
    let after-0 : (Left c.args.out.now c.args.at (joined (drop 0 (board_pieces c.args.marks.pipe c.args.marks.line c.args.text.now (board_of c.args.head c.args.counts.now) (calls_bytes c.args.marks.pipe c.args.marks.line c.args.text.now c.args.rows.now) c.args.cards.now))) c.args.out.now c.args.at (written_form (filing c.args.marks c.args.text.now (board_of c.args.head c.args.counts.now) c.args.rows.now c.args.cards.now))) = rw (← written_is c.args.marks c.args.text.now (board_of c.args.head c.args.counts.now) c.args.rows.now c.args.cards.now) (start c.requires.0) in
    let after-1 : (Left c.put_front-a.new.out c.put_front-a.result (joined (drop 1 (board_pieces c.args.marks.pipe c.args.marks.line c.args.text.now (board_of c.args.head c.args.counts.now) (calls_bytes c.args.marks.pipe c.args.marks.line c.args.text.now c.args.rows.now) c.args.cards.now))) c.args.out.now c.args.at (written_form (filing c.args.marks c.args.text.now (board_of c.args.head c.args.counts.now) c.args.rows.now c.args.cards.now))) = step (after-0) c.put_front-a.ensures in
    let after-2 : (Left c.put_calls-b.new.out c.put_calls-b.result (joined (drop 2 (board_pieces c.args.marks.pipe c.args.marks.line c.args.text.now (board_of c.args.head c.args.counts.now) (calls_bytes c.args.marks.pipe c.args.marks.line c.args.text.now c.args.rows.now) c.args.cards.now))) c.args.out.now c.args.at (written_form (filing c.args.marks c.args.text.now (board_of c.args.head c.args.counts.now) c.args.rows.now c.args.cards.now))) = step (after-1) c.put_calls-b.ensures in
    let after-3 : (Left c.put_back.new.out c.put_back.result (joined (drop 3 (board_pieces c.args.marks.pipe c.args.marks.line c.args.text.now (board_of c.args.head c.args.counts.now) (calls_bytes c.args.marks.pipe c.args.marks.line c.args.text.now c.args.rows.now) c.args.cards.now))) c.args.out.now c.args.at (written_form (filing c.args.marks c.args.text.now (board_of c.args.head c.args.counts.now) c.args.rows.now c.args.cards.now))) = step (after-2) c.put_back.ensures in
    finish (after-3)
