-- `writer::put_dealing` meets its contract: a run of puts, each of which takes one piece off what is left to write.
-- what is left to write after k of the puts
use Rattle.board_lent.specs.Heads.{board_of}
use lib.ListN.{drop}
use Rattle.output.specs.Put.{joined}
use Rattle.output.proofs.Laws.{Left, start, roomy, step, finish}
use Rattle.writer.specs.Pieces.{dealing_pieces, dealing_text}
use Rattle.writer.proofs.front.put_dealing.Goals as goal

pub put_all-a-requires : goal.put_all-a-requires
put_all-a-requires c =
    let after-0 : (Left c.args.out.now c.args.at (joined (drop 0 (dealing_pieces (board_of c.args.head c.args.counts.now)))) c.args.out.now c.args.at (dealing_text (board_of c.args.head c.args.counts.now))) = unfold dealing_text in start c.requires.0 in
    roomy _ _ (after-0)

pub put_md-b-requires : goal.put_md-b-requires
put_md-b-requires c =
    let after-0 : (Left c.args.out.now c.args.at (joined (drop 0 (dealing_pieces (board_of c.args.head c.args.counts.now)))) c.args.out.now c.args.at (dealing_text (board_of c.args.head c.args.counts.now))) = unfold dealing_text in start c.requires.0 in
    let after-1 : (Left c.put_all-a.new.out c.put_all-a.result (joined (drop 1 (dealing_pieces (board_of c.args.head c.args.counts.now)))) c.args.out.now c.args.at (dealing_text (board_of c.args.head c.args.counts.now))) = step (after-0) c.put_all-a.ensures in
    (roomy _ _ (after-1), c.requires.1)

pub put_all-c-requires : goal.put_all-c-requires
put_all-c-requires c =
    let after-0 : (Left c.args.out.now c.args.at (joined (drop 0 (dealing_pieces (board_of c.args.head c.args.counts.now)))) c.args.out.now c.args.at (dealing_text (board_of c.args.head c.args.counts.now))) = unfold dealing_text in start c.requires.0 in
    let after-1 : (Left c.put_all-a.new.out c.put_all-a.result (joined (drop 1 (dealing_pieces (board_of c.args.head c.args.counts.now)))) c.args.out.now c.args.at (dealing_text (board_of c.args.head c.args.counts.now))) = step (after-0) c.put_all-a.ensures in
    let after-2 : (Left c.put_md-b.new.out c.put_md-b.result (joined (drop 2 (dealing_pieces (board_of c.args.head c.args.counts.now)))) c.args.out.now c.args.at (dealing_text (board_of c.args.head c.args.counts.now))) = step (after-1) c.put_md-b.ensures in
    roomy _ _ (after-2)

pub put_sv-d-requires : goal.put_sv-d-requires
put_sv-d-requires c =
    let after-0 : (Left c.args.out.now c.args.at (joined (drop 0 (dealing_pieces (board_of c.args.head c.args.counts.now)))) c.args.out.now c.args.at (dealing_text (board_of c.args.head c.args.counts.now))) = unfold dealing_text in start c.requires.0 in
    let after-1 : (Left c.put_all-a.new.out c.put_all-a.result (joined (drop 1 (dealing_pieces (board_of c.args.head c.args.counts.now)))) c.args.out.now c.args.at (dealing_text (board_of c.args.head c.args.counts.now))) = step (after-0) c.put_all-a.ensures in
    let after-2 : (Left c.put_md-b.new.out c.put_md-b.result (joined (drop 2 (dealing_pieces (board_of c.args.head c.args.counts.now)))) c.args.out.now c.args.at (dealing_text (board_of c.args.head c.args.counts.now))) = step (after-1) c.put_md-b.ensures in
    let after-3 : (Left c.put_all-c.new.out c.put_all-c.result (joined (drop 3 (dealing_pieces (board_of c.args.head c.args.counts.now)))) c.args.out.now c.args.at (dealing_text (board_of c.args.head c.args.counts.now))) = step (after-2) c.put_all-c.ensures in
    roomy _ _ (after-3)

pub put_all-requires : goal.put_all-requires
put_all-requires c =
    let after-0 : (Left c.args.out.now c.args.at (joined (drop 0 (dealing_pieces (board_of c.args.head c.args.counts.now)))) c.args.out.now c.args.at (dealing_text (board_of c.args.head c.args.counts.now))) = unfold dealing_text in start c.requires.0 in
    let after-1 : (Left c.put_all-a.new.out c.put_all-a.result (joined (drop 1 (dealing_pieces (board_of c.args.head c.args.counts.now)))) c.args.out.now c.args.at (dealing_text (board_of c.args.head c.args.counts.now))) = step (after-0) c.put_all-a.ensures in
    let after-2 : (Left c.put_md-b.new.out c.put_md-b.result (joined (drop 2 (dealing_pieces (board_of c.args.head c.args.counts.now)))) c.args.out.now c.args.at (dealing_text (board_of c.args.head c.args.counts.now))) = step (after-1) c.put_md-b.ensures in
    let after-3 : (Left c.put_all-c.new.out c.put_all-c.result (joined (drop 3 (dealing_pieces (board_of c.args.head c.args.counts.now)))) c.args.out.now c.args.at (dealing_text (board_of c.args.head c.args.counts.now))) = step (after-2) c.put_all-c.ensures in
    let after-4 : (Left c.put_sv-d.new.out c.put_sv-d.result (joined (drop 4 (dealing_pieces (board_of c.args.head c.args.counts.now)))) c.args.out.now c.args.at (dealing_text (board_of c.args.head c.args.counts.now))) = step (after-3) c.put_sv-d.ensures in
    roomy _ _ (after-4)

pub shape_of-out : goal.shape_of-out
shape_of-out c =
    let after-0 : (Left c.args.out.now c.args.at (joined (drop 0 (dealing_pieces (board_of c.args.head c.args.counts.now)))) c.args.out.now c.args.at (dealing_text (board_of c.args.head c.args.counts.now))) = unfold dealing_text in start c.requires.0 in
    let after-1 : (Left c.put_all-a.new.out c.put_all-a.result (joined (drop 1 (dealing_pieces (board_of c.args.head c.args.counts.now)))) c.args.out.now c.args.at (dealing_text (board_of c.args.head c.args.counts.now))) = step (after-0) c.put_all-a.ensures in
    let after-2 : (Left c.put_md-b.new.out c.put_md-b.result (joined (drop 2 (dealing_pieces (board_of c.args.head c.args.counts.now)))) c.args.out.now c.args.at (dealing_text (board_of c.args.head c.args.counts.now))) = step (after-1) c.put_md-b.ensures in
    let after-3 : (Left c.put_all-c.new.out c.put_all-c.result (joined (drop 3 (dealing_pieces (board_of c.args.head c.args.counts.now)))) c.args.out.now c.args.at (dealing_text (board_of c.args.head c.args.counts.now))) = step (after-2) c.put_all-c.ensures in
    let after-4 : (Left c.put_sv-d.new.out c.put_sv-d.result (joined (drop 4 (dealing_pieces (board_of c.args.head c.args.counts.now)))) c.args.out.now c.args.at (dealing_text (board_of c.args.head c.args.counts.now))) = step (after-3) c.put_sv-d.ensures in
    let after-5 : (Left c.put_all.new.out c.put_all.result (joined (drop 5 (dealing_pieces (board_of c.args.head c.args.counts.now)))) c.args.out.now c.args.at (dealing_text (board_of c.args.head c.args.counts.now))) = step (after-4) c.put_all.ensures in
    (after-5).long

pub returns : goal.returns
returns c =
    let after-0 : (Left c.args.out.now c.args.at (joined (drop 0 (dealing_pieces (board_of c.args.head c.args.counts.now)))) c.args.out.now c.args.at (dealing_text (board_of c.args.head c.args.counts.now))) = unfold dealing_text in start c.requires.0 in
    let after-1 : (Left c.put_all-a.new.out c.put_all-a.result (joined (drop 1 (dealing_pieces (board_of c.args.head c.args.counts.now)))) c.args.out.now c.args.at (dealing_text (board_of c.args.head c.args.counts.now))) = step (after-0) c.put_all-a.ensures in
    let after-2 : (Left c.put_md-b.new.out c.put_md-b.result (joined (drop 2 (dealing_pieces (board_of c.args.head c.args.counts.now)))) c.args.out.now c.args.at (dealing_text (board_of c.args.head c.args.counts.now))) = step (after-1) c.put_md-b.ensures in
    let after-3 : (Left c.put_all-c.new.out c.put_all-c.result (joined (drop 3 (dealing_pieces (board_of c.args.head c.args.counts.now)))) c.args.out.now c.args.at (dealing_text (board_of c.args.head c.args.counts.now))) = step (after-2) c.put_all-c.ensures in
    let after-4 : (Left c.put_sv-d.new.out c.put_sv-d.result (joined (drop 4 (dealing_pieces (board_of c.args.head c.args.counts.now)))) c.args.out.now c.args.at (dealing_text (board_of c.args.head c.args.counts.now))) = step (after-3) c.put_sv-d.ensures in
    let after-5 : (Left c.put_all.new.out c.put_all.result (joined (drop 5 (dealing_pieces (board_of c.args.head c.args.counts.now)))) c.args.out.now c.args.at (dealing_text (board_of c.args.head c.args.counts.now))) = step (after-4) c.put_all.ensures in
    finish (after-5)
