-- `board_loop::store_note` meets its contract: a run of puts, each of which takes one word off what is left to store.
-- what is left to store after k of the puts
use lib.ListN.{drop}
use Rattle.output.specs.Put.{joined}
use Rattle.output.proofs.Laws.{Left, start, roomy, step, finish}
use Rattle.board_loop.specs.Storing.{note_pieces, note_words}
use Rattle.board_loop.proofs.storing.store_note.Goals as goal

pub put-a-requires : goal.put-a-requires
put-a-requires c =
    let after-0 : (Left c.args.rows.now c.args.at (joined (drop 0 (note_pieces c.args.v))) c.args.rows.now c.args.at (note_words c.args.v)) = unfold note_words in start c.requires in
    roomy _ _ (after-0)

pub put-b-requires : goal.put-b-requires
put-b-requires c =
    let after-0 : (Left c.args.rows.now c.args.at (joined (drop 0 (note_pieces c.args.v))) c.args.rows.now c.args.at (note_words c.args.v)) = unfold note_words in start c.requires in
    let after-1 : (Left c.put-a.new.out c.put-a.result (joined (drop 1 (note_pieces c.args.v))) c.args.rows.now c.args.at (note_words c.args.v)) = step (after-0) c.put-a.ensures in
    roomy _ _ (after-1)

pub put-requires : goal.put-requires
put-requires c =
    let after-0 : (Left c.args.rows.now c.args.at (joined (drop 0 (note_pieces c.args.v))) c.args.rows.now c.args.at (note_words c.args.v)) = unfold note_words in start c.requires in
    let after-1 : (Left c.put-a.new.out c.put-a.result (joined (drop 1 (note_pieces c.args.v))) c.args.rows.now c.args.at (note_words c.args.v)) = step (after-0) c.put-a.ensures in
    let after-2 : (Left c.put-b.new.out c.put-b.result (joined (drop 2 (note_pieces c.args.v))) c.args.rows.now c.args.at (note_words c.args.v)) = step (after-1) c.put-b.ensures in
    roomy _ _ (after-2)

pub returns : goal.returns
returns c =
    let after-0 : (Left c.args.rows.now c.args.at (joined (drop 0 (note_pieces c.args.v))) c.args.rows.now c.args.at (note_words c.args.v)) = unfold note_words in start c.requires in
    let after-1 : (Left c.put-a.new.out c.put-a.result (joined (drop 1 (note_pieces c.args.v))) c.args.rows.now c.args.at (note_words c.args.v)) = step (after-0) c.put-a.ensures in
    let after-2 : (Left c.put-b.new.out c.put-b.result (joined (drop 2 (note_pieces c.args.v))) c.args.rows.now c.args.at (note_words c.args.v)) = step (after-1) c.put-b.ensures in
    let after-3 : (Left c.put.new.out c.put.result (joined (drop 3 (note_pieces c.args.v))) c.args.rows.now c.args.at (note_words c.args.v)) = step (after-2) c.put.ensures in
    finish (after-3)
