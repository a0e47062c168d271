-- `board_loop::store_call` meets its contract: a run of puts, each of which takes one word off what is left to store.
-- what is left to store after k of the puts
use lib.ListN.{drop}
use Rattle.output.specs.Put.{joined}
use Rattle.output.proofs.Laws.{Left, start, roomy, step, finish}
use Rattle.board_loop.specs.Calls.{row_pieces, row_words}
use Rattle.board_loop.proofs.storing.store_call.Goals as goal

pub put-a-requires : goal.put-a-requires
put-a-requires c =
    let after-0 : (Left c.args.rows.now c.args.at (joined (drop 0 (row_pieces c.args.c))) c.args.rows.now c.args.at (row_words c.args.c)) = unfold row_words in start c.requires in
    roomy _ _ (after-0)

pub put-b-requires : goal.put-b-requires
put-b-requires c =
    let after-0 : (Left c.args.rows.now c.args.at (joined (drop 0 (row_pieces c.args.c))) c.args.rows.now c.args.at (row_words c.args.c)) = unfold row_words in start c.requires in
    let after-1 : (Left c.put-a.new.out c.put-a.result (joined (drop 1 (row_pieces c.args.c))) c.args.rows.now c.args.at (row_words c.args.c)) = step (after-0) c.put-a.ensures in
    roomy _ _ (after-1)

pub put-d-requires : goal.put-d-requires
put-d-requires c =
    let after-0 : (Left c.args.rows.now c.args.at (joined (drop 0 (row_pieces c.args.c))) c.args.rows.now c.args.at (row_words c.args.c)) = unfold row_words in start c.requires in
    let after-1 : (Left c.put-a.new.out c.put-a.result (joined (drop 1 (row_pieces c.args.c))) c.args.rows.now c.args.at (row_words c.args.c)) = step (after-0) c.put-a.ensures in
    let after-2 : (Left c.put-b.new.out c.put-b.result (joined (drop 2 (row_pieces c.args.c))) c.args.rows.now c.args.at (row_words c.args.c)) = step (after-1) c.put-b.ensures in
    roomy _ _ (after-2)

pub put-e-requires : goal.put-e-requires
put-e-requires c =
    let after-0 : (Left c.args.rows.now c.args.at (joined (drop 0 (row_pieces c.args.c))) c.args.rows.now c.args.at (row_words c.args.c)) = unfold row_words in start c.requires in
    let after-1 : (Left c.put-a.new.out c.put-a.result (joined (drop 1 (row_pieces c.args.c))) c.args.rows.now c.args.at (row_words c.args.c)) = step (after-0) c.put-a.ensures in
    let after-2 : (Left c.put-b.new.out c.put-b.result (joined (drop 2 (row_pieces c.args.c))) c.args.rows.now c.args.at (row_words c.args.c)) = step (after-1) c.put-b.ensures in
    let after-3 : (Left c.put-d.new.out c.put-d.result (joined (drop 3 (row_pieces c.args.c))) c.args.rows.now c.args.at (row_words c.args.c)) = step (after-2) c.put-d.ensures in
    roomy _ _ (after-3)

pub put-f-requires : goal.put-f-requires
put-f-requires c =
    let after-0 : (Left c.args.rows.now c.args.at (joined (drop 0 (row_pieces c.args.c))) c.args.rows.now c.args.at (row_words c.args.c)) = unfold row_words in start c.requires in
    let after-1 : (Left c.put-a.new.out c.put-a.result (joined (drop 1 (row_pieces c.args.c))) c.args.rows.now c.args.at (row_words c.args.c)) = step (after-0) c.put-a.ensures in
    let after-2 : (Left c.put-b.new.out c.put-b.result (joined (drop 2 (row_pieces c.args.c))) c.args.rows.now c.args.at (row_words c.args.c)) = step (after-1) c.put-b.ensures in
    let after-3 : (Left c.put-d.new.out c.put-d.result (joined (drop 3 (row_pieces c.args.c))) c.args.rows.now c.args.at (row_words c.args.c)) = step (after-2) c.put-d.ensures in
    let after-4 : (Left c.put-e.new.out c.put-e.result (joined (drop 4 (row_pieces c.args.c))) c.args.rows.now c.args.at (row_words c.args.c)) = step (after-3) c.put-e.ensures in
    roomy _ _ (after-4)

pub put-requires : goal.put-requires
put-requires c =
    let after-0 : (Left c.args.rows.now c.args.at (joined (drop 0 (row_pieces c.args.c))) c.args.rows.now c.args.at (row_words c.args.c)) = unfold row_words in start c.requires in
    let after-1 : (Left c.put-a.new.out c.put-a.result (joined (drop 1 (row_pieces c.args.c))) c.args.rows.now c.args.at (row_words c.args.c)) = step (after-0) c.put-a.ensures in
    let after-2 : (Left c.put-b.new.out c.put-b.result (joined (drop 2 (row_pieces c.args.c))) c.args.rows.now c.args.at (row_words c.args.c)) = step (after-1) c.put-b.ensures in
    let after-3 : (Left c.put-d.new.out c.put-d.result (joined (drop 3 (row_pieces c.args.c))) c.args.rows.now c.args.at (row_words c.args.c)) = step (after-2) c.put-d.ensures in
    let after-4 : (Left c.put-e.new.out c.put-e.result (joined (drop 4 (row_pieces c.args.c))) c.args.rows.now c.args.at (row_words c.args.c)) = step (after-3) c.put-e.ensures in
    let after-5 : (Left c.put-f.new.out c.put-f.result (joined (drop 5 (row_pieces c.args.c))) c.args.rows.now c.args.at (row_words c.args.c)) = step (after-4) c.put-f.ensures in
    roomy _ _ (after-5)

pub returns : goal.returns
returns c =
    let after-0 : (Left c.args.rows.now c.args.at (joined (drop 0 (row_pieces c.args.c))) c.args.rows.now c.args.at (row_words c.args.c)) = unfold row_words in start c.requires in
    let after-1 : (Left c.put-a.new.out c.put-a.result (joined (drop 1 (row_pieces c.args.c))) c.args.rows.now c.args.at (row_words c.args.c)) = step (after-0) c.put-a.ensures in
    let after-2 : (Left c.put-b.new.out c.put-b.result (joined (drop 2 (row_pieces c.args.c))) c.args.rows.now c.args.at (row_words c.args.c)) = step (after-1) c.put-b.ensures in
    let after-3 : (Left c.put-d.new.out c.put-d.result (joined (drop 3 (row_pieces c.args.c))) c.args.rows.now c.args.at (row_words c.args.c)) = step (after-2) c.put-d.ensures in
    let after-4 : (Left c.put-e.new.out c.put-e.result (joined (drop 4 (row_pieces c.args.c))) c.args.rows.now c.args.at (row_words c.args.c)) = step (after-3) c.put-e.ensures in
    let after-5 : (Left c.put-f.new.out c.put-f.result (joined (drop 5 (row_pieces c.args.c))) c.args.rows.now c.args.at (row_words c.args.c)) = step (after-4) c.put-f.ensures in
    let after-6 : (Left c.put.new.out c.put.result (joined (drop 6 (row_pieces c.args.c))) c.args.rows.now c.args.at (row_words c.args.c)) = step (after-5) c.put.ensures in
    finish (after-6)
