-- `pbn_texts::put_three` meets its contract: a run of puts, each of which takes one piece off what is left to write.
-- what is left to write after k of the puts
use lib.ListN.{drop}
use Rattle.output.specs.Put.{joined}
use Rattle.output.proofs.Laws.{Left, start, roomy, step, finish}
use Rattle.pbn_texts.specs.Rows.{three_pieces, three_text}
use Rattle.pbn_texts.proofs.call_rows.put_three.Goals as goal

pub put-a-requires : goal.put-a-requires
put-a-requires c =
    let after-0 : (Left c.args.out.now c.args.at (joined (drop 0 (three_pieces c.args.x c.args.y c.args.z))) c.args.out.now c.args.at (three_text c.args.x c.args.y c.args.z)) = unfold three_text in start c.requires in
    roomy _ _ (after-0)

pub put-b-requires : goal.put-b-requires
put-b-requires c =
    let after-0 : (Left c.args.out.now c.args.at (joined (drop 0 (three_pieces c.args.x c.args.y c.args.z))) c.args.out.now c.args.at (three_text c.args.x c.args.y c.args.z)) = unfold three_text in start c.requires in
    let after-1 : (Left c.put-a.new.out c.put-a.result (joined (drop 1 (three_pieces c.args.x c.args.y c.args.z))) c.args.out.now c.args.at (three_text c.args.x c.args.y c.args.z)) = step (after-0) c.put-a.ensures in
    roomy _ _ (after-1)

pub put-requires : goal.put-requires
put-requires c =
    let after-0 : (Left c.args.out.now c.args.at (joined (drop 0 (three_pieces c.args.x c.args.y c.args.z))) c.args.out.now c.args.at (three_text c.args.x c.args.y c.args.z)) = unfold three_text in start c.requires in
    let after-1 : (Left c.put-a.new.out c.put-a.result (joined (drop 1 (three_pieces c.args.x c.args.y c.args.z))) c.args.out.now c.args.at (three_text c.args.x c.args.y c.args.z)) = step (after-0) c.put-a.ensures in
    let after-2 : (Left c.put-b.new.out c.put-b.result (joined (drop 2 (three_pieces c.args.x c.args.y c.args.z))) c.args.out.now c.args.at (three_text c.args.x c.args.y c.args.z)) = step (after-1) c.put-b.ensures in
    roomy _ _ (after-2)

pub returns : goal.returns
returns c =
    let after-0 : (Left c.args.out.now c.args.at (joined (drop 0 (three_pieces c.args.x c.args.y c.args.z))) c.args.out.now c.args.at (three_text c.args.x c.args.y c.args.z)) = unfold three_text in start c.requires in
    let after-1 : (Left c.put-a.new.out c.put-a.result (joined (drop 1 (three_pieces c.args.x c.args.y c.args.z))) c.args.out.now c.args.at (three_text c.args.x c.args.y c.args.z)) = step (after-0) c.put-a.ensures in
    let after-2 : (Left c.put-b.new.out c.put-b.result (joined (drop 2 (three_pieces c.args.x c.args.y c.args.z))) c.args.out.now c.args.at (three_text c.args.x c.args.y c.args.z)) = step (after-1) c.put-b.ensures in
    let after-3 : (Left c.put.new.out c.put.result (joined (drop 3 (three_pieces c.args.x c.args.y c.args.z))) c.args.out.now c.args.at (three_text c.args.x c.args.y c.args.z)) = step (after-2) c.put.ensures in
    finish (after-3)
