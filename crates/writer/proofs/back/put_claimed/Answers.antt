-- `writer::put_claimed` meets its contract: a run of puts, each of which takes one piece off what is left to write.
-- what is left to write after k of the puts
use lib.ListN.{drop}
use Rattle.output.specs.Put.{joined}
use Rattle.output.proofs.Laws.{Left, start, roomy, step, finish}
use Rattle.writer.specs.Pieces.{claimed_pieces, claimed_text}
use Rattle.writer.proofs.back.put_claimed.Goals as goal

pub put_all-a-requires : goal.put_all-a-requires
put_all-a-requires c =
    let after-0 : (Left c.args.out.now c.args.at (joined (drop 0 (claimed_pieces c.args.n))) c.args.out.now c.args.at (claimed_text c.args.n)) = unfold claimed_text in start c.requires in
    roomy _ _ (after-0)

pub put_decimal-b-requires : goal.put_decimal-b-requires
put_decimal-b-requires c =
    let after-0 : (Left c.args.out.now c.args.at (joined (drop 0 (claimed_pieces c.args.n))) c.args.out.now c.args.at (claimed_text c.args.n)) = unfold claimed_text in start c.requires in
    let after-1 : (Left c.put_all-a.new.out c.put_all-a.result (joined (drop 1 (claimed_pieces c.args.n))) c.args.out.now c.args.at (claimed_text c.args.n)) = step (after-0) c.put_all-a.ensures in
    roomy _ _ (after-1)

pub put_all-requires : goal.put_all-requires
put_all-requires c =
    let after-0 : (Left c.args.out.now c.args.at (joined (drop 0 (claimed_pieces c.args.n))) c.args.out.now c.args.at (claimed_text c.args.n)) = unfold claimed_text in start c.requires in
    let after-1 : (Left c.put_all-a.new.out c.put_all-a.result (joined (drop 1 (claimed_pieces c.args.n))) c.args.out.now c.args.at (claimed_text c.args.n)) = step (after-0) c.put_all-a.ensures in
    let after-2 : (Left c.put_decimal-b.new.out c.put_decimal-b.result (joined (drop 2 (claimed_pieces c.args.n))) c.args.out.now c.args.at (claimed_text c.args.n)) = step (after-1) c.put_decimal-b.ensures in
    roomy _ _ (after-2)

pub shape_of-out : goal.shape_of-out
shape_of-out c =
    let after-0 : (Left c.args.out.now c.args.at (joined (drop 0 (claimed_pieces c.args.n))) c.args.out.now c.args.at (claimed_text c.args.n)) = unfold claimed_text in start c.requires in
    let after-1 : (Left c.put_all-a.new.out c.put_all-a.result (joined (drop 1 (claimed_pieces c.args.n))) c.args.out.now c.args.at (claimed_text c.args.n)) = step (after-0) c.put_all-a.ensures in
    let after-2 : (Left c.put_decimal-b.new.out c.put_decimal-b.result (joined (drop 2 (claimed_pieces c.args.n))) c.args.out.now c.args.at (claimed_text c.args.n)) = step (after-1) c.put_decimal-b.ensures in
    let after-3 : (Left c.put_all.new.out c.put_all.result (joined (drop 3 (claimed_pieces c.args.n))) c.args.out.now c.args.at (claimed_text c.args.n)) = step (after-2) c.put_all.ensures in
    (after-3).long

pub returns : goal.returns
returns c =
    let after-0 : (Left c.args.out.now c.args.at (joined (drop 0 (claimed_pieces c.args.n))) c.args.out.now c.args.at (claimed_text c.args.n)) = unfold claimed_text in start c.requires in
    let after-1 : (Left c.put_all-a.new.out c.put_all-a.result (joined (drop 1 (claimed_pieces c.args.n))) c.args.out.now c.args.at (claimed_text c.args.n)) = step (after-0) c.put_all-a.ensures in
    let after-2 : (Left c.put_decimal-b.new.out c.put_decimal-b.result (joined (drop 2 (claimed_pieces c.args.n))) c.args.out.now c.args.at (claimed_text c.args.n)) = step (after-1) c.put_decimal-b.ensures in
    let after-3 : (Left c.put_all.new.out c.put_all.result (joined (drop 3 (claimed_pieces c.args.n))) c.args.out.now c.args.at (claimed_text c.args.n)) = step (after-2) c.put_all.ensures in
    finish (after-3)
