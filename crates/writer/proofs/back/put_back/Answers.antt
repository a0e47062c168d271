-- `writer::put_back` meets its contract: a run of puts, each of which takes one piece off what is left to write.
-- what is left to write after k of the puts
use Rattle.writer.specs.Pieces.{back_pieces, back_text}
use lib.ListN.{drop}
use Rattle.output.specs.Put.{joined}
use Rattle.output.proofs.Laws.{Left, start, roomy, step, finish}
use Rattle.writer.proofs.back.put_back.Goals as goal

pub put_all-a-requires : goal.put_all-a-requires
put_all-a-requires c =
    let after-0 : (Left c.args.out.now c.args.at (joined (drop 0 (back_pieces c.args.claim c.args.cards.now))) c.args.out.now c.args.at (back_text c.args.claim c.args.cards.now)) = unfold back_text in start c.requires.0 in
    roomy _ _ (after-0)

pub put_tricks-b-requires : goal.put_tricks-b-requires
put_tricks-b-requires c =
    let after-0 : (Left c.args.out.now c.args.at (joined (drop 0 (back_pieces c.args.claim c.args.cards.now))) c.args.out.now c.args.at (back_text c.args.claim c.args.cards.now)) = unfold back_text in start c.requires.0 in
    let after-1 : (Left c.put_all-a.new.out c.put_all-a.result (joined (drop 1 (back_pieces c.args.claim c.args.cards.now))) c.args.out.now c.args.at (back_text c.args.claim c.args.cards.now)) = step (after-0) c.put_all-a.ensures in
    (roomy _ _ (after-1), c.requires.1)

pub put_mc-requires : goal.put_mc-requires
put_mc-requires c =
    let after-0 : (Left c.args.out.now c.args.at (joined (drop 0 (back_pieces c.args.claim c.args.cards.now))) c.args.out.now c.args.at (back_text c.args.claim c.args.cards.now)) = unfold back_text in start c.requires.0 in
    let after-1 : (Left c.put_all-a.new.out c.put_all-a.result (joined (drop 1 (back_pieces c.args.claim c.args.cards.now))) c.args.out.now c.args.at (back_text c.args.claim c.args.cards.now)) = step (after-0) c.put_all-a.ensures in
    let after-2 : (Left c.put_tricks-b.new.out c.put_tricks-b.result (joined (drop 2 (back_pieces c.args.claim c.args.cards.now))) c.args.out.now c.args.at (back_text c.args.claim c.args.cards.now)) = step (after-1) c.put_tricks-b.ensures in
    roomy _ _ (after-2)

pub shape_of-out : goal.shape_of-out
shape_of-out c =
    let after-0 : (Left c.args.out.now c.args.at (joined (drop 0 (back_pieces c.args.claim c.args.cards.now))) c.args.out.now c.args.at (back_text c.args.claim c.args.cards.now)) = unfold back_text in start c.requires.0 in
    let after-1 : (Left c.put_all-a.new.out c.put_all-a.result (joined (drop 1 (back_pieces c.args.claim c.args.cards.now))) c.args.out.now c.args.at (back_text c.args.claim c.args.cards.now)) = step (after-0) c.put_all-a.ensures in
    let after-2 : (Left c.put_tricks-b.new.out c.put_tricks-b.result (joined (drop 2 (back_pieces c.args.claim c.args.cards.now))) c.args.out.now c.args.at (back_text c.args.claim c.args.cards.now)) = step (after-1) c.put_tricks-b.ensures in
    let after-3 : (Left c.put_mc.new.out c.put_mc.result (joined (drop 3 (back_pieces c.args.claim c.args.cards.now))) c.args.out.now c.args.at (back_text c.args.claim c.args.cards.now)) = step (after-2) c.put_mc.ensures in
    (after-3).long

pub returns : goal.returns
returns c =
    let after-0 : (Left c.args.out.now c.args.at (joined (drop 0 (back_pieces c.args.claim c.args.cards.now))) c.args.out.now c.args.at (back_text c.args.claim c.args.cards.now)) = unfold back_text in start c.requires.0 in
    let after-1 : (Left c.put_all-a.new.out c.put_all-a.result (joined (drop 1 (back_pieces c.args.claim c.args.cards.now))) c.args.out.now c.args.at (back_text c.args.claim c.args.cards.now)) = step (after-0) c.put_all-a.ensures in
    let after-2 : (Left c.put_tricks-b.new.out c.put_tricks-b.result (joined (drop 2 (back_pieces c.args.claim c.args.cards.now))) c.args.out.now c.args.at (back_text c.args.claim c.args.cards.now)) = step (after-1) c.put_tricks-b.ensures in
    let after-3 : (Left c.put_mc.new.out c.put_mc.result (joined (drop 3 (back_pieces c.args.claim c.args.cards.now))) c.args.out.now c.args.at (back_text c.args.claim c.args.cards.now)) = step (after-2) c.put_mc.ensures in
    finish (after-3)
