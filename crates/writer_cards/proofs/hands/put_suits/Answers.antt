-- `writer_cards::hands::put_suits` meets its contract: a run of puts, each of which takes one piece off what is left to write.
-- what is left to write after k of the puts
use Prim.Native.Nat.{◌*◌}
use native.Mathlib.Omega.{arith}
use lib.ListN.{drop}
use Rattle.lin_spec.specs.Records.{part}
use Rattle.output.specs.Put.{joined}
use Rattle.output.proofs.Laws.{Left, start, roomy, step, finish}
use Rattle.writer_cards.specs.Hands.{suits_pieces, suits_text}
use Rattle.writer_cards.proofs.hands.put_suits.Goals as goal

pub put_suit-a-requires : goal.put_suit-a-requires
put_suit-a-requires c =
    let after-0 : (Left c.args.out.now c.args.at (joined (drop 0 (suits_pieces (part c.args.counts.now (c.args.seat * 52) 52)))) c.args.out.now c.args.at (suits_text (part c.args.counts.now (c.args.seat * 52) 52))) = unfold suits_text in start c.requires.0 in
    (roomy _ _ (after-0), c.requires.1, omega arith)

pub put_suit-b-requires : goal.put_suit-b-requires
put_suit-b-requires c =
    let after-0 : (Left c.args.out.now c.args.at (joined (drop 0 (suits_pieces (part c.args.counts.now (c.args.seat * 52) 52)))) c.args.out.now c.args.at (suits_text (part c.args.counts.now (c.args.seat * 52) 52))) = unfold suits_text in start c.requires.0 in
    let after-1 : (Left c.put_suit-a.new.out c.put_suit-a.result (joined (drop 1 (suits_pieces (part c.args.counts.now (c.args.seat * 52) 52)))) c.args.out.now c.args.at (suits_text (part c.args.counts.now (c.args.seat * 52) 52))) = step (after-0) c.put_suit-a.ensures in
    (roomy _ _ (after-1), c.requires.1, omega arith)

pub put_suit-c-requires : goal.put_suit-c-requires
put_suit-c-requires c =
    let after-0 : (Left c.args.out.now c.args.at (joined (drop 0 (suits_pieces (part c.args.counts.now (c.args.seat * 52) 52)))) c.args.out.now c.args.at (suits_text (part c.args.counts.now (c.args.seat * 52) 52))) = unfold suits_text in start c.requires.0 in
    let after-1 : (Left c.put_suit-a.new.out c.put_suit-a.result (joined (drop 1 (suits_pieces (part c.args.counts.now (c.args.seat * 52) 52)))) c.args.out.now c.args.at (suits_text (part c.args.counts.now (c.args.seat * 52) 52))) = step (after-0) c.put_suit-a.ensures in
    let after-2 : (Left c.put_suit-b.new.out c.put_suit-b.result (joined (drop 2 (suits_pieces (part c.args.counts.now (c.args.seat * 52) 52)))) c.args.out.now c.args.at (suits_text (part c.args.counts.now (c.args.seat * 52) 52))) = step (after-1) c.put_suit-b.ensures in
    (roomy _ _ (after-2), c.requires.1, omega arith)

pub put_suit-requires : goal.put_suit-requires
put_suit-requires c =
    let after-0 : (Left c.args.out.now c.args.at (joined (drop 0 (suits_pieces (part c.args.counts.now (c.args.seat * 52) 52)))) c.args.out.now c.args.at (suits_text (part c.args.counts.now (c.args.seat * 52) 52))) = unfold suits_text in start c.requires.0 in
    let after-1 : (Left c.put_suit-a.new.out c.put_suit-a.result (joined (drop 1 (suits_pieces (part c.args.counts.now (c.args.seat * 52) 52)))) c.args.out.now c.args.at (suits_text (part c.args.counts.now (c.args.seat * 52) 52))) = step (after-0) c.put_suit-a.ensures in
    let after-2 : (Left c.put_suit-b.new.out c.put_suit-b.result (joined (drop 2 (suits_pieces (part c.args.counts.now (c.args.seat * 52) 52)))) c.args.out.now c.args.at (suits_text (part c.args.counts.now (c.args.seat * 52) 52))) = step (after-1) c.put_suit-b.ensures in
    let after-3 : (Left c.put_suit-c.new.out c.put_suit-c.result (joined (drop 3 (suits_pieces (part c.args.counts.now (c.args.seat * 52) 52)))) c.args.out.now c.args.at (suits_text (part c.args.counts.now (c.args.seat * 52) 52))) = step (after-2) c.put_suit-c.ensures in
    (roomy _ _ (after-3), c.requires.1, omega arith)

pub shape_of-out : goal.shape_of-out
shape_of-out c =
    let after-0 : (Left c.args.out.now c.args.at (joined (drop 0 (suits_pieces (part c.args.counts.now (c.args.seat * 52) 52)))) c.args.out.now c.args.at (suits_text (part c.args.counts.now (c.args.seat * 52) 52))) = unfold suits_text in start c.requires.0 in
    let after-1 : (Left c.put_suit-a.new.out c.put_suit-a.result (joined (drop 1 (suits_pieces (part c.args.counts.now (c.args.seat * 52) 52)))) c.args.out.now c.args.at (suits_text (part c.args.counts.now (c.args.seat * 52) 52))) = step (after-0) c.put_suit-a.ensures in
    let after-2 : (Left c.put_suit-b.new.out c.put_suit-b.result (joined (drop 2 (suits_pieces (part c.args.counts.now (c.args.seat * 52) 52)))) c.args.out.now c.args.at (suits_text (part c.args.counts.now (c.args.seat * 52) 52))) = step (after-1) c.put_suit-b.ensures in
    let after-3 : (Left c.put_suit-c.new.out c.put_suit-c.result (joined (drop 3 (suits_pieces (part c.args.counts.now (c.args.seat * 52) 52)))) c.args.out.now c.args.at (suits_text (part c.args.counts.now (c.args.seat * 52) 52))) = step (after-2) c.put_suit-c.ensures in
    let after-4 : (Left c.put_suit.new.out c.put_suit.result (joined (drop 4 (suits_pieces (part c.args.counts.now (c.args.seat * 52) 52)))) c.args.out.now c.args.at (suits_text (part c.args.counts.now (c.args.seat * 52) 52))) = step (after-3) c.put_suit.ensures in
    (after-4).long

pub returns : goal.returns
returns c =
    let after-0 : (Left c.args.out.now c.args.at (joined (drop 0 (suits_pieces (part c.args.counts.now (c.args.seat * 52) 52)))) c.args.out.now c.args.at (suits_text (part c.args.counts.now (c.args.seat * 52) 52))) = unfold suits_text in start c.requires.0 in
    let after-1 : (Left c.put_suit-a.new.out c.put_suit-a.result (joined (drop 1 (suits_pieces (part c.args.counts.now (c.args.seat * 52) 52)))) c.args.out.now c.args.at (suits_text (part c.args.counts.now (c.args.seat * 52) 52))) = step (after-0) c.put_suit-a.ensures in
    let after-2 : (Left c.put_suit-b.new.out c.put_suit-b.result (joined (drop 2 (suits_pieces (part c.args.counts.now (c.args.seat * 52) 52)))) c.args.out.now c.args.at (suits_text (part c.args.counts.now (c.args.seat * 52) 52))) = step (after-1) c.put_suit-b.ensures in
    let after-3 : (Left c.put_suit-c.new.out c.put_suit-c.result (joined (drop 3 (suits_pieces (part c.args.counts.now (c.args.seat * 52) 52)))) c.args.out.now c.args.at (suits_text (part c.args.counts.now (c.args.seat * 52) 52))) = step (after-2) c.put_suit-c.ensures in
    let after-4 : (Left c.put_suit.new.out c.put_suit.result (joined (drop 4 (suits_pieces (part c.args.counts.now (c.args.seat * 52) 52)))) c.args.out.now c.args.at (suits_text (part c.args.counts.now (c.args.seat * 52) 52))) = step (after-3) c.put_suit.ensures in
    finish (after-4)
