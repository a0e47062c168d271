-- `listing_lines::put_lengths` meets its contract: a run of puts, each of which takes one piece off what is left to write.
-- what is left to write after k of the puts
use lib.ListN.{drop}
use Rattle.output.specs.Put.{joined}
use Rattle.output.proofs.Laws.{Left, start, roomy, step, finish}
use Rattle.listing_lines.specs.Pieces.{lengths_pieces, lengths_text}
use Rattle.listing_lines.proofs.words.put_lengths.Goals as goal

pub put_length-a-requires : goal.put_length-a-requires
put_length-a-requires c =
    let after-0 : (Left c.args.out.now c.args.at (joined (drop 0 (lengths_pieces c.args.deal.counts))) c.args.out.now c.args.at (lengths_text c.args.deal.counts)) = unfold lengths_text in start c.requires in
    roomy _ _ (after-0)

pub put_length-b-requires : goal.put_length-b-requires
put_length-b-requires c =
    let after-0 : (Left c.args.out.now c.args.at (joined (drop 0 (lengths_pieces c.args.deal.counts))) c.args.out.now c.args.at (lengths_text c.args.deal.counts)) = unfold lengths_text in start c.requires in
    let after-1 : (Left c.put_length-a.new.out c.put_length-a.result (joined (drop 1 (lengths_pieces c.args.deal.counts))) c.args.out.now c.args.at (lengths_text c.args.deal.counts)) = step (after-0) c.put_length-a.ensures in
    roomy _ _ (after-1)

pub put_length-c-requires : goal.put_length-c-requires
put_length-c-requires c =
    let after-0 : (Left c.args.out.now c.args.at (joined (drop 0 (lengths_pieces c.args.deal.counts))) c.args.out.now c.args.at (lengths_text c.args.deal.counts)) = unfold lengths_text in start c.requires in
    let after-1 : (Left c.put_length-a.new.out c.put_length-a.result (joined (drop 1 (lengths_pieces c.args.deal.counts))) c.args.out.now c.args.at (lengths_text c.args.deal.counts)) = step (after-0) c.put_length-a.ensures in
    let after-2 : (Left c.put_length-b.new.out c.put_length-b.result (joined (drop 2 (lengths_pieces c.args.deal.counts))) c.args.out.now c.args.at (lengths_text c.args.deal.counts)) = step (after-1) c.put_length-b.ensures in
    roomy _ _ (after-2)

pub put_length-requires : goal.put_length-requires
put_length-requires c =
    let after-0 : (Left c.args.out.now c.args.at (joined (drop 0 (lengths_pieces c.args.deal.counts))) c.args.out.now c.args.at (lengths_text c.args.deal.counts)) = unfold lengths_text in start c.requires in
    let after-1 : (Left c.put_length-a.new.out c.put_length-a.result (joined (drop 1 (lengths_pieces c.args.deal.counts))) c.args.out.now c.args.at (lengths_text c.args.deal.counts)) = step (after-0) c.put_length-a.ensures in
    let after-2 : (Left c.put_length-b.new.out c.put_length-b.result (joined (drop 2 (lengths_pieces c.args.deal.counts))) c.args.out.now c.args.at (lengths_text c.args.deal.counts)) = step (after-1) c.put_length-b.ensures in
    let after-3 : (Left c.put_length-c.new.out c.put_length-c.result (joined (drop 3 (lengths_pieces c.args.deal.counts))) c.args.out.now c.args.at (lengths_text c.args.deal.counts)) = step (after-2) c.put_length-c.ensures in
    roomy _ _ (after-3)

pub returns : goal.returns
returns c =
    let after-0 : (Left c.args.out.now c.args.at (joined (drop 0 (lengths_pieces c.args.deal.counts))) c.args.out.now c.args.at (lengths_text c.args.deal.counts)) = unfold lengths_text in start c.requires in
    let after-1 : (Left c.put_length-a.new.out c.put_length-a.result (joined (drop 1 (lengths_pieces c.args.deal.counts))) c.args.out.now c.args.at (lengths_text c.args.deal.counts)) = step (after-0) c.put_length-a.ensures in
    let after-2 : (Left c.put_length-b.new.out c.put_length-b.result (joined (drop 2 (lengths_pieces c.args.deal.counts))) c.args.out.now c.args.at (lengths_text c.args.deal.counts)) = step (after-1) c.put_length-b.ensures in
    let after-3 : (Left c.put_length-c.new.out c.put_length-c.result (joined (drop 3 (lengths_pieces c.args.deal.counts))) c.args.out.now c.args.at (lengths_text c.args.deal.counts)) = step (after-2) c.put_length-c.ensures in
    let after-4 : (Left c.put_length.new.out c.put_length.result (joined (drop 4 (lengths_pieces c.args.deal.counts))) c.args.out.now c.args.at (lengths_text c.args.deal.counts)) = step (after-3) c.put_length.ensures in
    finish (after-4)
