-- `pbn_texts::put_dated` meets its contract: a run of puts, each of which takes one piece off what is left to write.
-- what is left to write after k of the puts
use lib.ListN.{drop}
use Rattle.output.specs.Put.{joined}
use Rattle.output.proofs.Laws.{Left, start, roomy, step, finish}
use Rattle.pbn_texts.specs.Texts.{dated_pieces, dated_text}
use Rattle.pbn_texts.proofs.texts.put_dated.Goals as goal

pub put_uncleaned-a-requires : goal.put_uncleaned-a-requires
put_uncleaned-a-requires c =
    let after-0 : (Left c.args.out.now c.args.at (joined (drop 0 (dated_pieces c.args.text.now c.args.event c.args.date))) c.args.out.now c.args.at (dated_text c.args.text.now c.args.event c.args.date)) = unfold dated_text in start c.requires in
    roomy _ _ (after-0)

pub put_all-b-requires : goal.put_all-b-requires
put_all-b-requires c =
    let after-0 : (Left c.args.out.now c.args.at (joined (drop 0 (dated_pieces c.args.text.now c.args.event c.args.date))) c.args.out.now c.args.at (dated_text c.args.text.now c.args.event c.args.date)) = unfold dated_text in start c.requires in
    let after-1 : (Left c.put_uncleaned-a.new.out c.put_uncleaned-a.result (joined (drop 1 (dated_pieces c.args.text.now c.args.event c.args.date))) c.args.out.now c.args.at (dated_text c.args.text.now c.args.event c.args.date)) = step (after-0) c.put_uncleaned-a.ensures in
    roomy _ _ (after-1)

pub put_span-requires : goal.put_span-requires
put_span-requires c =
    let after-0 : (Left c.args.out.now c.args.at (joined (drop 0 (dated_pieces c.args.text.now c.args.event c.args.date))) c.args.out.now c.args.at (dated_text c.args.text.now c.args.event c.args.date)) = unfold dated_text in start c.requires in
    let after-1 : (Left c.put_uncleaned-a.new.out c.put_uncleaned-a.result (joined (drop 1 (dated_pieces c.args.text.now c.args.event c.args.date))) c.args.out.now c.args.at (dated_text c.args.text.now c.args.event c.args.date)) = step (after-0) c.put_uncleaned-a.ensures in
    let after-2 : (Left c.put_all-b.new.out c.put_all-b.result (joined (drop 2 (dated_pieces c.args.text.now c.args.event c.args.date))) c.args.out.now c.args.at (dated_text c.args.text.now c.args.event c.args.date)) = step (after-1) c.put_all-b.ensures in
    roomy _ _ (after-2)

pub returns : goal.returns
returns c =
    let after-0 : (Left c.args.out.now c.args.at (joined (drop 0 (dated_pieces c.args.text.now c.args.event c.args.date))) c.args.out.now c.args.at (dated_text c.args.text.now c.args.event c.args.date)) = unfold dated_text in start c.requires in
    let after-1 : (Left c.put_uncleaned-a.new.out c.put_uncleaned-a.result (joined (drop 1 (dated_pieces c.args.text.now c.args.event c.args.date))) c.args.out.now c.args.at (dated_text c.args.text.now c.args.event c.args.date)) = step (after-0) c.put_uncleaned-a.ensures in
    let after-2 : (Left c.put_all-b.new.out c.put_all-b.result (joined (drop 2 (dated_pieces c.args.text.now c.args.event c.args.date))) c.args.out.now c.args.at (dated_text c.args.text.now c.args.event c.args.date)) = step (after-1) c.put_all-b.ensures in
    let after-3 : (Left c.put_span.new.out c.put_span.result (joined (drop 3 (dated_pieces c.args.text.now c.args.event c.args.date))) c.args.out.now c.args.at (dated_text c.args.text.now c.args.event c.args.date)) = step (after-2) c.put_span.ensures in
    finish (after-3)
