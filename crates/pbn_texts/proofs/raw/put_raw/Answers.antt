-- `pbn_texts::put_raw` meets its contract: a run of puts, each of which takes one piece off what is left to write.
-- what is left to write after k of the puts
use lib.ListN.{drop}
use Rattle.output.specs.Put.{joined}
use Rattle.output.proofs.Laws.{Left, start, roomy, step, finish}
use Rattle.pbn_texts.specs.Raw.{raw_pieces, raw_text}
use Rattle.pbn_texts.proofs.raw.put_raw.Goals as goal

pub put_title-a-requires : goal.put_title-a-requires
put_title-a-requires c =
    let after-0 : (Left c.args.out.now c.args.at (joined (drop 0 (raw_pieces c.args.text.now c.args.sources c.args.notes.now c.args.calls.now))) c.args.out.now c.args.at (raw_text c.args.text.now c.args.sources c.args.notes.now c.args.calls.now)) = unfold raw_text in start c.requires.0 in
    roomy _ _ (after-0)

pub put_labelled-b-requires : goal.put_labelled-b-requires
put_labelled-b-requires c =
    let after-0 : (Left c.args.out.now c.args.at (joined (drop 0 (raw_pieces c.args.text.now c.args.sources c.args.notes.now c.args.calls.now))) c.args.out.now c.args.at (raw_text c.args.text.now c.args.sources c.args.notes.now c.args.calls.now)) = unfold raw_text in start c.requires.0 in
    let after-1 : (Left c.put_title-a.new.out c.put_title-a.result (joined (drop 1 (raw_pieces c.args.text.now c.args.sources c.args.notes.now c.args.calls.now))) c.args.out.now c.args.at (raw_text c.args.text.now c.args.sources c.args.notes.now c.args.calls.now)) = step (after-0) c.put_title-a.ensures in
    roomy _ _ (after-1)

pub put_pbn_calls-requires : goal.put_pbn_calls-requires
put_pbn_calls-requires c =
    let after-0 : (Left c.args.out.now c.args.at (joined (drop 0 (raw_pieces c.args.text.now c.args.sources c.args.notes.now c.args.calls.now))) c.args.out.now c.args.at (raw_text c.args.text.now c.args.sources c.args.notes.now c.args.calls.now)) = unfold raw_text in start c.requires.0 in
    let after-1 : (Left c.put_title-a.new.out c.put_title-a.result (joined (drop 1 (raw_pieces c.args.text.now c.args.sources c.args.notes.now c.args.calls.now))) c.args.out.now c.args.at (raw_text c.args.text.now c.args.sources c.args.notes.now c.args.calls.now)) = step (after-0) c.put_title-a.ensures in
    let after-2 : (Left c.put_labelled-b.new.out c.put_labelled-b.result (joined (drop 2 (raw_pieces c.args.text.now c.args.sources c.args.notes.now c.args.calls.now))) c.args.out.now c.args.at (raw_text c.args.text.now c.args.sources c.args.notes.now c.args.calls.now)) = step (after-1) c.put_labelled-b.ensures in
    (roomy _ _ (after-2), c.requires.1)

pub returns : goal.returns
returns c =
    let after-0 : (Left c.args.out.now c.args.at (joined (drop 0 (raw_pieces c.args.text.now c.args.sources c.args.notes.now c.args.calls.now))) c.args.out.now c.args.at (raw_text c.args.text.now c.args.sources c.args.notes.now c.args.calls.now)) = unfold raw_text in start c.requires.0 in
    let after-1 : (Left c.put_title-a.new.out c.put_title-a.result (joined (drop 1 (raw_pieces c.args.text.now c.args.sources c.args.notes.now c.args.calls.now))) c.args.out.now c.args.at (raw_text c.args.text.now c.args.sources c.args.notes.now c.args.calls.now)) = step (after-0) c.put_title-a.ensures in
    let after-2 : (Left c.put_labelled-b.new.out c.put_labelled-b.result (joined (drop 2 (raw_pieces c.args.text.now c.args.sources c.args.notes.now c.args.calls.now))) c.args.out.now c.args.at (raw_text c.args.text.now c.args.sources c.args.notes.now c.args.calls.now)) = step (after-1) c.put_labelled-b.ensures in
    let after-3 : (Left c.put_pbn_calls.new.out c.put_pbn_calls.result (joined (drop 3 (raw_pieces c.args.text.now c.args.sources c.args.notes.now c.args.calls.now))) c.args.out.now c.args.at (raw_text c.args.text.now c.args.sources c.args.notes.now c.args.calls.now)) = step (after-2) c.put_pbn_calls.ensures in
    finish (after-3)
