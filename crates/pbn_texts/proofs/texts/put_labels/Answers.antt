-- `pbn_texts::put_labels` meets its contract: a run of puts, each of which takes one piece off what is left to write.
-- what is left to write after k of the puts
use lib.ListN.{drop}
use Rattle.output.specs.Put.{joined}
use Rattle.output.proofs.Laws.{Left, start, roomy, step, finish}
use Rattle.pbn_texts.specs.Texts.{labels_pieces, labels_text}
use Rattle.pbn_texts.proofs.texts.put_labels.Goals as goal

pub put_all-a-requires : goal.put_all-a-requires
put_all-a-requires c =
    let after-0 : (Left c.args.out.now c.args.at (joined (drop 0 (labels_pieces c.args.text.now c.args.l))) c.args.out.now c.args.at (labels_text c.args.text.now c.args.l)) = unfold labels_text in start c.requires in
    roomy _ _ (after-0)

pub put_label-b-requires : goal.put_label-b-requires
put_label-b-requires c =
    let after-0 : (Left c.args.out.now c.args.at (joined (drop 0 (labels_pieces c.args.text.now c.args.l))) c.args.out.now c.args.at (labels_text c.args.text.now c.args.l)) = unfold labels_text in start c.requires in
    let after-1 : (Left c.put_all-a.new.out c.put_all-a.result (joined (drop 1 (labels_pieces c.args.text.now c.args.l))) c.args.out.now c.args.at (labels_text c.args.text.now c.args.l)) = step (after-0) c.put_all-a.ensures in
    roomy _ _ (after-1)

pub put_all-c-requires : goal.put_all-c-requires
put_all-c-requires c =
    let after-0 : (Left c.args.out.now c.args.at (joined (drop 0 (labels_pieces c.args.text.now c.args.l))) c.args.out.now c.args.at (labels_text c.args.text.now c.args.l)) = unfold labels_text in start c.requires in
    let after-1 : (Left c.put_all-a.new.out c.put_all-a.result (joined (drop 1 (labels_pieces c.args.text.now c.args.l))) c.args.out.now c.args.at (labels_text c.args.text.now c.args.l)) = step (after-0) c.put_all-a.ensures in
    let after-2 : (Left c.put_label-b.new.out c.put_label-b.result (joined (drop 2 (labels_pieces c.args.text.now c.args.l))) c.args.out.now c.args.at (labels_text c.args.text.now c.args.l)) = step (after-1) c.put_label-b.ensures in
    roomy _ _ (after-2)

pub put_label-d-requires : goal.put_label-d-requires
put_label-d-requires c =
    let after-0 : (Left c.args.out.now c.args.at (joined (drop 0 (labels_pieces c.args.text.now c.args.l))) c.args.out.now c.args.at (labels_text c.args.text.now c.args.l)) = unfold labels_text in start c.requires in
    let after-1 : (Left c.put_all-a.new.out c.put_all-a.result (joined (drop 1 (labels_pieces c.args.text.now c.args.l))) c.args.out.now c.args.at (labels_text c.args.text.now c.args.l)) = step (after-0) c.put_all-a.ensures in
    let after-2 : (Left c.put_label-b.new.out c.put_label-b.result (joined (drop 2 (labels_pieces c.args.text.now c.args.l))) c.args.out.now c.args.at (labels_text c.args.text.now c.args.l)) = step (after-1) c.put_label-b.ensures in
    let after-3 : (Left c.put_all-c.new.out c.put_all-c.result (joined (drop 3 (labels_pieces c.args.text.now c.args.l))) c.args.out.now c.args.at (labels_text c.args.text.now c.args.l)) = step (after-2) c.put_all-c.ensures in
    roomy _ _ (after-3)

pub put_all-e-requires : goal.put_all-e-requires
put_all-e-requires c =
    let after-0 : (Left c.args.out.now c.args.at (joined (drop 0 (labels_pieces c.args.text.now c.args.l))) c.args.out.now c.args.at (labels_text c.args.text.now c.args.l)) = unfold labels_text in start c.requires in
    let after-1 : (Left c.put_all-a.new.out c.put_all-a.result (joined (drop 1 (labels_pieces c.args.text.now c.args.l))) c.args.out.now c.args.at (labels_text c.args.text.now c.args.l)) = step (after-0) c.put_all-a.ensures in
    let after-2 : (Left c.put_label-b.new.out c.put_label-b.result (joined (drop 2 (labels_pieces c.args.text.now c.args.l))) c.args.out.now c.args.at (labels_text c.args.text.now c.args.l)) = step (after-1) c.put_label-b.ensures in
    let after-3 : (Left c.put_all-c.new.out c.put_all-c.result (joined (drop 3 (labels_pieces c.args.text.now c.args.l))) c.args.out.now c.args.at (labels_text c.args.text.now c.args.l)) = step (after-2) c.put_all-c.ensures in
    let after-4 : (Left c.put_label-d.new.out c.put_label-d.result (joined (drop 4 (labels_pieces c.args.text.now c.args.l))) c.args.out.now c.args.at (labels_text c.args.text.now c.args.l)) = step (after-3) c.put_label-d.ensures in
    roomy _ _ (after-4)

pub put_label-requires : goal.put_label-requires
put_label-requires c =
    let after-0 : (Left c.args.out.now c.args.at (joined (drop 0 (labels_pieces c.args.text.now c.args.l))) c.args.out.now c.args.at (labels_text c.args.text.now c.args.l)) = unfold labels_text in start c.requires in
    let after-1 : (Left c.put_all-a.new.out c.put_all-a.result (joined (drop 1 (labels_pieces c.args.text.now c.args.l))) c.args.out.now c.args.at (labels_text c.args.text.now c.args.l)) = step (after-0) c.put_all-a.ensures in
    let after-2 : (Left c.put_label-b.new.out c.put_label-b.result (joined (drop 2 (labels_pieces c.args.text.now c.args.l))) c.args.out.now c.args.at (labels_text c.args.text.now c.args.l)) = step (after-1) c.put_label-b.ensures in
    let after-3 : (Left c.put_all-c.new.out c.put_all-c.result (joined (drop 3 (labels_pieces c.args.text.now c.args.l))) c.args.out.now c.args.at (labels_text c.args.text.now c.args.l)) = step (after-2) c.put_all-c.ensures in
    let after-4 : (Left c.put_label-d.new.out c.put_label-d.result (joined (drop 4 (labels_pieces c.args.text.now c.args.l))) c.args.out.now c.args.at (labels_text c.args.text.now c.args.l)) = step (after-3) c.put_label-d.ensures in
    let after-5 : (Left c.put_all-e.new.out c.put_all-e.result (joined (drop 5 (labels_pieces c.args.text.now c.args.l))) c.args.out.now c.args.at (labels_text c.args.text.now c.args.l)) = step (after-4) c.put_all-e.ensures in
    roomy _ _ (after-5)

pub returns : goal.returns
returns c =
    let after-0 : (Left c.args.out.now c.args.at (joined (drop 0 (labels_pieces c.args.text.now c.args.l))) c.args.out.now c.args.at (labels_text c.args.text.now c.args.l)) = unfold labels_text in start c.requires in
    let after-1 : (Left c.put_all-a.new.out c.put_all-a.result (joined (drop 1 (labels_pieces c.args.text.now c.args.l))) c.args.out.now c.args.at (labels_text c.args.text.now c.args.l)) = step (after-0) c.put_all-a.ensures in
    let after-2 : (Left c.put_label-b.new.out c.put_label-b.result (joined (drop 2 (labels_pieces c.args.text.now c.args.l))) c.args.out.now c.args.at (labels_text c.args.text.now c.args.l)) = step (after-1) c.put_label-b.ensures in
    let after-3 : (Left c.put_all-c.new.out c.put_all-c.result (joined (drop 3 (labels_pieces c.args.text.now c.args.l))) c.args.out.now c.args.at (labels_text c.args.text.now c.args.l)) = step (after-2) c.put_all-c.ensures in
    let after-4 : (Left c.put_label-d.new.out c.put_label-d.result (joined (drop 4 (labels_pieces c.args.text.now c.args.l))) c.args.out.now c.args.at (labels_text c.args.text.now c.args.l)) = step (after-3) c.put_label-d.ensures in
    let after-5 : (Left c.put_all-e.new.out c.put_all-e.result (joined (drop 5 (labels_pieces c.args.text.now c.args.l))) c.args.out.now c.args.at (labels_text c.args.text.now c.args.l)) = step (after-4) c.put_all-e.ensures in
    let after-6 : (Left c.put_label.new.out c.put_label.result (joined (drop 6 (labels_pieces c.args.text.now c.args.l))) c.args.out.now c.args.at (labels_text c.args.text.now c.args.l)) = step (after-5) c.put_label.ensures in
    finish (after-6)
