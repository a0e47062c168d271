-- `writer::put_heading` meets its contract: a run of puts, each of which takes one piece off what is left to write.
-- what is left to write after k of the puts
use lib.ListN.{drop}
use Rattle.output.specs.Put.{joined}
use Rattle.output.proofs.Laws.{Left, start, roomy, step, finish}
use Rattle.writer.specs.Pieces.{heading_pieces, heading_text}
use Rattle.writer.proofs.heading.put_heading.Goals as goal

pub put_all-a-requires : goal.put_all-a-requires
put_all-a-requires c =
    let after-0 : (Left c.args.out.now c.args.at (joined (drop 0 (heading_pieces c.args.marks.pipe c.args.marks.line c.args.text.now c.args.head))) c.args.out.now c.args.at (heading_text c.args.marks.pipe c.args.marks.line c.args.text.now c.args.head)) = unfold heading_text in start c.requires in
    roomy _ _ (after-0)

pub put_text-b-requires : goal.put_text-b-requires
put_text-b-requires c =
    let after-0 : (Left c.args.out.now c.args.at (joined (drop 0 (heading_pieces c.args.marks.pipe c.args.marks.line c.args.text.now c.args.head))) c.args.out.now c.args.at (heading_text c.args.marks.pipe c.args.marks.line c.args.text.now c.args.head)) = unfold heading_text in start c.requires in
    let after-1 : (Left c.put_all-a.new.out c.put_all-a.result (joined (drop 1 (heading_pieces c.args.marks.pipe c.args.marks.line c.args.text.now c.args.head))) c.args.out.now c.args.at (heading_text c.args.marks.pipe c.args.marks.line c.args.text.now c.args.head)) = step (after-0) c.put_all-a.ensures in
    roomy _ _ (after-1)

pub put_all-c-requires : goal.put_all-c-requires
put_all-c-requires c =
    let after-0 : (Left c.args.out.now c.args.at (joined (drop 0 (heading_pieces c.args.marks.pipe c.args.marks.line c.args.text.now c.args.head))) c.args.out.now c.args.at (heading_text c.args.marks.pipe c.args.marks.line c.args.text.now c.args.head)) = unfold heading_text in start c.requires in
    let after-1 : (Left c.put_all-a.new.out c.put_all-a.result (joined (drop 1 (heading_pieces c.args.marks.pipe c.args.marks.line c.args.text.now c.args.head))) c.args.out.now c.args.at (heading_text c.args.marks.pipe c.args.marks.line c.args.text.now c.args.head)) = step (after-0) c.put_all-a.ensures in
    let after-2 : (Left c.put_text-b.new.out c.put_text-b.result (joined (drop 2 (heading_pieces c.args.marks.pipe c.args.marks.line c.args.text.now c.args.head))) c.args.out.now c.args.at (heading_text c.args.marks.pipe c.args.marks.line c.args.text.now c.args.head)) = step (after-1) c.put_text-b.ensures in
    roomy _ _ (after-2)

pub put_names-d-requires : goal.put_names-d-requires
put_names-d-requires c =
    let after-0 : (Left c.args.out.now c.args.at (joined (drop 0 (heading_pieces c.args.marks.pipe c.args.marks.line c.args.text.now c.args.head))) c.args.out.now c.args.at (heading_text c.args.marks.pipe c.args.marks.line c.args.text.now c.args.head)) = unfold heading_text in start c.requires in
    let after-1 : (Left c.put_all-a.new.out c.put_all-a.result (joined (drop 1 (heading_pieces c.args.marks.pipe c.args.marks.line c.args.text.now c.args.head))) c.args.out.now c.args.at (heading_text c.args.marks.pipe c.args.marks.line c.args.text.now c.args.head)) = step (after-0) c.put_all-a.ensures in
    let after-2 : (Left c.put_text-b.new.out c.put_text-b.result (joined (drop 2 (heading_pieces c.args.marks.pipe c.args.marks.line c.args.text.now c.args.head))) c.args.out.now c.args.at (heading_text c.args.marks.pipe c.args.marks.line c.args.text.now c.args.head)) = step (after-1) c.put_text-b.ensures in
    let after-3 : (Left c.put_all-c.new.out c.put_all-c.result (joined (drop 3 (heading_pieces c.args.marks.pipe c.args.marks.line c.args.text.now c.args.head))) c.args.out.now c.args.at (heading_text c.args.marks.pipe c.args.marks.line c.args.text.now c.args.head)) = step (after-2) c.put_all-c.ensures in
    roomy _ _ (after-3)

pub put_all-e-requires : goal.put_all-e-requires
put_all-e-requires c =
    let after-0 : (Left c.args.out.now c.args.at (joined (drop 0 (heading_pieces c.args.marks.pipe c.args.marks.line c.args.text.now c.args.head))) c.args.out.now c.args.at (heading_text c.args.marks.pipe c.args.marks.line c.args.text.now c.args.head)) = unfold heading_text in start c.requires in
    let after-1 : (Left c.put_all-a.new.out c.put_all-a.result (joined (drop 1 (heading_pieces c.args.marks.pipe c.args.marks.line c.args.text.now c.args.head))) c.args.out.now c.args.at (heading_text c.args.marks.pipe c.args.marks.line c.args.text.now c.args.head)) = step (after-0) c.put_all-a.ensures in
    let after-2 : (Left c.put_text-b.new.out c.put_text-b.result (joined (drop 2 (heading_pieces c.args.marks.pipe c.args.marks.line c.args.text.now c.args.head))) c.args.out.now c.args.at (heading_text c.args.marks.pipe c.args.marks.line c.args.text.now c.args.head)) = step (after-1) c.put_text-b.ensures in
    let after-3 : (Left c.put_all-c.new.out c.put_all-c.result (joined (drop 3 (heading_pieces c.args.marks.pipe c.args.marks.line c.args.text.now c.args.head))) c.args.out.now c.args.at (heading_text c.args.marks.pipe c.args.marks.line c.args.text.now c.args.head)) = step (after-2) c.put_all-c.ensures in
    let after-4 : (Left c.put_names-d.new.out c.put_names-d.result (joined (drop 4 (heading_pieces c.args.marks.pipe c.args.marks.line c.args.text.now c.args.head))) c.args.out.now c.args.at (heading_text c.args.marks.pipe c.args.marks.line c.args.text.now c.args.head)) = step (after-3) c.put_names-d.ensures in
    roomy _ _ (after-4)

pub put_text-f-requires : goal.put_text-f-requires
put_text-f-requires c =
    let after-0 : (Left c.args.out.now c.args.at (joined (drop 0 (heading_pieces c.args.marks.pipe c.args.marks.line c.args.text.now c.args.head))) c.args.out.now c.args.at (heading_text c.args.marks.pipe c.args.marks.line c.args.text.now c.args.head)) = unfold heading_text in start c.requires in
    let after-1 : (Left c.put_all-a.new.out c.put_all-a.result (joined (drop 1 (heading_pieces c.args.marks.pipe c.args.marks.line c.args.text.now c.args.head))) c.args.out.now c.args.at (heading_text c.args.marks.pipe c.args.marks.line c.args.text.now c.args.head)) = step (after-0) c.put_all-a.ensures in
    let after-2 : (Left c.put_text-b.new.out c.put_text-b.result (joined (drop 2 (heading_pieces c.args.marks.pipe c.args.marks.line c.args.text.now c.args.head))) c.args.out.now c.args.at (heading_text c.args.marks.pipe c.args.marks.line c.args.text.now c.args.head)) = step (after-1) c.put_text-b.ensures in
    let after-3 : (Left c.put_all-c.new.out c.put_all-c.result (joined (drop 3 (heading_pieces c.args.marks.pipe c.args.marks.line c.args.text.now c.args.head))) c.args.out.now c.args.at (heading_text c.args.marks.pipe c.args.marks.line c.args.text.now c.args.head)) = step (after-2) c.put_all-c.ensures in
    let after-4 : (Left c.put_names-d.new.out c.put_names-d.result (joined (drop 4 (heading_pieces c.args.marks.pipe c.args.marks.line c.args.text.now c.args.head))) c.args.out.now c.args.at (heading_text c.args.marks.pipe c.args.marks.line c.args.text.now c.args.head)) = step (after-3) c.put_names-d.ensures in
    let after-5 : (Left c.put_all-e.new.out c.put_all-e.result (joined (drop 5 (heading_pieces c.args.marks.pipe c.args.marks.line c.args.text.now c.args.head))) c.args.out.now c.args.at (heading_text c.args.marks.pipe c.args.marks.line c.args.text.now c.args.head)) = step (after-4) c.put_all-e.ensures in
    roomy _ _ (after-5)

pub put_all-g-requires : goal.put_all-g-requires
put_all-g-requires c =
    let after-0 : (Left c.args.out.now c.args.at (joined (drop 0 (heading_pieces c.args.marks.pipe c.args.marks.line c.args.text.now c.args.head))) c.args.out.now c.args.at (heading_text c.args.marks.pipe c.args.marks.line c.args.text.now c.args.head)) = unfold heading_text in start c.requires in
    let after-1 : (Left c.put_all-a.new.out c.put_all-a.result (joined (drop 1 (heading_pieces c.args.marks.pipe c.args.marks.line c.args.text.now c.args.head))) c.args.out.now c.args.at (heading_text c.args.marks.pipe c.args.marks.line c.args.text.now c.args.head)) = step (after-0) c.put_all-a.ensures in
    let after-2 : (Left c.put_text-b.new.out c.put_text-b.result (joined (drop 2 (heading_pieces c.args.marks.pipe c.args.marks.line c.args.text.now c.args.head))) c.args.out.now c.args.at (heading_text c.args.marks.pipe c.args.marks.line c.args.text.now c.args.head)) = step (after-1) c.put_text-b.ensures in
    let after-3 : (Left c.put_all-c.new.out c.put_all-c.result (joined (drop 3 (heading_pieces c.args.marks.pipe c.args.marks.line c.args.text.now c.args.head))) c.args.out.now c.args.at (heading_text c.args.marks.pipe c.args.marks.line c.args.text.now c.args.head)) = step (after-2) c.put_all-c.ensures in
    let after-4 : (Left c.put_names-d.new.out c.put_names-d.result (joined (drop 4 (heading_pieces c.args.marks.pipe c.args.marks.line c.args.text.now c.args.head))) c.args.out.now c.args.at (heading_text c.args.marks.pipe c.args.marks.line c.args.text.now c.args.head)) = step (after-3) c.put_names-d.ensures in
    let after-5 : (Left c.put_all-e.new.out c.put_all-e.result (joined (drop 5 (heading_pieces c.args.marks.pipe c.args.marks.line c.args.text.now c.args.head))) c.args.out.now c.args.at (heading_text c.args.marks.pipe c.args.marks.line c.args.text.now c.args.head)) = step (after-4) c.put_all-e.ensures in
    let after-6 : (Left c.put_text-f.new.out c.put_text-f.result (joined (drop 6 (heading_pieces c.args.marks.pipe c.args.marks.line c.args.text.now c.args.head))) c.args.out.now c.args.at (heading_text c.args.marks.pipe c.args.marks.line c.args.text.now c.args.head)) = step (after-5) c.put_text-f.ensures in
    roomy _ _ (after-6)

pub put_ah-requires : goal.put_ah-requires
put_ah-requires c =
    let after-0 : (Left c.args.out.now c.args.at (joined (drop 0 (heading_pieces c.args.marks.pipe c.args.marks.line c.args.text.now c.args.head))) c.args.out.now c.args.at (heading_text c.args.marks.pipe c.args.marks.line c.args.text.now c.args.head)) = unfold heading_text in start c.requires in
    let after-1 : (Left c.put_all-a.new.out c.put_all-a.result (joined (drop 1 (heading_pieces c.args.marks.pipe c.args.marks.line c.args.text.now c.args.head))) c.args.out.now c.args.at (heading_text c.args.marks.pipe c.args.marks.line c.args.text.now c.args.head)) = step (after-0) c.put_all-a.ensures in
    let after-2 : (Left c.put_text-b.new.out c.put_text-b.result (joined (drop 2 (heading_pieces c.args.marks.pipe c.args.marks.line c.args.text.now c.args.head))) c.args.out.now c.args.at (heading_text c.args.marks.pipe c.args.marks.line c.args.text.now c.args.head)) = step (after-1) c.put_text-b.ensures in
    let after-3 : (Left c.put_all-c.new.out c.put_all-c.result (joined (drop 3 (heading_pieces c.args.marks.pipe c.args.marks.line c.args.text.now c.args.head))) c.args.out.now c.args.at (heading_text c.args.marks.pipe c.args.marks.line c.args.text.now c.args.head)) = step (after-2) c.put_all-c.ensures in
    let after-4 : (Left c.put_names-d.new.out c.put_names-d.result (joined (drop 4 (heading_pieces c.args.marks.pipe c.args.marks.line c.args.text.now c.args.head))) c.args.out.now c.args.at (heading_text c.args.marks.pipe c.args.marks.line c.args.text.now c.args.head)) = step (after-3) c.put_names-d.ensures in
    let after-5 : (Left c.put_all-e.new.out c.put_all-e.result (joined (drop 5 (heading_pieces c.args.marks.pipe c.args.marks.line c.args.text.now c.args.head))) c.args.out.now c.args.at (heading_text c.args.marks.pipe c.args.marks.line c.args.text.now c.args.head)) = step (after-4) c.put_all-e.ensures in
    let after-6 : (Left c.put_text-f.new.out c.put_text-f.result (joined (drop 6 (heading_pieces c.args.marks.pipe c.args.marks.line c.args.text.now c.args.head))) c.args.out.now c.args.at (heading_text c.args.marks.pipe c.args.marks.line c.args.text.now c.args.head)) = step (after-5) c.put_text-f.ensures in
    let after-7 : (Left c.put_all-g.new.out c.put_all-g.result (joined (drop 7 (heading_pieces c.args.marks.pipe c.args.marks.line c.args.text.now c.args.head))) c.args.out.now c.args.at (heading_text c.args.marks.pipe c.args.marks.line c.args.text.now c.args.head)) = step (after-6) c.put_all-g.ensures in
    roomy _ _ (after-7)

pub shape_of-out : goal.shape_of-out
shape_of-out c =
    let after-0 : (Left c.args.out.now c.args.at (joined (drop 0 (heading_pieces c.args.marks.pipe c.args.marks.line c.args.text.now c.args.head))) c.args.out.now c.args.at (heading_text c.args.marks.pipe c.args.marks.line c.args.text.now c.args.head)) = unfold heading_text in start c.requires in
    let after-1 : (Left c.put_all-a.new.out c.put_all-a.result (joined (drop 1 (heading_pieces c.args.marks.pipe c.args.marks.line c.args.text.now c.args.head))) c.args.out.now c.args.at (heading_text c.args.marks.pipe c.args.marks.line c.args.text.now c.args.head)) = step (after-0) c.put_all-a.ensures in
    let after-2 : (Left c.put_text-b.new.out c.put_text-b.result (joined (drop 2 (heading_pieces c.args.marks.pipe c.args.marks.line c.args.text.now c.args.head))) c.args.out.now c.args.at (heading_text c.args.marks.pipe c.args.marks.line c.args.text.now c.args.head)) = step (after-1) c.put_text-b.ensures in
    let after-3 : (Left c.put_all-c.new.out c.put_all-c.result (joined (drop 3 (heading_pieces c.args.marks.pipe c.args.marks.line c.args.text.now c.args.head))) c.args.out.now c.args.at (heading_text c.args.marks.pipe c.args.marks.line c.args.text.now c.args.head)) = step (after-2) c.put_all-c.ensures in
    let after-4 : (Left c.put_names-d.new.out c.put_names-d.result (joined (drop 4 (heading_pieces c.args.marks.pipe c.args.marks.line c.args.text.now c.args.head))) c.args.out.now c.args.at (heading_text c.args.marks.pipe c.args.marks.line c.args.text.now c.args.head)) = step (after-3) c.put_names-d.ensures in
    let after-5 : (Left c.put_all-e.new.out c.put_all-e.result (joined (drop 5 (heading_pieces c.args.marks.pipe c.args.marks.line c.args.text.now c.args.head))) c.args.out.now c.args.at (heading_text c.args.marks.pipe c.args.marks.line c.args.text.now c.args.head)) = step (after-4) c.put_all-e.ensures in
    let after-6 : (Left c.put_text-f.new.out c.put_text-f.result (joined (drop 6 (heading_pieces c.args.marks.pipe c.args.marks.line c.args.text.now c.args.head))) c.args.out.now c.args.at (heading_text c.args.marks.pipe c.args.marks.line c.args.text.now c.args.head)) = step (after-5) c.put_text-f.ensures in
    let after-7 : (Left c.put_all-g.new.out c.put_all-g.result (joined (drop 7 (heading_pieces c.args.marks.pipe c.args.marks.line c.args.text.now c.args.head))) c.args.out.now c.args.at (heading_text c.args.marks.pipe c.args.marks.line c.args.text.now c.args.head)) = step (after-6) c.put_all-g.ensures in
    let after-8 : (Left c.put_ah.new.out c.put_ah.result (joined (drop 8 (heading_pieces c.args.marks.pipe c.args.marks.line c.args.text.now c.args.head))) c.args.out.now c.args.at (heading_text c.args.marks.pipe c.args.marks.line c.args.text.now c.args.head)) = step (after-7) c.put_ah.ensures in
    (after-8).long

pub returns : goal.returns
returns c =
    let after-0 : (Left c.args.out.now c.args.at (joined (drop 0 (heading_pieces c.args.marks.pipe c.args.marks.line c.args.text.now c.args.head))) c.args.out.now c.args.at (heading_text c.args.marks.pipe c.args.marks.line c.args.text.now c.args.head)) = unfold heading_text in start c.requires in
    let after-1 : (Left c.put_all-a.new.out c.put_all-a.result (joined (drop 1 (heading_pieces c.args.marks.pipe c.args.marks.line c.args.text.now c.args.head))) c.args.out.now c.args.at (heading_text c.args.marks.pipe c.args.marks.line c.args.text.now c.args.head)) = step (after-0) c.put_all-a.ensures in
    let after-2 : (Left c.put_text-b.new.out c.put_text-b.result (joined (drop 2 (heading_pieces c.args.marks.pipe c.args.marks.line c.args.text.now c.args.head))) c.args.out.now c.args.at (heading_text c.args.marks.pipe c.args.marks.line c.args.text.now c.args.head)) = step (after-1) c.put_text-b.ensures in
    let after-3 : (Left c.put_all-c.new.out c.put_all-c.result (joined (drop 3 (heading_pieces c.args.marks.pipe c.args.marks.line c.args.text.now c.args.head))) c.args.out.now c.args.at (heading_text c.args.marks.pipe c.args.marks.line c.args.text.now c.args.head)) = step (after-2) c.put_all-c.ensures in
    let after-4 : (Left c.put_names-d.new.out c.put_names-d.result (joined (drop 4 (heading_pieces c.args.marks.pipe c.args.marks.line c.args.text.now c.args.head))) c.args.out.now c.args.at (heading_text c.args.marks.pipe c.args.marks.line c.args.text.now c.args.head)) = step (after-3) c.put_names-d.ensures in
    let after-5 : (Left c.put_all-e.new.out c.put_all-e.result (joined (drop 5 (heading_pieces c.args.marks.pipe c.args.marks.line c.args.text.now c.args.head))) c.args.out.now c.args.at (heading_text c.args.marks.pipe c.args.marks.line c.args.text.now c.args.head)) = step (after-4) c.put_all-e.ensures in
    let after-6 : (Left c.put_text-f.new.out c.put_text-f.result (joined (drop 6 (heading_pieces c.args.marks.pipe c.args.marks.line c.args.text.now c.args.head))) c.args.out.now c.args.at (heading_text c.args.marks.pipe c.args.marks.line c.args.text.now c.args.head)) = step (after-5) c.put_text-f.ensures in
    let after-7 : (Left c.put_all-g.new.out c.put_all-g.result (joined (drop 7 (heading_pieces c.args.marks.pipe c.args.marks.line c.args.text.now c.args.head))) c.args.out.now c.args.at (heading_text c.args.marks.pipe c.args.marks.line c.args.text.now c.args.head)) = step (after-6) c.put_all-g.ensures in
    let after-8 : (Left c.put_ah.new.out c.put_ah.result (joined (drop 8 (heading_pieces c.args.marks.pipe c.args.marks.line c.args.text.now c.args.head))) c.args.out.now c.args.at (heading_text c.args.marks.pipe c.args.marks.line c.args.text.now c.args.head)) = step (after-7) c.put_ah.ensures in
    finish (after-8)
