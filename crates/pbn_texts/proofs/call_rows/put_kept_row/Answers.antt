-- `pbn_texts::put_kept_row` meets its contract: a run of puts, each of which takes one piece off what is left to write.
-- what is left to write after k of the puts
use lib.ListN.{drop}
use Rattle.output.specs.Put.{joined}
use Rattle.output.proofs.Laws.{Left, start, roomy, step, finish}
use Rattle.pbn_texts.specs.Rows.{kept_row_pieces, kept_row_text}
use Rattle.pbn_texts.proofs.call_rows.put_kept_row.Goals as goal

pub put_three-a-requires : goal.put_three-a-requires
put_three-a-requires c =
    let after-0 : (Left c.args.out.now c.args.at (joined (drop 0 (kept_row_pieces c.args.bid c.args.len c.args.start c.args.note))) c.args.out.now c.args.at (kept_row_text c.args.bid c.args.len c.args.start c.args.note)) = unfold kept_row_text in start c.requires in
    roomy _ _ (after-0)

pub put_noted-requires : goal.put_noted-requires
put_noted-requires c =
    let after-0 : (Left c.args.out.now c.args.at (joined (drop 0 (kept_row_pieces c.args.bid c.args.len c.args.start c.args.note))) c.args.out.now c.args.at (kept_row_text c.args.bid c.args.len c.args.start c.args.note)) = unfold kept_row_text in start c.requires in
    let after-1 : (Left c.put_three-a.new.out c.put_three-a.result (joined (drop 1 (kept_row_pieces c.args.bid c.args.len c.args.start c.args.note))) c.args.out.now c.args.at (kept_row_text c.args.bid c.args.len c.args.start c.args.note)) = step (after-0) c.put_three-a.ensures in
    roomy _ _ (after-1)

pub returns : goal.returns
returns c =
    let after-0 : (Left c.args.out.now c.args.at (joined (drop 0 (kept_row_pieces c.args.bid c.args.len c.args.start c.args.note))) c.args.out.now c.args.at (kept_row_text c.args.bid c.args.len c.args.start c.args.note)) = unfold kept_row_text in start c.requires in
    let after-1 : (Left c.put_three-a.new.out c.put_three-a.result (joined (drop 1 (kept_row_pieces c.args.bid c.args.len c.args.start c.args.note))) c.args.out.now c.args.at (kept_row_text c.args.bid c.args.len c.args.start c.args.note)) = step (after-0) c.put_three-a.ensures in
    let after-2 : (Left c.put_noted.new.out c.put_noted.result (joined (drop 2 (kept_row_pieces c.args.bid c.args.len c.args.start c.args.note))) c.args.out.now c.args.at (kept_row_text c.args.bid c.args.len c.args.start c.args.note)) = step (after-1) c.put_noted.ensures in
    finish (after-2)
