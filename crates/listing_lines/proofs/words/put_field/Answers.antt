-- `listing_lines::put_field` meets its contract: a run of puts, each of which takes one piece off what is left to write.
-- what is left to write after k of the puts
use lib.ListN.{drop}
use Rattle.output.specs.Put.{joined}
use Rattle.output.proofs.Laws.{Left, start, roomy, step, finish}
use Rattle.listing_lines.specs.Pieces.{field_pieces, field_text}
use Rattle.listing_lines.proofs.words.put_field.Goals as goal

pub put-a-requires : goal.put-a-requires
put-a-requires c =
    let after-0 : (Left c.args.out.now c.args.at (joined (drop 0 (field_pieces c.args.n))) c.args.out.now c.args.at (field_text c.args.n)) = unfold field_text in start c.requires in
    roomy _ _ (after-0)

pub put_decimal-requires : goal.put_decimal-requires
put_decimal-requires c =
    let after-0 : (Left c.args.out.now c.args.at (joined (drop 0 (field_pieces c.args.n))) c.args.out.now c.args.at (field_text c.args.n)) = unfold field_text in start c.requires in
    let after-1 : (Left c.put-a.new.out c.put-a.result (joined (drop 1 (field_pieces c.args.n))) c.args.out.now c.args.at (field_text c.args.n)) = step (after-0) c.put-a.ensures in
    roomy _ _ (after-1)

pub returns : goal.returns
returns c =
    let after-0 : (Left c.args.out.now c.args.at (joined (drop 0 (field_pieces c.args.n))) c.args.out.now c.args.at (field_text c.args.n)) = unfold field_text in start c.requires in
    let after-1 : (Left c.put-a.new.out c.put-a.result (joined (drop 1 (field_pieces c.args.n))) c.args.out.now c.args.at (field_text c.args.n)) = step (after-0) c.put-a.ensures in
    let after-2 : (Left c.put_decimal.new.out c.put_decimal.result (joined (drop 2 (field_pieces c.args.n))) c.args.out.now c.args.at (field_text c.args.n)) = step (after-1) c.put_decimal.ensures in
    finish (after-2)
