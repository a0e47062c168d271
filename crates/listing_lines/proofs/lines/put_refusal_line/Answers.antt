-- `listing_lines::put_refusal_line` meets its contract: a run of puts, each of which takes one piece off what is left to write.
-- what is left to write after k of the puts
use lib.ListN.{drop}
use Rattle.output.specs.Put.{joined}
use Rattle.output.proofs.Laws.{Left, start, roomy, step, finish}
use Rattle.lin_spec.specs.Listing.{refusal_line}
use Rattle.listing_lines.specs.Pieces.{refusal_pieces}
use Rattle.listing_lines.proofs.LineLaws.{refusal_is}
use Rattle.listing_lines.proofs.lines.put_refusal_line.Goals as goal

pub put_all-a-requires : goal.put_all-a-requires
put_all-a-requires c =
    let after-0 : (Left c.args.out.now c.args.at (joined (drop 0 (refusal_pieces c.args.refusal))) c.args.out.now c.args.at (refusal_line c.args.refusal)) = rw (← refusal_is c.args.refusal) (start c.requires) in
    roomy _ _ (after-0)

pub put_number-b-requires : goal.put_number-b-requires
put_number-b-requires c =
    let after-0 : (Left c.args.out.now c.args.at (joined (drop 0 (refusal_pieces c.args.refusal))) c.args.out.now c.args.at (refusal_line c.args.refusal)) = rw (← refusal_is c.args.refusal) (start c.requires) in
    let after-1 : (Left c.put_all-a.new.out c.put_all-a.result (joined (drop 1 (refusal_pieces c.args.refusal))) c.args.out.now c.args.at (refusal_line c.args.refusal)) = step (after-0) c.put_all-a.ensures in
    roomy _ _ (after-1)

pub put-requires : goal.put-requires
put-requires c =
    let after-0 : (Left c.args.out.now c.args.at (joined (drop 0 (refusal_pieces c.args.refusal))) c.args.out.now c.args.at (refusal_line c.args.refusal)) = rw (← refusal_is c.args.refusal) (start c.requires) in
    let after-1 : (Left c.put_all-a.new.out c.put_all-a.result (joined (drop 1 (refusal_pieces c.args.refusal))) c.args.out.now c.args.at (refusal_line c.args.refusal)) = step (after-0) c.put_all-a.ensures in
    let after-2 : (Left c.put_number-b.new.out c.put_number-b.result (joined (drop 2 (refusal_pieces c.args.refusal))) c.args.out.now c.args.at (refusal_line c.args.refusal)) = step (after-1) c.put_number-b.ensures in
    roomy _ _ (after-2)

pub returns : goal.returns
returns c =
    let after-0 : (Left c.args.out.now c.args.at (joined (drop 0 (refusal_pieces c.args.refusal))) c.args.out.now c.args.at (refusal_line c.args.refusal)) = rw (← refusal_is c.args.refusal) (start c.requires) in
    let after-1 : (Left c.put_all-a.new.out c.put_all-a.result (joined (drop 1 (refusal_pieces c.args.refusal))) c.args.out.now c.args.at (refusal_line c.args.refusal)) = step (after-0) c.put_all-a.ensures in
    let after-2 : (Left c.put_number-b.new.out c.put_number-b.result (joined (drop 2 (refusal_pieces c.args.refusal))) c.args.out.now c.args.at (refusal_line c.args.refusal)) = step (after-1) c.put_number-b.ensures in
    let after-3 : (Left c.put.new.out c.put.result (joined (drop 3 (refusal_pieces c.args.refusal))) c.args.out.now c.args.at (refusal_line c.args.refusal)) = step (after-2) c.put.ensures in
    finish (after-3)
