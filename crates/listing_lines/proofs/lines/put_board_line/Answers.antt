-- `listing_lines::put_board_line` meets its contract: a run of puts, each of which takes one piece off what is left to write.
-- what is left to write after k of the puts
use lib.ListN.{drop}
use Rattle.output.specs.Put.{joined}
use Rattle.output.proofs.Laws.{Left, start, roomy, step, finish}
use Rattle.lin_spec.specs.Listing.{board_line}
use Rattle.listing_lines.specs.Pieces.{line_pieces}
use Rattle.listing_lines.proofs.LineLaws.{board-is}
use Rattle.listing_lines.proofs.lines.put_board_line.Goals as goal

pub put_decimal-a-requires : goal.put_decimal-a-requires
put_decimal-a-requires c =
    let after-0 : (Left c.args.out.now c.args.at (joined (drop 0 (line_pieces c.args.number c.args.heading))) c.args.out.now c.args.at (board_line c.args.number c.args.heading)) = rw (← board-is c.args.number c.args.heading) (start c.requires) in
    roomy _ _ (after-0)

pub put_letters-b-requires : goal.put_letters-b-requires
put_letters-b-requires c =
    let after-0 : (Left c.args.out.now c.args.at (joined (drop 0 (line_pieces c.args.number c.args.heading))) c.args.out.now c.args.at (board_line c.args.number c.args.heading)) = rw (← board-is c.args.number c.args.heading) (start c.requires) in
    let after-1 : (Left c.put_decimal-a.new.out c.put_decimal-a.result (joined (drop 1 (line_pieces c.args.number c.args.heading))) c.args.out.now c.args.at (board_line c.args.number c.args.heading)) = step (after-0) c.put_decimal-a.ensures in
    roomy _ _ (after-1)

pub put_lengths-c-requires : goal.put_lengths-c-requires
put_lengths-c-requires c =
    let after-0 : (Left c.args.out.now c.args.at (joined (drop 0 (line_pieces c.args.number c.args.heading))) c.args.out.now c.args.at (board_line c.args.number c.args.heading)) = rw (← board-is c.args.number c.args.heading) (start c.requires) in
    let after-1 : (Left c.put_decimal-a.new.out c.put_decimal-a.result (joined (drop 1 (line_pieces c.args.number c.args.heading))) c.args.out.now c.args.at (board_line c.args.number c.args.heading)) = step (after-0) c.put_decimal-a.ensures in
    let after-2 : (Left c.put_letters-b.new.out c.put_letters-b.result (joined (drop 2 (line_pieces c.args.number c.args.heading))) c.args.out.now c.args.at (board_line c.args.number c.args.heading)) = step (after-1) c.put_letters-b.ensures in
    roomy _ _ (after-2)

pub put_field-d-requires : goal.put_field-d-requires
put_field-d-requires c =
    let after-0 : (Left c.args.out.now c.args.at (joined (drop 0 (line_pieces c.args.number c.args.heading))) c.args.out.now c.args.at (board_line c.args.number c.args.heading)) = rw (← board-is c.args.number c.args.heading) (start c.requires) in
    let after-1 : (Left c.put_decimal-a.new.out c.put_decimal-a.result (joined (drop 1 (line_pieces c.args.number c.args.heading))) c.args.out.now c.args.at (board_line c.args.number c.args.heading)) = step (after-0) c.put_decimal-a.ensures in
    let after-2 : (Left c.put_letters-b.new.out c.put_letters-b.result (joined (drop 2 (line_pieces c.args.number c.args.heading))) c.args.out.now c.args.at (board_line c.args.number c.args.heading)) = step (after-1) c.put_letters-b.ensures in
    let after-3 : (Left c.put_lengths-c.new.out c.put_lengths-c.result (joined (drop 3 (line_pieces c.args.number c.args.heading))) c.args.out.now c.args.at (board_line c.args.number c.args.heading)) = step (after-2) c.put_lengths-c.ensures in
    roomy _ _ (after-3)

pub put_field-e-requires : goal.put_field-e-requires
put_field-e-requires c =
    let after-0 : (Left c.args.out.now c.args.at (joined (drop 0 (line_pieces c.args.number c.args.heading))) c.args.out.now c.args.at (board_line c.args.number c.args.heading)) = rw (← board-is c.args.number c.args.heading) (start c.requires) in
    let after-1 : (Left c.put_decimal-a.new.out c.put_decimal-a.result (joined (drop 1 (line_pieces c.args.number c.args.heading))) c.args.out.now c.args.at (board_line c.args.number c.args.heading)) = step (after-0) c.put_decimal-a.ensures in
    let after-2 : (Left c.put_letters-b.new.out c.put_letters-b.result (joined (drop 2 (line_pieces c.args.number c.args.heading))) c.args.out.now c.args.at (board_line c.args.number c.args.heading)) = step (after-1) c.put_letters-b.ensures in
    let after-3 : (Left c.put_lengths-c.new.out c.put_lengths-c.result (joined (drop 3 (line_pieces c.args.number c.args.heading))) c.args.out.now c.args.at (board_line c.args.number c.args.heading)) = step (after-2) c.put_lengths-c.ensures in
    let after-4 : (Left c.put_field-d.new.out c.put_field-d.result (joined (drop 4 (line_pieces c.args.number c.args.heading))) c.args.out.now c.args.at (board_line c.args.number c.args.heading)) = step (after-3) c.put_field-d.ensures in
    roomy _ _ (after-4)

pub put-f-requires : goal.put-f-requires
put-f-requires c =
    let after-0 : (Left c.args.out.now c.args.at (joined (drop 0 (line_pieces c.args.number c.args.heading))) c.args.out.now c.args.at (board_line c.args.number c.args.heading)) = rw (← board-is c.args.number c.args.heading) (start c.requires) in
    let after-1 : (Left c.put_decimal-a.new.out c.put_decimal-a.result (joined (drop 1 (line_pieces c.args.number c.args.heading))) c.args.out.now c.args.at (board_line c.args.number c.args.heading)) = step (after-0) c.put_decimal-a.ensures in
    let after-2 : (Left c.put_letters-b.new.out c.put_letters-b.result (joined (drop 2 (line_pieces c.args.number c.args.heading))) c.args.out.now c.args.at (board_line c.args.number c.args.heading)) = step (after-1) c.put_letters-b.ensures in
    let after-3 : (Left c.put_lengths-c.new.out c.put_lengths-c.result (joined (drop 3 (line_pieces c.args.number c.args.heading))) c.args.out.now c.args.at (board_line c.args.number c.args.heading)) = step (after-2) c.put_lengths-c.ensures in
    let after-4 : (Left c.put_field-d.new.out c.put_field-d.result (joined (drop 4 (line_pieces c.args.number c.args.heading))) c.args.out.now c.args.at (board_line c.args.number c.args.heading)) = step (after-3) c.put_field-d.ensures in
    let after-5 : (Left c.put_field-e.new.out c.put_field-e.result (joined (drop 5 (line_pieces c.args.number c.args.heading))) c.args.out.now c.args.at (board_line c.args.number c.args.heading)) = step (after-4) c.put_field-e.ensures in
    roomy _ _ (after-5)

pub put_claim-g-requires : goal.put_claim-g-requires
put_claim-g-requires c =
    let after-0 : (Left c.args.out.now c.args.at (joined (drop 0 (line_pieces c.args.number c.args.heading))) c.args.out.now c.args.at (board_line c.args.number c.args.heading)) = rw (← board-is c.args.number c.args.heading) (start c.requires) in
    let after-1 : (Left c.put_decimal-a.new.out c.put_decimal-a.result (joined (drop 1 (line_pieces c.args.number c.args.heading))) c.args.out.now c.args.at (board_line c.args.number c.args.heading)) = step (after-0) c.put_decimal-a.ensures in
    let after-2 : (Left c.put_letters-b.new.out c.put_letters-b.result (joined (drop 2 (line_pieces c.args.number c.args.heading))) c.args.out.now c.args.at (board_line c.args.number c.args.heading)) = step (after-1) c.put_letters-b.ensures in
    let after-3 : (Left c.put_lengths-c.new.out c.put_lengths-c.result (joined (drop 3 (line_pieces c.args.number c.args.heading))) c.args.out.now c.args.at (board_line c.args.number c.args.heading)) = step (after-2) c.put_lengths-c.ensures in
    let after-4 : (Left c.put_field-d.new.out c.put_field-d.result (joined (drop 4 (line_pieces c.args.number c.args.heading))) c.args.out.now c.args.at (board_line c.args.number c.args.heading)) = step (after-3) c.put_field-d.ensures in
    let after-5 : (Left c.put_field-e.new.out c.put_field-e.result (joined (drop 5 (line_pieces c.args.number c.args.heading))) c.args.out.now c.args.at (board_line c.args.number c.args.heading)) = step (after-4) c.put_field-e.ensures in
    let after-6 : (Left c.put-f.new.out c.put-f.result (joined (drop 6 (line_pieces c.args.number c.args.heading))) c.args.out.now c.args.at (board_line c.args.number c.args.heading)) = step (after-5) c.put-f.ensures in
    roomy _ _ (after-6)

pub put-requires : goal.put-requires
put-requires c =
    let after-0 : (Left c.args.out.now c.args.at (joined (drop 0 (line_pieces c.args.number c.args.heading))) c.args.out.now c.args.at (board_line c.args.number c.args.heading)) = rw (← board-is c.args.number c.args.heading) (start c.requires) in
    let after-1 : (Left c.put_decimal-a.new.out c.put_decimal-a.result (joined (drop 1 (line_pieces c.args.number c.args.heading))) c.args.out.now c.args.at (board_line c.args.number c.args.heading)) = step (after-0) c.put_decimal-a.ensures in
    let after-2 : (Left c.put_letters-b.new.out c.put_letters-b.result (joined (drop 2 (line_pieces c.args.number c.args.heading))) c.args.out.now c.args.at (board_line c.args.number c.args.heading)) = step (after-1) c.put_letters-b.ensures in
    let after-3 : (Left c.put_lengths-c.new.out c.put_lengths-c.result (joined (drop 3 (line_pieces c.args.number c.args.heading))) c.args.out.now c.args.at (board_line c.args.number c.args.heading)) = step (after-2) c.put_lengths-c.ensures in
    let after-4 : (Left c.put_field-d.new.out c.put_field-d.result (joined (drop 4 (line_pieces c.args.number c.args.heading))) c.args.out.now c.args.at (board_line c.args.number c.args.heading)) = step (after-3) c.put_field-d.ensures in
    let after-5 : (Left c.put_field-e.new.out c.put_field-e.result (joined (drop 5 (line_pieces c.args.number c.args.heading))) c.args.out.now c.args.at (board_line c.args.number c.args.heading)) = step (after-4) c.put_field-e.ensures in
    let after-6 : (Left c.put-f.new.out c.put-f.result (joined (drop 6 (line_pieces c.args.number c.args.heading))) c.args.out.now c.args.at (board_line c.args.number c.args.heading)) = step (after-5) c.put-f.ensures in
    let after-7 : (Left c.put_claim-g.new.out c.put_claim-g.result (joined (drop 7 (line_pieces c.args.number c.args.heading))) c.args.out.now c.args.at (board_line c.args.number c.args.heading)) = step (after-6) c.put_claim-g.ensures in
    roomy _ _ (after-7)

pub returns : goal.returns
returns c =
    let after-0 : (Left c.args.out.now c.args.at (joined (drop 0 (line_pieces c.args.number c.args.heading))) c.args.out.now c.args.at (board_line c.args.number c.args.heading)) = rw (← board-is c.args.number c.args.heading) (start c.requires) in
    let after-1 : (Left c.put_decimal-a.new.out c.put_decimal-a.result (joined (drop 1 (line_pieces c.args.number c.args.heading))) c.args.out.now c.args.at (board_line c.args.number c.args.heading)) = step (after-0) c.put_decimal-a.ensures in
    let after-2 : (Left c.put_letters-b.new.out c.put_letters-b.result (joined (drop 2 (line_pieces c.args.number c.args.heading))) c.args.out.now c.args.at (board_line c.args.number c.args.heading)) = step (after-1) c.put_letters-b.ensures in
    let after-3 : (Left c.put_lengths-c.new.out c.put_lengths-c.result (joined (drop 3 (line_pieces c.args.number c.args.heading))) c.args.out.now c.args.at (board_line c.args.number c.args.heading)) = step (after-2) c.put_lengths-c.ensures in
    let after-4 : (Left c.put_field-d.new.out c.put_field-d.result (joined (drop 4 (line_pieces c.args.number c.args.heading))) c.args.out.now c.args.at (board_line c.args.number c.args.heading)) = step (after-3) c.put_field-d.ensures in
    let after-5 : (Left c.put_field-e.new.out c.put_field-e.result (joined (drop 5 (line_pieces c.args.number c.args.heading))) c.args.out.now c.args.at (board_line c.args.number c.args.heading)) = step (after-4) c.put_field-e.ensures in
    let after-6 : (Left c.put-f.new.out c.put-f.result (joined (drop 6 (line_pieces c.args.number c.args.heading))) c.args.out.now c.args.at (board_line c.args.number c.args.heading)) = step (after-5) c.put-f.ensures in
    let after-7 : (Left c.put_claim-g.new.out c.put_claim-g.result (joined (drop 7 (line_pieces c.args.number c.args.heading))) c.args.out.now c.args.at (board_line c.args.number c.args.heading)) = step (after-6) c.put_claim-g.ensures in
    let after-8 : (Left c.put.new.out c.put.result (joined (drop 8 (line_pieces c.args.number c.args.heading))) c.args.out.now c.args.at (board_line c.args.number c.args.heading)) = step (after-7) c.put.ensures in
    finish (after-8)
