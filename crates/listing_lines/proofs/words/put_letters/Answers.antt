-- `listing_lines::put_letters` meets its contract: a run of puts, each of which takes one piece off what is left to write.
-- what is left to write after k of the puts
use lib.ListN.{drop}
use Rattle.output.specs.Put.{joined}
use Rattle.output.proofs.Laws.{Left, start, roomy, step, finish}
use Rattle.listing_lines.specs.Pieces.{letters_pieces, letters_text}
use Rattle.listing_lines.proofs.words.put_letters.Goals as goal

pub put-a-requires : goal.put-a-requires
put-a-requires c =
    let after-0 : (Left c.args.out.now c.args.at (joined (drop 0 (letters_pieces c.args.dealer c.args.v))) c.args.out.now c.args.at (letters_text c.args.dealer c.args.v)) = unfold letters_text in start c.requires in
    roomy _ _ (after-0)

pub put_seat-b-requires : goal.put_seat-b-requires
put_seat-b-requires c =
    let after-0 : (Left c.args.out.now c.args.at (joined (drop 0 (letters_pieces c.args.dealer c.args.v))) c.args.out.now c.args.at (letters_text c.args.dealer c.args.v)) = unfold letters_text in start c.requires in
    let after-1 : (Left c.put-a.new.out c.put-a.result (joined (drop 1 (letters_pieces c.args.dealer c.args.v))) c.args.out.now c.args.at (letters_text c.args.dealer c.args.v)) = step (after-0) c.put-a.ensures in
    roomy _ _ (after-1)

pub put-c-requires : goal.put-c-requires
put-c-requires c =
    let after-0 : (Left c.args.out.now c.args.at (joined (drop 0 (letters_pieces c.args.dealer c.args.v))) c.args.out.now c.args.at (letters_text c.args.dealer c.args.v)) = unfold letters_text in start c.requires in
    let after-1 : (Left c.put-a.new.out c.put-a.result (joined (drop 1 (letters_pieces c.args.dealer c.args.v))) c.args.out.now c.args.at (letters_text c.args.dealer c.args.v)) = step (after-0) c.put-a.ensures in
    let after-2 : (Left c.put_seat-b.new.out c.put_seat-b.result (joined (drop 2 (letters_pieces c.args.dealer c.args.v))) c.args.out.now c.args.at (letters_text c.args.dealer c.args.v)) = step (after-1) c.put_seat-b.ensures in
    roomy _ _ (after-2)

pub put_vul-requires : goal.put_vul-requires
put_vul-requires c =
    let after-0 : (Left c.args.out.now c.args.at (joined (drop 0 (letters_pieces c.args.dealer c.args.v))) c.args.out.now c.args.at (letters_text c.args.dealer c.args.v)) = unfold letters_text in start c.requires in
    let after-1 : (Left c.put-a.new.out c.put-a.result (joined (drop 1 (letters_pieces c.args.dealer c.args.v))) c.args.out.now c.args.at (letters_text c.args.dealer c.args.v)) = step (after-0) c.put-a.ensures in
    let after-2 : (Left c.put_seat-b.new.out c.put_seat-b.result (joined (drop 2 (letters_pieces c.args.dealer c.args.v))) c.args.out.now c.args.at (letters_text c.args.dealer c.args.v)) = step (after-1) c.put_seat-b.ensures in
    let after-3 : (Left c.put-c.new.out c.put-c.result (joined (drop 3 (letters_pieces c.args.dealer c.args.v))) c.args.out.now c.args.at (letters_text c.args.dealer c.args.v)) = step (after-2) c.put-c.ensures in
    roomy _ _ (after-3)

pub returns : goal.returns
returns c =
    let after-0 : (Left c.args.out.now c.args.at (joined (drop 0 (letters_pieces c.args.dealer c.args.v))) c.args.out.now c.args.at (letters_text c.args.dealer c.args.v)) = unfold letters_text in start c.requires in
    let after-1 : (Left c.put-a.new.out c.put-a.result (joined (drop 1 (letters_pieces c.args.dealer c.args.v))) c.args.out.now c.args.at (letters_text c.args.dealer c.args.v)) = step (after-0) c.put-a.ensures in
    let after-2 : (Left c.put_seat-b.new.out c.put_seat-b.result (joined (drop 2 (letters_pieces c.args.dealer c.args.v))) c.args.out.now c.args.at (letters_text c.args.dealer c.args.v)) = step (after-1) c.put_seat-b.ensures in
    let after-3 : (Left c.put-c.new.out c.put-c.result (joined (drop 3 (letters_pieces c.args.dealer c.args.v))) c.args.out.now c.args.at (letters_text c.args.dealer c.args.v)) = step (after-2) c.put-c.ensures in
    let after-4 : (Left c.put_vul.new.out c.put_vul.result (joined (drop 4 (letters_pieces c.args.dealer c.args.v))) c.args.out.now c.args.at (letters_text c.args.dealer c.args.v)) = step (after-3) c.put_vul.ensures in
    finish (after-4)
