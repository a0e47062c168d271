-- `writer_cards::deals::put_hands` meets its contract: a run of puts, each of which takes one piece off what is left to write.
-- what is left to write after k of the puts
use mathlib.Core.List.{[], ◌∷◌}
use lib.ListN.{drop}
use Rattle.lin_spec.specs.Writer.{dealer_digit, md_text}
use Rattle.output.specs.Put.{joined}
use Rattle.output.proofs.Laws.{Left, start, roomy, step, finish}
use Rattle.writer_cards.specs.Hands.{md_pieces}
use Rattle.writer_cards.proofs.DealLaws.{md-is}
use Rattle.writer_cards.proofs.deals.put_hands.Goals as goal

pub put-a-requires : goal.put-a-requires
put-a-requires c =
    let after-0 : (Left c.args.out.now c.args.at (joined (drop 0 (md_pieces c.args.dealer c.args.counts.now))) c.args.out.now c.args.at (md_text (record { dealer = c.args.dealer; deal = c.args.counts.now }))) = rw (← md-is c.args.dealer c.args.counts.now) (start c.requires.0) in
    rw c.dealer_digit.ensures (roomy (dealer_digit c.args.dealer ∷ []) _ (after-0))

pub put_hand-b-requires : goal.put_hand-b-requires
put_hand-b-requires c =
    let after-0 : (Left c.args.out.now c.args.at (joined (drop 0 (md_pieces c.args.dealer c.args.counts.now))) c.args.out.now c.args.at (md_text (record { dealer = c.args.dealer; deal = c.args.counts.now }))) = rw (← md-is c.args.dealer c.args.counts.now) (start c.requires.0) in
    let after-1 : (Left c.put-a.new.out c.put-a.result (joined (drop 1 (md_pieces c.args.dealer c.args.counts.now))) c.args.out.now c.args.at (md_text (record { dealer = c.args.dealer; deal = c.args.counts.now }))) = step (after-0) (rw c.dealer_digit.ensures at c.put-a.ensures) in
    (roomy _ _ (after-1), c.requires.1.south)

pub put-c-requires : goal.put-c-requires
put-c-requires c =
    let after-0 : (Left c.args.out.now c.args.at (joined (drop 0 (md_pieces c.args.dealer c.args.counts.now))) c.args.out.now c.args.at (md_text (record { dealer = c.args.dealer; deal = c.args.counts.now }))) = rw (← md-is c.args.dealer c.args.counts.now) (start c.requires.0) in
    let after-1 : (Left c.put-a.new.out c.put-a.result (joined (drop 1 (md_pieces c.args.dealer c.args.counts.now))) c.args.out.now c.args.at (md_text (record { dealer = c.args.dealer; deal = c.args.counts.now }))) = step (after-0) (rw c.dealer_digit.ensures at c.put-a.ensures) in
    let after-2 : (Left c.put_hand-b.new.out c.put_hand-b.result (joined (drop 2 (md_pieces c.args.dealer c.args.counts.now))) c.args.out.now c.args.at (md_text (record { dealer = c.args.dealer; deal = c.args.counts.now }))) = step (after-1) c.put_hand-b.ensures in
    roomy _ _ (after-2)

pub put_hand-d-requires : goal.put_hand-d-requires
put_hand-d-requires c =
    let after-0 : (Left c.args.out.now c.args.at (joined (drop 0 (md_pieces c.args.dealer c.args.counts.now))) c.args.out.now c.args.at (md_text (record { dealer = c.args.dealer; deal = c.args.counts.now }))) = rw (← md-is c.args.dealer c.args.counts.now) (start c.requires.0) in
    let after-1 : (Left c.put-a.new.out c.put-a.result (joined (drop 1 (md_pieces c.args.dealer c.args.counts.now))) c.args.out.now c.args.at (md_text (record { dealer = c.args.dealer; deal = c.args.counts.now }))) = step (after-0) (rw c.dealer_digit.ensures at c.put-a.ensures) in
    let after-2 : (Left c.put_hand-b.new.out c.put_hand-b.result (joined (drop 2 (md_pieces c.args.dealer c.args.counts.now))) c.args.out.now c.args.at (md_text (record { dealer = c.args.dealer; deal = c.args.counts.now }))) = step (after-1) c.put_hand-b.ensures in
    let after-3 : (Left c.put-c.new.out c.put-c.result (joined (drop 3 (md_pieces c.args.dealer c.args.counts.now))) c.args.out.now c.args.at (md_text (record { dealer = c.args.dealer; deal = c.args.counts.now }))) = step (after-2) c.put-c.ensures in
    (roomy _ _ (after-3), c.requires.1.west)

pub put-e-requires : goal.put-e-requires
put-e-requires c =
    let after-0 : (Left c.args.out.now c.args.at (joined (drop 0 (md_pieces c.args.dealer c.args.counts.now))) c.args.out.now c.args.at (md_text (record { dealer = c.args.dealer; deal = c.args.counts.now }))) = rw (← md-is c.args.dealer c.args.counts.now) (start c.requires.0) in
    let after-1 : (Left c.put-a.new.out c.put-a.result (joined (drop 1 (md_pieces c.args.dealer c.args.counts.now))) c.args.out.now c.args.at (md_text (record { dealer = c.args.dealer; deal = c.args.counts.now }))) = step (after-0) (rw c.dealer_digit.ensures at c.put-a.ensures) in
    let after-2 : (Left c.put_hand-b.new.out c.put_hand-b.result (joined (drop 2 (md_pieces c.args.dealer c.args.counts.now))) c.args.out.now c.args.at (md_text (record { dealer = c.args.dealer; deal = c.args.counts.now }))) = step (after-1) c.put_hand-b.ensures in
    let after-3 : (Left c.put-c.new.out c.put-c.result (joined (drop 3 (md_pieces c.args.dealer c.args.counts.now))) c.args.out.now c.args.at (md_text (record { dealer = c.args.dealer; deal = c.args.counts.now }))) = step (after-2) c.put-c.ensures in
    let after-4 : (Left c.put_hand-d.new.out c.put_hand-d.result (joined (drop 4 (md_pieces c.args.dealer c.args.counts.now))) c.args.out.now c.args.at (md_text (record { dealer = c.args.dealer; deal = c.args.counts.now }))) = step (after-3) c.put_hand-d.ensures in
    roomy _ _ (after-4)

pub put_hand-f-requires : goal.put_hand-f-requires
put_hand-f-requires c =
    let after-0 : (Left c.args.out.now c.args.at (joined (drop 0 (md_pieces c.args.dealer c.args.counts.now))) c.args.out.now c.args.at (md_text (record { dealer = c.args.dealer; deal = c.args.counts.now }))) = rw (← md-is c.args.dealer c.args.counts.now) (start c.requires.0) in
    let after-1 : (Left c.put-a.new.out c.put-a.result (joined (drop 1 (md_pieces c.args.dealer c.args.counts.now))) c.args.out.now c.args.at (md_text (record { dealer = c.args.dealer; deal = c.args.counts.now }))) = step (after-0) (rw c.dealer_digit.ensures at c.put-a.ensures) in
    let after-2 : (Left c.put_hand-b.new.out c.put_hand-b.result (joined (drop 2 (md_pieces c.args.dealer c.args.counts.now))) c.args.out.now c.args.at (md_text (record { dealer = c.args.dealer; deal = c.args.counts.now }))) = step (after-1) c.put_hand-b.ensures in
    let after-3 : (Left c.put-c.new.out c.put-c.result (joined (drop 3 (md_pieces c.args.dealer c.args.counts.now))) c.args.out.now c.args.at (md_text (record { dealer = c.args.dealer; deal = c.args.counts.now }))) = step (after-2) c.put-c.ensures in
    let after-4 : (Left c.put_hand-d.new.out c.put_hand-d.result (joined (drop 4 (md_pieces c.args.dealer c.args.counts.now))) c.args.out.now c.args.at (md_text (record { dealer = c.args.dealer; deal = c.args.counts.now }))) = step (after-3) c.put_hand-d.ensures in
    let after-5 : (Left c.put-e.new.out c.put-e.result (joined (drop 5 (md_pieces c.args.dealer c.args.counts.now))) c.args.out.now c.args.at (md_text (record { dealer = c.args.dealer; deal = c.args.counts.now }))) = step (after-4) c.put-e.ensures in
    (roomy _ _ (after-5), c.requires.1.north)

pub put_east-requires : goal.put_east-requires
put_east-requires c =
    let after-0 : (Left c.args.out.now c.args.at (joined (drop 0 (md_pieces c.args.dealer c.args.counts.now))) c.args.out.now c.args.at (md_text (record { dealer = c.args.dealer; deal = c.args.counts.now }))) = rw (← md-is c.args.dealer c.args.counts.now) (start c.requires.0) in
    let after-1 : (Left c.put-a.new.out c.put-a.result (joined (drop 1 (md_pieces c.args.dealer c.args.counts.now))) c.args.out.now c.args.at (md_text (record { dealer = c.args.dealer; deal = c.args.counts.now }))) = step (after-0) (rw c.dealer_digit.ensures at c.put-a.ensures) in
    let after-2 : (Left c.put_hand-b.new.out c.put_hand-b.result (joined (drop 2 (md_pieces c.args.dealer c.args.counts.now))) c.args.out.now c.args.at (md_text (record { dealer = c.args.dealer; deal = c.args.counts.now }))) = step (after-1) c.put_hand-b.ensures in
    let after-3 : (Left c.put-c.new.out c.put-c.result (joined (drop 3 (md_pieces c.args.dealer c.args.counts.now))) c.args.out.now c.args.at (md_text (record { dealer = c.args.dealer; deal = c.args.counts.now }))) = step (after-2) c.put-c.ensures in
    let after-4 : (Left c.put_hand-d.new.out c.put_hand-d.result (joined (drop 4 (md_pieces c.args.dealer c.args.counts.now))) c.args.out.now c.args.at (md_text (record { dealer = c.args.dealer; deal = c.args.counts.now }))) = step (after-3) c.put_hand-d.ensures in
    let after-5 : (Left c.put-e.new.out c.put-e.result (joined (drop 5 (md_pieces c.args.dealer c.args.counts.now))) c.args.out.now c.args.at (md_text (record { dealer = c.args.dealer; deal = c.args.counts.now }))) = step (after-4) c.put-e.ensures in
    let after-6 : (Left c.put_hand-f.new.out c.put_hand-f.result (joined (drop 6 (md_pieces c.args.dealer c.args.counts.now))) c.args.out.now c.args.at (md_text (record { dealer = c.args.dealer; deal = c.args.counts.now }))) = step (after-5) c.put_hand-f.ensures in
    (roomy _ _ (after-6), c.requires.1)

pub shape_of-out : goal.shape_of-out
shape_of-out c =
    let after-0 : (Left c.args.out.now c.args.at (joined (drop 0 (md_pieces c.args.dealer c.args.counts.now))) c.args.out.now c.args.at (md_text (record { dealer = c.args.dealer; deal = c.args.counts.now }))) = rw (← md-is c.args.dealer c.args.counts.now) (start c.requires.0) in
    let after-1 : (Left c.put-a.new.out c.put-a.result (joined (drop 1 (md_pieces c.args.dealer c.args.counts.now))) c.args.out.now c.args.at (md_text (record { dealer = c.args.dealer; deal = c.args.counts.now }))) = step (after-0) (rw c.dealer_digit.ensures at c.put-a.ensures) in
    let after-2 : (Left c.put_hand-b.new.out c.put_hand-b.result (joined (drop 2 (md_pieces c.args.dealer c.args.counts.now))) c.args.out.now c.args.at (md_text (record { dealer = c.args.dealer; deal = c.args.counts.now }))) = step (after-1) c.put_hand-b.ensures in
    let after-3 : (Left c.put-c.new.out c.put-c.result (joined (drop 3 (md_pieces c.args.dealer c.args.counts.now))) c.args.out.now c.args.at (md_text (record { dealer = c.args.dealer; deal = c.args.counts.now }))) = step (after-2) c.put-c.ensures in
    let after-4 : (Left c.put_hand-d.new.out c.put_hand-d.result (joined (drop 4 (md_pieces c.args.dealer c.args.counts.now))) c.args.out.now c.args.at (md_text (record { dealer = c.args.dealer; deal = c.args.counts.now }))) = step (after-3) c.put_hand-d.ensures in
    let after-5 : (Left c.put-e.new.out c.put-e.result (joined (drop 5 (md_pieces c.args.dealer c.args.counts.now))) c.args.out.now c.args.at (md_text (record { dealer = c.args.dealer; deal = c.args.counts.now }))) = step (after-4) c.put-e.ensures in
    let after-6 : (Left c.put_hand-f.new.out c.put_hand-f.result (joined (drop 6 (md_pieces c.args.dealer c.args.counts.now))) c.args.out.now c.args.at (md_text (record { dealer = c.args.dealer; deal = c.args.counts.now }))) = step (after-5) c.put_hand-f.ensures in
    let after-7 : (Left c.put_east.new.out c.put_east.result (joined (drop 7 (md_pieces c.args.dealer c.args.counts.now))) c.args.out.now c.args.at (md_text (record { dealer = c.args.dealer; deal = c.args.counts.now }))) = step (after-6) c.put_east.ensures in
    (after-7).long

pub returns : goal.returns
returns c =
    let after-0 : (Left c.args.out.now c.args.at (joined (drop 0 (md_pieces c.args.dealer c.args.counts.now))) c.args.out.now c.args.at (md_text (record { dealer = c.args.dealer; deal = c.args.counts.now }))) = rw (← md-is c.args.dealer c.args.counts.now) (start c.requires.0) in
    let after-1 : (Left c.put-a.new.out c.put-a.result (joined (drop 1 (md_pieces c.args.dealer c.args.counts.now))) c.args.out.now c.args.at (md_text (record { dealer = c.args.dealer; deal = c.args.counts.now }))) = step (after-0) (rw c.dealer_digit.ensures at c.put-a.ensures) in
    let after-2 : (Left c.put_hand-b.new.out c.put_hand-b.result (joined (drop 2 (md_pieces c.args.dealer c.args.counts.now))) c.args.out.now c.args.at (md_text (record { dealer = c.args.dealer; deal = c.args.counts.now }))) = step (after-1) c.put_hand-b.ensures in
    let after-3 : (Left c.put-c.new.out c.put-c.result (joined (drop 3 (md_pieces c.args.dealer c.args.counts.now))) c.args.out.now c.args.at (md_text (record { dealer = c.args.dealer; deal = c.args.counts.now }))) = step (after-2) c.put-c.ensures in
    let after-4 : (Left c.put_hand-d.new.out c.put_hand-d.result (joined (drop 4 (md_pieces c.args.dealer c.args.counts.now))) c.args.out.now c.args.at (md_text (record { dealer = c.args.dealer; deal = c.args.counts.now }))) = step (after-3) c.put_hand-d.ensures in
    let after-5 : (Left c.put-e.new.out c.put-e.result (joined (drop 5 (md_pieces c.args.dealer c.args.counts.now))) c.args.out.now c.args.at (md_text (record { dealer = c.args.dealer; deal = c.args.counts.now }))) = step (after-4) c.put-e.ensures in
    let after-6 : (Left c.put_hand-f.new.out c.put_hand-f.result (joined (drop 6 (md_pieces c.args.dealer c.args.counts.now))) c.args.out.now c.args.at (md_text (record { dealer = c.args.dealer; deal = c.args.counts.now }))) = step (after-5) c.put_hand-f.ensures in
    let after-7 : (Left c.put_east.new.out c.put_east.result (joined (drop 7 (md_pieces c.args.dealer c.args.counts.now))) c.args.out.now c.args.at (md_text (record { dealer = c.args.dealer; deal = c.args.counts.now }))) = step (after-6) c.put_east.ensures in
    finish (after-7)
