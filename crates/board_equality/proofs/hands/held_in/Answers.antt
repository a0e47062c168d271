-- `board_equality::held_in` meets its contract: of each two counts, one of this hand means one of the other.
use native.Mathlib.Nat.{add-sub_cancel_left}
use lib.ListN.{length-take, length-drop}
use Rattle.std.proofs.Common.{rules, not, eqb, ◌||◌, ◌∙◌, ◌*◌}
use Rattle.std.proofs.lemmas.Iterator.{YieldsList-from_slice, YieldsList-from_zip}
use Rattle.std.proofs.lemmas.Iterator.Consumers.{YieldsList-at}
use Rattle.std.proofs.lemmas.Iterator.Search.{all_from_yields_List}
use Rattle.lin_spec.specs.Records.{part}
use Rattle.board_equality.proofs.EqualityLaws.{held-pairs}
use Rattle.board_equality.proofs.hands.held_in.Goals as goal

pub returns : goal.returns
unfolding part
returns c = let a = c.args in
    let f = c.number-first.result * 52 in
    all_from_yields_List (λ p. eqb p.0 0 || not (eqb p.1 0)) c.all.new.self _ _ c.all.ensures.ran (YieldsList-from_zip (YieldsList-at c.zip.ensures.first (YieldsList-from_slice _ c.iter.ensures.rest)) (YieldsList-at c.zip.ensures.second (YieldsList-from_slice _ c.iter-2.ensures.rest))) (λ x b q k. search rules)
    ∙ rw (add-sub_cancel_left, ← c.number-first.ensures.0) (held-pairs (part a.counts.now f 52) (part a.other.now f 52) (simp (length-take, length-drop, c.told-counts, c.told-other)))
