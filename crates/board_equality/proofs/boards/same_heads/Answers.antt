-- `board_equality::same_heads` meets its contract: a refusal, or what the comparison says, 6 of the second board being left where they differ.
use mathlib.Core.Path.{sym, ◌∙◌}
use Rattle.board_equality.proofs.EqualityLaws.{same-refused, same-equal, same_unlike, most_accepted, equal-ill}
use Rattle.lin_spec.proofs.Checks.{handed}
use Rattle.board_equality.proofs.boards.same_heads.Goals as goal

pub returns-in_err-check_both : goal.returns-in_err-check_both
returns-in_err-check_both c = let a = c.args in
    handed _ _ c.from_residual.ensures ∙ same-refused _ _ _ _ (c.check_both.ensures a.counts.now a.counts2.now) _ c.in_err-check_both.was

pub returns-then-equal : goal.returns-then-equal
returns-then-equal c = let a = c.args in
    let e = most_accepted _ _ _ _ (c.check_both.ensures a.counts.now a.counts2.now) c.in_ok-check_both.was in
    same-equal _ _ _ e _ c.equal.ensures c.if-equal.true (equal-ill _ a.head _ _ _ _ a.head2 _ _ _ (sym c.equal.ensures ∙ c.if-equal.true))

pub returns : goal.returns
returns c = let a = c.args in
    let e = most_accepted _ _ _ _ (c.check_both.ensures a.counts.now a.counts2.now) c.in_ok-check_both.was in
    c.unlike.ensures a.counts2.now a.cards2.now ∙ same_unlike _ _ _ e _ c.equal.ensures c.if-equal.false
