-- `board_lent::call_meets` meets its contract: the bid, and the annotation where there is one.
use mathlib.Core.Path.{sym, ◌∙◌}
use Rattle.board_lent.proofs.LentLaws.{call-bid, call-bare, call-annotated}
use Rattle.board_lent.proofs.checks.call_meets.Goals as goal

pub returns-then-meets : goal.returns-then-meets
returns-then-meets c = call-bid _ c.args.c (sym c.meets.ensures ∙ c.if-meets.true)

pub returns-then-c-eq0 : goal.returns-then-c-eq0
returns-then-c-eq0 c = call-bare _ c.args.c (sym c.meets.ensures ∙ c.if-meets.false) c.if-c-eq0.true

pub returns : goal.returns
returns c = c.meets-2.ensures ∙ call-annotated _ c.args.c (sym c.meets.ensures ∙ c.if-meets.false) c.if-c-eq0.false
