-- `board_equality::same_call` meets its contract: part by part, up to the first that differs.
use Rattle.lin_spec.specs.Equality.{eq_call}
use Rattle.board_equality.proofs.EqualityLaws.{and_stop, and_pass}
use Rattle.board_equality.proofs.texts.same_call.Goals as goal

pub returns-then-not-same_indexed : goal.returns-then-not-same_indexed
unfolding eq_call
returns-then-not-same_indexed c = and_stop _ _ _ c.same_indexed.ensures c.if-not-same_indexed.true-raw

pub returns-then-not-same_flag : goal.returns-then-not-same_flag
unfolding eq_call
returns-then-not-same_flag c = and_pass _ _ _ _ c.same_indexed.ensures c.if-not-same_indexed.false-raw (and_stop _ _ _ c.same_flag.ensures c.if-not-same_flag.true-raw)

pub returns : goal.returns
unfolding eq_call
returns c = and_pass _ _ _ _ c.same_indexed.ensures c.if-not-same_indexed.false-raw (and_pass _ _ _ _ c.same_flag.ensures c.if-not-same_flag.false-raw c.same_annotation.ensures)
