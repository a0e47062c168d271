-- `board_equality::equal` meets its contract: part by part, up to the first that differs.
use Rattle.board_equality.proofs.EqualityLaws.{unlike_names, unlike_dealt, unlike_texts, unlike_calls, like-calls}
use Rattle.board_equality.proofs.boards.equal.Goals as goal

pub returns-then-not-same_names : goal.returns-then-not-same_names
returns-then-not-same_names c = unlike_names _ _ _ _ _ _ _ _ _ c.same_names.ensures c.if-not-same_names.true-raw

pub returns-then-not-same_dealt : goal.returns-then-not-same_dealt
returns-then-not-same_dealt c = unlike_dealt _ _ _ _ _ _ _ _ _ c.same_names.ensures c.if-not-same_names.false-raw _ c.same_dealt.ensures c.if-not-same_dealt.true-raw

pub returns-then-not-same_texts : goal.returns-then-not-same_texts
returns-then-not-same_texts c = unlike_texts _ _ _ _ _ _ _ _ _ c.same_names.ensures c.if-not-same_names.false-raw _ c.same_dealt.ensures c.if-not-same_dealt.false-raw _ c.same_texts.ensures c.if-not-same_texts.true-raw

pub returns-then-not-same_calls : goal.returns-then-not-same_calls
returns-then-not-same_calls c = unlike_calls _ _ _ _ _ _ _ _ _ c.same_names.ensures c.if-not-same_names.false-raw _ c.same_dealt.ensures c.if-not-same_dealt.false-raw _ c.same_texts.ensures c.if-not-same_texts.false-raw _ c.same_calls.ensures c.if-not-same_calls.true-raw

pub returns : goal.returns
returns c = like-calls _ _ _ _ _ _ _ _ _ c.same_names.ensures c.if-not-same_names.false-raw _ c.same_dealt.ensures c.if-not-same_dealt.false-raw _ c.same_texts.ensures c.if-not-same_texts.false-raw _ c.same_calls.ensures c.if-not-same_calls.false-raw _ c.same_play.ensures
