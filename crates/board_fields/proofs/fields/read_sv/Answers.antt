-- `board_fields::read_sv` meets its contract: each test is that of an answer.
use Rattle.board_fields.proofs.FieldLaws.{sv_n, sv_e, sv_b, sv_none}
use Rattle.board_fields.proofs.fields.read_sv.Goals as goal

pub returns-then-same_word : goal.returns-then-same_word
returns-then-same_word c = sv_n _ _ _ c.same_word.ensures c.same_word-2.ensures c.if-same_word.true

pub returns-then-same_word-2 : goal.returns-then-same_word-2
returns-then-same_word-2 c = sv_e _ _ _ c.same_word.ensures c.same_word-2.ensures c.if-same_word.false _ _ c.same_word-3.ensures c.same_word-4.ensures c.if-same_word-2.true

pub returns-then-same_word-3 : goal.returns-then-same_word-3
returns-then-same_word-3 c = sv_b _ _ _ c.same_word.ensures c.same_word-2.ensures c.if-same_word.false _ _ c.same_word-3.ensures c.same_word-4.ensures c.if-same_word-2.false _ _ _ c.same_word-5.ensures c.same_word-6.ensures c.same_word-7.ensures c.if-same_word-3.true

pub returns : goal.returns
returns c = sv_none _ _ _ c.same_word.ensures c.same_word-2.ensures c.if-same_word.false _ _ c.same_word-3.ensures c.same_word-4.ensures c.if-same_word-2.false _ _ _ c.same_word-5.ensures c.same_word-6.ensures c.same_word-7.ensures c.if-same_word-3.false
