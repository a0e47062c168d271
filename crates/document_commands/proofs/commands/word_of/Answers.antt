-- `document_commands::word_of` meets its contract: each test is that of the next word.
use Rattle.document_commands.proofs.CommandLaws.{word-here, word_next}
use Rattle.document_commands.proofs.commands.word_of.Goals as goal

pub returns-then-same_word : goal.returns-then-same_word
returns-then-same_word c = word-here _ _ _ _ _ c.same_word.ensures c.if-same_word.true

pub returns-then-same_word-2 : goal.returns-then-same_word-2
returns-then-same_word-2 c = word_next _ _ _ _ _ c.same_word.ensures c.if-same_word.false (word-here _ _ _ _ _ c.same_word-2.ensures c.if-same_word-2.true)

pub returns-then-same_word-3 : goal.returns-then-same_word-3
returns-then-same_word-3 c = word_next _ _ _ _ _ c.same_word.ensures c.if-same_word.false (word_next _ _ _ _ _ c.same_word-2.ensures c.if-same_word-2.false (word-here _ _ _ _ _ c.same_word-3.ensures c.if-same_word-3.true))

pub returns-then-same_word-4 : goal.returns-then-same_word-4
returns-then-same_word-4 c = word_next _ _ _ _ _ c.same_word.ensures c.if-same_word.false (word_next _ _ _ _ _ c.same_word-2.ensures c.if-same_word-2.false (word_next _ _ _ _ _ c.same_word-3.ensures c.if-same_word-3.false (word-here _ _ _ _ _ c.same_word-4.ensures c.if-same_word-4.true)))

pub returns-then-same_word-5 : goal.returns-then-same_word-5
returns-then-same_word-5 c = word_next _ _ _ _ _ c.same_word.ensures c.if-same_word.false (word_next _ _ _ _ _ c.same_word-2.ensures c.if-same_word-2.false (word_next _ _ _ _ _ c.same_word-3.ensures c.if-same_word-3.false (word_next _ _ _ _ _ c.same_word-4.ensures c.if-same_word-4.false (word-here _ _ _ _ _ c.same_word-5.ensures c.if-same_word-5.true))))

pub returns : goal.returns
returns c = word_next _ _ _ _ _ c.same_word.ensures c.if-same_word.false (word_next _ _ _ _ _ c.same_word-2.ensures c.if-same_word-2.false (word_next _ _ _ _ _ c.same_word-3.ensures c.if-same_word-3.false (word_next _ _ _ _ _ c.same_word-4.ensures c.if-same_word-4.false (word_next _ _ _ _ _ c.same_word-5.ensures c.if-same_word-5.false c.other_word_of.ensures))))
