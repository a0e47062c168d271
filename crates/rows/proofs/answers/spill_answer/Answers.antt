use Rattle.rows.proofs.Laws.{spill_few, spill_all}
use Rattle.rows.proofs.answers.spill_answer.Goals as goal

pub returns-then-words-structs : goal.returns-then-words-structs
returns-then-words-structs c = spill_few _ _ c.if-words-structs.true

pub returns : goal.returns
returns c = spill_all _ _ c.if-words-structs.false
