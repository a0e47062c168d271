use Rattle.rows.proofs.Laws.{fill-flag, fill-few, fill-all}
use Rattle.rows.proofs.answers.fill_answer.Goals as goal

pub returns-then-bad_flags : goal.returns-then-bad_flags
returns-then-bad_flags c = fill-flag _ _ _ c.bad_flags.ensures c.if-bad_flags.true

pub returns-then-structs-needed : goal.returns-then-structs-needed
returns-then-structs-needed c = fill-few _ _ _ c.bad_flags.ensures c.if-bad_flags.false c.if-structs-needed.true

pub returns : goal.returns
returns c = fill-all _ _ _ c.bad_flags.ensures c.if-bad_flags.false c.if-structs-needed.false
