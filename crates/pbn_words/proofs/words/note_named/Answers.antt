-- `pbn_words::note_named` meets its contract: a note whose first word is 0 is none.
use Rattle.pbn_words.proofs.WordLaws.{note_absent, note-present}
use Rattle.pbn_words.proofs.words.note_named.Goals as goal

pub returns-then-notes-i-eq0 : goal.returns-then-notes-i-eq0
returns-then-notes-i-eq0 c = note_absent _ _ c.if-notes-i-eq0.true

pub returns : goal.returns
returns c = note-present _ _ c.if-notes-i-eq0.false
