-- `pbn_annotation::annotation_text` meets its contract: each answer by the tests that led there.
use Rattle.pbn_annotation.proofs.Answers.{write-long, write-past, write-ill, write-small, write-absent, write_done}
use Rattle.pbn_annotation.proofs.entry.annotation_text.Goals as goal

pub returns-then-text-gt-LIMIT : goal.returns-then-text-gt-LIMIT
returns-then-text-gt-LIMIT c = write-long _ _ _ _ c.if-text-gt-LIMIT.true

pub returns-then-annotation_past : goal.returns-then-annotation_past
returns-then-annotation_past c = write-past _ _ _ _ c.if-text-gt-LIMIT.false _ c.annotation_past.ensures c.if-annotation_past.true

pub returns-then-annotation_ill : goal.returns-then-annotation_ill
returns-then-annotation_ill c = write-ill _ _ _ _ c.if-text-gt-LIMIT.false _ c.annotation_past.ensures c.if-annotation_past.false _ c.annotation_ill.ensures c.if-annotation_ill.true

pub returns-then-room-need : goal.returns-then-room-need
returns-then-room-need c = write-small _ _ _ _ c.if-text-gt-LIMIT.false _ c.annotation_past.ensures c.if-annotation_past.false _ c.annotation_ill.ensures c.if-annotation_ill.false _ c.annotation_len-need.ensures _ c.room.ensures c.if-room-need.true

pub returns-then-need-eq0 : goal.returns-then-need-eq0
returns-then-need-eq0 c = write-absent _ _ _ _ c.if-text-gt-LIMIT.false _ c.annotation_past.ensures c.if-annotation_past.false _ c.annotation_ill.ensures c.if-annotation_ill.false _ c.annotation_len-need.ensures _ c.room.ensures c.if-room-need.false c.if-need-eq0.true

pub returns : goal.returns
returns c = write_done _ _ _ _ c.if-text-gt-LIMIT.false _ c.annotation_past.ensures c.if-annotation_past.false _ c.annotation_ill.ensures c.if-annotation_ill.false _ c.annotation_len-need.ensures _ c.room.ensures c.if-room-need.false c.if-need-eq0.false c.put_annotation-n.ensures
