-- `rows_writer::check_rows` meets its contract: each verdict by the tests that led there.
use Rattle.rows_writer.proofs.BeginLaws.{row-long, row_beyond, row-cards, row-past, row-ill, row_good}
use Rattle.text.proofs.IndexLaws.{indexed_none}
use Rattle.rows_writer.proofs.checks.check_rows.Goals as goal

pub returns-then-text-gt-LIMIT : goal.returns-then-text-gt-LIMIT
returns-then-text-gt-LIMIT c = λ counts rs g. row-long _ _ counts rs _ _ _ g c.if-text-gt-LIMIT.true

pub returns-then-beyond : goal.returns-then-beyond
returns-then-beyond c = λ counts rs g. row_beyond _ _ counts rs _ _ _ g c.if-text-gt-LIMIT.false c.if-beyond.true

pub returns-then-bad_cards : goal.returns-then-bad_cards
returns-then-bad_cards c = λ counts rs g. row-cards _ _ counts rs _ _ _ g c.if-text-gt-LIMIT.false c.if-beyond.false _ c.bad_cards.ensures c.if-bad_cards.true

pub returns-then-head_past-seen : goal.returns-then-head_past-seen
returns-then-head_past-seen c = λ counts rs g. row-past _ _ counts rs _ _ _ g c.if-text-gt-LIMIT.false c.if-beyond.false _ c.bad_cards.ensures c.if-bad_cards.false _ c.head_past.ensures c.if-head_past-seen.true

pub head_meets-requires : goal.head_meets-requires
head_meets-requires c = indexed_none _

pub returns-then-head_meets-seen : goal.returns-then-head_meets-seen
returns-then-head_meets-seen c = λ counts rs g. row-ill _ _ counts rs _ _ _ g c.if-text-gt-LIMIT.false c.if-beyond.false _ c.bad_cards.ensures c.if-bad_cards.false _ c.head_past.ensures c.if-head_past-seen.false _ c.head_meets.ensures c.if-head_meets-seen.true

pub returns : goal.returns
returns c = λ counts rs g. row_good _ _ counts rs _ _ _ g c.if-text-gt-LIMIT.false c.if-beyond.false _ c.bad_cards.ensures c.if-bad_cards.false _ c.head_past.ensures c.if-head_past-seen.false _ c.head_meets.ensures c.if-head_meets-seen.false
