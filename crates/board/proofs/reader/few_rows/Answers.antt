-- `board::few_rows` meets its contract: each answer by the tests that led there.
use Rattle.board.proofs.ReaderLaws.{ample, few-calls, few-cards, enough}
use native.Mathlib.Omega.{arith}
use Rattle.board.proofs.reader.few_rows.Goals as goal

pub returns-then-roomy : goal.returns-then-roomy
returns-then-roomy c = ample _ _ _ _ _ (omega arith) (c.roomy.ensures c.if-roomy.true)

pub returns-then-rows-h : goal.returns-then-rows-h
returns-then-rows-h c = few-calls c.args.text.now c.args.at c.args.rows.now c.args.cards.now _ c.read_head-h.ensures c.if-rows-h.true

pub returns-then-cards-h : goal.returns-then-cards-h
returns-then-cards-h c = few-cards c.args.text.now c.args.at c.args.rows.now c.args.cards.now _ c.read_head-h.ensures c.if-rows-h.false c.if-cards-h.true

pub returns : goal.returns
returns c = enough c.args.text.now c.args.at c.args.rows.now c.args.cards.now _ c.read_head-h.ensures c.if-rows-h.false c.if-cards-h.false
