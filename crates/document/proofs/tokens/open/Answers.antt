-- `document::open` meets its contract: the two tests are the two checks.
use Rattle.document.proofs.Answers.{open-long, open-ill, open-good}
use Rattle.document.proofs.tokens.open.Goals as goal

pub returns-then-text-gt-LIMIT : goal.returns-then-text-gt-LIMIT
returns-then-text-gt-LIMIT c = open-long _ c.if-text-gt-LIMIT.true

pub returns-then-good-text : goal.returns-then-good-text
returns-then-good-text c = open-ill _ c.if-text-gt-LIMIT.false _ c.well_formed_len-good.ensures c.if-good-text.true

pub returns : goal.returns
returns c = open-good _ c.if-text-gt-LIMIT.false _ c.well_formed_len-good.ensures c.if-good-text.false
