-- `accents::chars::char_at` meets its contract: by the number of bytes that the first one says.
use Rattle.accents.proofs.CharLaws.{char_one, char_two, char_three, char_four}
use Rattle.accents.proofs.chars.char_at.Goals as goal

pub returns-then-b-lt192 : goal.returns-then-b-lt192
returns-then-b-lt192 c = char_one _ _ _ c.requires.0 c.number_of-b.ensures c.if-b-lt192.true

pub returns-then-b-lt224 : goal.returns-then-b-lt224
returns-then-b-lt224 c = char_two _ _ _ c.requires.0 c.number_of-b.ensures _ c.six_at-x.ensures c.if-b-lt192.false c.if-b-lt224.true

pub returns-then-b-lt240 : goal.returns-then-b-lt240
returns-then-b-lt240 c = char_three _ _ _ c.requires.0 c.number_of-b.ensures _ c.six_at-x.ensures c.if-b-lt192.false _ c.six_at-y.ensures c.if-b-lt224.false c.if-b-lt240.true

pub returns : goal.returns
returns c = char_four _ _ _ c.requires.0 c.number_of-b.ensures _ c.six_at-x.ensures c.if-b-lt192.false _ c.six_at-y.ensures c.if-b-lt224.false _ c.six_at-z.ensures c.if-b-lt240.false
