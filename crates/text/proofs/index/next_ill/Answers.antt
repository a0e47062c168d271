-- `text::index::next_ill` meets its contract. The loop's invariant: there are whole characters from a up to i. The measure is what is left of the block.
use Rattle.text.proofs.IndexLaws.{word-here, word_none, word_next}
use Rattle.text.proofs.index.next_ill.Goals as goal

pub returns-then-a-here : goal.returns-then-a-here
returns-then-a-here c = word-here c.args.text.now c.args.next.now c.requires.0 c.args.a c.requires.2 c.requires.3 c.if-a-here.true

pub returns-then-j-i : goal.returns-then-j-i
returns-then-j-i c = word_none c.args.text.now c.args.next.now c.requires.0 c.args.a c.requires.2 c.requires.3 c.requires.1 c.loop-i.i c.loop-i.invariant _ c.pass_chars-j.ensures c.if-j-i.true

pub returns : goal.returns
returns c = word_next c.args.text.now c.args.next.now c.requires.0 c.args.a c.requires.2 c.requires.3 c.requires.1 c.loop-i.i c.loop-i.invariant c.loop-i-test.false
