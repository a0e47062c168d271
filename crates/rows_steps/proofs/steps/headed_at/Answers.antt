use Rattle.rows_steps.proofs.StepLaws.{cut-is, cut_short, few-rows, few-places, places, heads_read}
use Rattle.rows_steps.proofs.steps.headed_at.Goals as goal

pub slice_bounds-heading_at-end : goal.slice_bounds-heading_at-end
slice_bounds-heading_at-end c = cut-is _ _ c.requires.1

pub heading_at-heading-requires : goal.heading_at-heading-requires
heading_at-heading-requires c = (rw (← cut-is c.args.text.now c.args.stop c.requires.1) c.requires.0, cut_short c.args.text.now c.args.stop c.requires.2)

pub returns-then-rows-heading : goal.returns-then-rows-heading
returns-then-rows-heading c = few-rows c.args.text.now c.args.start c.args.stop c.args.rows c.args.cards.now _ c.heading_at-heading.ensures c.if-rows-heading.true

pub returns-then-cards-heading : goal.returns-then-cards-heading
returns-then-cards-heading c = few-places c.args.text.now c.args.start c.args.stop c.args.rows c.args.cards.now _ c.heading_at-heading.ensures c.if-rows-heading.false c.if-cards-heading.true

pub slice_bounds-put_cards-end : goal.slice_bounds-put_cards-end
slice_bounds-put_cards-end c = cut-is _ _ c.requires.1

pub put_cards-requires : goal.put_cards-requires
put_cards-requires c = (places c.args.text.now c.args.start c.args.stop c.args.rows c.args.cards.now _ c.heading_at-heading.ensures c.if-rows-heading.false c.if-cards-heading.false, cut_short c.args.text.now c.args.stop c.requires.2)

pub returns : goal.returns
returns c = heads_read c.args.text.now c.args.start c.args.stop c.args.rows c.args.cards.now _ c.heading_at-heading.ensures c.if-rows-heading.false c.if-cards-heading.false _ c.put_cards.ensures c.requires.1 c.requires.2
