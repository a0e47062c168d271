-- `pbn::convert_checked` meets its contract: each answer by the tests that led there.
use mathlib.Core.Path.{refl}
use Rattle.pbn.proofs.StoreLaws.{calls-refused, cards-refused, counted}
use Rattle.pbn.proofs.entry.convert_checked.Goals as goal

pub returns-then-rows-n : goal.returns-then-rows-n
returns-then-rows-n c = let a = c.args in
    calls-refused a.marks.pipe a.marks.line a.text.now a.board a.calls.now a.plays.now a.notes.now a.out.now a.rows.now a.cards.now _ c.kept_calls-n.ensures c.if-rows-n.true _ refl

pub returns-then-cards-k : goal.returns-then-cards-k
returns-then-cards-k c = let a = c.args in
    cards-refused a.marks.pipe a.marks.line a.text.now a.board a.calls.now a.plays.now a.notes.now a.out.now a.rows.now a.cards.now _ c.kept_calls-n.ensures c.if-rows-n.false _ c.kept_cards-k.ensures c.if-cards-k.true _ refl

pub convert_counted-requires : goal.convert_counted-requires
convert_counted-requires c = let a = c.args in
    counted a.marks.pipe a.marks.line a.text.now a.board a.calls.now a.plays.now a.notes.now a.out.now a.rows.now a.cards.now _ c.kept_calls-n.ensures c.if-rows-n.false _ c.kept_cards-k.ensures c.requires c.if-cards-k.false
