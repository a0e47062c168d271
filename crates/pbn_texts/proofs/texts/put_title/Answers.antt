-- `pbn_texts::put_title` meets its contract: by the date.
use Rattle.pbn_texts.proofs.TextLaws.{title_dated}
use Rattle.pbn_texts.proofs.texts.put_title.Goals as goal

pub put_dated-requires : goal.put_dated-requires
put_dated-requires c = rw (title_dated c.args.text.now c.args.event c.args.date _ c.in-Some.is) at c.requires

pub returns-in-Some : goal.returns-in-Some
returns-in-Some c = rw (title_dated c.args.text.now c.args.event c.args.date _ c.in-Some.is) c.put_dated.ensures
