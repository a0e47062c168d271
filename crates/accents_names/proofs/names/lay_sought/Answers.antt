-- `accents_names::names::lay_sought` meets its contract: nothing is to be put, or the front holds what is put.
use Rattle.accents_names.proofs.NameLaws.{laid_put, put_long}
use Rattle.accents_names.proofs.names.lay_sought.Goals as goal

pub returns : goal.returns
returns c = (laid_put c.args.name.now c.args.sought _ _ _ c.requires.0 c.requires.1.room c.put_mapped.ensures, put_long _ _ _ _ _ c.requires.1.room c.put_mapped.ensures)
