-- `writer::put_sv` meets its contract: the letter of the vulnerability is what is put.
use Rattle.writer.proofs.front.put_sv.Goals as goal

pub put-requires : goal.put-requires
put-requires c = rw c.letter.ensures c.requires

pub returns : goal.returns
returns c = rw c.letter.ensures at c.put.ensures
