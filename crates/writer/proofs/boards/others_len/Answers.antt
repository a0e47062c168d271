-- `writer::others_len` meets its contract: the sum of the lengths of the two parts.
use Rattle.output.proofs.Laws.{sat-sum}
use Rattle.writer.proofs.boards.others_len.Goals as goal

pub returns : goal.returns
returns c = λ counts z. sat-sum _ _ (c.front_len-a.ensures counts z) c.back_len.ensures c.sat_add.ensures
