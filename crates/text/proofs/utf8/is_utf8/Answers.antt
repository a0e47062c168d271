use Rattle.text.proofs.Utf8Laws.{all-utf8}
use Rattle.text.proofs.utf8.is_utf8.Goals as goal

pub returns : goal.returns
returns c = all-utf8 _ _ c.well_formed_len.ensures
