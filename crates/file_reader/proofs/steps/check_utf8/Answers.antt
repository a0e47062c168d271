-- `file_reader::check_utf8` meets its contract: by the length of the longest well-formed start.
use Rattle.file_reader.proofs.StepLaws.{longest_of, check_ill, check_well}
use Rattle.file_reader.proofs.steps.check_utf8.Goals as goal

pub returns-then-n-stop : goal.returns-then-n-stop
returns-then-n-stop c = check_ill _ _ _ _ c.requires.0 c.requires.1 (longest_of _ _ _ c.well_formed_len-n.ensures) c.if-n-stop.true

pub returns : goal.returns
returns c = check_well _ _ _ _ c.requires.0 c.requires.1 (longest_of _ _ _ c.well_formed_len-n.ensures) c.if-n-stop.false
