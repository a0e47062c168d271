-- A step that reads leads further on.
use Rattle.std.proofs.Common.{◌+◌, ◌-◌, length}
use Rattle.lin_example.proofs.copying.copy_from.Given as goal

abbrev pub decreases-loop-read : goal.decreases-loop-read
decreases-loop-read g l = length l.text + 2 - l.c.at
