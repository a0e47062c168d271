-- A token ends after the place where it begins, and within the text.
use Rattle.std.proofs.Common.{◌-◌, length}
use Rattle.lin_example.proofs.token_lines.say_tokens.Given as goal

abbrev pub decreases-loop-token : goal.decreases-loop-token
decreases-loop-token g l = length l.text - l.c.at
