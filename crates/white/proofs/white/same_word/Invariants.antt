-- `white::same_word` meets its contract: what is left after the pairs so far decides as the whole does. (01: Tokens)
use lib.ListN.{length}
use Rattle.white.proofs.WhiteLaws.{Word}
use Rattle.white.proofs.white.same_word.Given as goal

abbrev pub invariant-loop-a : goal.invariant-loop-a
invariant-loop-a l = Word l.s l.w (length l.yielded)
