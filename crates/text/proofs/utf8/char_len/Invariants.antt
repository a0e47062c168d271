-- `text::utf8::char_len` meets its contract. The loop's invariant: the first k bytes are those of a character of n bytes so far, whose next byte is to be
-- from low to high.
use Rattle.text.proofs.Utf8Laws.{Seen}
use Rattle.text.proofs.utf8.char_len.Given as goal

abbrev pub invariant-loop-k : goal.invariant-loop-k
invariant-loop-k l = Seen l.t l.n l.low l.high l.k
