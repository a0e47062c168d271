-- `white::white::byte_back` meets its contract: before the start the definition gives 0 too. (01: Records)
use borrow.Author.Tests.{le-leb, lt-leb}
use Rattle.white.specs.White.{last}
use Rattle.white.proofs.white.byte_back.Goals as goal

pub returns-then-k-s : goal.returns-then-k-s
unfolding last
returns-then-k-s c = simp (le-leb _ _ c.if-k-s.true) c.byte_at.ensures

pub returns : goal.returns
unfolding last
returns c = simp (lt-leb _ _ c.if-k-s.false)
