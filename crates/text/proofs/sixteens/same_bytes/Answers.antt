-- `text::same_bytes` meets its contract: texts that are as long are the same where they differ nowhere.
use Rattle.text.proofs.ApartLaws.{whole_length, whole_same}
use Rattle.text.proofs.sixteens.same_bytes.Goals as goal

pub returns-then-a-b : goal.returns-then-a-b
returns-then-a-b c = whole_length _ _ c.if-a-b.true

pub returns : goal.returns
returns c = let a = c.args in whole_same a.a.now a.b.now c.if-a-b.false _ c.next_apart.ensures
