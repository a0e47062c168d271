-- `writer_texts::clean_part` meets its contract: the bytes before this one are cleaned.
use mathlib.Core.Path.{refl}
use lib.ListN.{get_or}
use borrow.Author.Rules.{rules}
use Rattle.std.proofs.lemmas.List.Edits.{map_over_more}
use Rattle.writer_texts.specs.Texts.{clean_byte}
use Rattle.writer_texts.proofs.PartLaws.{part_done}
use Rattle.writer_texts.proofs.texts.clean_part.Goals as goal

pub loop-b-preserved : goal.loop-b-preserved
loop-b-preserved c = let m = c.args.marks in
    rw c.clean_byte.ensures (map_over_more (clean_byte m.pipe m.line) _ _ _ (get_or c.loop-b.b-items c.loop-b.b-index 0) c.loop-b-test.true c.loop-b.invariant (search rules))

pub returns : goal.returns
returns c = let a = c.args in part_done a.marks.pipe a.marks.line a.out.now a.from a.to c.requires.0 c.requires.1 _ refl _ _ c.loop-b.invariant c.loop-b-test.false
