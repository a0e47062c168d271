-- `file_sections::part_from` meets its contract: a turn passes a token that ends no part.
use native.Mathlib.Omega.{arith}
use Rattle.document_commands.proofs.StepLaws.{parted}
use Rattle.file_sections.proofs.SectionLaws.{walks_begin, walks_end, walks_stop, walks_on, passes_on}
use Rattle.file_sections.proofs.sections.part_from.Goals as goal

pub loop-next-init : goal.loop-next-init
loop-next-init c = walks_begin _ _

pub loop-next-smaller-in-Passed : goal.loop-next-smaller-in-Passed
loop-next-smaller-in-Passed c = let t = (parted _ _ _ _ c.part_token.ensures c.in-Passed.is).token in omega (arith, t.later, t.within)

pub loop-next-preserved-in-Passed : goal.loop-next-preserved-in-Passed
loop-next-preserved-in-Passed c = let t = parted _ _ _ _ c.part_token.ensures c.in-Passed.is in passes_on _ _ _ _ _ c.loop-next.invariant _ _ _ t.token t.unmarked

pub returns-then-k-at : goal.returns-then-k-at
returns-then-k-at c = walks_stop _ _ _ _ _ c.loop-next.invariant _ _ _ (parted _ _ _ _ c.part_token.ensures c.in-Command.is).token c.if-k-at.true

pub loop-next-smaller : goal.loop-next-smaller
loop-next-smaller c = let t = (parted _ _ _ _ c.part_token.ensures c.in-Command.is).token in omega (arith, t.later, t.within)

pub loop-next-preserved : goal.loop-next-preserved
loop-next-preserved c = walks_on _ _ _ _ _ c.loop-next.invariant _ _ _ (parted _ _ _ _ c.part_token.ensures c.in-Command.is).token c.if-k-at.false _ c.moved_back-back.ensures

pub returns-in-Ended : goal.returns-in-Ended
returns-in-Ended c = walks_end _ _ _ _ _ c.loop-next.invariant (parted _ _ _ _ c.part_token.ensures c.in-Ended.is)
