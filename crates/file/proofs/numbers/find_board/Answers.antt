-- `file::find_board` meets its contract: a turn passes a section that is not the one looked for.
use Rattle.file_sections.proofs.SectionLaws.{seen}
use Rattle.file.proofs.NumberLaws.{seeks_begin, seeks_on, seeks_found, seeks_missing}
use native.Mathlib.Omega.{arith}
use Rattle.file.proofs.numbers.find_board.Goals as goal

pub loop-n-init : goal.loop-n-init
loop-n-init c = seeks_begin _ _ _ c.requires

pub returns-then-p-n : goal.returns-then-p-n
returns-then-p-n c = seeks_found _ _ _ c.loop-n.invariant _ _ _ (seen _ _ _ _ c.next-step.ensures c.in-Some.is) c.if-p-n.true

pub loop-n-smaller : goal.loop-n-smaller
loop-n-smaller c = let f = seen _ _ _ _ c.next-step.ensures c.in-Some.is in omega (arith, f.later, f.within)

pub loop-n-preserved : goal.loop-n-preserved
loop-n-preserved c = seeks_on _ _ _ c.loop-n.invariant _ _ _ (seen _ _ _ _ c.next-step.ensures c.in-Some.is) c.if-p-n.false

pub returns-in_default : goal.returns-in_default
returns-in_default c = seeks_missing _ _ _ c.loop-n.invariant (seen _ _ _ _ c.next-step.ensures c.in_default.is).1
