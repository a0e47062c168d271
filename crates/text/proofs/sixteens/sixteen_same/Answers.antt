-- `text::sixteens::sixteen_same` meets its contract.
use native.Mathlib.Omega.{arith}
use Rattle.text.proofs.ApartLaws.{sixteen_same_lem}
use Rattle.text.proofs.sixteens.sixteen_same.Goals as goal

pub returns : goal.returns
returns c = sixteen_same_lem c.args.a.now c.args.b.now c.args.m c.requires.0 c.requires.1 c.args.i (omega arith)
