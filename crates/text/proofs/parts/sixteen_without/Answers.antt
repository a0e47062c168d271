use native.Mathlib.Omega.{arith}
use Rattle.text.proofs.FindLaws.{sixteen_without_lem}
use Rattle.text.proofs.parts.sixteen_without.Goals as goal

pub returns : goal.returns
returns c = let a = c.args in
    sixteen_without_lem a.s.now a.c a.i (omega arith)
