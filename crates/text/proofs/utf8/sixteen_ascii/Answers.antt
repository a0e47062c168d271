use native.Mathlib.Omega.{arith}
use Rattle.text.proofs.Utf8Laws.{sixteen_past}
use Rattle.text.proofs.utf8.sixteen_ascii.Goals as goal

pub returns : goal.returns
returns c = let a = c.args in
    sixteen_past a.s.now a.i (omega arith)
