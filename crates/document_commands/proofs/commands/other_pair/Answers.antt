-- `document_commands::other_pair` meets its contract: one of the words, or none of them. (01: Board)
use native.Mathlib.Omega.{arith}
use Rattle.document_commands.proofs.CommandLaws.{code-pair, none_other}
use Rattle.document_commands.proofs.commands.other_pair.Goals as goal

pub returns-then-x-y : goal.returns-then-x-y
returns-then-x-y c = code-pair _ _ 2 (omega arith) c.if-x-y.true

pub returns-then-x-y-2 : goal.returns-then-x-y-2
returns-then-x-y-2 c = code-pair _ _ 5 (omega arith) c.if-x-y-2.true

pub returns-then-x-y-3 : goal.returns-then-x-y-3
returns-then-x-y-3 c = code-pair _ _ 7 (omega arith) c.if-x-y-3.true

pub returns-then-x-y-4 : goal.returns-then-x-y-4
returns-then-x-y-4 c = code-pair _ _ 8 (omega arith) c.if-x-y-4.true

pub returns : goal.returns
returns c = none_other _ _ c.requires.0 c.requires.1 c.if-x-y.false c.if-x-y-2.false c.if-x-y-3.false c.if-x-y-4.false
