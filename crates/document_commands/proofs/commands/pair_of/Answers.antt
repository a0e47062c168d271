-- `document_commands::pair_of` meets its contract: by the first letter, then by the second. (01: Board)
use native.Mathlib.Omega.{arith}
use mathlib.Core.Path.{◌∙◌}
use Rattle.document_commands.proofs.CommandLaws.{pair_code, code-word, none-p, none_m}
use Rattle.document_commands.proofs.commands.pair_of.Goals as goal

pub returns-then-y-eq99 : goal.returns-then-y-eq99
returns-then-y-eq99 c = code-word _ _ 0 (omega arith) c.if-x-eq112.true c.if-y-eq99.true ∙ pair_code _ _ _ _ c.lower_byte-x.ensures c.lower_byte-y.ensures

pub returns-then-y-eq110 : goal.returns-then-y-eq110
returns-then-y-eq110 c = code-word _ _ 4 (omega arith) c.if-x-eq112.true c.if-y-eq110.true ∙ pair_code _ _ _ _ c.lower_byte-x.ensures c.lower_byte-y.ensures

pub returns-then-x-eq112 : goal.returns-then-x-eq112
returns-then-x-eq112 c = none-p _ _ c.if-x-eq112.true c.if-y-eq99.false c.if-y-eq110.false ∙ pair_code _ _ _ _ c.lower_byte-x.ensures c.lower_byte-y.ensures

pub returns-then-y-eq98 : goal.returns-then-y-eq98
returns-then-y-eq98 c = code-word _ _ 1 (omega arith) c.if-x-eq109.true c.if-y-eq98.true ∙ pair_code _ _ _ _ c.lower_byte-x.ensures c.lower_byte-y.ensures

pub returns-then-y-eq100 : goal.returns-then-y-eq100
returns-then-y-eq100 c = code-word _ _ 3 (omega arith) c.if-x-eq109.true c.if-y-eq100.true ∙ pair_code _ _ _ _ c.lower_byte-x.ensures c.lower_byte-y.ensures

pub returns-then-y-eq110-2 : goal.returns-then-y-eq110-2
returns-then-y-eq110-2 c = code-word _ _ 6 (omega arith) c.if-x-eq109.true c.if-y-eq110-2.true ∙ pair_code _ _ _ _ c.lower_byte-x.ensures c.lower_byte-y.ensures

pub returns-then-y-eq99-2 : goal.returns-then-y-eq99-2
returns-then-y-eq99-2 c = code-word _ _ 9 (omega arith) c.if-x-eq109.true c.if-y-eq99-2.true ∙ pair_code _ _ _ _ c.lower_byte-x.ensures c.lower_byte-y.ensures

pub returns-then-x-eq109 : goal.returns-then-x-eq109
returns-then-x-eq109 c = none_m _ _ c.if-x-eq109.true c.if-y-eq98.false c.if-y-eq100.false c.if-y-eq110-2.false c.if-y-eq99-2.false ∙ pair_code _ _ _ _ c.lower_byte-x.ensures c.lower_byte-y.ensures

pub returns : goal.returns
returns c = c.other_pair.ensures ∙ pair_code _ _ _ _ c.lower_byte-x.ensures c.lower_byte-y.ensures
