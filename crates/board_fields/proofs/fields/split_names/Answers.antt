-- `board_fields::split_names` meets its contract: a turn sets one name from the next piece.
use native.Mathlib.Omega.{arith}
use Rattle.lin_spec.proofs.Cursor.{find_most}
use Rattle.board_fields.proofs.FieldLaws.{name_place, name_last, name_next, names-done}
use Rattle.board_fields.proofs.fields.split_names.Goals as goal

pub overflow_sub-name : goal.overflow_sub-name
overflow_sub-name c = name_place _ _ _ _ _ _ c.loop-name.invariant c.loop-name-test.true _ c.find_byte-e.ensures

pub overflow_cast-name-in-loop-name : goal.overflow_cast-name-in-loop-name
overflow_cast-name-in-loop-name c = omega (arith, find_most _ _ _ _ c.find_byte-e.ensures)

pub returns-then-value-e : goal.returns-then-value-e
returns-then-value-e c = name_last _ _ _ _ _ _ c.loop-name.invariant c.loop-name-test.true _ c.find_byte-e.ensures c.if-value-e.true

pub loop-name-preserved : goal.loop-name-preserved
loop-name-preserved c = name_next _ _ _ _ _ _ c.loop-name.invariant c.loop-name-test.true _ c.find_byte-e.ensures c.if-value-e.false

pub returns-after-loop-name : goal.returns-after-loop-name
returns-after-loop-name c = names-done _ _ _ _ _ _ c.loop-name.invariant c.loop-name-test.false
