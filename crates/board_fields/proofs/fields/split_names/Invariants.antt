-- `board_fields::split_names` meets its contract: a turn sets one name from the next piece.
use Rattle.board_fields.proofs.FieldLaws.{Named}
use Rattle.board_fields.proofs.fields.split_names.Given as goal

abbrev pub invariant-loop-name : goal.invariant-loop-name
invariant-loop-name l = Named l.value l.start l.initial.name-items l.name-items l.place l.name-index
