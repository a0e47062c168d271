-- `pbn_annotation::put_annotation_words` meets its contract: a turn takes one part off what is left to put.
use Prim.Native.Nat.{◌≤◌}
use lib.ListN.{length}
use lib.Dec.{ltb}
use Rattle.lin_spec.specs.Annotation.{annotation_parts}
use Rattle.output.proofs.Laws.{Left}
use Rattle.pbn_words.specs.Words.{text_from, parts_text}
use Rattle.pbn_annotation.proofs.texts.put_annotation_words.Given as goal

abbrev pub invariant-loop-rest : goal.invariant-loop-rest
invariant-loop-rest l = (l.at ≤ l.o) × Left l.out l.o (text_from l.text l.notes (ltb l.at l.o) (annotation_parts l.rest)) l.initial.out l.at (parts_text l.text l.notes l.raw)

abbrev pub decreases-loop-rest : goal.decreases-loop-rest
decreases-loop-rest l = length l.rest
