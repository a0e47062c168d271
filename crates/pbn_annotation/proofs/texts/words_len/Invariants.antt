-- `pbn_annotation::words_len` meets its contract: a turn takes one part off what is left to count.
use Prim.Native.Nat.{◌+◌, ◌^◌, ◌<◌}
use mathlib.Core.Path.{◌≡◌}
use lib.ListN.{length}
use lib.Dec.{ltb}
use Rattle.lin_spec.specs.Refusals.{sat}
use Rattle.lin_spec.specs.Annotation.{annotation_parts}
use Rattle.pbn_words.specs.Words.{text_from, parts_text}
use Rattle.pbn_annotation.proofs.texts.words_len.Given as goal

abbrev pub invariant-loop-rest : goal.invariant-loop-rest
invariant-loop-rest l = (sat (l.n + length (text_from l.text l.notes (ltb 0 l.n) (annotation_parts l.rest))) ≡ sat (length (parts_text l.text l.notes l.raw))) × (l.n < 2 ^ 64)

abbrev pub decreases-loop-rest : goal.decreases-loop-rest
decreases-loop-rest l = length l.rest
