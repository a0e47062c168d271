-- `pbn_annotation::annotation_len` meets its contract: the words of the bytes that the span names.
use mathlib.Core.Path.{ap, ◌∙◌}
use Prim.Native.Nat.{ℕ}
use mathlib.Core.List.{List}
use lib.ListN.{length}
use Rattle.lin_spec.specs.Refusals.{sat}
use Rattle.pbn_words.specs.Words.{parts_text}
use Rattle.pbn_annotation.proofs.AnnotationLaws.{text-is}
use Rattle.pbn_annotation.proofs.texts.annotation_len.Goals as goal

pub returns : goal.returns
returns c = c.words_len.ensures ∙ ap (λ (x : List ℕ). sat (length x)) (ap (parts_text c.args.text.now c.args.notes.now) c.shown.ensures ∙ text-is c.args.text.now c.args.notes.now _)
