-- `pbn_annotation::put_annotation` meets its contract: the words of the bytes that the span names.
use mathlib.Core.Path.{ap, sym, ◌∙◌}
use Rattle.pbn_words.specs.Words.{parts_text}
use Rattle.pbn_words.proofs.WordLaws.{room_as, put_as}
use Rattle.pbn_annotation.proofs.AnnotationLaws.{text-is}
use Rattle.pbn_annotation.proofs.texts.put_annotation.Goals as goal

pub put_annotation_words-requires : goal.put_annotation_words-requires
put_annotation_words-requires c = room_as (sym (ap (parts_text c.args.text.now c.args.notes.now) c.shown.ensures ∙ text-is c.args.text.now c.args.notes.now _)) c.requires

pub returns : goal.returns
returns c = put_as (ap (parts_text c.args.text.now c.args.notes.now) c.shown.ensures ∙ text-is c.args.text.now c.args.notes.now _) c.put_annotation_words.ensures
