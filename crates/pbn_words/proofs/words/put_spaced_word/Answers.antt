-- `pbn_words::put_spaced_word` meets its contract: each word by what it is.
use mathlib.Core.Path.{ap, sym}
use Rattle.pbn_words.specs.declared.words.Word.{Word}
use Rattle.pbn_words.specs.Words.{word_text, spaced_word}
use Rattle.pbn_words.proofs.WordLaws.{put_as, put_none}
use Rattle.pbn_words.proofs.words.put_spaced_word.Goals as goal

pub returns-in-Nothing : goal.returns-in-Nothing
returns-in-Nothing c = put_as (sym (ap (λ (w : Word). spaced_word c.args.later (word_text c.args.text.now c.args.part.now w)) c.in-Nothing.is)) (put_none _ _)
