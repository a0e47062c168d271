-- What title, room-and-board and header are made of. (01: From PBN)
use Rattle.std.specs.Prelude.{ℕ, ◌≡◌, Bool, List, Option, None, Some, is_some}
use Rattle.lin_spec.specs.Records.{bytes_at}
use Rattle.lin_spec.specs.Decimal.{decimal}
use Rattle.lin_spec.specs.Pbn.{label_of, text_by, filled_by}
use Rattle.lin_spec.specs.declared.PbnBoard.{PbnBoard}
use Rattle.pbn_texts.specs.declared.sources.Label.{Label}
use Rattle.pbn_texts.specs.declared.sources.Label.TheVariants.{Id, Number}
use Rattle.pbn_texts.specs.declared.sources.Sources.{Sources}

-- the text of a label
abbrev pub label_by : (s : List ℕ) → Option Label → Option (List ℕ)
label_by s None = None
label_by s (Some (Id x)) = Some (bytes_at s x)
label_by s (Some (Number n)) = Some (decimal n)

-- whether there is one
abbrev pub labelled : Option Label → Bool
labelled l = is_some l

-- x has the event and the date of the record where they are not empty, and its label
pub record SourcesOf (s : List ℕ) (b : PbnBoard) (x : Sources) : Type 0 where
  pub event-is : text_by s x.event ≡ filled_by s b.event
  pub date_is : text_by s x.date ≡ filled_by s b.date
  pub label_is : label_by s x.label ≡ label_of (filled_by s b.id) b.number
