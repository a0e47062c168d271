-- `cards::deals::count_east` meets its contract, in either case of its test. (01: Board, md)
use mathlib.Core.Path.{refl, ap, ◌∙◌}
use Rattle.lin_spec.specs.White.{blank}
use Rattle.cards.specs.Deals.{with_hand}
use Rattle.cards.proofs.DealLaws.{east-rest, east-read}
use Rattle.cards.proofs.deals.count_east.Goals as goal

pub returns-then-is_blank-all_thirteen : goal.returns-then-is_blank-all_thirteen
returns-then-is_blank-all_thirteen c = c.count_rest.ensures ∙ ap (with_hand _ 3) (east-rest _ _ _ _ _ _ (c.is_blank.ensures ∙ ap blank c.field_at-east.ensures) c.all_thirteen.ensures _ c.if-is_blank-all_thirteen.true refl)

pub returns : goal.returns
returns c = c.count_field.ensures.hand ∙ ap (with_hand _ 3) (east-read _ _ _ _ _ _ (c.is_blank.ensures ∙ ap blank c.field_at-east.ensures) c.all_thirteen.ensures _ c.if-is_blank-all_thirteen.false refl)
