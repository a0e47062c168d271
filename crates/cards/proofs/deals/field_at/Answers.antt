-- `cards::deals::field_at` meets its contract. (01: Board, md)
use Rattle.cards.proofs.DealLaws.{find-from, field_found}
use Rattle.cards.proofs.deals.field_at.Goals as goal

pub overflow_sub-find_byte : goal.overflow_sub-find_byte
overflow_sub-find_byte c = find-from _ _ _ c.find_byte.ensures c.requires

pub returns : goal.returns
returns c = field_found _ _ _ c.find_byte.ensures _ c.part.ensures
