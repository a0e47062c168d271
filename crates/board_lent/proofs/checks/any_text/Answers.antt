-- `board_lent::any_text` meets its contract: the names, and the three texts that may be absent.
use Rattle.std.proofs.Common.{rules, ◌∙◌}
use Rattle.std.proofs.lemmas.Iterator.{YieldsList-from_slice}
use Rattle.std.proofs.lemmas.Iterator.Search.{any_from_yields_List}
use Rattle.board_lent.proofs.LentLaws.{any_is, head_four}
use Rattle.board_lent.proofs.checks.any_text.Goals as goal

pub returns : goal.returns
returns g c = λ p h.
    let names = any_from_yields_List p _ _ c.any.result c.any.ensures.ran (YieldsList-from_slice c.args.head.names cc) (λ x b q k. search (rules, h)) in
    head_four p c.args.head _ _ _ _ (names ∙ any_is _ _) (c.any_present.ensures p (λ y r k. h y r k.1)) (c.any_present-2.ensures p (λ y r k. h y r k.1)) (c.any_present-3.ensures p (λ y r k. h y r k.1))
