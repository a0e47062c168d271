-- `board_equality::same_names` meets its contract: each two names are the same.
use Rattle.std.proofs.Common.{rules, ◌∙◌}
use Rattle.std.proofs.lemmas.Iterator.{YieldsList-from_slice, YieldsList-from_zip}
use Rattle.std.proofs.lemmas.Iterator.Consumers.{YieldsList-at}
use Rattle.std.proofs.lemmas.Iterator.Search.{all_from_yields_List}
use Rattle.lin_spec.specs.Base.{eq_list}
use Rattle.lin_spec.specs.Records.{bytes_at}
use Rattle.board_equality.proofs.EqualityLaws.{each-pair}
use Rattle.board_equality.proofs.texts.same_names.Goals as goal

pub returns : goal.returns
returns c = let a = c.args in
    all_from_yields_List (λ p. eq_list (bytes_at a.text.now p.0) (bytes_at a.text2.now p.1)) c.all.new.self _ _ c.all.ensures.ran (YieldsList-from_zip (YieldsList-at c.zip.ensures.first (YieldsList-from_slice _ c.iter.ensures.rest)) (YieldsList-at c.zip.ensures.second (YieldsList-from_slice _ c.iter-2.ensures.rest))) (λ x b q k. search rules)
    ∙ each-pair eq_list (bytes_at a.text.now) (bytes_at a.text2.now) a.names a.names2 (search rules)
