-- `board_equality::each_same` meets its contract: there are as many rows, and each two give the same call.
use Rattle.std.proofs.Common.{rules, sym, ◌∙◌}
use Rattle.std.proofs.lemmas.Iterator.{YieldsList-from_slice, YieldsList-from_zip}
use Rattle.std.proofs.lemmas.Iterator.Consumers.{YieldsList-at}
use Rattle.std.proofs.lemmas.Iterator.Search.{all_from_yields_List}
use Rattle.lin_spec.specs.Equality.{eq_call}
use Rattle.board_lent.specs.Calls.{call_of}
use Rattle.board_equality.specs.Parts.{call_in_bytes}
use Rattle.board_equality.proofs.EqualityLaws.{rows_differ, rows-pairs}
use Rattle.board_equality.proofs.texts.each_same.Goals as goal

pub returns-then-rows-rows2 : goal.returns-then-rows-rows2
returns-then-rows-rows2 c = rows_differ _ _ _ _ (λ e. c.if-rows-rows2.true (c.as_chunks.ensures.front_len ∙ e ∙ sym c.as_chunks-2.ensures.front_len))

pub returns : goal.returns
returns c = let a = c.args in
    all_from_yields_List (λ p. eq_call (call_in_bytes a.text.now (call_of p.0)) (call_in_bytes a.text2.now (call_of p.1))) c.all.new.self _ _ c.all.ensures.ran (YieldsList-from_zip (YieldsList-at c.zip.ensures.first (YieldsList-from_slice _ c.iter.ensures.rest)) (YieldsList-at c.zip.ensures.second (YieldsList-from_slice _ c.iter-2.ensures.rest))) (λ x b q k. search rules)
    ∙ rows-pairs a.text.now a.rows.now a.text2.now a.rows2.now _ _ c.as_chunks.ensures.front c.as_chunks-2.ensures.front c.if-rows-rows2.false
