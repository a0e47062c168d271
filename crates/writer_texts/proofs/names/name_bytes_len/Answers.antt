-- `writer_texts::name_bytes_len` meets its contract: the bytes that are kept are counted.
use Rattle.std.proofs.Common.{rules, not, eqb, ◌∙◌}
use Rattle.std.proofs.lemmas.Iterator.{YieldsList-from_slice}
use Rattle.std.proofs.lemmas.Iterator.Consumers.{YieldsList-at, YieldsList-from_filter, count_from_yields_List}
use Rattle.writer_texts.specs.Texts.{clean_byte}
use Rattle.writer_texts.proofs.TextLaws.{name_many}
use Rattle.writer_texts.proofs.names.name_bytes_len.Goals as goal

pub returns : goal.returns
returns c = let a = c.args in
    count_from_yields_List _ _ c.count.ensures.ran (YieldsList-from_filter _ (λ b. not (eqb (clean_byte a.marks.pipe a.marks.line b) 0x2C)) (YieldsList-at c.filter.ensures.source (YieldsList-from_slice a.s.now c.iter.ensures.rest)) c.filter.ensures.closure (λ x b q k. search rules))
    ∙ name_many a.marks.pipe a.marks.line a.s.now
