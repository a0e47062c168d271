-- `pbn_words::part_len` meets its contract: each part by its first byte.
use native.Mathlib.Omega.{arith}
use Rattle.pbn_words.proofs.PartLaws.{part_equals, part_dollar, part-mark, part_char}
use Rattle.pbn_words.proofs.parts.part_len.Goals as goal

pub returns-then-b-eq61 : goal.returns-then-b-eq61
returns-then-b-eq61 c = part_equals _ c.if-s-eq0.false c.if-b-eq61.true _ c.equals_len.ensures

pub returns-then-b-eq36 : goal.returns-then-b-eq36
returns-then-b-eq36 c = part_dollar _ c.if-s-eq0.false c.if-b-eq36.true _ c.digits_len.ensures

pub returns-then-is_mark : goal.returns-then-is_mark
returns-then-is_mark c = part-mark c.args.s.now (c.if-s-eq0.false, c.if-b-eq61.false, c.if-b-eq36.false) _ c.is_mark.ensures c.if-is_mark.true _ c.marks_len.ensures

pub returns-then-n-s : goal.returns-then-n-s
returns-then-n-s c = let k = part_char c.args.s.now (c.if-s-eq0.false, c.if-b-eq61.false, c.if-b-eq36.false) _ c.is_mark.ensures c.if-is_mark.false _ c.char_bytes-n.ensures in omega arith

pub returns : goal.returns
returns c = let k = part_char c.args.s.now (c.if-s-eq0.false, c.if-b-eq61.false, c.if-b-eq36.false) _ c.is_mark.ensures c.if-is_mark.false _ c.char_bytes-n.ensures in omega arith
