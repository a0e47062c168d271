-- `accents::lookup::mapping_of` meets its contract: by the line that the search finds.
use mathlib.Core.Path.{sym, ◌∙◌}
use Rattle.accents.proofs.LineLaws.{outside_lines, past-lines, other-there, one-there, two-there}
use Rattle.accents.proofs.lookup.mapping_of.Goals as goal

pub returns-then-not-near_lines : goal.returns-then-not-near_lines
returns-then-not-near_lines c = outside_lines _ (sym c.near_lines.ensures ∙ c.if-not-near_lines.true)

pub returns-then-i-ge501 : goal.returns-then-i-ge501
returns-then-i-ge501 c = past-lines _ _ c.line_of-i.ensures c.if-i-ge501.true

pub returns-then-char_of-c : goal.returns-then-char_of-c
returns-then-char_of-c c = other-there _ c.requires _ _ _ c.char_of.ensures c.if-i-ge501.false c.line_of-i.ensures c.if-char_of-c.true

pub returns-then-b-eq0 : goal.returns-then-b-eq0
returns-then-b-eq0 c = one-there _ c.requires _ _ _ c.char_of.ensures c.if-i-ge501.false c.line_of-i.ensures c.if-char_of-c.false _ _ c.first_of-a.ensures c.second_of-b.ensures c.if-b-eq0.true

pub returns : goal.returns
returns c = two-there _ c.requires _ _ _ c.char_of.ensures c.if-i-ge501.false c.line_of-i.ensures c.if-char_of-c.false _ _ c.first_of-a.ensures c.second_of-b.ensures c.if-b-eq0.false
