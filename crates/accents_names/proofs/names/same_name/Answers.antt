-- `accents_names::names::same_name` meets its contract: by the bytes, the number of mapped characters, or the two parts of the work space.
use mathlib.Core.Path.{refl}
use Rattle.accents_names.proofs.NameLaws.{bytes_same, ascii-other, few-other, name_fits, parts_within, name_long, laid_still, compared}
use Rattle.accents_names.proofs.names.same_name.Goals as goal

pub returns-then-same_bytes : goal.returns-then-same_bytes
returns-then-same_bytes c = (bytes_same _ _ _ _ _ c.requires _ c.same_bytes.ensures c.if-same_bytes.true, c.requires.laid, refl)

pub returns-then-sought : goal.returns-then-sought
returns-then-sought c = (ascii-other _ _ _ _ _ c.requires _ c.same_bytes.ensures c.if-same_bytes.false c.if-sought.true, c.requires.laid, refl)

pub returns-then-mapped_len-n : goal.returns-then-mapped_len-n
returns-then-mapped_len-n c = (few-other _ _ _ _ _ c.requires _ c.mapped_len.ensures c.if-mapped_len-n.true, c.requires.laid, refl)

pub put_mapped-m-requires : goal.put_mapped-m-requires
put_mapped-m-requires c = name_fits _ _ _ _ _ c.requires

pub same_parts-requires : goal.same_parts-requires
same_parts-requires c = parts_within _ _ _ _ _ c.requires _ _ c.put_mapped-m.ensures

pub returns : goal.returns
returns c = let p = c.put_mapped-m.ensures in (compared _ _ _ _ _ c.requires _ _ p c.if-sought.false c.same_parts.ensures, laid_still _ _ _ _ _ c.requires _ _ p, name_long _ _ _ _ _ c.requires _ _ p)
