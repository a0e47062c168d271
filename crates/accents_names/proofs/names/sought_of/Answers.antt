-- `accents_names::sought_of` meets its contract: the characters are counted, and each byte is tested.
use Rattle.std.proofs.Common.{rules, ◌∙◌}
use Rattle.std.proofs.lemmas.Iterator.{YieldsList-from_slice}
use Rattle.std.proofs.lemmas.Iterator.Search.{all_from_yields_List}
use lib.Dec.{ltb}
use Rattle.accents_names.proofs.NameLaws.{ascii-is}
use Rattle.accents_names.proofs.names.sought_of.Goals as goal

pub returns : goal.returns
returns c = record {
  places = c.mapped_len-places.ensures;
  ascii = all_from_yields_List (λ b. ltb b 0x80) c.all-ascii.new.self _ _ c.all-ascii.ensures.ran (YieldsList-from_slice _ c.iter.ensures.rest) (λ x b q k. search rules) ∙ ascii-is c.args.name.now;
}
