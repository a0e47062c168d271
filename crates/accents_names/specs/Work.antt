-- What is asked of who lends work space for the characters of names, and what stands in it. (02: N3, "Work space is lent")
use Rattle.std.specs.Prelude.{ℕ, ◌+◌, ◌<◌, ◌≤◌, ◌≡◌, true, false, List, length, take}
use Rattle.lin_spec.specs.Utf8.{utf8}
use Rattle.output.specs.Put.{Room}
use Rattle.accents.specs.Table.{mapping_table}
use Rattle.accents.specs.Mapping.{mapped}
use Rattle.accents.specs.Lines.{table_words, full}
use Rattle.accents.specs.Chars.{chars}
use Rattle.accents.specs.Names.{places, only_ascii}
use Rattle.accents.specs.declared.full.Full.{Full}
use Rattle.accents_names.specs.declared.names.Sought.{Sought}

-- the characters of f fit into o from the place `at` on, and there is one at least and three at most
pub record FullFits (o : List ℕ) (at : ℕ) (f : Full) : Type 0 where
  pub room : Room o at (full f)
  pub some : 0 < f.count
  pub few : f.count ≤ 3

-- the mapped characters of s fit into o from the place `at` on
pub record Fillable (w : List ℕ) (s : List ℕ) (o : List ℕ) (at : ℕ) : Type 0 where
  pub copied : w ≡ table_words mapping_table
  pub short : length s < 4294967296
  pub room : Room o at (mapped (chars s))

-- s says what is to be known of the name
pub record Known (name : List ℕ) (s : Sought) : Type 0 where
  pub places : s.places ≡ places name
  pub ascii : s.ascii ≡ only_ascii name

-- and if it is not of ASCII its mapped characters stand at the front of the work space
pub record Laid (name : List ℕ) (s : Sought) (o : List ℕ) : Type 0 where
  pub known : Known name s
  pub front : s.ascii ≡ false → take s.places o ≡ mapped (chars name)

-- the name x can be compared with it: both are UTF-8, and the mapped characters of both fit
pub record Comparable (w x name : List ℕ) (s : Sought) (o : List ℕ) : Type 0 where
  pub copied : w ≡ table_words mapping_table
  pub short : length x < 4294967296
  pub first : utf8 x ≡ true
  pub second : utf8 name ≡ true
  pub laid : Laid name s o
  pub room : places name + places x ≤ length o
