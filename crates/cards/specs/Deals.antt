-- The fields of md after the first, and a hand in its place. (01: Records; Board, md)
use Rattle.std.specs.Prelude.{ℕ, ◌+◌, ◌*◌, ◌≤◌, ◌≡◌, List, [], ◌++◌, length, take, drop}
use Rattle.lin_spec.specs.Records.{part}
use Rattle.lin_spec.specs.Cards.{field, read_hand}
use Rattle.lin_spec.specs.Tokens.{Pieces, cut}
use Rattle.lin_spec.specs.Tokens.Pieces.{end, piece}

-- the fields after the first; where there are none, one that is empty
abbrev pub others : Pieces → Pieces
others (end x) = end []
others (piece x r) = r

-- the field that begins at a place of md's value
abbrev pub field_at : (s : List ℕ) (at : ℕ) → List ℕ
field_at s at = field 0 (cut 0x2C (drop at s))

-- the counts of a deal with those of a hand at its seat's place: "seat times 52 plus card"
unfoldable pub with_hand : (deal : List ℕ) (seat : ℕ) (hand : List ℕ) → List ℕ
with_hand d k h = take (k * 52) d ++ (h ++ drop (k * 52 + 52) d)

-- the counts of a seat's hand
abbrev pub hand_of : (deal : List ℕ) (seat : ℕ) → List ℕ
hand_of d k = part d (k * 52) 52

-- the cards of the field at `at` are counted at a seat's place of the deal d, and the fields after it begin at r
pub record FieldCounted (s : List ℕ) (at : ℕ) (d : List ℕ) (seat : ℕ) (counts : List ℕ) (r : ℕ) : Type 0 where
  pub hand : counts ≡ with_hand d seat (read_hand (field_at s at))
  pub rest : cut 0x2C (drop r s) ≡ others (cut 0x2C (drop at s))
  pub within : r ≤ length s
