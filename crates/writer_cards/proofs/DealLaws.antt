-- A written deal as the pieces that are put, and its length. (01: Writer, md)
-- Assumes nothing.
use Prim.Native.Nat.{ℕ, ◌+◌}
use native.Mathlib.Omega.{arith}
use mathlib.Core.Path.{◌≡◌, ap, ◌∙◌, sym}
use mathlib.Core.Bool.{Bool, true, false}
use mathlib.Core.List.{List, [], ◌++◌, append-nil}
use lib.ListN.{length, length-append}
use Rattle.lin_spec.specs.Base.{ascii}
use Rattle.lin_spec.specs.Letters.{hand_at}
use Rattle.lin_spec.specs.Writer.{hand_text, implied_east, md_text}
use Rattle.lin_spec.specs.declared.Seat.{Seat}
use Rattle.lin_spec.specs.declared.Seat.TheVariants.{South, West, North, East}
use Rattle.output.specs.Put.{joined}
use Rattle.writer_cards.specs.Hands.{east_text, md_pieces}

-- East's field, by the test of the code
module _ (d : List ℕ) (t : Bool) (et : t ≡ implied_east d) where
  pub east_out : t ≡ true → east_text d ≡ []
  unfolding east_text
  east_out h = let k = sym et ∙ h in simp k

  pub east_in : t ≡ false → east_text d ≡ ascii "," ++ hand_text (hand_at d East)
  unfolding east_text
  east_in h = let k = sym et ∙ h in simp k

module _ (x : Seat) (d : List ℕ) where
  pub md-is : md_text (record { dealer = x; deal = d }) ≡ joined (md_pieces x d)
  unfolding md_text east_text
  md-is = simp append-nil

  -- a digit, two commas, and the hands
  pub md-long : length (md_text (record { dealer = x; deal = d }))
      ≡ length (hand_text (hand_at d South)) + length (hand_text (hand_at d West)) + length (hand_text (hand_at d North)) + length (east_text d) + 3
  md-long = ap length md-is ∙ simp length-append (omega arith)
