-- The sizes of a deal in which no card is held. (01: Writer, md)
-- Assumes nothing.
use Prim.Native.Nat.{ℕ, zero, suc, ◌*◌}
use native.Mathlib.Omega.{arith}
use mathlib.Core.Path.{◌≡◌, refl, sym, ◌∙◌}
use mathlib.Core.Bool.{Bool, true, false, not, false≢true}
use mathlib.Core.List.{List, [], ◌∷◌}
use lib.ListN.{take, drop}
use lib.Dec.{eqb}
use borrow.Author.Tests.{eqb-true}
use Rattle.lin_spec.specs.Base.{any}
use Rattle.lin_spec.specs.Records.{part}
use Rattle.lin_spec.specs.Cards.{sum}
use Rattle.lin_spec.specs.Letters.{seat_number, hand_at, hand_length}
use Rattle.lin_spec.specs.Writer.{hand_text, md_text}
use Rattle.lin_spec.specs.declared.Seat.{Seat}
use Rattle.lin_spec.specs.declared.Seat.TheVariants.{South, West, North, East}
use Rattle.lin_spec.proofs.Base.{or_none}
use Rattle.writer_cards.specs.declared.sizes.Sizes.{Sizes}
use Rattle.writer_cards.specs.Hands.{bare_text}
use Rattle.writer_cards.specs.Sizes.{counted, Sized, Small}
use Rattle.writer_cards.proofs.EastLaws.{three_sums, implied-few}
use Rattle.writer_cards.proofs.DealLaws.{east_in, md-is}
use Rattle.writer_cards.proofs.HandLaws.{hand-none}

-- where no number of a list passes a test, none of a part of it does
module _ (f : ℕ → Bool) where
  none-drop : (x : List ℕ) (a : ℕ) → any f x ≡ false → any f (drop a x) ≡ false
  unfolding any
  none-drop x zero h = h
  none-drop [] (suc a) h = refl
  none-drop (n ∷ x) (suc a) h = none-drop x a (or_none (f n) (any f x) h).1

  none-take : (x : List ℕ) (n : ℕ) → any f x ≡ false → any f (take n x) ≡ false
  unfolding any
  none-take x zero h = refl
  none-take [] (suc n) h = refl
  none-take (m ∷ x) (suc n) h = let k = or_none (f m) (any f x) h in simp (k.0, none-take x n k.1)

not-counted : (n : ℕ) → counted n ≡ false → n ≡ 0
not-counted n h = go (eqb n 0) refl h
  where
    go : (t : Bool) → eqb n 0 ≡ t → not t ≡ false → n ≡ 0
    go true e k = eqb-true n 0 e
    go false e k = absurd (false≢true (sym k))

none-sum : (x : List ℕ) → any counted x ≡ false → sum x ≡ 0
unfolding any sum
none-sum [] h = refl
none-sum (n ∷ x) h = let k = or_none (counted n) (any counted x) h in let a = not-counted n k.0 in let b = none-sum x k.1 in omega arith

pub has-held : (d : List ℕ) (t : Bool) → t ≡ any counted d → not t ≡ false → true ≡ any counted d
has-held d true e h = e
has-held d false e h = absurd (false≢true (sym h))

module _ (d : List ℕ) (t : Bool) (e : t ≡ any counted d) (h : not t ≡ true) where
  no_card : any counted d ≡ false
  no_card = sym e ∙ go t h
    where
      go : (u : Bool) → not u ≡ true → u ≡ false
      go true k = absurd (false≢true k)
      go false k = refl

  pub none-held : (x : Seat) → 0 ≡ hand_length d x
  unfolding part
  none-held x = sym (none-sum _ (none-take counted _ 52 (none-drop counted d (seat_number x * 52) no_card)))

  -- no hand has a card, and East is not implied
  pub sized_none : Sized d (record { held = false; south = 0; west = 0; north = 0; east = 0; implied = false })
  sized_none =
      record {
        held = sym no_card;
        south = none-held South;
        west = none-held West;
        north = none-held North;
        east = none-held East;
        implied = implied-few d false (three_sums d 0 0 0 (none-held South) (none-held West) (none-held North)) refl;
      }

pub small-none : Small (record { held = false; south = 0; west = 0; north = 0; east = 0; implied = false })
small-none = record { south = omega arith; west = omega arith; north = omega arith; east = omega arith }

-- the value of md then has commas alone after its digit
pub md-bare : (x : Seat) (d : List ℕ) (z : Sizes) → Sized d z → not z.held ≡ true → md_text (record { dealer = x; deal = d }) ≡ bare_text x
md-bare x d z s h =
    let e = sized_none d z.held s.held h in
    let empty : (y : Seat) → hand_text (hand_at d y) ≡ [] = λ y. hand-none (hand_at d y) 0 (none-held d z.held s.held h y) refl in
    md-is x d ∙ simp (empty South, empty West, empty North, east_in d false e.implied refl, empty East)
