-- Reading a written md value gives dealer and settled deal. (01: Writer and settled form; Board, md)
-- Assumes nothing.
use Rattle.std.specs.Prelude.{Some}
use Prim.Native.Nat.{ℕ, ◌*◌, ◌≤◌}
use native.Mathlib.Omega.{arith}
use mathlib.Core.Path.{◌≡◌, refl, ap, ◌∙◌}
use mathlib.Core.Bool.{Bool, true, false, ◌&&◌, and-false}
use mathlib.Core.List.{List, [], ◌∷◌, ◌++◌, append-nil}
use lib.ListN.{length, length-take, length-drop}
use lib.Dec.{eqb}
use borrow.Author.Tests.{ne_eqb, eqb-false}
use Rattle.lin_spec.specs.Base.{pick, All, ascii}
use Rattle.lin_spec.specs.Records.{part}
use Rattle.lin_spec.specs.White.{blank, trim, trim_start, skip_white}
use Rattle.lin_spec.specs.Tokens.{cut, count}
use Rattle.lin_spec.specs.Cards.{sum, read_hand, field, thirteens, east_of, deal_of}
use Rattle.lin_spec.specs.Letters.{hand_at}
use Rattle.lin_spec.specs.Board.{Dealt, dealer_of, read_md}
use Rattle.lin_spec.specs.Writer.{hand_text, suit_text, implied_east, dealer_digit, md_text, settled_deal}
use Rattle.lin_spec.specs.declared.Seat.{Seat}
use Rattle.lin_spec.specs.declared.Seat.TheVariants.{South, West, North, East}
use Rattle.lin_spec.proofs.Base.{picked, or_none, and_left, all_append}
use Rattle.lin_spec.proofs.Tokens.{cut-piece, cut-none}
use Rattle.lin_spec.proofs.White.{Visible, blank_visible, trim_visible}
use Rattle.lin_spec.proofs.Rules.{md-whole}
use Rattle.lin_spec.proofs.Hands.{Letter, letters_hand, letters_lack, read-hand, quarters}

seat_length : (d : List ℕ) → length d ≡ 208 → (k : ℕ) → k ≤ 3 → length (part d (k * 52) 52) ≡ 52
unfolding part
seat_length d l k h = simp (length-take, length-drop) (omega arith)

commaless : (h : List ℕ) → count 0x2C (hand_text h) ≡ 0
commaless h = letters_lack 0x2C (λ k. omega arith) (hand_text h) (letters_hand h)

-- a hand with a card is not blank
blank-hand : (h : List ℕ) → (sum h ≡ 0 → ⊥) → blank (hand_text h) ≡ false
unfolding hand_text suit_text
blank-hand h n = simp (ne_eqb (sum h) 0 n) (blank_visible 0x53 _ (omega arith))

-- the reader's test of East fails where East is written
not-implied : (d : List ℕ) → implied_east d ≡ false → (blank (hand_text (hand_at d East)) && thirteens (hand_at d South) (hand_at d West) (hand_at d North)) ≡ false
unfolding implied_east
not-implied d h = go (thirteens (hand_at d South) (hand_at d West) (hand_at d North)) refl
  where
    go : (t : Bool) → thirteens (hand_at d South) (hand_at d West) (hand_at d North) ≡ t → (blank (hand_text (hand_at d East)) && thirteens (hand_at d South) (hand_at d West) (hand_at d North)) ≡ false
    go false e = ap (λ (x : Bool). blank (hand_text (hand_at d East)) && x) e ∙ and-false (blank (hand_text (hand_at d East)))
    go true e =
        let k = or_none (eqb (sum (hand_at d East)) 0) _ (rw e at h) in
        ap (λ (x : Bool). x && thirteens (hand_at d South) (hand_at d West) (hand_at d North)) (blank-hand (hand_at d East) (eqb-false (sum (hand_at d East)) 0 k.0))

-- what follows the dealer's digit
abbrev rest : List ℕ → List ℕ
rest d = hand_text (hand_at d South) ++ (ascii "," ++ (hand_text (hand_at d West) ++ (ascii "," ++ (hand_text (hand_at d North) ++ pick (implied_east d) [] (ascii "," ++ hand_text (hand_at d East))))))

pub deal-read : (d : List ℕ) → length d ≡ 208 → deal_of (cut 0x2C (rest d)) ≡ settled_deal d
unfolding deal_of east_of field settled_deal blank trim_start skip_white
deal-read d l = go (implied_east d) refl
  where
    s : read_hand (hand_text (hand_at d South)) ≡ hand_at d South
    s = read-hand (hand_at d South) (seat_length d l 0 (omega arith))

    w : read_hand (hand_text (hand_at d West)) ≡ hand_at d West
    w = read-hand (hand_at d West) (seat_length d l 1 (omega arith))

    n : read_hand (hand_text (hand_at d North)) ≡ hand_at d North
    n = read-hand (hand_at d North) (seat_length d l 2 (omega arith))

    e : read_hand (hand_text (hand_at d East)) ≡ hand_at d East
    e = read-hand (hand_at d East) (seat_length d l 3 (omega arith))

    go : (t : Bool) → implied_east d ≡ t → deal_of (cut 0x2C (rest d)) ≡ settled_deal d
    go true h =
        let a = hand_text (hand_at d South) in
        let b = hand_text (hand_at d West) in
        let c = hand_text (hand_at d North) in
        let t : thirteens (hand_at d South) (hand_at d West) (hand_at d North) ≡ true = unfold implied_east in and_left (thirteens (hand_at d South) (hand_at d West) (hand_at d North)) _ h in
        simp
        (h, append-nil, cut-piece 0x2C a (b ++ 0x2C ∷ c) (commaless (hand_at d South)), cut-piece 0x2C b c (commaless (hand_at d West)), cut-none 0x2C c (commaless (hand_at d North)), s, w, n, t)
    go false h =
        let a = hand_text (hand_at d South) in
        let b = hand_text (hand_at d West) in
        let c = hand_text (hand_at d North) in
        let x = hand_text (hand_at d East) in
        simp
        (h, cut-piece 0x2C a (b ++ 0x2C ∷ (c ++ 0x2C ∷ x)) (commaless (hand_at d South)), cut-piece 0x2C b (c ++ 0x2C ∷ x) (commaless (hand_at d West)), cut-piece 0x2C c x (commaless (hand_at d North)), cut-none 0x2C x (commaless (hand_at d East)), s, w, n, e, not-implied d h)
        (unfold part in quarters 52 d l)

-- The whole value, trimmed

letters_visible : (s : List ℕ) → All Letter s → All Visible s
letters_visible [] h = tt
letters_visible (b ∷ s) h = ((omega (arith, h.0.0), omega (arith, h.0.1)), letters_visible s h.1)

hand_visible : (h : List ℕ) → All Visible (hand_text h)
hand_visible h = letters_visible (hand_text h) (letters_hand h)

digit_visible : (x : Seat) → Visible (dealer_digit x)
digit_visible South = (omega arith, omega arith)
digit_visible West = (omega arith, omega arith)
digit_visible North = (omega arith, omega arith)
digit_visible East = (omega arith, omega arith)

pub md_visible : (x : Dealt) → All Visible (md_text x)
unfolding md_text
md_visible x =
    let d = x.deal in
    let c : Visible 0x2C = (omega arith, omega arith) in (
      digit_visible x.dealer,
      all_append Visible (hand_text (hand_at d South)) _ (hand_visible (hand_at d South)) (
        c,
        all_append Visible (hand_text (hand_at d West)) _ (hand_visible (hand_at d West)) (
          c,
          all_append Visible (hand_text (hand_at d North)) _ (hand_visible (hand_at d North))
              (picked (All Visible) (implied_east d) (λ _. tt) (λ _. (c, hand_visible (hand_at d East)))),
        ),
      ),
    )

dealer-digit : (x : Seat) → dealer_of (dealer_digit x) ≡ Some x
unfolding dealer_of
dealer-digit South = refl
dealer-digit West = refl
dealer-digit North = refl
dealer-digit East = refl

-- dealer and settled deal, whatever was before
pub md-read : (x d : Dealt) → length x.deal ≡ 208 → read_md (trim (md_text x)) d ≡ record { dealer = x.dealer; deal = settled_deal x.deal }
md-read x d l =
    ap (λ (s : List ℕ). read_md s d) (trim_visible (md_text x) (md_visible x))
    ∙ (unfold md_text in md-whole (dealer_digit x.dealer) (rest x.deal) d x.dealer (dealer-digit x.dealer) ∙ ap (λ (y : List ℕ). record { dealer = x.dealer; deal = y }) (deal-read x.deal l))
