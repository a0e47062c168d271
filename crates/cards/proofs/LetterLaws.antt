-- Letters as the code looks them up, in a table; and a card by its two letters. (01: Records)
-- Assumes nothing.
use Rattle.std.specs.Prelude.{Option, None, Some}
use Prim.Native.Nat.{ℕ, ◌+◌, ◌-◌, ◌*◌, ◌≤◌, ◌<◌}
use native.Mathlib.Omega.{arith}
use mathlib.Core.Path.{◌≡◌, refl, ap, sym, ◌∙◌}
use mathlib.Core.Bool.{Bool, true, false, ◌&&◌, ◌||◌, false≢true}
use mathlib.Core.List.{List, [], ◌∷◌}
use lib.ListN.{length, get_or}
use lib.Dec.{eqb, leb, ltb}
use borrow.Author.Tests.{eqb-true, leb-true, lt-ltb, le-ltb}
use Rattle.lin_spec.specs.Base.{pick}
use Rattle.lin_spec.specs.White.{lower}
use Rattle.lin_spec.specs.Cards.{index_of, suit_of, rank_of, card_of, read_card}
use Rattle.lin_spec.proofs.Base.{and_left, and_right, all_below, below}
use Rattle.lin_spec.proofs.White.{Visible, trim_visible}
use Rattle.cards.specs.Letters.{table, suit_in, rank_in, CardIs}

-- The number of a letter

abbrev same : Option ℕ → Option ℕ → Bool
same None None = true
same None (Some n) = false
same (Some m) None = false
same (Some m) (Some n) = eqb m n

same-is : (o p : Option ℕ) → same o p ≡ true → o ≡ p
same-is None None h = refl
same-is None (Some n) h = absurd (false≢true h)
same-is (Some m) None h = absurd (false≢true h)
same-is (Some m) (Some n) h = ap Some (eqb-true m n h)

-- a rule of numbers, by a test at each byte below n
by_test : (number : ℕ → ℕ) (n : ℕ) → all_below (λ (c : ℕ). same (suit_of c) (suit_in (number c)) && same (rank_of c) (rank_in (number c))) n ≡ true
    → (b : ℕ) → b < n → (suit_of b ≡ suit_in (number b)) × (rank_of b ≡ rank_in (number b))
by_test number n t b h =
    let k = below (λ (c : ℕ). same (suit_of c) (suit_in (number c)) && same (rank_of c) (rank_in (number c))) n t b h in
    (same-is _ _ (and_left (same (suit_of b) (suit_in (number b))) _ k), same-is _ _ (and_right (same (suit_of b) (suit_in (number b))) _ k))

abbrev number_of : ℕ → ℕ
number_of b = pick (ltb 0x7F b) 17 (get_or table b 0 - 65)

number_is : (b : ℕ) → b < 0x100 → (suit_of b ≡ suit_in (number_of b)) × (rank_of b ≡ rank_in (number_of b))
unfolding all_below suit_of rank_of index_of lower table
number_is b h = by_test number_of 0x100 refl b h

pub letter_far : (b : ℕ) → b < 0x100 → 0x7F < b → (suit_of b ≡ suit_in 17) × (rank_of b ≡ rank_in 17)
letter_far b h l = let z = number_is b h in rw (lt-ltb 0x7F b l) at z

-- by a copy of the table
module _ (t : List ℕ) (e : t ≡ table) (b : ℕ) (l : b ≤ 0x7F) where
  pub letter_in : (suit_of b ≡ suit_in (get_or t b 0 - 65)) × (rank_of b ≡ rank_in (get_or t b 0 - 65))
  letter_in = let z = number_is b (omega arith) in rw e (rw (le-ltb 0x7F b l) at z)

  -- none of its letters is below A
  pub letter_least : 65 ≤ get_or t b 0
  unfolding all_below table
  letter_least = rw e (leb-true _ _ (below (λ (c : ℕ). leb 65 (get_or table c 0)) 0x80 refl b (omega arith)))

abbrev is_none : Option ℕ → Bool
is_none None = true
is_none (Some n) = false

-- What a lookup's answer says

-- nothing was found
pub none-by : (o : Option ℕ) (f : Option ℕ) → f ≡ o → f ≡ None → o ≡ None
none-by o f e h = sym e ∙ h

-- a number was found
pub some-by : (o : Option ℕ) (f : Option ℕ) (k : ℕ) → f ≡ o → f ≡ Some k → o ≡ Some k
some-by o f k e h = sym e ∙ h

-- The text of one card

-- a text of another length than 2 is no card
pub not-two : (s : List ℕ) → (length s ≡ 2 → ⊥) → None ≡ read_card s
unfolding read_card
not-two [] h = refl
not-two (a ∷ []) h = refl
not-two (a ∷ b ∷ []) h = absurd (h refl)
not-two (a ∷ b ∷ c ∷ s) h = refl

two : (s : List ℕ) → length s ≡ 2 → read_card s ≡ card_of (suit_of (get_or s 0 0)) (rank_of (get_or s 1 0))
unfolding read_card
two [] h = absurd (omega arith)
two (a ∷ []) h = absurd (omega arith)
two (a ∷ b ∷ []) h = refl
two (a ∷ b ∷ c ∷ s) h = absurd (omega arith)

module _ (s : List ℕ) (h : length s ≡ 2) where
  -- of two bytes the first is no suit letter
  pub card_no_suit : suit_of (get_or s 0 0) ≡ None → None ≡ read_card s
  card_no_suit e = sym (two s h ∙ rw e)

  module _ (u : ℕ) (eu : suit_of (get_or s 0 0) ≡ Some u) where
    -- the second is no rank letter
    pub card_no_rank : rank_of (get_or s 1 0) ≡ None → None ≡ read_card s
    card_no_rank e = sym (two s h ∙ rw (eu, e))

    -- a suit and a rank
    pub card-is : (r : ℕ) → rank_of (get_or s 1 0) ≡ Some r → Some (u * 13 + r) ≡ read_card s
    card-is r e = sym (two s h ∙ rw (eu, e))

-- A card by its two bytes

card-text : (a b u r : ℕ) → suit_of a ≡ Some u → rank_of b ≡ Some r → read_card (a ∷ b ∷ []) ≡ Some (u * 13 + r)
unfolding read_card
card-text a b u r e f = rw (e, f)

some-not : (o : Option ℕ) (n : ℕ) → o ≡ Some n → is_none o ≡ false
some-not o n e = rw e

-- what has a suit, or a rank, is visible, by a test of each byte
seen : (f : ℕ → Option ℕ) → all_below (λ (b : ℕ). is_none (f b) || (leb 33 b && leb b 122)) 0x100 ≡ true → (b n : ℕ) → b < 0x100 → f b ≡ Some n → Visible b
seen f h b n l e =
    let t : (is_none (f b) || (leb 33 b && leb b 122)) ≡ true = below (λ (c : ℕ). is_none (f c) || (leb 33 c && leb c 122)) 0x100 h b l in
    let u : (leb 33 b && leb b 122) ≡ true = (rw (some-not (f b) n e) at t) in
    (leb-true 33 b (and_left (leb 33 b) (leb b 122) u), leb-true b 122 (and_right (leb 33 b) (leb b 122) u))

pub card-two : (a b u r : ℕ) → a < 0x100 → b < 0x100 → (suit_of a ≡ suit_in u) × (rank_of a ≡ rank_in u) → (suit_of b ≡ suit_in r) × (rank_of b ≡ rank_in r)
    → (ltb u 4 && (leb 4 r && ltb r 17)) ≡ true → CardIs a b (u * 13 + (r - 4))
unfolding all_below suit_of rank_of index_of lower
card-two a b u r la lb ea eb h =
    let x : suit_of a ≡ Some u = ea.0 ∙ simp (and_left (ltb u 4) (leb 4 r && ltb r 17) h) in
    let y : rank_of b ≡ Some (r - 4) = eb.1 ∙ simp (and_right (ltb u 4) (leb 4 r && ltb r 17) h) in
    let v = seen suit_of refl a u la x in
    let w = seen rank_of refl b (r - 4) lb y in
    record {
      card = ap read_card (trim_visible (a ∷ b ∷ []) (v, (w, tt))) ∙ card-text a b u (r - 4) x y;
      first = λ e. omega (arith, v.1);
      second = λ e. omega (arith, w.1);
    }
