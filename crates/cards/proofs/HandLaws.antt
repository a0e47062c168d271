-- Hands as the code goes through them: the loop over a text, the loop that sums, three hands. (01: Records;
-- Board, md)
-- Assumes nothing.
use Rattle.std.specs.Prelude.{Option, None, Some}
use Prim.Native.Nat.{ℕ, zero, suc, ◌+◌, ◌-◌, ◌*◌, ◌≤◌, ◌<◌}
use native.Mathlib.Nat.{zero-add, suc-add}
use native.Mathlib.Numerals.{add-one}
use native.Mathlib.Omega.{arith}
use mathlib.Core.Path.{◌≡◌, refl, ap, sym, ◌∙◌}
use mathlib.Core.Bool.{Bool, true, false, ◌&&◌, and-false, false≢true}
use mathlib.Core.List.{List, [], ◌∷◌, ◌++◌, map}
use lib.ListN.{length, get_or, set, take, drop, length-map, length-set, length-take, length-drop, drop_of_length-le, take-append-drop, get_or-append}
use lib.Seq.{drop-cons, drop-drop, length-take-le, get_or-take, get_or-drop, get_or-append-add, set-append_left}
use lib.Dec.{eqb, leb, ltb}
use borrow.Author.Tests.{lt-ltb, le-ltb, le-leb, ltb-true}
use Rattle.lin_spec.specs.Base.{pick}
use Rattle.lin_spec.specs.Records.{part}
use Rattle.lin_spec.specs.White.{lower}
use Rattle.lin_spec.specs.Tokens.{cut}
use Rattle.lin_spec.specs.Cursor.{find_from}
use Rattle.lin_spec.specs.Cards.{index_of, field, suit_of, rank_of, card_of, no_cards, with_card, sum, hand_from, read_hand, unheld_cards}
use Rattle.lin_spec.proofs.Base.{and_left, and_right, split}
use Rattle.lin_spec.proofs.Records.{part-rest, part_length}
use Rattle.lin_spec.proofs.Cursor.{find-here, find-next, find-after, find-within, find-end, cut_at, cut-end}
use Rattle.lin_spec.proofs.Cards.{count-sum, set_sum, unheld_at, unheld_length}
use Rattle.cards.specs.Letters.{suit_in, rank_in}
use Rattle.cards.specs.Deals.{others, field_at, with_hand, FieldCounted}

-- The loop over a text: the rest of it makes of the hand so far what the whole text makes of none

-- what holds at each turn, with the number of the suit
pub record HandInv (s h : List ℕ) (suit i : ℕ) : Type 0 where
  pub same : hand_from (suit_in suit) h (drop i s) ≡ read_hand s
  pub few : sum h ≤ i

-- its start
pub hand-start : (s : List ℕ) → HandInv s no_cards 4 0
unfolding read_hand sum
hand-start s = record { same = refl; few = omega arith }

-- its end
pub hand_end : (s h : List ℕ) (suit i : ℕ) → HandInv s h suit i → length s ≤ i → h ≡ read_hand s
unfolding hand_from
hand_end s h suit i v l = ap (hand_from (suit_in suit) h) (sym (drop_of_length-le s l)) ∙ v.same

-- no card is counted more often than bytes are passed
pub count-few : (s h : List ℕ) (suit i c : ℕ) → HandInv s h suit i → get_or h c 0 ≤ i
count-few s h suit i c v = omega (arith, count-sum h c, v.few)

-- one of its turns, with the number of the letter
pub record Turn (s h : List ℕ) (suit i n : ℕ) : Type 0 where
  pub inv : HandInv s h suit i
  pub inside : i < length s
  pub number : (suit_of (get_or s i 0) ≡ suit_in n) × (rank_of (get_or s i 0) ≡ rank_in n)

-- what another letter than a suit's adds to a hand
added : (b : ℕ) (suit : Option ℕ) (h s : List ℕ) → suit_of b ≡ None → hand_from suit h (b ∷ s) ≡ hand_from suit (with_card (card_of suit (rank_of b)) h) s
unfolding hand_from
added b suit h s e = rw e

module _ {s h : List ℕ} {suit i n : ℕ} (v : Turn s h suit i n) where
  here : hand_from (suit_in suit) h (get_or s i 0 ∷ drop (i + 1) s) ≡ read_hand s
  here = ap (hand_from (suit_in suit) h) (rw add-one (sym (drop-cons s i 0 v.inside))) ∙ v.inv.same

  -- after a suit letter
  pub hand_suit : n < 4 → HandInv s h n (i + 1)
  unfolding hand_from
  hand_suit k =
      let e : suit_of (get_or s i 0) ≡ Some n = v.number.0 ∙ simp (lt-ltb n 4 k) in
      let f : suit_in n ≡ Some n = simp (lt-ltb n 4 k) in
      record { same = rw f (rw e at here); few = omega (arith, v.inv.few) }

  -- after another one
  module _ (k : 4 ≤ n) where
    no_suit : suit_of (get_or s i 0) ≡ None
    no_suit = v.number.0 ∙ simp (le-ltb n 4 k)

    left : (c : Option ℕ) → card_of (suit_in suit) (rank_in n) ≡ c → hand_from (suit_in suit) (with_card c h) (drop (i + 1) s) ≡ read_hand s
    left c e =
        ap (λ (x : Option ℕ). hand_from (suit_in suit) (with_card x h) (drop (i + 1) s)) (sym e ∙ ap (card_of (suit_in suit)) (sym v.number.1))
        ∙ sym (added (get_or s i 0) (suit_in suit) h (drop (i + 1) s) no_suit) ∙ here

    -- after one that adds no card
    pub hand_skip : (ltb suit 4 && ltb n 17) ≡ false → HandInv s h suit (i + 1)
    hand_skip e = record { same = left None (go (ltb suit 4) (ltb n 17) e); few = omega (arith, v.inv.few) }
      where
        go : (t u : Bool) → (t && u) ≡ false → card_of (pick t (Some suit) None) (pick (leb 4 n && u) (Some (n - 4)) None) ≡ None
        go false u e = refl
        go true true e = absurd (false≢true (sym e))
        go true false e = simp and-false

    -- after a card
    pub hand-card : (ltb suit 4 && ltb n 17) ≡ true → HandInv s (set h (suit * 13 + (n - 4)) (get_or h (suit * 13 + (n - 4)) 0 + 1)) suit (i + 1)
    hand-card e =
        let a = and_left (ltb suit 4) (ltb n 17) e in
        let b = and_right (ltb suit 4) (ltb n 17) e in
        record { same = left (Some (suit * 13 + (n - 4))) (simp (a, b, le-leb 4 n k)); few = omega (arith, set_sum h (suit * 13 + (n - 4)), v.inv.few) }

-- the numbers of a card's suit and rank, by their test
pub small : (suit n : ℕ) → (ltb suit 4 && ltb n 17) ≡ true → (suit < 4) × (n < 17)
small suit n e = (ltb-true suit 4 (and_left (ltb suit 4) (ltb n 17) e), ltb-true n 17 (and_right (ltb suit 4) (ltb n 17) e))

-- The same within a deal: at a seat's place stands the hand so far

pub record Held (s d counts : List ℕ) (seat suit i : ℕ) : Type 0 where
  pub hand : List ℕ
  pub long : length hand ≡ 52
  pub is : counts ≡ with_hand d seat hand
  pub inv : HandInv s hand suit i

-- a store after the front of a list
set-append_add : (xs ys : List ℕ) (n a : ℕ) → set (xs ++ ys) (length xs + n) a ≡ xs ++ set ys n a
set-append_add [] ys n a = ap (λ (k : ℕ). set ys k a) (zero-add n)
set-append_add (x ∷ xs) ys n a = ap (λ (k : ℕ). set (x ∷ (xs ++ ys)) k a) (suc-add (length xs) n) ∙ ap (λ (r : List ℕ). x ∷ r) (set-append_add xs ys n a)

-- a part of a list in its place
part_in : (d : List ℕ) (a n : ℕ) → d ≡ take a d ++ (part d a n ++ drop (a + n) d)
unfolding part
part_in d a n = sym (take-append-drop a d) ∙ ap (λ (x : List ℕ). take a d ++ x) (sym (take-append-drop n (drop a d)) ∙ ap (λ (x : List ℕ). take n (drop a d) ++ x) (drop-drop n a d))

pub held_start : (s d : List ℕ) (seat : ℕ) → part d (seat * 52) 52 ≡ no_cards → Held s d d seat 4 0
unfolding with_hand
held_start s d seat e =
    record {
      hand = no_cards;
      long = refl;
      is = part_in d (seat * 52) 52 ∙ ap (λ (x : List ℕ). take (seat * 52) d ++ (x ++ drop (seat * 52 + 52) d)) e;
      inv = hand-start s;
    }

-- a deal with a hand at a place has that place
pub part-long : (d : List ℕ) (a : ℕ) → part d a 52 ≡ no_cards → a + 52 ≤ length d
unfolding part
part-long d a e = let f : length (take 52 (drop a d)) ≡ 52 = ap length e in omega (arith, length-take 52 (drop a d), length-drop a d)

module _ (s d counts : List ℕ) (seat suit i : ℕ) (v : Held s d counts seat suit i) (l : part d (seat * 52) 52 ≡ no_cards) where
  pub held-end : length s ≤ i → counts ≡ with_hand d seat (read_hand s)
  held-end h = v.is ∙ ap (with_hand d seat) (hand_end s v.hand suit i v.inv h)

  front : length (take (seat * 52) d) ≡ seat * 52
  front = length-take-le (seat * 52) d (omega (arith, part-long d (seat * 52) l))

  held_at : (c : ℕ) → c < 52 → get_or counts (seat * 52 + c) 0 ≡ get_or v.hand c 0
  unfolding with_hand
  held_at c h =
      let n = v.long in
      ap (λ (y : List ℕ). get_or y (seat * 52 + c) 0) v.is
      ∙ ap (λ (m : ℕ). get_or (take (seat * 52) d ++ (v.hand ++ drop (seat * 52 + 52) d)) (m + c) 0) (sym front)
      ∙ (get_or-append-add (take (seat * 52) d) (v.hand ++ drop (seat * 52 + 52) d) c 0 ∙ get_or-append v.hand (drop (seat * 52 + 52) d) 0 c (omega arith))

  pub held-few : (c : ℕ) → c < 52 → get_or counts (seat * 52 + c) 0 ≤ i
  held-few c h = rw (held_at c h) (count-few s v.hand suit i c v.inv)

  held-set : (c x : ℕ) → c < 52 → set counts (seat * 52 + c) x ≡ with_hand d seat (set v.hand c x)
  unfolding with_hand
  held-set c x h =
      let n = v.long in
      ap (λ (y : List ℕ). set y (seat * 52 + c) x) v.is
      ∙ ap (λ (m : ℕ). set (take (seat * 52) d ++ (v.hand ++ drop (seat * 52 + 52) d)) (m + c) x) (sym front)
      ∙ (set-append_add (take (seat * 52) d) (v.hand ++ drop (seat * 52 + 52) d) c x ∙ ap (λ (y : List ℕ). take (seat * 52) d ++ y) (set-append_left v.hand (drop (seat * 52 + 52) d) c x (omega arith)))

  -- a turn, with the number of the letter
  module _ (n : ℕ) (m : i < length s) (e : (suit_of (get_or s i 0) ≡ suit_in n) × (rank_of (get_or s i 0) ≡ rank_in n)) where
    turn_in : Turn s v.hand suit i n
    turn_in = record { inv = v.inv; inside = m; number = e }

    pub held_suit : n < 4 → Held s d counts seat n (i + 1)
    held_suit h = record { hand = v.hand; long = v.long; is = v.is; inv = hand_suit turn_in h }

    pub held_skip : 4 ≤ n → (ltb suit 4 && ltb n 17) ≡ false → Held s d counts seat suit (i + 1)
    held_skip h f = record { hand = v.hand; long = v.long; is = v.is; inv = hand_skip turn_in h f }

    pub held-card : 4 ≤ n → (ltb suit 4 && ltb n 17) ≡ true
        → Held s d (set counts (seat * 52 + (suit * 13 + (n - 4))) (get_or counts (seat * 52 + (suit * 13 + (n - 4))) 0 + 1)) seat suit (i + 1)
    held-card h f =
        let c = suit * 13 + (n - 4) in
        let a = small suit n f in
        let z : c < 52 = omega arith in
        record {
          hand = set v.hand c (get_or v.hand c 0 + 1);
          long = length-set v.hand c (get_or v.hand c 0 + 1) ∙ v.long;
          is = rw (held_at c z) (held-set c (get_or v.hand c 0 + 1) z);
          inv = hand-card turn_in h f;
        }

-- a seat's hand within the deal: its counts
pub count_at : (d : List ℕ) (a m i : ℕ) → i < m → get_or d (a + i) 0 ≡ get_or (part d a m) i 0
unfolding part
count_at d a m i h = sym (get_or-take m (drop a d) i 0 h ∙ get_or-drop a d i 0)

-- The same from a place of md's value on, up to the comma: p is the place of the comma, or the end

-- the field at a place, by the comma after it
pub field_is : (s : List ℕ) (at : ℕ) → part s at (find_from 0x2C s at - at) ≡ field_at s at
unfolding field
field_is s at =
    split (find_from 0x2C s at) (length s)
    (λ l. rw (cut_at 0x2C s at l) refl)
    (λ l. part-rest s at (find_from 0x2C s at - at) (omega arith) ∙ rw (cut-end 0x2C s at l) refl)

-- the fields after it
rest-at_comma : (s : List ℕ) (at i : ℕ) → find_from 0x2C s at ≡ i → i < length s → cut 0x2C (drop (i + 1) s) ≡ others (cut 0x2C (drop at s))
rest-at_comma s at i e h = rw (← e) (sym (rw (cut_at 0x2C s at (rw (← e) at h)) refl))

rest-at-end : (s : List ℕ) (at i : ℕ) → length s ≤ find_from 0x2C s at → length s ≤ i → cut 0x2C (drop i s) ≡ others (cut 0x2C (drop at s))
unfolding cut
rest-at-end s at i h l = rw (drop_of_length-le s {i = i} l, cut-end 0x2C s at h) refl

pub record Fielded (s : List ℕ) (at : ℕ) (d counts : List ℕ) (seat suit i : ℕ) : Type 0 where
  pub from : at ≤ i
  pub within : i ≤ length s
  pub find : find_from 0x2C s i ≡ find_from 0x2C s at
  pub held : Held (field_at s at) d counts seat suit (i - at)

pub fielded_start : (s : List ℕ) (at : ℕ) (d : List ℕ) (seat : ℕ) → part d (seat * 52) 52 ≡ no_cards → at ≤ length s → Fielded s at d d seat 4 at
fielded_start s at d seat e l =
    let z : at - at ≡ 0 = omega arith in
    record { from = omega arith; within = l; find = refl; held = rw z (held_start (field_at s at) d seat e) }

module _ (s : List ℕ) (at : ℕ) (d counts : List ℕ) (seat suit i : ℕ) (v : Fielded s at d counts seat suit i) (l : part d (seat * 52) 52 ≡ no_cards) where
  pub fielded_few : (c : ℕ) → c < 52 → get_or counts (seat * 52 + c) 0 ≤ i
  fielded_few c h = omega (arith, held-few (field_at s at) d counts seat suit (i - at) v.held l c h)

  long-field : find_from 0x2C s at ≤ length s → at ≤ find_from 0x2C s at → length (field_at s at) ≡ find_from 0x2C s at - at
  long-field h k = ap length (sym (field_is s at)) ∙ part_length s at (find_from 0x2C s at - at) (omega arith)

  -- at the comma, and at the end
  counted : (r : ℕ) → find_from 0x2C s at ≡ i → cut 0x2C (drop r s) ≡ others (cut 0x2C (drop at s)) → r ≤ length s → FieldCounted s at d seat counts r
  counted r e k h =
      let a = v.from in
      let b = v.within in
      let n = long-field (omega arith) (omega arith) in
      record { hand = held-end (field_at s at) d counts seat suit (i - at) v.held l (omega arith); rest = k; within = h }

  pub fielded_comma : i < length s → get_or s i 0 ≡ 0x2C → FieldCounted s at d seat counts (i + 1)
  fielded_comma h e = let f = sym v.find ∙ find-here 0x2C s i h e in counted (i + 1) f (rest-at_comma s at i f h) (omega arith)

  pub fielded_end : length s ≤ i → FieldCounted s at d seat counts i
  fielded_end h =
      let b = v.within in
      let e : i ≡ length s = omega arith in
      let f : find_from 0x2C s at ≡ length s = sym v.find ∙ find-end 0x2C s i h in
      counted i (f ∙ sym e) (rest-at-end s at i (omega arith) h) b

  -- a turn at another byte, with the number of its letter
  module _ (n : ℕ) (m : i < length s) (e : (suit_of (get_or s i 0) ≡ suit_in n) × (rank_of (get_or s i 0) ≡ rank_in n)) (o : get_or s i 0 ≡ 0x2C → ⊥) where
    next : find_from 0x2C s (i + 1) ≡ find_from 0x2C s at
    next = find-next 0x2C s i m o ∙ v.find

    before : i < find_from 0x2C s at
    before =
        split (find_from 0x2C s (i + 1)) (length s)
        (λ k. let a = find-after 0x2C s (i + 1) k in let b = next in omega arith)
        (λ k. let b = next in omega arith)

    inside : i - at < length (field_at s at)
    inside = let a = v.from in let b = before in let c = find-within 0x2C s at in let n = long-field (omega arith) (omega arith) in omega arith

    byte_is : get_or s i 0 ≡ get_or (field_at s at) (i - at) 0
    byte_is =
        let a = v.from in
        let b = before in
        let z : at + (i - at) ≡ i = omega arith in
        ap (λ (j : ℕ). get_or s j 0) (sym z) ∙ count_at s at (find_from 0x2C s at - at) (i - at) (omega arith) ∙ ap (λ (x : List ℕ). get_or x (i - at) 0) (field_is s at)

    letter_is : (suit_of (get_or (field_at s at) (i - at) 0) ≡ suit_in n) × (rank_of (get_or (field_at s at) (i - at) 0) ≡ rank_in n)
    letter_is = rw (← byte_is) e

    on : (counts' : List ℕ) (u : ℕ) → Held (field_at s at) d counts' seat u (i - at + 1) → Fielded s at d counts' seat u (i + 1)
    on counts' u h =
        let a = v.from in
        let z : i + 1 - at ≡ i - at + 1 = omega arith in
        record { from = omega arith; within = omega arith; find = next; held = rw z h }

    pub fielded_suit : n < 4 → Fielded s at d counts seat n (i + 1)
    fielded_suit h = on counts n (held_suit (field_at s at) d counts seat suit (i - at) v.held l n inside letter_is h)

    pub fielded_skip : 4 ≤ n → (ltb suit 4 && ltb n 17) ≡ false → Fielded s at d counts seat suit (i + 1)
    fielded_skip h f = on counts suit (held_skip (field_at s at) d counts seat suit (i - at) v.held l n inside letter_is h f)

    pub fielded_card : 4 ≤ n → (ltb suit 4 && ltb n 17) ≡ true
        → Fielded s at d (set counts (seat * 52 + (suit * 13 + (n - 4))) (get_or counts (seat * 52 + (suit * 13 + (n - 4))) 0 + 1)) seat suit (i + 1)
    fielded_card h f = on _ suit (held-card (field_at s at) d counts seat suit (i - at) v.held l n inside letter_is h f)

-- a comma is no letter
abbrev given : Option ℕ → Bool
given None = false
given (Some n) = true

pub comma_suit : (b n : ℕ) → suit_of b ≡ suit_in n → n < 4 → b ≡ 0x2C → ⊥
unfolding suit_of index_of lower
comma_suit b n e h f =
    let a : suit_in n ≡ Some n = simp (lt-ltb n 4 h) in
    let z : None ≡ Some n = (let y : suit_of 0x2C ≡ None = refl in sym y) ∙ ap suit_of (sym f) ∙ e ∙ a in
    false≢true (ap given z)

pub comma_rank : (b n : ℕ) → rank_of b ≡ rank_in n → 4 ≤ n → n < 17 → b ≡ 0x2C → ⊥
unfolding rank_of index_of lower
comma_rank b n e h k f =
    let a : rank_in n ≡ Some (n - 4) = simp (le-leb 4 n h, lt-ltb n 17 k) in
    let z : None ≡ Some (n - 4) = (let y : rank_of 0x2C ≡ None = refl in sym y) ∙ ap rank_of (sym f) ∙ e ∙ a in
    false≢true (ap given z)

-- The counts of a hand

-- the list of a struct that the code holds has the length of its array
pub long : (k : ℕ) (h : List ℕ) → length (map (λ (n : ℕ). n) h) ≡ k → length h ≡ k
long k h e = sym (length-map h (λ (n : ℕ). n)) ∙ e

sum-suc : (h : List ℕ) (i : ℕ) → sum (drop i h) ≡ get_or h i 0 + sum (drop (suc i) h)
unfolding sum
sum-suc [] zero = refl
sum-suc [] (suc i) = refl
sum-suc (n ∷ h) zero = refl
sum-suc (n ∷ h) (suc i) = sum-suc h i

-- a turn of the loop that sums
pub sum-next : (h : List ℕ) (i n w : ℕ) → n + sum (drop i h) ≡ sum h → w ≡ get_or h i 0 → n + w + sum (drop (i + 1) h) ≡ sum h
sum-next h i n w e f = rw add-one (omega (arith, sum-suc h i))

-- its end
pub sum-end : (h : List ℕ) (i n : ℕ) → n + sum (drop i h) ≡ sum h → length h ≤ i → n ≡ sum h
unfolding sum
sum-end h i n e l = let z : sum (drop i h) ≡ 0 = ap sum (drop_of_length-le h l) in omega arith

-- there are at most so many
pub counts_most : (d : List ℕ) (a m : ℕ) → length (part d a m) ≤ m
unfolding part
counts_most d a m = omega (arith, length-take m (drop a d))

-- of a seat's hand, as a borrow gives it
pub sum-hand : (d : List ℕ) (k f n : ℕ) → f ≡ k → n ≡ sum (take (f * 52 + 52 - f * 52) (drop (f * 52) d)) → n ≡ sum (part d (k * 52) 52)
unfolding part
sum-hand d k f n e s = let l : f * 52 + 52 - f * 52 ≡ 52 = omega arith in s ∙ rw (l, e) refl

-- Three hands

-- hands of 52 counts
pub record Three (x y z : List ℕ) : Type 0 where
  pub first : length x ≡ 52
  pub second : length y ≡ 52
  pub third : length z ≡ 52

module _ (x y z : List ℕ) (f : Three x y z) where
  pub all : length (unheld_cards x y z) ≡ 52
  all = unheld_length 52 x y z f.first f.second f.third

  -- one of its counts
  pub rest_at : (i w : ℕ) → i < 52 → w ≡ pick (eqb (get_or x i 0) 0 && (eqb (get_or y i 0) 0 && eqb (get_or z i 0) 0)) 1 0 → w ≡ get_or (unheld_cards x y z) i 0
  rest_at i w m k = k ∙ sym (unheld_at 52 x y z f.first f.second f.third i m)
