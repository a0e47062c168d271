-- Laws of cards, hands and deals: the range of what the letters give, the letters of each suit and rank, the length of hands and deals, how
-- many cards a text can give, and which cards the remainder holds. (01: Records; Board, md and pc)
-- Assumes nothing.
use Rattle.std.specs.Prelude.{Option, None, Some}
use Prim.Native.Nat.{ℕ, zero, suc, ◌+◌, ◌≤◌, ◌<◌}
use native.Mathlib.Omega.{arith}
use mathlib.Core.Path.{◌≡◌, refl, ap, subst, ◌∙◌}
use mathlib.Core.Bool.{Bool, true, false, ◌&&◌, false≢true}
use mathlib.Core.List.{List, [], ◌∷◌}
use lib.ListN.{length, get_or, set, length-append, length-set}
use lib.Dec.{eqb}
use borrow.Author.Tests.{ne_eqb, eqb-true}
use Rattle.lin_spec.specs.Base.{pick, ascii}
use Rattle.lin_spec.specs.White.{lower}
use Rattle.lin_spec.specs.Tokens.{Pieces, cut}
use Rattle.lin_spec.specs.Tokens.Pieces.{end, piece}
use Rattle.lin_spec.specs.Cards.{index_of, suit_of, rank_of, card_of, read_card, no_cards, with_card, sum, hand_by, hand_from, read_hand, field, unheld_cards, east_of, deal_of}
use Rattle.lin_spec.proofs.Base.{picked, all_below, below}
use Rattle.lin_spec.proofs.Tokens.{joined, joined-cut}

-- The range of what is found

-- what is found, if anything is, is below n
abbrev pub Under : ℕ → Option ℕ → Type 0
Under n None = Unit
Under n (Some k) = k < n

-- a number found is below n
pub under : (n : ℕ) (o : Option ℕ) (k : ℕ) → Under n o → o ≡ Some k → k < n
under n o k h e = subst (Under n) e h

index_under : (n b : ℕ) (cs : List ℕ) → Under (n + length cs) (index_of n b cs)
unfolding index_of
index_under n b [] = tt
index_under n b (c ∷ cs) =
    let e : suc n + length cs ≡ n + suc (length cs) = omega arith in
    picked (Under (n + suc (length cs))) (eqb b c) (λ _. omega arith) λ _. subst (λ m. Under m (index_of (suc n) b cs)) e (index_under (suc n) b cs)

-- a suit letter gives a number below 4
pub suit_under : (b : ℕ) → Under 4 (suit_of b)
unfolding suit_of
suit_under b = index_under 0 (lower b) (ascii "shdc")

-- a rank letter gives a number below 13
pub rank_under : (b : ℕ) → Under 13 (rank_of b)
unfolding rank_of
rank_under b = index_under 0 (lower b) (ascii "23456789tjqka")

-- a suit below 4 and a rank below 13 give a card below 52
pub card_under : (u r : Option ℕ) → Under 4 u → Under 13 r → Under 52 (card_of u r)
card_under None r h k = tt
card_under (Some u) None h k = tt
card_under (Some u) (Some r) h k = omega arith

-- a card that is read is below 52
pub read_under : (s : List ℕ) → Under 52 (read_card s)
unfolding read_card
read_under [] = tt
read_under (a ∷ []) = tt
read_under (a ∷ b ∷ []) = card_under (suit_of a) (rank_of b) (suit_under a) (rank_under b)
read_under (a ∷ b ∷ c ∷ s) = tt

-- Letters

-- the number found is k
finds : ℕ → Option ℕ → Bool
finds k None = false
finds k (Some n) = eqb n k

-- nothing is found
nothing : Option ℕ → Bool
nothing None = true
nothing (Some n) = false

found-is : (k : ℕ) (o : Option ℕ) → finds k o ≡ true → o ≡ Some k
unfolding finds
found-is k None h = absurd (false≢true h)
found-is k (Some n) h = ap Some (eqb-true n k h)

nothing_is : (o : Option ℕ) → nothing o ≡ true → o ≡ None
unfolding nothing
nothing_is None h = refl
nothing_is (Some n) h = absurd (false≢true h)

-- the capital of suit u gives u
pub suit_letter : (u : ℕ) → u < 4 → suit_of (get_or (ascii "SHDC") u 0) ≡ Some u
unfolding suit_of index_of lower finds all_below
suit_letter u h = found-is u _ (below (λ u. finds u (suit_of (get_or (ascii "SHDC") u 0))) 4 refl u h)

-- the capital of rank r gives r
pub rank_letter_lem : (r : ℕ) → r < 13 → rank_of (get_or (ascii "23456789TJQKA") r 0) ≡ Some r
unfolding rank_of index_of lower finds all_below
rank_letter_lem r h = found-is r _ (below (λ r. finds r (rank_of (get_or (ascii "23456789TJQKA") r 0))) 13 refl r h)

-- no rank letter is a suit letter
pub rank_no_suit : (r : ℕ) → r < 13 → suit_of (get_or (ascii "23456789TJQKA") r 0) ≡ None
unfolding suit_of index_of lower nothing all_below
rank_no_suit r h = nothing_is _ (below (λ r. nothing (suit_of (get_or (ascii "23456789TJQKA") r 0))) 13 refl r h)

-- Hands

with-length : (o : Option ℕ) (h : List ℕ) → length (with_card o h) ≡ length h
with-length None h = refl
with-length (Some c) h = length-set h c (get_or h c 0 + 1)

from-length : (suit : Option ℕ) (h s : List ℕ) → length (hand_from suit h s) ≡ length h
unfolding hand_from
from-length suit h [] = refl
from-length suit h (b ∷ s) = go (suit_of b) (λ u k. from-length u k s)
  where
    go : (o : Option ℕ) → ((u : Option ℕ) (k : List ℕ) → length (hand_from u k s) ≡ length k)
        → length (hand_by o b suit h (λ u k. hand_from u k s)) ≡ length h
    go (Some u) ih = ih (Some u) h
    go None ih = ih suit (with_card (card_of suit (rank_of b)) h) ∙ with-length (card_of suit (rank_of b)) h

-- a hand has 52 counts
pub hand-length : (s : List ℕ) → length (read_hand s) ≡ 52
unfolding read_hand
hand-length s = from-length None no_cards s

-- no count is greater than the length of the hand
pub count-sum : (h : List ℕ) (c : ℕ) → get_or h c 0 ≤ sum h
unfolding sum
count-sum [] c = omega arith
count-sum (n ∷ h) zero = omega arith
count-sum (n ∷ h) (suc c) = let k = count-sum h c in omega arith

-- a count that is one more makes the hand longer by one at most
pub set_sum : (h : List ℕ) (c : ℕ) → sum (set h c (get_or h c 0 + 1)) ≤ sum h + 1
unfolding sum
set_sum [] c = omega arith
set_sum (n ∷ h) zero = omega arith
set_sum (n ∷ h) (suc c) = let k = set_sum h c in omega arith

with-sum : (o : Option ℕ) (h : List ℕ) → sum (with_card o h) ≤ sum h + 1
with-sum None h = omega arith
with-sum (Some c) h = set_sum h c

from-sum : (suit : Option ℕ) (h s : List ℕ) → sum (hand_from suit h s) ≤ sum h + length s
unfolding hand_from
from-sum suit h [] = omega arith
from-sum suit h (b ∷ s) = go (suit_of b) (λ u k. from-sum u k s)
  where
    go : (o : Option ℕ) → ((u : Option ℕ) (k : List ℕ) → sum (hand_from u k s) ≤ sum k + length s)
        → sum (hand_by o b suit h (λ u k. hand_from u k s)) ≤ sum h + suc (length s)
    go (Some u) ih = omega (arith, ih (Some u) h)
    go None ih = omega (arith, ih suit (with_card (card_of suit (rank_of b)) h), with-sum (card_of suit (rank_of b)) h)

-- a hand has no more cards than its text has bytes
pub hand-sum : (s : List ℕ) → sum (read_hand s) ≤ length s
unfolding read_hand sum
hand-sum s = omega (arith, from-sum None no_cards s)

-- no card is counted more often than the text has bytes
pub hand-count : (s : List ℕ) (c : ℕ) → get_or (read_hand s) c 0 ≤ length s
hand-count s c = omega (arith, count-sum (read_hand s) c, hand-sum s)

-- The remainder

-- of three hands of n counts it has n counts
pub unheld_length : (n : ℕ) (x y z : List ℕ) → length x ≡ n → length y ≡ n → length z ≡ n → length (unheld_cards x y z) ≡ n
unfolding unheld_cards
unheld_length n [] y z hx hy hz = hx
unheld_length n (a ∷ x) [] z hx hy hz = hy
unheld_length n (a ∷ x) (b ∷ y) [] hx hy hz = hz
unheld_length zero (a ∷ x) (b ∷ y) (c ∷ z) hx hy hz = absurd (omega arith)
unheld_length (suc n) (a ∷ x) (b ∷ y) (c ∷ z) hx hy hz = ap suc (unheld_length n x y z (omega arith) (omega arith) (omega arith))

-- a sum is 0 where each of its parts is
none-held : (a b c : ℕ) → eqb (a + b + c) 0 ≡ (eqb a 0 && (eqb b 0 && eqb c 0))
none-held zero zero zero = refl
none-held (suc a) b c = simp (ne_eqb (suc a + b + c) 0 (λ e. omega arith), ne_eqb (suc a) 0 (λ e. omega arith))
none-held zero (suc b) c = simp (ne_eqb (zero + suc b + c) 0 (λ e. omega arith), ne_eqb (suc b) 0 (λ e. omega arith))
none-held zero zero (suc c) = simp (ne_eqb (zero + zero + suc c) 0 (λ e. omega arith), ne_eqb (suc c) 0 (λ e. omega arith))

-- it holds exactly the cards that none of the three hands holds, each once
pub unheld_at : (n : ℕ) (x y z : List ℕ) → length x ≡ n → length y ≡ n → length z ≡ n → (c : ℕ) → c < n
    → get_or (unheld_cards x y z) c 0 ≡ pick (eqb (get_or x c 0) 0 && (eqb (get_or y c 0) 0 && eqb (get_or z c 0) 0)) 1 0
unfolding unheld_cards
unheld_at n [] y z hx hy hz c h = absurd (omega arith)
unheld_at n (a ∷ x) [] z hx hy hz c h = absurd (omega arith)
unheld_at n (a ∷ x) (b ∷ y) [] hx hy hz c h = absurd (omega arith)
unheld_at n (a ∷ x) (b ∷ y) (d ∷ z) hx hy hz zero h = ap (λ (t : Bool). pick t 1 0) (none-held a b d)
unheld_at zero (a ∷ x) (b ∷ y) (d ∷ z) hx hy hz (suc c) h = absurd (omega arith)
unheld_at (suc n) (a ∷ x) (b ∷ y) (d ∷ z) hx hy hz (suc c) h = unheld_at n x y z (omega arith) (omega arith) (omega arith) c (omega arith)

-- Deals

field-joined : (c k : ℕ) (f : Pieces) → length (field k f) ≤ length (joined c f)
unfolding field joined
field-joined c zero (end x) = omega arith
field-joined c (suc k) (end x) = omega arith
field-joined c zero (piece x r) = omega (arith, length-append x (c ∷ joined c r))
field-joined c (suc k) (piece x r) = omega (arith, length-append x (c ∷ joined c r), field-joined c k r)

-- a field is no longer than the text that is cut
pub field-length : (c k : ℕ) (s : List ℕ) → length (field k (cut c s)) ≤ length s
field-length c k s = omega (arith, field-joined c k (cut c s), ap length (joined-cut c s))

east-length : (t : Bool) (x y z v : List ℕ) → length (pick t (unheld_cards (read_hand x) (read_hand y) (read_hand z)) (read_hand v)) ≡ 52
east-length true x y z v = unheld_length 52 (read_hand x) (read_hand y) (read_hand z) (hand-length x) (hand-length y) (hand-length z)
east-length false x y z v = hand-length v

-- a deal has 208 counts
pub deal-length : (f : Pieces) → length (deal_of f) ≡ 208
unfolding deal_of east_of
deal-length f = simp (length-append, hand-length, east-length)
