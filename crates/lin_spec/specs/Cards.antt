-- Cards, hands and deals, and how a text gives them. (01: Records; Board, md and pc)
use Rattle.std.specs.Prelude.{ℕ, zero, suc, ◌+◌, ◌*◌, Bool, ◌&&◌, List, [], ◌∷◌, ◌++◌, get_or, set, replicate, eqb, Option, None, Some}
use Rattle.lin_spec.specs.Base.{pick, ascii}
use Rattle.lin_spec.specs.White.{lower, blank}
use Rattle.lin_spec.specs.Tokens.{Pieces}
use Rattle.lin_spec.specs.Tokens.Pieces.{end, piece}

-- the place of b in a list, counted from n
unfoldable pub index_of : (n b : ℕ) → List ℕ → Option ℕ
index_of n b [] = None
index_of n b (c ∷ cs) = pick (eqb b c) (Some n) (index_of (suc n) b cs)

-- "suits S H D C as 0 to 3", "either case"
unfoldable pub suit_of : ℕ → Option ℕ
suit_of b = index_of 0 (lower b) (ascii "shdc")

-- "ranks 2 to A as 0 to 12": "AKQJT98765432, either case"
unfoldable pub rank_of : ℕ → Option ℕ
rank_of b = index_of 0 (lower b) (ascii "23456789tjqka")

-- "A card is 0 to 51: suit times 13 plus rank"
abbrev pub card_of : (suit rank : Option ℕ) → Option ℕ
card_of None r = None
card_of (Some u) None = None
card_of (Some u) (Some r) = Some (u * 13 + r)

-- "exactly a suit and a rank"
unfoldable pub read_card : List ℕ → Option ℕ
read_card [] = None
read_card (a ∷ []) = None
read_card (a ∷ b ∷ []) = card_of (suit_of a) (rank_of b)
read_card (a ∷ b ∷ c ∷ s) = None

-- "A hand is 52 counts of 32 bits; a repeated card counts again"
abbrev pub no_cards : List ℕ
no_cards = replicate 52 0

abbrev pub with_card : Option ℕ → (hand : List ℕ) → List ℕ
with_card None h = h
with_card (Some c) h = set h c (get_or h c 0 + 1)

-- "and the length is the sum"
unfoldable pub sum : List ℕ → ℕ
sum [] = 0
sum (n ∷ h) = n + sum h

-- "In a hand a suit letter sets the suit; a rank after one adds a card; other characters are skipped."
abbrev pub hand_by : (letter : Option ℕ) (b : ℕ) (suit : Option ℕ) (hand : List ℕ) → (Option ℕ → List ℕ → List ℕ) → List ℕ
hand_by (Some u) b suit h rest = rest (Some u) h
hand_by None b suit h rest = rest suit (with_card (card_of suit (rank_of b)) h)

unfoldable pub hand_from : (suit : Option ℕ) (hand : List ℕ) → List ℕ → List ℕ
hand_from suit h [] = h
hand_from suit h (b ∷ s) = hand_by (suit_of b) b suit h (λ u k. hand_from u k s)

unfoldable pub read_hand : List ℕ → List ℕ
read_hand s = hand_from None no_cards s

-- field k of those that commas separate; "a missing field is an empty hand"
unfoldable pub field : ℕ → Pieces → List ℕ
field zero (end x) = x
field zero (piece x r) = x
field (suc k) (end x) = []
field (suc k) (piece x r) = field k r

-- the remainder, "every card that no other seat holds"
unfoldable pub unheld_cards : (s w n : List ℕ) → List ℕ
unheld_cards [] w n = []
unheld_cards (a ∷ s) [] n = []
unheld_cards (a ∷ s) (b ∷ w) [] = []
unheld_cards (a ∷ s) (b ∷ w) (c ∷ n) = pick (eqb (a + b + c) 0) 1 0 ∷ unheld_cards s w n

-- "the other three lengths are each 13"
abbrev pub thirteens : (s w n : List ℕ) → Bool
thirteens s w n = eqb (sum s) 13 && (eqb (sum w) 13 && eqb (sum n) 13)

-- East is the remainder "if its field is missing or trims to nothing and the other three lengths are each 13"
unfoldable pub east_of : (east s w n : List ℕ) → List ℕ
east_of e s w n = pick (blank e && thirteens s w n) (unheld_cards s w n) (read_hand e)

-- "hands S, W, N, E, extra fields ignored"
unfoldable pub deal_of : Pieces → List ℕ
deal_of f =
    let s = read_hand (field 0 f) in
    let w = read_hand (field 1 f) in
    let n = read_hand (field 2 f) in
    s ++ (w ++ (n ++ east_of (field 3 f) s w n))
