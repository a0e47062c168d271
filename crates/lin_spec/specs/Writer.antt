-- The bytes that a board is written as, and its settled form. (01: Writer and settled form)
use Rattle.std.specs.Prelude.{ℕ, zero, suc, ◌+◌, ◌*◌, ◌/◌, ◌%◌, Bool, true, ◌&&◌, ◌||◌, not, List, [], ◌∷◌, ◌++◌, map, get_or, replicate, eqb, Option, None, Some}
use Prim.Native.Char.{code}
use Rattle.lin_spec.specs.Base.{pick, keep, null, concat, join_by, ascii}
use Rattle.lin_spec.specs.Tokens.{pipe}
use Rattle.lin_spec.specs.Cards.{sum, unheld_cards, thirteens}
use Rattle.lin_spec.specs.Decimal.{decimal}
use Rattle.lin_spec.specs.Letters.{sv_letter, hand_at}
use Rattle.lin_spec.specs.Board.{CallOf, Dealt, BoardOf, ends_in, without_end, map_option, map_call}
use Rattle.lin_spec.specs.declared.Seat.{Seat}
use Rattle.lin_spec.specs.declared.Seat.TheVariants.{South, West, North, East}

-- 01's term clean: "pipe to `/`, CR and LF each to a space"; the two bytes are p and q
unfoldable pub clean : (p q : ℕ) → List ℕ → List ℕ
clean p q [] = []
clean p q (b ∷ s) = pick (eqb b pipe) p (pick (eqb b 0x0D || eqb b 0x0A) q b) ∷ clean p q s

-- those two bytes
abbrev pub pipe_mark : ℕ
pipe_mark = code "/"

abbrev pub line_mark : ℕ
line_mark = code " "

-- "names then lose commas"
abbrev pub without : (c : ℕ) → List ℕ → List ℕ
without c s = keep (λ (b : ℕ). not (eqb b c)) s

abbrev pub clean_name : (p q : ℕ) → List ℕ → List ℕ
clean_name p q s = without 0x2C (clean p q s)

-- Hands

-- "each card of East in the remainder": every card that a holds, b holds
unfoldable pub held_in : (a b : List ℕ) → Bool
held_in [] b = true
held_in (m ∷ a) [] = eqb m 0 && held_in a []
held_in (m ∷ a) (n ∷ b) = (eqb m 0 || not (eqb n 0)) && held_in a b

-- `same_cards`: as long, and each card of the first in the second
abbrev pub same_cards : (a b : List ℕ) → Bool
same_cards a b = eqb (sum a) (sum b) && held_in a b

-- "East is implied (empty, or as long as the remainder and each card of East in the remainder)", "when three lengths are 13"
unfoldable pub implied_east : (deal : List ℕ) → Bool
implied_east d =
    let s = hand_at d South in
    let w = hand_at d West in
    let n = hand_at d North in
    let e = hand_at d East in
    thirteens s w n && (eqb (sum e) 0 || same_cards e (unheld_cards s w n))

-- a suit's cards of a hand, "ranks from A down": "Each card stands as often as it is counted"
unfoldable pub ranks_from : (hand : List ℕ) (first ranks : ℕ) → List ℕ
ranks_from h first zero = []
ranks_from h first (suc r) = replicate (get_or h (first + r) 0) (get_or (ascii "23456789TJQKA") r 0) ++ ranks_from h first r

unfoldable pub suit_text : (hand : List ℕ) (suit : ℕ) → List ℕ
suit_text h u = get_or (ascii "SHDC") u 0 ∷ ranks_from h (u * 13) 13

-- `encode_hand`: nothing for an empty hand
unfoldable pub hand_text : List ℕ → List ℕ
hand_text h = pick (eqb (sum h) 0) [] (suit_text h 0 ++ (suit_text h 1 ++ (suit_text h 2 ++ suit_text h 3)))

-- "first character 1 2 3 4 is dealer S W N E"
abbrev pub dealer_digit : Seat → ℕ
dealer_digit South = code "1"
dealer_digit West = code "2"
dealer_digit North = code "3"
dealer_digit East = code "4"

-- `encode_md`: "East left out when three lengths are 13 and East is implied"
unfoldable pub md_text : Dealt → List ℕ
md_text x =
    let d = x.deal in
    dealer_digit x.dealer
    ∷ (hand_text (hand_at d South) ++ (ascii "," ++ (hand_text (hand_at d West) ++ (ascii "," ++ (hand_text (hand_at d North) ++ pick (implied_east d) [] (ascii "," ++ hand_text (hand_at d East)))))))

-- The written form: "Bytes are those of `write_lin`"

abbrev pub or_empty : Option (List ℕ) → List ℕ
or_empty None = []
or_empty (Some s) = s

abbrev pub optional : (before : List ℕ) → Option (List ℕ) → List ℕ
optional w None = []
optional w (Some s) = w ++ (s ++ ascii "|")

-- `mb`, with an exclamation mark where it is alerted, and `an` where it is annotated
unfoldable pub call_text : (p q : ℕ) → CallOf (List ℕ) → List ℕ
call_text p q c =
    ascii "mb|" ++ (clean p q c.bid ++ (pick c.alerted (ascii "!") [] ++ (ascii "|" ++ optional (ascii "an|") (map_option (clean p q) c.annotation))))

abbrev pub calls_text : (p q : ℕ) → List (CallOf (List ℕ)) → List ℕ
calls_text p q cs = concat (map (call_text p q) cs)

-- a card's letters, and `pc`
abbrev pub card_letters : ℕ → List ℕ
card_letters c = get_or (ascii "SHDC") (c / 13) 0 ∷ get_or (ascii "23456789TJQKA") (c % 13) 0 ∷ []

abbrev pub card_text : ℕ → List ℕ
card_text c = ascii "pc|" ++ (card_letters c ++ ascii "|")

-- the play by tricks, `chunks(4)`: four cards each, and those that are left
unfoldable pub tricks : List ℕ → List (List ℕ)
tricks [] = []
tricks (a ∷ []) = (a ∷ []) ∷ []
tricks (a ∷ b ∷ []) = (a ∷ b ∷ []) ∷ []
tricks (a ∷ b ∷ c ∷ []) = (a ∷ b ∷ c ∷ []) ∷ []
tricks (a ∷ b ∷ c ∷ d ∷ r) = (a ∷ b ∷ c ∷ d ∷ []) ∷ tricks r

-- "`pg||` with LF" after each
abbrev pub trick_text : List ℕ → List ℕ
trick_text t = concat (map card_text t) ++ ascii "pg||\n"

unfoldable pub tricks_text : List ℕ → List ℕ
tricks_text cs = concat (map trick_text (tricks cs))

abbrev pub claim_text : Option ℕ → List ℕ
claim_text None = []
claim_text (Some n) = ascii "mc|" ++ (decimal n ++ ascii "|pg||\n")

unfoldable pub written : (p q : ℕ) → BoardOf (List ℕ) → List ℕ
written p q b =
    ascii "mn|"
    ++ (clean p q (or_empty b.title)
    ++ (ascii "|pn|"
    ++ (join_by (ascii ",") (map (clean_name p q) b.names)
    ++ (ascii "|qx|"
    ++ (clean p q (or_empty b.room)
    ++ (ascii "|rh||"
    ++ (optional (ascii "ah|") (map_option (clean p q) b.header)
    ++ (ascii "md|"
    ++ (md_text b.dealt
    ++ (ascii "|sv|"
    ++ (sv_letter b.vulnerability
    ∷ (ascii "|\nsa|0|" ++ (calls_text p q b.calls ++ (ascii "pg||\n" ++ (tricks_text b.play ++ claim_text b.claim)))))))))))))))

-- The settled form

-- "empty title and room absent"
abbrev pub present : Option (List ℕ) → Option (List ℕ)
present None = None
present (Some s) = pick (null s) None (Some s)

-- "an implied East beside three 13s replaced by the remainder"
unfoldable pub settled_deal : List ℕ → List ℕ
settled_deal d =
    pick (implied_east d)
    (hand_at d South ++ (hand_at d West ++ (hand_at d North ++ unheld_cards (hand_at d South) (hand_at d West) (hand_at d North))))
    d

-- "a bid loses trailing `!` and is alerted if it was or lost one"
unfoldable pub settled_call : CallOf (List ℕ) → CallOf (List ℕ)
settled_call c = record { bid = without_end 0x21 c.bid; alerted = c.alerted || ends_in 0x21 c.bid; annotation = c.annotation }

-- "first texts cleaned"
unfoldable pub cleaned : (p q : ℕ) → BoardOf (List ℕ) → BoardOf (List ℕ)
cleaned p q b =
    record {
      names = map (clean_name p q) b.names;
      dealt = b.dealt;
      vulnerability = b.vulnerability;
      title = map_option (clean p q) b.title;
      room = map_option (clean p q) b.room;
      header = map_option (clean p q) b.header;
      calls = map (map_call (clean p q)) b.calls;
      play = b.play;
      claim = b.claim;
    }

-- 01's term settled form: "first texts cleaned; then .."; "all else equal"
unfoldable pub settled : (p q : ℕ) → BoardOf (List ℕ) → BoardOf (List ℕ)
settled p q x =
    let b = cleaned p q x in
    record {
      names = b.names;
      dealt = record { dealer = b.dealt.dealer; deal = settled_deal b.dealt.deal };
      vulnerability = b.vulnerability;
      title = present b.title;
      room = present b.room;
      header = b.header;
      calls = map settled_call b.calls;
      play = b.play;
      claim = b.claim;
    }
