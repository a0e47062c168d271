-- A bid's bytes as a call. (02: N1, "Read each bid, ignoring ASCII case, as p, d, r, or a level 1 to 7 with C, D, H, S, N or NT.")
use Rattle.bridge_auction.specs.declared.calls.Strain.{Strain}
use Rattle.std.specs.Prelude.{ℕ, suc, ◌-◌, Bool, ◌&&◌, ◌||◌, List, [], ◌∷◌, map, leb, Option, None, Some, is_some}
use Rattle.std.specs.Option.{unwrap_or}
use Prim.Native.Char.{code}
use Rattle.lin_spec.specs.Base.{pick, eq_list, ascii}
use Rattle.lin_spec.specs.White.{lower}
use Rattle.bridge_auction.specs.declared.calls.Strain.TheVariants.{Clubs, Diamonds, Hearts, Spades, NoTrump}
use Rattle.bridge_auction.specs.declared.calls.AuctionCall.{AuctionCall}
use Rattle.bridge_auction.specs.declared.calls.AuctionCall.TheVariants.{Pass, Double, Redouble, Bid}

-- "C, D, H, S, N or NT", in small letters
unfoldable pub strain_by : List ℕ → Option Strain
strain_by w =
    pick (eq_list w (ascii "c")) (Some Clubs)
    (pick (eq_list w (ascii "d")) (Some Diamonds)
    (pick (eq_list w (ascii "h")) (Some Hearts)
    (pick (eq_list w (ascii "s")) (Some Spades)
    (pick (eq_list w (ascii "n") || eq_list w (ascii "nt")) (Some NoTrump)
    None))))

-- "a level 1 to 7 with" a strain
unfoldable pub bid_by : (digit : ℕ) → Option Strain → Option AuctionCall
bid_by b (Some t) = pick (leb (code "1") b && leb b (code "7")) (Some (Bid (b - code "0") t)) None
bid_by b None = None

-- the digit of a level, and the rest as a strain
unfoldable pub level_and_strain : List ℕ → Option AuctionCall
level_and_strain [] = None
level_and_strain (b ∷ w) = bid_by b (strain_by w)

-- "as p, d, r, or a level 1 to 7 with" a strain
unfoldable pub read_lower : List ℕ → Option AuctionCall
read_lower w =
    pick (eq_list w (ascii "p")) (Some Pass)
    (pick (eq_list w (ascii "d")) (Some Double)
    (pick (eq_list w (ascii "r")) (Some Redouble)
    (level_and_strain w)))

-- "Read each bid, ignoring ASCII case"
unfoldable pub read_bid : List ℕ → Option AuctionCall
read_bid s = read_lower (map lower s)

-- the bid is of one of these forms
abbrev pub known : Option AuctionCall → Bool
known b = is_some b

-- "9, a bid is none of these forms, with the least such index": of bids of which the first has the index i
unfoldable pub unknown_from : (i : ℕ) → (bids : List (List ℕ)) → Option ℕ
unknown_from i [] = None
unknown_from i (s ∷ ss) = pick (known (read_bid s)) (unknown_from (suc i) ss) (Some i)

-- the calls of bids that are all of these forms; one that is not would be a pass
abbrev pub call_by : Option AuctionCall → AuctionCall
call_by b = unwrap_or b Pass

unfoldable pub calls_of : (bids : List (List ℕ)) → List AuctionCall
calls_of [] = []
calls_of (s ∷ ss) = call_by (read_bid s) ∷ calls_of ss
