-- Auctions with what they are, the dealer's call first. (02: N1, "Starting from the dealer, apply the Laws of Duplicate Bridge 2017")
-- Assumes nothing.
use Prim.Native.Nat.{ℕ}
use mathlib.Core.Path.{◌≡◌, refl}
use mathlib.Core.List.{List, [], ◌∷◌, map}
use Rattle.lin_spec.specs.declared.Seat.{Seat}
use Rattle.lin_spec.specs.declared.Seat.TheVariants.{South, West, North, East}
use Rattle.bridge_auction.specs.Auction.{names, rank, last_bid, latest, passes, opponents, opened, ended, follows, lawful, last_bid_at, names_for, has_named, first_named, declaring, caller, declarer, contract, outcome, auction_after, auction}
use Rattle.bridge_auction.specs.declared.calls.Strain.{Strain}
use Rattle.bridge_auction.specs.declared.calls.Strain.TheVariants.{Clubs, Diamonds, Hearts, Spades, NoTrump}
use Rattle.bridge_auction.specs.declared.calls.AuctionCall.{AuctionCall}
use Rattle.bridge_auction.specs.declared.calls.AuctionCall.TheVariants.{Pass, Double, Redouble, Bid}
use Rattle.bridge_auction.specs.declared.calls.Doubling.{Doubling}
use Rattle.bridge_auction.specs.declared.calls.Doubling.TheVariants.{Undoubled, Doubled, Redoubled}
use Rattle.bridge_auction.specs.declared.calls.Auction.{Auction}
use Rattle.bridge_auction.specs.declared.calls.Auction.TheVariants.{PassedOut, Ended, Open, Unlawful}

-- calls in short: a list of them ends in `end`
abbrev p : List AuctionCall → List AuctionCall
p s = Pass ∷ s

abbrev d : List AuctionCall → List AuctionCall
d s = Double ∷ s

abbrev r : List AuctionCall → List AuctionCall
r s = Redouble ∷ s

abbrev bid : ℕ → Strain → List AuctionCall → List AuctionCall
bid l t s = Bid l t ∷ s

abbrev end : List AuctionCall
end = []

-- a contract
abbrev made : ℕ → Strain → Doubling → Seat → Auction
made l t x s = Ended (record { level = l; strain = t; doubling = x; declarer = s })

pub record Case : Type 0 where
  pub dealer : Seat
  pub calls : List AuctionCall
  pub is : Auction

case : Seat → List AuctionCall → Auction → Case
case s c v = record { dealer = s; calls = c; is = v }

-- "The auction ends at four opening passes, or three running passes once a bid is made", "a call after the end is unlawful"
pub ends : List Case
ends =
    case South end Open
    ∷ case South (p (p (p end))) Open
    ∷ case South (p (p (p (p end)))) PassedOut
    ∷ case South (p (p (p (p (p end))))) (Unlawful 4)
    ∷ case South (p (p (p (p (bid 1 Clubs end))))) (Unlawful 4)
    ∷ case South (bid 1 Clubs (p (p end))) Open
    ∷ case South (p (p (p (bid 1 Clubs end)))) Open
    ∷ case South (p (p (p (bid 1 Clubs (p (p end)))))) Open
    ∷ case South (p (p (p (bid 1 Clubs (p (p (p end))))))) (made 1 Clubs Undoubled East)
    ∷ case South (bid 1 Clubs (p (p (p (p end))))) (Unlawful 4)
    ∷ case South (bid 1 Clubs (p (p (p (d end))))) (Unlawful 4)
    ∷ []

-- "a bid must outrank the last one"
pub ranks : List Case
ranks =
    case South (bid 1 NoTrump (bid 1 NoTrump end)) (Unlawful 1)
    ∷ case South (bid 1 Hearts (bid 1 Diamonds end)) (Unlawful 1)
    ∷ case South (bid 1 Hearts (p (bid 1 Hearts end))) (Unlawful 2)
    ∷ case South (bid 1 Hearts (bid 1 Spades end)) Open
    ∷ case South (bid 1 NoTrump (bid 2 Clubs (p (p (p end))))) (made 2 Clubs Undoubled West)
    ∷ case South (bid 7 NoTrump (bid 7 NoTrump end)) (Unlawful 1)
    ∷ []

-- "passes apart, a double must follow an opponent's bid and a redouble an opponent's double"
pub doubles : List Case
doubles =
    case South (d end) (Unlawful 0)
    ∷ case South (r end) (Unlawful 0)
    ∷ case South (p (d end)) (Unlawful 1)
    ∷ case South (p (r end)) (Unlawful 1)
    ∷ case South (bid 1 Clubs (d end)) Open
    ∷ case South (bid 1 Clubs (p (d end))) (Unlawful 2)
    ∷ case South (bid 1 Clubs (p (p (d end)))) Open
    ∷ case South (bid 1 Clubs (p (p (d (p (p (p end))))))) (made 1 Clubs Doubled South)
    ∷ case South (bid 1 Clubs (r end)) (Unlawful 1)
    ∷ case South (bid 1 Clubs (d (r end))) Open
    ∷ case South (bid 1 Clubs (d (p (r end)))) (Unlawful 3)
    ∷ case South (bid 1 Clubs (d (p (p (r end))))) Open
    ∷ case South (bid 1 Clubs (d (p (p (r (p (p (p end)))))))) (made 1 Clubs Redoubled South)
    ∷ case South (bid 1 Clubs (d (d end))) (Unlawful 2)
    ∷ case South (bid 1 Clubs (d (p (d end)))) (Unlawful 3)
    ∷ case South (bid 1 Clubs (d (r (d end)))) (Unlawful 3)
    ∷ case South (bid 1 Clubs (d (r (p (r end))))) (Unlawful 4)
    ∷ case South (bid 1 Clubs (d (bid 1 Hearts (p (p (p end)))))) (made 1 Hearts Undoubled North)
    ∷ case South (bid 1 Clubs (d (bid 1 Hearts (r end)))) (Unlawful 3)
    ∷ case South (bid 1 Clubs (d (bid 1 Hearts (d end)))) Open
    ∷ case South (bid 7 NoTrump (d (r (p (p (p end)))))) (made 7 NoTrump Redoubled South)
    ∷ []

-- "declarer, the first of the last bidder's side to name its strain", "Starting from the dealer"
pub declarers : List Case
declarers =
    case North (bid 1 Clubs (bid 2 Clubs (p (bid 3 Clubs (p (p (p end))))))) (made 3 Clubs Undoubled East)
    ∷ case South (bid 1 Clubs (bid 2 Clubs (p (bid 3 Clubs (p (p (p end))))))) (made 3 Clubs Undoubled West)
    ∷ case West (bid 1 Spades (p (bid 2 Spades (p (bid 4 Spades (p (p (p end)))))))) (made 4 Spades Undoubled West)
    ∷ case South (bid 1 Hearts (p (bid 1 Spades (p (bid 2 Hearts (p (bid 2 Spades (p (p (p end)))))))))) (made 2 Spades Undoubled North)
    ∷ case East (bid 1 Hearts (p (bid 1 Spades (p (bid 2 Hearts (p (bid 2 Spades (p (p (p end)))))))))) (made 2 Spades Undoubled West)
    ∷ case East (p (bid 1 Diamonds (p (bid 3 Diamonds (d (p (p (p end)))))))) (made 3 Diamonds Doubled South)
    ∷ []

abbrev Right : List Case → Type 0
Right cases = map (λ (k : Case). auction k.dealer k.calls) cases ≡ map (λ (k : Case). k.is) cases

-- each by computation
pub ends_right : Right ends
unfolding ends case names rank last_bid latest passes opponents opened ended follows lawful last_bid_at names_for has_named first_named declaring caller declarer contract outcome auction_after auction
ends_right = refl

pub ranks_right : Right ranks
unfolding ranks case names rank last_bid latest passes opponents opened ended follows lawful last_bid_at names_for has_named first_named declaring caller declarer contract outcome auction_after auction
ranks_right = refl

pub doubles_right : Right doubles
unfolding doubles case names rank last_bid latest passes opponents opened ended follows lawful last_bid_at names_for has_named first_named declaring caller declarer contract outcome auction_after auction
doubles_right = refl

pub declarers_right : Right declarers
unfolding declarers case names rank last_bid latest passes opponents opened ended follows lawful last_bid_at names_for has_named first_named declaring caller declarer contract outcome auction_after auction
declarers_right = refl
