-- The auction of bridge. A call is judged by its history, the calls before it with the latest first. Nothing of LIN but the seats.
-- (02: N1, "Starting from the dealer, apply the Laws of Duplicate Bridge 2017")
use Rattle.std.specs.Prelude.{ℕ, suc, ◌+◌, ◌*◌, ◌-◌, ◌%◌, Bool, true, false, ◌&&◌, ◌||◌, not, List, [], ◌∷◌, eqb, ltb, leb, length}
use Rattle.lin_spec.specs.Base.{pick}
use Rattle.lin_spec.specs.Letters.{seat_number, seat_at}
use Rattle.lin_spec.specs.declared.Seat.{Seat}
use Rattle.bridge_auction.specs.declared.calls.Strain.{Strain}
use Rattle.bridge_auction.specs.declared.calls.Strain.TheVariants.{Clubs, Diamonds, Hearts, Spades, NoTrump}
use Rattle.bridge_auction.specs.declared.calls.AuctionCall.{AuctionCall}
use Rattle.bridge_auction.specs.declared.calls.AuctionCall.TheVariants.{Pass, Double, Redouble, Bid}
use Rattle.bridge_auction.specs.declared.calls.Doubling.{Doubling}
use Rattle.bridge_auction.specs.declared.calls.Doubling.TheVariants.{Undoubled, Doubled, Redoubled}
use Rattle.bridge_auction.specs.declared.calls.Contract.{Contract}
use Rattle.bridge_auction.specs.declared.calls.Auction.{Auction}
use Rattle.bridge_auction.specs.declared.calls.Auction.TheVariants.{PassedOut, Ended, Open, Unlawful}

-- Calls

-- "C, D, H, S, N": clubs rank lowest, no trump highest
abbrev pub strain_number : Strain → ℕ
strain_number Clubs = 0
strain_number Diamonds = 1
strain_number Hearts = 2
strain_number Spades = 3
strain_number NoTrump = 4

-- "passes apart"
abbrev pub is_pass : AuctionCall → Bool
is_pass Pass = true
is_pass Double = false
is_pass Redouble = false
is_pass (Bid l t) = false

-- "an opponent's bid"
abbrev pub is_bid : AuctionCall → Bool
is_bid Pass = false
is_bid Double = false
is_bid Redouble = false
is_bid (Bid l t) = true

-- "an opponent's double"
abbrev pub is_double : AuctionCall → Bool
is_double Pass = false
is_double Double = true
is_double Redouble = false
is_double (Bid l t) = false

-- "a level 1 to 7": a bid's; 0 of a call that is none
abbrev pub level_of : AuctionCall → ℕ
level_of Pass = 0
level_of Double = 0
level_of Redouble = 0
level_of (Bid l t) = l

-- "its strain": a bid's; clubs of a call that is none
abbrev pub strain_of : AuctionCall → Strain
strain_of Pass = Clubs
strain_of Double = Clubs
strain_of Redouble = Clubs
strain_of (Bid l t) = t

-- "to name its strain": the call is a bid that names the strain
unfoldable pub names : Strain → AuctionCall → Bool
names t Pass = false
names t Double = false
names t Redouble = false
names t (Bid l u) = eqb (strain_number u) (strain_number t)

-- "outrank": a bid's rank, for levels 1 to 7 from 1 of one club to 35 of seven no trump; 0 of a call that is none
unfoldable pub rank : AuctionCall → ℕ
rank Pass = 0
rank Double = 0
rank Redouble = 0
rank (Bid l t) = (l - 1) * 5 + strain_number t + 1

-- "doubling included": what the latest call that is no pass makes of the contract
abbrev pub doubling_of : AuctionCall → Doubling
doubling_of Pass = Undoubled
doubling_of Double = Doubled
doubling_of Redouble = Redoubled
doubling_of (Bid l t) = Undoubled

-- "doubling included", as a number
abbrev pub doubling_number : Doubling → ℕ
doubling_number Undoubled = 0
doubling_number Doubled = 1
doubling_number Redoubled = 2

-- The history

-- "the last one": the last bid; a pass where there is none
unfoldable pub last_bid : List AuctionCall → AuctionCall
last_bid [] = Pass
last_bid (c ∷ h) = pick (is_bid c) c (last_bid h)

-- "passes apart": the latest call that is no pass; a pass where there is none
unfoldable pub latest : List AuctionCall → AuctionCall
latest [] = Pass
latest (c ∷ h) = pick (is_pass c) (latest h) c

-- "running passes": the passes after the latest call that is no pass
unfoldable pub passes : List AuctionCall → ℕ
passes [] = 0
passes (c ∷ h) = pick (is_pass c) (suc (passes h)) 0

-- "an opponent's": the latest call that is no pass was made an odd number of calls ago, so that the passes after it are even
unfoldable pub opponents : List AuctionCall → Bool
opponents h = eqb (passes h % 2) 0

-- "once a bid is made"
unfoldable pub opened : List AuctionCall → Bool
opened h = is_bid (last_bid h)

-- "The auction ends at four opening passes, or three running passes once a bid is made.": without a bid the lawful calls are passes all
unfoldable pub ended : List AuctionCall → Bool
ended h = pick (opened h) (leb 3 (passes h)) (leb 4 (passes h))

-- "a bid must outrank the last one; passes apart, a double must follow an opponent's bid and a redouble an opponent's double"
unfoldable pub follows : List AuctionCall → AuctionCall → Bool
follows h Pass = true
follows h Double = is_bid (latest h) && opponents h
follows h Redouble = is_double (latest h) && opponents h
follows h (Bid l t) = ltb (rank (last_bid h)) (rank (Bid l t))

-- "a call after the end is unlawful"
unfoldable pub lawful : List AuctionCall → AuctionCall → Bool
lawful h c = not (ended h) && follows h c

-- The contract

-- A call's index is how many are before it: the dealer's is 0. The sides take turns, so an index is even or odd by its side.

-- "the last bidder": the index of the last bid
unfoldable pub last_bid_at : List AuctionCall → ℕ
last_bid_at [] = 0
last_bid_at (c ∷ h) = pick (is_bid c) (length h) (last_bid_at h)

-- "of the last bidder's side to name its strain": the call c after h is one of the side, and names the strain
unfoldable pub names_for : (side : ℕ) → Strain → List AuctionCall → AuctionCall → Bool
names_for side t h c = eqb (length h % 2) side && names t c

-- "to name its strain": the side has named the strain
unfoldable pub has_named : (side : ℕ) → Strain → List AuctionCall → Bool
has_named side t [] = false
has_named side t (c ∷ h) = has_named side t h || names_for side t h c

-- "the first": the index of the call by which it first did; where none did this is looked at by nothing
unfoldable pub first_named : (side : ℕ) → Strain → List AuctionCall → ℕ
first_named side t [] = 0
first_named side t (c ∷ h) = pick (has_named side t h) (first_named side t h) (length h)

-- "declarer, the first of the last bidder's side to name its strain": the index of the call that made the declarer
unfoldable pub declaring : List AuctionCall → ℕ
declaring h = first_named (last_bid_at h % 2) (strain_of (last_bid h)) h

-- "Starting from the dealer": the seat of the call of an index; the seats S, W, N, E are clockwise
unfoldable pub caller : (dealer : Seat) → ℕ → Seat
caller d i = seat_at ((seat_number d + i) % 4)

-- "declarer": the seat that made that call
unfoldable pub declarer : (dealer : Seat) → List AuctionCall → Seat
declarer d h = caller d (declaring h)

-- "the contract, doubling included, and declarer"
unfoldable pub contract : (dealer : Seat) → List AuctionCall → Contract
contract d h = record { level = level_of (last_bid h); strain = strain_of (last_bid h); doubling = doubling_of (latest h); declarer = declarer d h }

-- "lawful and ended, lawful and open", and "An ended auction with a bid also gives the contract"
unfoldable pub outcome : (dealer : Seat) → List AuctionCall → Auction
outcome d h = pick (ended h) (pick (opened h) (Ended (contract d h)) PassedOut) Open

-- "or the index of the first unlawful call": of the calls to come after the history
unfoldable pub auction_after : (dealer : Seat) (history calls : List AuctionCall) → Auction
auction_after d h [] = outcome d h
auction_after d h (c ∷ s) = pick (lawful h c) (auction_after d (c ∷ h) s) (Unlawful (length h))

-- "The result is lawful and ended, lawful and open, or the index of the first unlawful call": of all calls, the dealer's first
unfoldable pub auction : (dealer : Seat) (calls : List AuctionCall) → Auction
auction d s = auction_after d [] s
