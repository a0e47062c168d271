-- What the definitions of the auction are shown to mean. (02: N1, "the first unlawful call", "the first of the last bidder's side")
use Rattle.std.specs.Prelude.{ℕ, suc, ◌%◌, ◌<◌, ◌≤◌, ◌≡◌, Bool, true, false, List, [], ◌∷◌, ◌++◌, reverse, eqb, length}
use Rattle.lin_spec.specs.Base.{pick}
use Rattle.lin_spec.specs.Letters.{seat_number}
use Rattle.lin_spec.specs.declared.Seat.{Seat}
use Rattle.bridge_auction.specs.Auction.{is_pass, is_bid, names, lawful, last_bid, last_bid_at, strain_of, caller, auction}
use Rattle.bridge_auction.specs.declared.calls.Strain.{Strain}
use Rattle.bridge_auction.specs.declared.calls.AuctionCall.{AuctionCall}
use Rattle.bridge_auction.specs.declared.calls.AuctionCall.TheVariants.{Pass, Double, Redouble, Bid}
use Rattle.bridge_auction.specs.declared.calls.Auction.TheVariants.{Unlawful}

-- "lawful": a history of which each call was lawful after those before it
pub data LawfulHistory : List AuctionCall → Type 0 where
  none : LawfulHistory []
  more : {h : List AuctionCall} {c : AuctionCall} → LawfulHistory h → lawful h c ≡ true → LawfulHistory (c ∷ h)

-- "the index of the first unlawful call": the calls before it are lawful one by one, and it is not
pub record FirstUnlawful (s : List AuctionCall) (i : ℕ) : Type 0 where
  pub before : List AuctionCall
  pub call : AuctionCall
  pub rest : List AuctionCall
  pub split : s ≡ reverse before ++ (call ∷ rest)
  pub index : length before ≡ i
  pub fine : LawfulHistory before
  pub bad : lawful before call ≡ false

-- "lawful and ended, lawful and open": the list of calls is not answered by an index
abbrev pub NoneUnlawful : (dealer : Seat) → List AuctionCall → Type 0
NoneUnlawful d s = (i : ℕ) → auction d s ≡ Unlawful i → ⊥

-- "a level 1 to 7"
abbrev pub Real : AuctionCall → Type 0
Real Pass = Unit
Real Double = Unit
Real Redouble = Unit
Real (Bid l t) = (1 ≤ l) × (l ≤ 7)

-- "doubling included": how many calls other than passes were made since the last bid
unfoldable pub since_bid : List AuctionCall → ℕ
since_bid [] = 0
since_bid (c ∷ h) = pick (is_bid c) 0 (pick (is_pass c) (since_bid h) (suc (since_bid h)))

-- "the index": the call of an index in a history
unfoldable pub made_at : ℕ → List AuctionCall → AuctionCall
made_at i [] = Pass
made_at i (c ∷ h) = pick (eqb i (length h)) c (made_at i h)

-- "the first of the .. side to name its strain": the call of index d names it for the side, and none of the side before it does
pub record FirstToName (side : ℕ) (t : Strain) (h : List AuctionCall) (d : ℕ) : Type 0 where
  pub inside : d < length h
  pub own : d % 2 ≡ side
  pub does : names t (made_at d h) ≡ true
  pub first : (i : ℕ) → i < d → i % 2 ≡ side → names t (made_at i h) ≡ false

-- "side": North and South are one, East and West the other
abbrev pub SameSide : Seat → Seat → Type 0
SameSide x y = seat_number x % 2 ≡ seat_number y % 2

-- "passes apart, .. must follow an opponent's": a call that passes the test was made by the other side than the call to come, and all calls
-- after it are passes
pub record FollowsOpponent (dealer : Seat) (test : AuctionCall → Bool) (h : List AuctionCall) : Type 0 where
  pub index : ℕ
  pub inside : index < length h
  pub does : test (made_at index h) ≡ true
  pub passed : (i : ℕ) → index < i → i < length h → is_pass (made_at i h) ≡ true
  pub other : SameSide (caller dealer index) (caller dealer (length h)) → ⊥

-- "declarer, the first of the last bidder's side to name its strain", by seats: x made a call that names the strain of the last bid, is of
-- the last bidder's side, and no call of that side before it names the strain
pub record Declares (dealer : Seat) (h : List AuctionCall) (x : Seat) : Type 0 where
  pub index : ℕ
  pub inside : index < length h
  pub own : caller dealer index ≡ x
  pub side : SameSide x (caller dealer (last_bid_at h))
  pub does : names (strain_of (last_bid h)) (made_at index h) ≡ true
  pub first : (i : ℕ) → i < index → SameSide (caller dealer i) (caller dealer (last_bid_at h)) → names (strain_of (last_bid h)) (made_at i h) ≡ false
