-- The state that follows an auction call by call, and what ties it to the history. (02: N1, "Starting from the dealer")
use Rattle.std.specs.Prelude.{ℕ, suc, ◌+◌, ◌*◌, ◌%◌, ◌<◌, ◌≡◌, List, eqb, ltb, length, get_or, set}
use Rattle.lin_spec.specs.Base.{pick}
use Rattle.lin_spec.specs.declared.Seat.{Seat}
use Rattle.bridge_auction.specs.Auction.{strain_number, last_bid, latest, passes, last_bid_at, has_named, first_named, auction_after, auction}
use Rattle.bridge_auction.specs.declared.calls.Strain.{Strain}
use Rattle.bridge_auction.specs.declared.calls.AuctionCall.{AuctionCall}
use Rattle.bridge_auction.specs.declared.state.AuctionState.{AuctionState}

-- the place of a side's strain in the state's table of ten
unfoldable pub slot : (side : ℕ) → Strain → ℕ
slot side t = side * 5 + strain_number t

-- what stands there: one more than the seat that first named the strain for the side; 0 where none has
unfoldable pub name_of : (side : ℕ) → Strain → List AuctionCall → ℕ
name_of side t h = pick (has_named side t h) (suc (first_named side t h % 4)) 0

-- the seat is put at k, where none stands yet
unfoldable pub mark : List ℕ → (k seat : ℕ) → List ℕ
mark n k seat = pick (eqb (get_or n k 0) 0) (set n k (seat % 4 + 1)) n

-- the state after a pass; the passes are counted up to 255
unfoldable pub state_with_pass : AuctionState → AuctionState
state_with_pass m = record { seat = (m.seat % 4 + 1) % 4; passes = pick (ltb m.passes 255) (m.passes + 1) 255; last = m.last; latest = m.latest; side = m.side; named = m.named }

-- the state after a double or a redouble
unfoldable pub state_with_double : AuctionState → AuctionCall → AuctionState
state_with_double m c = record { seat = (m.seat % 4 + 1) % 4; passes = 0; last = m.last; latest = c; side = m.side; named = m.named }

-- the state after a bid of the strain
unfoldable pub state_with_bid : AuctionState → AuctionCall → Strain → AuctionState
state_with_bid m c t = record { seat = (m.seat % 4 + 1) % 4; passes = 0; last = c; latest = c; side = m.seat % 2; named = mark m.named (slot (m.seat % 2) t) m.seat }

-- the invariant: the state is what its history makes it
pub record Ties (m : AuctionState) (h : List AuctionCall) : Type 0 where
  pub turn : m.seat ≡ length h % 4
  pub quiet : m.passes ≡ passes h
  pub bid : m.last ≡ last_bid h
  pub call : m.latest ≡ latest h
  pub side : m.side ≡ last_bid_at h % 2
  pub long : length m.named ≡ 10
  pub table : (side : ℕ) (t : Strain) → side < 2 → get_or m.named (slot side t) 0 ≡ name_of side t h

-- a state that has followed the first n calls: it is tied to a history of n calls, after which `rest` is to come
pub record Followed (d : Seat) (calls rest : List AuctionCall) (m : AuctionState) (n : ℕ) : Type 0 where
  pub history : List AuctionCall
  pub ties : Ties m history
  pub long : length history ≡ n
  pub rest-is : auction_after d history rest ≡ auction d calls
