-- Seats and vulnerability as letters and numbers. (01: Records; Program linlist; `encode_sv` of the Rust)
use Rattle.std.specs.Prelude.{ℕ, zero, suc, ◌*◌, List}
use Prim.Native.Char.{code}
use Rattle.lin_spec.specs.Records.{part}
use Rattle.lin_spec.specs.Cards.{sum}
use Rattle.lin_spec.specs.declared.Seat.{Seat}
use Rattle.lin_spec.specs.declared.Seat.TheVariants.{South, West, North, East}
use Rattle.lin_spec.specs.declared.Vulnerability.{Vulnerability}
use Rattle.lin_spec.specs.declared.Vulnerability.TheVariants.{None, NorthSouth, EastWest, Both}

-- "seats in LIN order S, W, N, E"
abbrev pub seat_number : Seat → ℕ
seat_number South = 0
seat_number West = 1
seat_number North = 2
seat_number East = 3

-- the seat of a number in that order; a number that no seat has gives the last seat
abbrev pub seat_at : ℕ → Seat
seat_at zero = South
seat_at (suc zero) = West
seat_at (suc (suc zero)) = North
seat_at (suc (suc (suc n))) = East

-- "dealer letter"
abbrev pub seat_letter : Seat → ℕ
seat_letter South = code "S"
seat_letter West = code "W"
seat_letter North = code "N"
seat_letter East = code "E"

-- "written sv letter"
abbrev pub sv_letter : Vulnerability → ℕ
sv_letter None = code "0"
sv_letter NorthSouth = code "n"
sv_letter EastWest = code "e"
sv_letter Both = code "b"

-- a seat's hand in a deal, "A hand is 52 counts": "seat times 52 plus card"
abbrev pub hand_at : (deal : List ℕ) → Seat → List ℕ
hand_at d x = part d (seat_number x * 52) 52

-- "and the length is the sum"
abbrev pub hand_length : (deal : List ℕ) → Seat → ℕ
hand_length d x = sum (hand_at d x)
