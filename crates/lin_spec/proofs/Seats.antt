-- Laws of the seats' order: a seat's number and the seat of a number are there and back. (01: Records, "seats in LIN order S, W, N, E")
-- Assumes nothing.
use Prim.Native.Nat.{ℕ, zero, suc, ◌≤◌, ◌<◌}
use native.Mathlib.Omega.{arith}
use mathlib.Core.Path.{◌≡◌, refl}
use mathlib.Core.List.{[], ◌∷◌}
use lib.ListN.{get_or}
use Rattle.lin_spec.specs.Letters.{seat_number, seat_at}
use Rattle.lin_spec.specs.declared.Seat.{Seat}
use Rattle.lin_spec.specs.declared.Seat.TheVariants.{South, West, North, East}

-- the number of the seat of a number below 4 is that number
pub seat_number_lem : (n : ℕ) → n < 4 → seat_number (seat_at n) ≡ n
seat_number_lem zero h = refl
seat_number_lem (suc zero) h = refl
seat_number_lem (suc (suc zero)) h = refl
seat_number_lem (suc (suc (suc zero))) h = refl
seat_number_lem (suc (suc (suc (suc n)))) h = absurd (omega arith)

-- the seat of a seat's number is that seat
pub seat_back : (x : Seat) → seat_at (seat_number x) ≡ x
seat_back South = refl
seat_back West = refl
seat_back North = refl
seat_back East = refl

-- in the list of the seats in LIN order, the seat of each number stands at its place
pub seat_stands : (n : ℕ) (d : Seat) → n < 4 → get_or (South ∷ West ∷ North ∷ East ∷ []) n d ≡ seat_at n
seat_stands zero d h = refl
seat_stands (suc zero) d h = refl
seat_stands (suc (suc zero)) d h = refl
seat_stands (suc (suc (suc zero))) d h = refl
seat_stands (suc (suc (suc (suc n)))) d h = absurd (omega arith)

-- a number that no seat has gives the last seat
pub seat_past : (n : ℕ) → 4 ≤ n → East ≡ seat_at n
seat_past zero h = absurd (omega arith)
seat_past (suc zero) h = absurd (omega arith)
seat_past (suc (suc zero)) h = absurd (omega arith)
seat_past (suc (suc (suc n))) h = refl
