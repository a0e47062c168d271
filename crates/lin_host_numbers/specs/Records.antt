-- A PBN record that is lent as numbers: the record that they are, and whether a code is outside its range. (01: From PBN; Eight refusals, 8)
use Rattle.lin_spec.specs.declared.Seat.{Seat}
use Rattle.std.specs.Prelude.{ℕ, Bool, ◌||◌, ℤ, eqb, ltb, Option, None, Some}
use Rattle.lin_spec.specs.Base.{pick}
use Rattle.lin_spec.specs.Letters.{seat_at}
use Rattle.lin_spec.specs.declared.PbnBoard.{PbnBoard}
use Rattle.lin_host_numbers.specs.Codes.{vulnerability_of, text_of, bad_three, bad_given}
use Rattle.lin_host_numbers.specs.declared.records.LinPbn.{LinPbn}

-- The record. A code outside its range, with which the call is refused, counts as the last seat, as both sides, or as given.

abbrev pub board_number_of : (given number : ℕ) → Option ℕ
board_number_of t n = pick (eqb t 0) None (Some n)

abbrev pub coded_dealer : (given dealer : ℕ) → Option Seat
coded_dealer t n = pick (eqb t 0) None (Some (seat_at n))

abbrev pub result_of : (given : ℕ) (result : ℤ) → Option ℤ
result_of t n = pick (eqb t 0) None (Some n)

unfoldable pub record_of : LinPbn → PbnBoard
record_of b =
    record {
      south = text_of b.south;
      west = text_of b.west;
      north = text_of b.north;
      east = text_of b.east;
      event = text_of b.event;
      date = text_of b.date;
      id = text_of b.id;
      number = board_number_of b.number_given b.number;
      dealer = coded_dealer b.dealer_given b.dealer;
      deal = record { counts = b.counts };
      vulnerability = vulnerability_of b.vulnerability;
      result = result_of b.result_given b.result;
    }

-- 8: "number outside its range". A flag is 0 or 1, a dealer that is given and the vulnerability are 0 to 3. The entry looks at the board number that is given.

abbrev pub bad_names : LinPbn → Bool
bad_names b = ltb 1 b.south.present || bad_three b.west b.north b.east

unfoldable pub bad_record : LinPbn → Bool
bad_record b =
    bad_names b
    || (bad_three b.event b.date b.id
    || (bad_given b.dealer_given b.dealer 3 || (ltb 3 b.vulnerability || (ltb 1 b.number_given || ltb 1 b.result_given))))
