-- The check of an auction as numbers: with a dealer in its range it is the entry's, with another it is refused by 1 or 8. (02: N1; 01: Eight refusals, 8)
-- Assumes nothing.
use Rattle.std.specs.Prelude.{Err}
use Prim.Native.Nat.{ℕ, ◌≤◌, ◌<◌}
use mathlib.Core.Path.{◌≡◌, ap}
use mathlib.Core.Bool.{true, false}
use mathlib.Core.List.{List}
use lib.Dec.{ltb}
use lib.ListN.{length}
use borrow.Author.Tests.{le-ltb, lt-ltb}
use Rattle.lin_spec.specs.Base.{pick}
use Rattle.lin_spec.specs.Records.{limit}
use Rattle.lin_spec.specs.Letters.{seat_at}
use Rattle.lin_spec.specs.Lent.{call_rows}
use Rattle.lin_spec.specs.declared.Call.{Call}
use Rattle.lin_spec.specs.declared.Seat.{Seat}
use Rattle.lin_spec.specs.declared.Refusal.TheVariants.{TextTooLong, OutOfRange}
use Rattle.auction.specs.Check.{check_auction}
use Rattle.lin_host_numbers.specs.Auctions.{auction_numbers}
use Rattle.lin_host.specs.Auctions.{check_numbers}
use Rattle.lin_host.proofs.WritingLaws.{second}

pub check_plain : (s : List ℕ) (d : ℕ) (ws : List ℕ) → d ≤ 3 → check_numbers s d ws ≡ auction_numbers (check_auction false s (seat_at d) (call_rows ws))
check_plain s d ws h = rw (le-ltb 3 d h)

-- no answer shows which seat such a dealer was taken for
pub dealer-refused : (s : List ℕ) (x : Seat) (cs : List Call) → check_auction true s x cs ≡ Err (pick (ltb limit (length s)) TextTooLong OutOfRange)
unfolding check_auction
dealer-refused s x cs = second (ltb limit (length s)) TextTooLong OutOfRange _ _

pub check_refused : (s : List ℕ) (d : ℕ) (ws : List ℕ) → 3 < d → check_numbers s d ws ≡ auction_numbers (Err (pick (ltb limit (length s)) TextTooLong OutOfRange))
check_refused s d ws h = rw (lt-ltb 3 d h) (ap auction_numbers (dealer-refused s (seat_at d) (call_rows ws)))
