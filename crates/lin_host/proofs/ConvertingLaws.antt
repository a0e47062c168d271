-- A PBN record lent as numbers: what the export computes, and what a code outside its range leaves of a call. (01: From PBN; Eight refusals, 8)
-- Assumes nothing.
use Rattle.std.specs.Prelude.{Err}
use Prim.Native.Nat.{ℕ}
use mathlib.Core.Path.{◌≡◌, ap}
use mathlib.Core.Bool.{true, false}
use mathlib.Core.List.{List}
use lib.ListN.{length}
use lib.Dec.{ltb}
use Rattle.lin_spec.specs.Base.{pick}
use Rattle.lin_spec.specs.Records.{limit}
use Rattle.lin_spec.specs.Refusals.{Answer}
use Rattle.lin_spec.specs.Board.{BoardOf}
use Rattle.lin_spec.specs.Pbn.{Pbn, pbn, from_board, board_texts, Conversion, converted, convert_board, convert}
use Rattle.lin_spec.specs.declared.Span.{Span}
use Rattle.lin_spec.specs.declared.Refusal.TheVariants.{TextTooLong, OutOfRange}
use Rattle.lin_host_numbers.specs.Records.{record_of, bad_record}
use Rattle.lin_host.specs.Converting.{conversion_numbers, from_board_numbers}
use Rattle.lin_host_numbers.specs.declared.records.LinPbn.{LinPbn}
use Rattle.lin_host.proofs.WritingLaws.{second}

-- with codes in their ranges the export is the entry
pub converting_plain : (s : List ℕ) (b : LinPbn) (ws ps ns o rows cards : List ℕ) → bad_record b ≡ false
    → from_board_numbers s b ws ps ns o rows cards ≡ conversion_numbers (convert (pbn s (record_of b) ws ps ns) o rows cards)
converting_plain s b ws ps ns o rows cards e = rw e

-- a call with a code outside its range is refused by 1 or 8, whatever else it is lent: no answer shows what record_of makes of such a code
pub converting_refused : (p q : ℕ) (x : Pbn) (o rows cards : List ℕ)
    → convert_board true p q x o rows cards
    ≡ record { answer = Err (pick (ltb limit (length x.text)) TextTooLong OutOfRange); rows = rows; cards = cards; output = o }
unfolding convert_board
converting_refused p q x o rows cards =
    ap after (second (ltb limit (length x.text)) TextTooLong OutOfRange _ _)
  where
    after : Answer (BoardOf Span) → Conversion
    after a = converted a (board_texts (from_board p q x)) rows cards o
