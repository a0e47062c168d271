-- A board that is lent as numbers: the board that they are, and whether a code is outside its range. (01: Records; Eight refusals, 8)
use Rattle.std.specs.Prelude.{ℕ, Bool, ◌&&◌, ◌||◌, List, [], ◌∷◌, eqb, ltb, Option, None, Some}
use Rattle.lin_spec.specs.Base.{pick}
use Rattle.lin_spec.specs.Records.{span}
use Rattle.lin_spec.specs.Letters.{seat_at}
use Rattle.lin_spec.specs.declared.Span.{Span}
use Rattle.lin_spec.specs.declared.Vulnerability.{Vulnerability}
use Rattle.lin_spec.specs.declared.Vulnerability.TheVariants.{NorthSouth, EastWest, Both}
use Rattle.lin_spec.specs.declared.Board.{Board}
use Rattle.lin_host_numbers.specs.declared.boards.LinText.{LinText}
use Rattle.lin_host_numbers.specs.declared.boards.LinBoard.{LinBoard}

-- The board. A code outside its range, with which the call is refused, counts as the last seat, as both sides, as a text that is there, or as no claim.

abbrev pub vulnerability_of : ℕ → Vulnerability
vulnerability_of n = pick (eqb n 0) Vulnerability.None (pick (eqb n 1) NorthSouth (pick (eqb n 2) EastWest Both))

-- a start and a length are a span
unfoldable pub word_spans : List ℕ → List Span
word_spans [] = []
word_spans (a ∷ []) = []
word_spans (a ∷ n ∷ ws) = span a n ∷ word_spans ws

-- the place of an absent text is not looked at
abbrev pub text_of : LinText → Option Span
text_of x = pick (eqb x.present 0) None (Some (span x.start x.len))

-- nor is an absent claim
abbrev pub coded_claim : (claimed claim : ℕ) → Option ℕ
coded_claim t n = pick (eqb t 0) None (pick (ltb 255 n) None (Some n))

unfoldable pub coded_board : LinBoard → Board
coded_board b =
    record {
      names = word_spans b.names;
      dealer = seat_at b.dealer;
      deal = record { counts = b.counts };
      vulnerability = vulnerability_of b.vulnerability;
      title = text_of b.title;
      room_board = text_of b.room_board;
      board_header = text_of b.board_header;
      claim = coded_claim b.claimed b.claim;
    }

-- 8: "number outside its range". Seats and vulnerability are 0 to 3, a flag is 0 or 1, and a claim that is made is "0 to 255".

abbrev pub bad_three : LinText → LinText → LinText → Bool
bad_three x y z = ltb 1 x.present || (ltb 1 y.present || ltb 1 z.present)

-- a number that may be absent: its flag, or the number where it is given
abbrev pub bad_given : (given number most : ℕ) → Bool
bad_given t n most = ltb 1 t || (eqb t 1 && ltb most n)

unfoldable pub bad_codes : LinBoard → Bool
bad_codes b =
    ltb 3 b.dealer
    || (ltb 3 b.vulnerability || (bad_three b.title b.room_board b.board_header || bad_given b.claimed b.claim 255))
