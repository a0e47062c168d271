-- A board made from a PBN record. (01: From PBN, `from_board`)
use Rattle.std.specs.Prelude.{ℕ, ◌+◌, ◌%◌, Bool, false, ◌&&◌, ◌||◌, not, List, [], ◌∷◌, ◌++◌, map, length, get_or, eqb, ltb, leb, Option, None, Some, Err, Ok, ℤ}
use Rattle.std.proofs.Math.IntN.ℤ.{pos, negsuc}
use Rattle.lin_spec.specs.Base.{pick, any, keep, concat, ascii}
use Rattle.lin_spec.specs.Records.{span, bytes_at}
use Rattle.lin_spec.specs.Refusals.{Answer, refuse_if, unless, too_long, past_end, span_not_utf8, too_small}
use Rattle.lin_spec.specs.Output.{overlay, room}
use Rattle.lin_spec.specs.Decimal.{digit, decimal}
use Rattle.lin_spec.specs.Board.{CallOf, BoardOf, map_option}
use Rattle.lin_spec.specs.Reading.{heading_of, call_words, few_rows}
use Rattle.lin_spec.specs.Writer.{clean, clean_name, or_empty, present, pipe_mark, line_mark}
use Rattle.lin_spec.specs.Lent.{rows_of, span_in}
use Rattle.lin_spec.specs.Annotation.{note_spans, annotation_text}
use Rattle.lin_spec.specs.declared.Span.{Span}
use Rattle.lin_spec.specs.declared.Seat.{Seat}
use Rattle.lin_spec.specs.declared.Seat.TheVariants.{South, West, North, East}
use Rattle.lin_spec.specs.declared.PbnCall.{PbnCall}
use Rattle.lin_spec.specs.declared.PbnBoard.{PbnBoard}
use Rattle.lin_spec.specs.declared.Converted.{Converted}
use Rattle.lin_spec.specs.declared.Refusal.TheVariants.{OutOfRange}

-- "calls (pass, double, redouble, bid 1 to 7 with strain C D H S N, continue, blank) with raw annotation": six words to a row
abbrev pub pbn_row : (kind level strain annotated a n : ℕ) → PbnCall
pbn_row k l t u a n = record { kind = k; level = l; strain = t; annotated = u; annotation = span a n }

abbrev pub pbn_rows : (words : List ℕ) → List PbnCall
pbn_rows ws = rows_of pbn_row ws

-- "play entries, a card or a gap": a byte each
abbrev pub gap : ℕ
gap = 255

-- "Input"
pub record Pbn : Type 0 where
  pub text : List ℕ
  pub board : PbnBoard
  pub calls : List PbnCall
  pub plays : List ℕ
  pub notes : List ℕ

abbrev pub pbn : (text : List ℕ) → PbnBoard → (calls plays notes : List ℕ) → Pbn
pbn s b ws ps ns = record { text = s; board = b; calls = pbn_rows ws; plays = ps; notes = ns }

-- its names, in the order S, W, N, E
abbrev pub pbn_names : PbnBoard → List (Option Span)
pbn_names b = b.south ∷ b.west ∷ b.north ∷ b.east ∷ []

-- "A result outside 0 to 255 gives no claim"
abbrev pub claim_from : Option ℤ → Option ℕ
claim_from None = None
claim_from (Some (pos n)) = pick (leb n 255) (Some n) None
claim_from (Some (negsuc n)) = None

-- "`dealer_from_board_number` gives N, E, S, W for remainders 1, 2, 3, 0 by 4"
abbrev pub dealer_from : (remainder : ℕ) → Seat
dealer_from r = pick (eqb r 1) North (pick (eqb r 2) East (pick (eqb r 3) South West))

-- the dealer that is given, or that of the number, or North
abbrev pub dealer_by : Option Seat → Option ℕ → Seat
dealer_by (Some x) n = x
dealer_by None (Some n) = dealer_from (n % 4)
dealer_by None None = North

-- a bid's text, if the call is kept: "continue, blank .. are dropped"
abbrev pub bid_of : PbnCall → Option (List ℕ)
bid_of c =
    pick (eqb c.kind 0) (Some (ascii "p"))
    (pick (eqb c.kind 1) (Some (ascii "d"))
    (pick (eqb c.kind 2) (Some (ascii "r")) (pick (eqb c.kind 3) (Some (digit c.level ∷ get_or (ascii "CDHSN") c.strain 0 ∷ [])) None)))

abbrev pub raw_of : PbnCall → Option Span
raw_of c = pick (eqb c.annotated 0) None (Some c.annotation)

-- `Event - Date`, `Event`, or ` - Date`
abbrev pub title_of : (event date : Option (List ℕ)) → Option (List ℕ)
title_of e None = e
title_of None (Some d) = Some (ascii " - " ++ d)
title_of (Some e) (Some d) = Some (e ++ (ascii " - " ++ d))

-- the board id as written, or else the number
abbrev pub label_of : (id : Option (List ℕ)) → Option ℕ → Option (List ℕ)
label_of (Some s) n = Some s
label_of None (Some n) = Some (decimal n)
label_of None None = None

-- the text of a raw annotation, if there is one and it has words
abbrev pub annotation_by : (s notes : List ℕ) → Option Span → Option (List ℕ)
annotation_by s ws None = None
annotation_by s ws (Some x) = annotation_text s ws (bytes_at s x)

-- the bytes of a text, or none; an empty event, date or id acts as absent
abbrev pub text_by : (s : List ℕ) → Option Span → Option (List ℕ)
text_by s x = map_option (bytes_at s) x

abbrev pub filled_by : (s : List ℕ) → Option Span → Option (List ℕ)
filled_by s x = present (text_by s x)

-- "names .. and annotations are cleaned"
abbrev pub name_by : (p q : ℕ) (s : List ℕ) → Option Span → List ℕ
name_by p q s x = clean_name p q (or_empty (text_by s x))

module _ (p q : ℕ) (s notes : List ℕ) where
  abbrev pub kept_by : Option (List ℕ) → PbnCall → List (CallOf (List ℕ)) → List (CallOf (List ℕ))
  kept_by None c cs = cs
  kept_by (Some b) c cs = record { bid = b; alerted = false; annotation = map_option (clean p q) (annotation_by s notes (raw_of c)) } ∷ cs

  unfoldable pub kept_calls : List PbnCall → List (CallOf (List ℕ))
  kept_calls [] = []
  kept_calls (c ∷ cs) = kept_by (bid_of c) c (kept_calls cs)

-- "continue, blank and gaps are dropped"
abbrev pub kept_cards : List ℕ → List ℕ
kept_cards cs = keep (λ (c : ℕ). not (eqb c gap)) cs

-- `from_board`: "Title, label and dealer as in `from_board`; names, title, room-and-board, header and annotations are cleaned."
unfoldable pub from_board : (p q : ℕ) → Pbn → BoardOf (List ℕ)
from_board p q x =
    let b = x.board in
    let s = x.text in
    let label = label_of (filled_by s b.id) b.number in
    record {
      names = map (name_by p q s) (pbn_names b);
      dealt = record { dealer = dealer_by b.dealer b.number; deal = b.deal.counts };
      vulnerability = b.vulnerability;
      title = map_option (clean p q) (title_of (filled_by s b.event) (filled_by s b.date));
      room = map_option (λ l. clean p q (ascii "o" ++ (l ++ (ascii ",BOARD " ++ l)))) label;
      header = map_option (λ l. clean p q (ascii "Board " ++ l)) label;
      calls = kept_calls p q s x.notes x.calls;
      play = kept_cards x.plays;
      claim = claim_from b.result;
    }

-- "The texts made go into a lent output from its first byte, back to back: names S, W, N, E, title, room-and-board, header, then each kept call's bid and
-- annotation; the absent take no byte"

unfoldable pub call_texts : List (CallOf (List ℕ)) → List ℕ
call_texts [] = []
call_texts (c ∷ cs) = c.bid ++ (or_empty c.annotation ++ call_texts cs)

unfoldable pub board_texts : BoardOf (List ℕ) → List ℕ
board_texts b = concat b.names ++ (or_empty b.title ++ (or_empty b.room ++ (or_empty b.header ++ call_texts b.calls)))

-- each as a span of them: "and an empty name's span starts where its text would"
unfoldable pub laid_names : (at : ℕ) → List (List ℕ) → List Span
laid_names at [] = []
laid_names at (n ∷ ns) = span at (length n) ∷ laid_names (at + length n) ns

abbrev pub laid_option : (at : ℕ) → Option (List ℕ) → Option Span
laid_option at None = None
laid_option at (Some s) = Some (span at (length s))

unfoldable pub laid_calls : (at : ℕ) → List (CallOf (List ℕ)) → List (CallOf Span)
laid_calls at [] = []
laid_calls at (c ∷ cs) =
    let a = at + length c.bid in
    record { bid = span at (length c.bid); alerted = c.alerted; annotation = laid_option a c.annotation } ∷ laid_calls (a + length (or_empty c.annotation)) cs

unfoldable pub laid : BoardOf (List ℕ) → BoardOf Span
laid b =
    let title = length (concat b.names) in
    let room = title + length (or_empty b.title) in
    let header = room + length (or_empty b.room) in
    record {
      names = laid_names 0 b.names;
      dealt = b.dealt;
      vulnerability = b.vulnerability;
      title = laid_option title b.title;
      room = laid_option room b.room;
      header = laid_option header b.header;
      calls = laid_calls (header + length (or_empty b.header)) b.calls;
      play = b.play;
      claim = b.claim;
    }

-- The checks

-- 8: "card, level or number outside its range"
abbrev pub bad_entry : ℕ → Bool
bad_entry c = ltb 51 c && not (eqb c gap)

abbrev pub bad_call : PbnCall → Bool
bad_call c = ltb 5 c.kind || ((eqb c.kind 3 && (eqb c.level 0 || (ltb 7 c.level || ltb 4 c.strain))) || ltb 1 c.annotated)

abbrev pub bad_board_number : Option ℕ → Bool
bad_board_number None = false
bad_board_number (Some n) = eqb n 0 || ltb 65535 n

unfoldable pub bad_pbn : Pbn → Bool
bad_pbn x = bad_board_number x.board.number || (any bad_call x.calls || any bad_entry x.plays)

-- the spans of the whole input, unused notes and dropped calls too
abbrev pub raw_spans : List PbnCall → List Span
raw_spans cs = concat (map (λ (c : PbnCall). span_in (raw_of c)) cs)

abbrev pub name_spans : List (Option Span) → List Span
name_spans xs = concat (map (λ (x : Option Span). span_in x) xs)

unfoldable pub pbn_spans : Pbn → List Span
pbn_spans x =
    let b = x.board in
    name_spans (pbn_names b)
    ++ (span_in b.event ++ (span_in b.date ++ (span_in b.id ++ (raw_spans x.calls ++ note_spans x.notes))))

-- what `from_board` gives: the heading and how many bytes the texts have, or the refusal; and the rows, the cards and the output afterwards
pub record Conversion : Type 0 where
  pub answer : Answer Converted
  pub rows : List ℕ
  pub cards : List ℕ
  pub output : List ℕ

abbrev pub converted : Answer (BoardOf Span) → (texts rows cards o : List ℕ) → Conversion
converted (Err r) t rows cards o = record { answer = Err r; rows = rows; cards = cards; output = o }
converted (Ok b) t rows cards o =
    record {
      answer = Ok (record { heading = heading_of b; len = length t });
      rows = overlay rows 0 (call_words b.calls);
      cards = overlay cards 0 b.play;
      output = overlay o 0 t;
    }

-- "1, 8, 5, 6, 3, 7"; `other` says whether another number of the call is outside its range
unfoldable pub convert_board : (other : Bool) (p q : ℕ) → Pbn → (o rows cards : List ℕ) → Conversion
convert_board other p q x o rows cards =
    let b = from_board p q x in
    let t = board_texts b in
    converted
    (unless
    (too_long x.text
    ∷ refuse_if (other || bad_pbn x) OutOfRange
    ∷ past_end x.text (pbn_spans x)
    ∷ span_not_utf8 x.text (pbn_spans x)
    ∷ (few_rows (laid b) rows cards ++ (too_small (room o) (length t) ∷ [])))
    (laid b)) t rows cards o

-- "pipe to `/`, CR and LF each to a space"
abbrev pub convert : Pbn → (o rows cards : List ℕ) → Conversion
convert x o rows cards = convert_board false pipe_mark line_mark x o rows cards
