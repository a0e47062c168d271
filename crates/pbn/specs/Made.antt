-- The board that is made of a record: its heading by the layout of its texts, and what is stored and answered. (01: From PBN)
use Rattle.lin_spec.specs.declared.Span.{Span}
use Rattle.std.specs.Prelude.{ℕ, ◌-◌, ◌/◌, ◌≤◌, ◌≡◌, false, List, [], ◌∷◌, ◌++◌, length, ltb, Option, None, Some}
use Rattle.lin_spec.specs.Base.{pick, any}
use Rattle.lin_spec.specs.Records.{limit, span}
use Rattle.lin_spec.specs.Refusals.{unless, too_small}
use Rattle.lin_spec.specs.Output.{room}
use Rattle.lin_spec.specs.Reading.{few_rows}
use Rattle.lin_spec.specs.Pbn.{Pbn, pbn_rows, bad_call, kept_cards, dealer_by, claim_from, from_board, board_texts, laid, Conversion, converted}
use Rattle.lin_spec.specs.declared.PbnBoard.{PbnBoard}
use Rattle.lin_spec.specs.declared.Heading.{Heading}
use Rattle.pbn_texts.specs.declared.layout.Layout.{Layout}
use Rattle.pbn_texts.specs.Calls.{kept_many}

-- a text without a byte is absent
abbrev pub text_between : (from to : ℕ) → Option Span
text_between a e = pick (ltb a e) (Some (span a (e - a))) None

-- the heading of a board with this layout, and with these numbers of calls and cards
unfoldable pub made_heading : PbnBoard → Layout → (calls cards : ℕ) → Heading
made_heading b at n k =
    record {
      board =
          record {
            names = at.names;
            dealer = dealer_by b.dealer b.number;
            deal = b.deal;
            vulnerability = b.vulnerability;
            title = text_between at.title at.room_board;
            room_board = text_between at.room_board at.header;
            board_header = text_between at.header at.calls;
            claim = claim_from b.result;
          };
      calls = n;
      cards = k;
    }

-- the checks before 7 are passed: the calls are sound, n of them and k cards are kept, and there are rows and places for all of these
pub record KeptCounted (s ws ps rows cards : List ℕ) (n k : ℕ) : Type 0 where
  pub short : length s ≤ limit
  pub sound : any bad_call (pbn_rows ws) ≡ false
  pub many : n ≡ kept_many (pbn_rows ws)
  pub kept : k ≡ length (kept_cards ps)
  pub rows_fit : n ≤ length rows / 6
  pub cards-fit : k ≤ length cards

-- what is stored and answered once the checks before 3 are passed
unfoldable pub fitted_record : (p q : ℕ) → Pbn → (o rows cards : List ℕ) → Conversion
fitted_record p q x o rows cards =
    let b = from_board p q x in
    let t = board_texts b in
    converted (unless (few_rows (laid b) rows cards ++ (too_small (room o) (length t) ∷ [])) (laid b)) t rows cards o
