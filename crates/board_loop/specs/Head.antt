-- The board of a run of tokens; a heading while it is read: what a token gives to each of its fields. (01: Board)
use Rattle.std.specs.Prelude.{ℕ, ◌+◌, ◌≡◌, List, [], ◌∷◌, eqb, Option, None, Some}
use Rattle.lin_spec.specs.Base.{pick, ascii}
use Rattle.lin_spec.specs.Records.{span, bytes_at}
use Rattle.lin_spec.specs.White.{trim}
use Rattle.lin_spec.specs.Tokens.{cut, TokenOf}
use Rattle.lin_spec.specs.Cards.{read_card}
use Rattle.lin_spec.specs.Board.{BoardOf, board_from, named, read_sv, number_in, over, on, on_names, on_vulnerability, on_title, on_room, on_header, on_claim}
use Rattle.lin_spec.specs.Reading.{span_text, stream}
use Rattle.lin_spec.specs.declared.Span.{Span}
use Rattle.lin_spec.specs.declared.Vulnerability.{Vulnerability}
use Rattle.document_commands.specs.Commands.{pc_no, mb_no, md_no, pn_no, qx_no, mn_no, sv_no, ah_no, mc_no}
use Rattle.board_fields.specs.Fields.{last_md, more}
use Rattle.board_loop.specs.declared.heading.ReadHead.{ReadHead}

-- the board that the tokens of a text from a place on give
abbrev pub board_at : (s : List ℕ) (at : ℕ) → BoardOf Span
board_at s at = board_from (span_text s) (stream s at)

-- before the first token
abbrev pub fresh_head : ReadHead
fresh_head =
    record {
      names = span 0 0 ∷ span 0 0 ∷ span 0 0 ∷ span 0 0 ∷ [];
      md = None;
      vulnerability = Vulnerability.None;
      title = None;
      room = None;
      header = None;
      claim = None;
      calls = 0;
      cards = 0;
    }

-- r is h after a token whose command has the number k and whose value is v
pub record Stepped (s : List ℕ) (h : ReadHead) (k : ℕ) (v : Span) (r : ReadHead) : Type 0 where
  pub names : r.names ≡ pick (eqb k pn_no) (named (span_text s) v 0 (cut 0x2C (bytes_at s v)) h.names) h.names
  pub md : r.md ≡ pick (eqb k md_no) (last_md s v h.md) h.md
  pub vulnerability : r.vulnerability ≡ pick (eqb k sv_no) (read_sv (trim (bytes_at s v))) h.vulnerability
  pub title : r.title ≡ pick (eqb k mn_no) (pick (eqb v.len 0) None (Some v)) h.title
  pub room : r.room ≡ pick (eqb k qx_no) (pick (eqb v.len 0) None (Some v)) h.room
  pub header : r.header ≡ pick (eqb k ah_no) (Some v) h.header
  pub claim : r.claim ≡ pick (eqb k mc_no) (number_in 255 (trim (bytes_at s v))) h.claim
  pub calls : r.calls ≡ pick (eqb k mb_no) (h.calls + 1) h.calls
  pub cards : r.cards ≡ pick (eqb k pc_no) (more (read_card (trim (bytes_at s v))) h.cards) h.cards

-- What each field is after all tokens: those of a board, with the value of the last md that is accepted for dealer and deal, and counts for rows.

abbrev pub on_last : (s : List ℕ) → List ℕ → Span → Option Span → Option Span
on_last s c v b = on c (ascii "md") (last_md s v b) b

abbrev pub on_count : List ℕ → Span → ℕ → ℕ
on_count c v n = on c (ascii "mb") (n + 1) n

abbrev pub on_card : (s : List ℕ) → List ℕ → Span → ℕ → ℕ
on_card s c v n = on c (ascii "pc") (more (read_card (trim (bytes_at s v))) n) n

-- in every field the tokens us leave of h what the tokens ts leave of h₀
pub record Leaves (s : List ℕ) (ts : List (TokenOf Span)) (h h₀ : ReadHead) (us : List (TokenOf Span)) : Type 0 where
  pub names : over (on_names (span_text s)) h.names us ≡ over (on_names (span_text s)) h₀.names ts
  pub md : over (on_last s) h.md us ≡ over (on_last s) h₀.md ts
  pub vulnerability : over (on_vulnerability (span_text s)) h.vulnerability us ≡ over (on_vulnerability (span_text s)) h₀.vulnerability ts
  pub title : over (on_title (span_text s)) h.title us ≡ over (on_title (span_text s)) h₀.title ts
  pub room : over (on_room (span_text s)) h.room us ≡ over (on_room (span_text s)) h₀.room ts
  pub header : over (on_header (span_text s)) h.header us ≡ over (on_header (span_text s)) h₀.header ts
  pub claim : over (on_claim (span_text s)) h.claim us ≡ over (on_claim (span_text s)) h₀.claim ts
  pub calls : over on_count h.calls us ≡ over on_count h₀.calls ts
  pub cards : over (on_card s) h.cards us ≡ over (on_card s) h₀.cards ts
