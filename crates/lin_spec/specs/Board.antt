-- A board, and what each command gives to it. (01: Records; Board)
use Rattle.std.specs.Prelude.{ℕ, ◌+◌, ◌-◌, ◌*◌, Bool, false, ◌&&◌, ◌||◌, not, List, [], ◌∷◌, ◌++◌, map, length, replicate, eqb, leb, Option, Some, None}
use Rattle.lin_spec.specs.Base.{pick, All, all, null, ascii}
use Rattle.lin_spec.specs.White.{trim, same_word, is_command}
use Rattle.lin_spec.specs.Tokens.{Pieces, cut, TokenOf}
use Rattle.lin_spec.specs.Tokens.Pieces.{end, piece}
use Rattle.lin_spec.specs.Tokens.TokenOf.{token}
use Rattle.lin_spec.specs.Cards.{deal_of, read_card}
use Rattle.lin_spec.specs.declared.Seat.{Seat}
use Rattle.lin_spec.specs.declared.Seat.TheVariants.{South, West, North, East}
use Rattle.lin_spec.specs.declared.Vulnerability.{Vulnerability}
use Rattle.lin_spec.specs.declared.Vulnerability.TheVariants.{NorthSouth, EastWest, Both}

-- "bid span, alerted or not, annotation span or absent"; A is the type of its texts: spans, or their bytes
pub record CallOf (A : Type 0) : Type 0 where
  pub bid : A
  pub alerted : Bool
  pub annotation : Option A

-- "dealer; deal"
pub record Dealt : Type 0 where
  pub dealer : Seat
  pub deal : List ℕ

-- "A board (Rust `LinData`)"; the names in the order S, W, N, E
pub record BoardOf (A : Type 0) : Type 0 where
  pub names : List A
  pub dealt : Dealt
  pub vulnerability : Vulnerability
  pub title : Option A
  pub room : Option A
  pub header : Option A
  pub calls : List (CallOf A)
  pub play : List ℕ
  pub claim : Option ℕ

-- What a reader asks of a text: its bytes, a part of it by place and length, and the empty text that starts a board.
pub record Text (A : Type 0) : Type 0 where
  pub bytes : A → List ℕ
  pub within : A → (place len : ℕ) → A
  pub nil : A

-- pn: "split at commas; the first four pieces replace the names from South on, further seats keep theirs"
unfoldable pub named : {A : Type 0} → Text A → A → (place : ℕ) → Pieces → List A → List A
named T v k p [] = []
named T v k (end x) (n ∷ ns) = T.within v k (length x) ∷ ns
named T v k (piece x r) (n ∷ ns) = T.within v k (length x) ∷ named T v (k + (length x + 1)) r ns

-- "first character 1 2 3 4 is dealer S W N E"
unfoldable pub dealer_of : ℕ → Option Seat
dealer_of b =
    pick (eqb b 0x31) (Some South)
    (pick (eqb b 0x32) (Some West) (pick (eqb b 0x33) (Some North) (pick (eqb b 0x34) (Some East) None)))

-- "otherwise the token is skipped. The rest splits at commas into hands"
abbrev pub dealt_by : Option Seat → (rest : List ℕ) → Dealt → Dealt
dealt_by None s d = d
dealt_by (Some x) s d = record { dealer = x; deal = deal_of (cut 0x2C s) }

unfoldable pub read_md : List ℕ → Dealt → Dealt
read_md [] d = d
read_md (b ∷ s) d = dealt_by (dealer_of b) s d

-- sv: "n, ns; e, ew; b, both, all; anything else is none vulnerable"
unfoldable pub read_sv : List ℕ → Vulnerability
read_sv s =
    pick (same_word s (ascii "n") || same_word s (ascii "ns")) NorthSouth
    (pick (same_word s (ascii "e") || same_word s (ascii "ew")) EastWest
    (pick (same_word s (ascii "b") || (same_word s (ascii "both") || same_word s (ascii "all"))) Both Vulnerability.None))

-- mn, qx: "the value; empty makes it absent"
abbrev pub non_empty : {A : Type 0} → Text A → A → Option A
non_empty T v = pick (null (T.bytes v)) None (Some v)

-- "ends in `!`"
unfoldable pub ends_in : (c : ℕ) → List ℕ → Bool
ends_in c [] = false
ends_in c (b ∷ []) = eqb b c
ends_in c (b ∷ d ∷ s) = ends_in c (d ∷ s)

abbrev pub only : (c : ℕ) → List ℕ → Bool
only c s = all (λ (b : ℕ). eqb b c) s

-- "all trailing `!` removed, nothing trimmed"
unfoldable pub without_end : (c : ℕ) → List ℕ → List ℕ
without_end c [] = []
without_end c (b ∷ s) = pick (only c (b ∷ s)) [] (b ∷ without_end c s)

-- mb: "alerted if it ends in `!`; all trailing `!` removed"
abbrev pub call_of : {A : Type 0} → Text A → A → CallOf A
call_of T v =
    record {
      bid = T.within v 0 (length (without_end 0x21 (T.bytes v)));
      alerted = ends_in 0x21 (T.bytes v);
      annotation = None;
    }

-- an: "annotation of the last call; ignored before the first"
unfoldable pub annotated : {A : Type 0} → A → List (CallOf A) → List (CallOf A)
annotated v [] = []
annotated v (c ∷ []) = record { bid = c.bid; alerted = c.alerted; annotation = Some v } ∷ []
annotated v (c ∷ d ∷ cs) = c ∷ annotated v (d ∷ cs)

-- pc: "exactly a suit and a rank, else skipped"
abbrev pub played : Option ℕ → List ℕ → List ℕ
played None cs = cs
played (Some c) cs = cs ++ (c ∷ [])

-- mc: "an optional `+`, then one or more digits, value at most 255"; the bound is a parameter
abbrev pub is_digit : ℕ → Bool
is_digit b = leb 0x30 b && leb b 0x39

abbrev pub all_digits : List ℕ → Bool
all_digits s = all is_digit s

-- the number that digits give, after those that give n
unfoldable pub value_from : (n : ℕ) → List ℕ → ℕ
value_from n [] = n
value_from n (b ∷ s) = value_from (n * 10 + (b - 0x30)) s

abbrev pub after_plus : List ℕ → List ℕ
after_plus [] = []
after_plus (b ∷ s) = pick (eqb b 0x2B) s (b ∷ s)

unfoldable pub number_in : (bound : ℕ) → List ℕ → Option ℕ
number_in bound s =
    let t = after_plus s in
    pick (not (null t) && (all_digits t && leb (value_from 0 t) bound)) (Some (value_from 0 t)) None

-- "Per token, in order": f with each token's command and value
unfoldable pub over : {A B : Type 0} → (List ℕ → A → B → B) → B → List (TokenOf A) → B
over f b [] = b
over f b (token c v ∷ ts) = over f (f c v b) ts

-- the change x, if the command is w; else b as it was
abbrev pub on : {B : Type 0} → (command w : List ℕ) → (x b : B) → B
on c w x b = pick (is_command c w) x b

-- "Start: empty names (start 0, length 0), dealer North, empty deal, none vulnerable, the rest absent or empty."
unfoldable pub undealt : Dealt
undealt = record { dealer = North; deal = replicate 208 0 }

-- what each command gives, in 01's order
module _ {A : Type 0} (T : Text A) where
  abbrev pub on_names : List ℕ → A → List A → List A
  on_names c v b = on c (ascii "pn") (named T v 0 (cut 0x2C (T.bytes v)) b) b

  abbrev pub on_dealt : List ℕ → A → Dealt → Dealt
  on_dealt c v b = on c (ascii "md") (read_md (trim (T.bytes v)) b) b

  abbrev pub on_vulnerability : List ℕ → A → Vulnerability → Vulnerability
  on_vulnerability c v b = on c (ascii "sv") (read_sv (trim (T.bytes v))) b

  abbrev pub on_title : List ℕ → A → Option A → Option A
  on_title c v b = on c (ascii "mn") (non_empty T v) b

  abbrev pub on_room : List ℕ → A → Option A → Option A
  on_room c v b = on c (ascii "qx") (non_empty T v) b

  abbrev pub on_header : List ℕ → A → Option A → Option A
  on_header c v b = on c (ascii "ah") (Some v) b

  abbrev pub on_calls : List ℕ → A → List (CallOf A) → List (CallOf A)
  on_calls c v b = on c (ascii "mb") (b ++ (call_of T v ∷ [])) (on c (ascii "an") (annotated v b) b)

  abbrev pub on_play : List ℕ → A → List ℕ → List ℕ
  on_play c v b = on c (ascii "pc") (played (read_card (trim (T.bytes v))) b) b

  abbrev pub on_claim : List ℕ → A → Option ℕ → Option ℕ
  on_claim c v b = on c (ascii "mc") (number_in 255 (trim (T.bytes v))) b

  -- `from_tokens`
  unfoldable pub board_from : List (TokenOf A) → BoardOf A
  board_from ts =
      record {
        names = over on_names (replicate 4 T.nil) ts;
        dealt = over on_dealt undealt ts;
        vulnerability = over on_vulnerability Vulnerability.None ts;
        title = over on_title None ts;
        room = over on_room None ts;
        header = over on_header None ts;
        calls = over on_calls [] ts;
        play = over on_play [] ts;
        claim = over on_claim None ts;
      }

-- A board with each of its texts changed by f

abbrev pub map_option : {A B : Type 0} → (A → B) → Option A → Option B
map_option f None = None
map_option f (Some a) = Some (f a)

abbrev pub map_call : {A B : Type 0} → (A → B) → CallOf A → CallOf B
map_call f c = record { bid = f c.bid; alerted = c.alerted; annotation = map_option f c.annotation }

unfoldable pub map_board : {A B : Type 0} → (A → B) → BoardOf A → BoardOf B
map_board f b =
    record {
      names = map f b.names;
      dealt = b.dealt;
      vulnerability = b.vulnerability;
      title = map_option f b.title;
      room = map_option f b.room;
      header = map_option f b.header;
      calls = map (map_call f) b.calls;
      play = b.play;
      claim = b.claim;
    }

-- P holds of each of its texts
abbrev pub Present : {A : Type 0} → (A → Type 0) → Option A → Type 0
Present P None = Unit
Present P (Some a) = P a

pub record EachText {A : Type 0} (P : A → Type 0) (b : BoardOf A) : Type 0 where
  pub names : All P b.names
  pub title : Present P b.title
  pub room : Present P b.room
  pub header : Present P b.header
  pub calls : All (λ (c : CallOf A). P c.bid × Present P c.annotation) b.calls
