-- The round trip of any list of boards: the file reader finds, in their written forms back to back, their settled forms. (01: Writer and settled form;
-- File)
-- Assumes nothing.
use Rattle.std.specs.Prelude.{Option, None, Some}
use Prim.Native.Nat.{ℕ, ◌+◌, ◌-◌, ◌<◌}
use native.Mathlib.Omega.{arith}
use mathlib.Core.Path.{◌≡◌, refl, ap, sym, ◌∙◌}
use mathlib.Core.Bool.{Bool, true, false, ◌||◌}
use mathlib.Core.List.{List, [], ◌∷◌, ◌++◌, map, append-nil}
use lib.ListN.{length, take, drop, length-append}
use lib.Seq.{take-append_seam}
use lib.Dec.{ltb}
use borrow.Author.Tests.{lt-ltb}
use Rattle.lin_spec.specs.Base.{pick, All, any, starts, concat, ascii, eq_all, keep}
use Rattle.lin_spec.specs.Records.{span, end_of, part, bytes_at}
use Rattle.lin_spec.specs.Utf8.{encode}
use Rattle.lin_spec.specs.White.{is_command, same_word, lower, trim, trim_end, trim_start, skip_white, blank, white_at, front, white_space}
use Rattle.lin_spec.specs.Tokens.{pipe, cut, count, Token, TokenOf, tokens, paired, write, NoPipes}
use Rattle.lin_spec.specs.Tokens.TokenOf.{token}
use Rattle.lin_spec.specs.Board.{BoardOf, board_from}
use Rattle.lin_spec.specs.Reading.{bytes_text, placed, stream, parse_lin}
use Rattle.lin_spec.specs.File.{Section, section, holds, leads, part_at, parts_from, lines_from, sections, boards_of, parse_lin_file}
use Rattle.lin_spec.specs.Writer.{clean, or_empty, md_text, written, settled}
use Rattle.lin_spec.specs.declared.Span.{Span}
use Rattle.lin_spec.proofs.Tokens.{cut-piece, joined-cut, tokens-write}
use Rattle.lin_spec.proofs.Cursor.{after-piece}
use Rattle.lin_spec.proofs.Reading.{map_token, placed-from}
use Rattle.lin_spec.proofs.File.{drop-take}
use Rattle.lin_spec.proofs.Clean.{Fit}
use Rattle.lin_spec.proofs.BoardTokens.{header_tokens, names_text, body_tokens, board_tokens, write-after, written_after, CommandOf, body_commands}
use Rattle.lin_spec.proofs.Sound.{Valid, no_pipes}
use Rattle.lin_spec.proofs.Fields.{first-command, board-read}

-- Tokens by their places

-- the place after tokens that begin at a place
unfoldable pub stop : (at : ℕ) → List Token → ℕ
stop at [] = at
stop at (token c v ∷ ts) = stop (end_of (span (at + (length c + 1)) (length v)) + 1) ts

stop-length : (at : ℕ) (ts : List Token) → stop at ts ≡ at + length (write ts [])
unfolding stop write
stop-length at [] = omega arith
stop-length at (token c v ∷ ts) =
    let n = stop-length (at + (length c + 1) + length v + 1) ts in
    let l = length-append c (pipe ∷ (v ++ pipe ∷ write ts [])) in
    let m = length-append v (pipe ∷ write ts []) in
    omega arith

-- the tokens from a place on, where the text goes on with a token
module _ (s : List ℕ) (at : ℕ) (c v rest : List ℕ) (e : drop at s ≡ c ++ pipe ∷ (v ++ pipe ∷ rest)) where
  abbrev next : ℕ
  next = end_of (span (at + (length c + 1)) (length v)) + 1

  value-next : drop (at + (length c + 1)) s ≡ v ++ pipe ∷ rest
  value-next = after-piece pipe s at c (v ++ pipe ∷ rest) e

  next-rest : drop next s ≡ rest
  next-rest =
      let q : next ≡ at + (length c + 1) + (length v + 1) = omega arith in
      ap (λ (i : ℕ). drop i s) q ∙ after-piece pipe s (at + (length c + 1)) v rest value-next

  stream-token : count pipe c ≡ 0 → count pipe v ≡ 0 → stream s at ≡ token c (span (at + (length c + 1)) (length v)) ∷ stream s next
  unfolding stream placed
  stream-token h k =
      let q : at + (length c + 1) + (length v + 1) ≡ next = omega arith in
      simp (e, cut-piece pipe c (v ++ pipe ∷ rest) h, cut-piece pipe v rest k, next-rest) (ap (λ (i : ℕ). token c (span (at + (length c + 1)) (length v)) ∷ placed i (cut pipe rest)) q)

-- what is written stands between its places
part-written : (s : List ℕ) (a : ℕ) (ts : List Token) (y : List ℕ) → drop a s ≡ write ts y → part s a (stop a ts - a) ≡ write ts []
unfolding part
part-written s a ts y e =
    let l = stop-length a ts in
    let q : stop a ts - a ≡ length (write ts []) = omega arith in
    ap (λ (n : ℕ). take n (drop a s)) q ∙ ap (take (length (write ts []))) (e ∙ sym (write-after ts [] y)) ∙ take-append_seam (write ts []) y

-- Parts

-- neither qx, mn nor pn
abbrev Body : List ℕ → Type 0
Body c = (is_command c (ascii "qx") ≡ false) × (leads c ≡ false)

-- a run of such tokens goes to the part that has begun
record Walked (s : List ℕ) (begin at : ℕ) (ts : List Token) (y : List ℕ) : Type 0 where
  parts : parts_from s begin at at (stream s at) ≡ parts_from s begin (stop at ts) (stop at ts) (stream s (stop at ts))
  rest : drop (stop at ts) s ≡ y

walk : (s : List ℕ) (begin at : ℕ) (ts : List Token) (y : List ℕ) → drop at s ≡ write ts y → NoPipes ts → All (CommandOf Body) ts → Walked s begin at ts y
unfolding write NoPipes stop parts_from
walk s begin at [] y e n h = record { parts = refl; rest = e }
walk s begin at (token c v ∷ ts) y e n h =
    let w = walk s begin (next s at c v (write ts y) e) ts y (next-rest s at c v (write ts y) e) n.2 h.1 in
    record {
      parts = simp (stream-token s at c v (write ts y) e n.0 n.1, h.0.0, h.0.1) w.parts;
      rest = w.rest;
    }

-- an mn or pn is passed, and a qx begins a part at `back`, unless one has begun there
module _ (s : List ℕ) (begin back at : ℕ) (c v rest : List ℕ) (e : drop at s ≡ c ++ pipe ∷ (v ++ pipe ∷ rest)) (h : count pipe c ≡ 0) (k : count pipe v ≡ 0) where
  lead_step : is_command c (ascii "qx") ≡ false → leads c ≡ true
      → parts_from s begin back at (stream s at) ≡ parts_from s begin back (next s at c v rest e) (stream s (next s at c v rest e))
  unfolding parts_from
  lead_step x y = simp (stream-token s at c v rest e h k, x, y)

  qx_step : is_command c (ascii "qx") ≡ true
      → parts_from s begin back at (stream s at)
      ≡ pick (ltb begin back) (part_at s begin back ∷ parts_from s back (next s at c v rest e) (next s at c v rest e) (stream s (next s at c v rest e)))
      (parts_from s begin (next s at c v rest e) (next s at c v rest e) (stream s (next s at c v rest e)))
  unfolding parts_from
  qx_step x = simp (stream-token s at c v rest e h k, x)

-- what may stand before a board's first command
pub record Lead (lead : List ℕ) : Type 0 where
  pub pipeless : count pipe lead ≡ 0
  pub same : (w : List ℕ) → is_command (lead ++ ascii "mn") w ≡ is_command (ascii "mn") w

none_lead : Lead []
unfolding keep
none_lead = record { pipeless = refl; same = λ w. refl }

lf_lead : Lead (ascii "\n")
unfolding keep is_command trim trim_end trim_start skip_white blank white_at front white_space encode starts
lf_lead = record { pipeless = refl; same = λ w. refl }

mn_facts : (is_command (ascii "mn") (ascii "qx") ≡ false) × (leads (ascii "mn") ≡ true) × (is_command (ascii "pn") (ascii "qx") ≡ false) × (leads (ascii "pn") ≡ true) × (is_command (ascii "qx") (ascii "qx") ≡ true)
unfolding is_command same_word lower trim trim_end trim_start skip_white blank white_at front white_space encode starts eq_all
mn_facts = (refl, refl, refl, refl, refl)

body_all : (p q : ℕ) (b : BoardOf (List ℕ)) → All (CommandOf Body) (body_tokens p q b)
unfolding is_command same_word lower trim trim_end trim_start skip_white blank white_at front white_space encode starts eq_all
body_all p q b =
    body_commands p q Body (record {
      rh = (refl, refl);
      ah = (refl, refl);
      md = (refl, refl);
      sv = (refl, refl);
      sa = (refl, refl);
      mb = (refl, refl);
      an = (refl, refl);
      g = (refl, refl);
      lf = (refl, refl);
      pc = (refl, refl);
      mc = (refl, refl);
    }) b

-- a board whose qx is moved back to `at`: a new part begins there, unless one has
module _ (p q : ℕ) (f : Fit p q) (b : BoardOf (List ℕ)) (v : Valid b) (lead : List ℕ) (l : Lead lead) (s : List ℕ) (begin at : ℕ) (y : List ℕ)
    (e : drop at s ≡ write (board_tokens p q lead b) y) where
  abbrev last : ℕ
  last = stop at (board_tokens p q lead b)

  record Board·walked : Type 0 where
    parts : parts_from s begin at at (stream s at) ≡ pick (ltb begin at) (part_at s begin at ∷ parts_from s at last last (stream s last)) (parts_from s begin last last (stream s last))
    rest : drop last s ≡ y

  board-walk : Board·walked
  unfolding board_tokens write NoPipes stop
  board-walk =
      let n = no_pipes p q f lead b l.pipeless v in
      let m = mn_facts in
      let body = body_tokens p q b in
      let title = clean p q (or_empty b.title) in
      let names = names_text p q b in
      let room = clean p q (or_empty b.room) in
      let r₂ = write body y in
      let r₁ = ascii "qx" ++ pipe ∷ (room ++ pipe ∷ r₂) in
      let r₀ = ascii "pn" ++ pipe ∷ (names ++ pipe ∷ r₁) in
      let a₁ = next s at (lead ++ ascii "mn") title r₀ e in
      let e₁ = next-rest s at (lead ++ ascii "mn") title r₀ e in
      let a₂ = next s a₁ (ascii "pn") names r₁ e₁ in
      let e₂ = next-rest s a₁ (ascii "pn") names r₁ e₁ in
      let a₃ = next s a₂ (ascii "qx") room r₂ e₂ in
      let e₃ = next-rest s a₂ (ascii "qx") room r₂ e₂ in
      let w = walk s begin a₃ body y e₃ n.2.2.2 (body_all p q b) in
      let w' = walk s at a₃ body y e₃ n.2.2.2 (body_all p q b) in
      record {
        parts =
            lead_step s begin at at (lead ++ ascii "mn") title r₀ e n.0 n.1 (l.same (ascii "qx") ∙ m.0) (ap (λ (t : Bool). t || is_command (lead ++ ascii "mn") (ascii "pn")) (l.same (ascii "mn")) ∙ ap (λ (t : Bool). is_command (ascii "mn") (ascii "mn") || t) (l.same (ascii "pn")) ∙ m.1)
            ∙ lead_step s begin at a₁ (ascii "pn") names r₁ e₁ n.2.0 n.2.1 m.2 m.3
            ∙ qx_step s begin at a₂ (ascii "qx") room r₂ e₂ n.2.2.0 n.2.2.1 m.4
            ∙ ap (λ (ps : List Section). pick (ltb begin at) (part_at s begin at ∷ ps) (parts_from s begin a₃ a₃ (stream s a₃))) w'.parts
            ∙ ap (λ (ps : List Section). pick (ltb begin at) (part_at s begin at ∷ parts_from s at last last (stream s last)) ps) w.parts;
        rest = w.rest;
      }

-- The board of a part

holds-map : {A B : Type 0} (g : A → B) (w : List ℕ) (ts : List (TokenOf A)) → holds w (map (map_token g) ts) ≡ holds w ts
unfolding any
holds-map g w [] = refl
holds-map g w (token c v ∷ ts) = ap (λ (t : Bool). is_command c w || t) (holds-map g w ts)

-- the commands of the tokens from a place on are those of the rest of the text
holds-stream : (w s : List ℕ) (a : ℕ) → holds w (stream s a) ≡ holds w (tokens (drop a s))
unfolding stream tokens
holds-stream w s a =
    sym (holds-map (bytes_at s) w (placed a (cut pipe (drop a s)))) ∙ ap (holds w) (placed-from s a (cut pipe (drop a s)) (sym (joined-cut pipe (drop a s))))

or-true : (t : Bool) → (t || true) ≡ true
or-true true = refl
or-true false = refl

md-held : (p q : ℕ) (lead : List ℕ) (b : BoardOf (List ℕ)) → holds (ascii "md") (board_tokens p q lead b) ≡ true
unfolding board_tokens body_tokens any is_command same_word lower trim trim_end trim_start skip_white blank white_at front white_space encode starts eq_all
md-held p q lead b = ap (λ (t : Bool). is_command (lead ++ ascii "mn") (ascii "md") || t) (go b.header _) ∙ or-true (is_command (lead ++ ascii "mn") (ascii "md"))
  where
    go : (o : Option (List ℕ)) (ts : List Token) → holds (ascii "md") (header_tokens p q o ++ token (ascii "md") (md_text b.dealt) ∷ ts) ≡ true
    go None ts = refl
    go (Some s) ts = refl

module _ (p q : ℕ) (f : Fit p q) (b : BoardOf (List ℕ)) (v : Valid b) (lead : List ℕ) (l : Lead lead) where
  tokens-part : tokens (write (board_tokens p q lead b) []) ≡ board_tokens p q lead b
  unfolding tokens cut paired
  tokens-part = tokens-write (board_tokens p q lead b) [] (no_pipes p q f lead b l.pipeless v) ∙ append-nil (board_tokens p q lead b)

  part-read : parse_lin (write (board_tokens p q lead b) []) ≡ settled p q b
  unfolding parse_lin board_tokens
  part-read =
      ap (board_from bytes_text) tokens-part
      ∙ first-command (lead ++ ascii "mn") (ascii "mn") l.same (clean p q (or_empty b.title)) _
      ∙ board-read p q b v

  module _ (s : List ℕ) (a : ℕ) (y : List ℕ) (e : drop a s ≡ write (board_tokens p q lead b) y) where
    abbrev stops : ℕ
    stops = stop a (board_tokens p q lead b)

    part-board : part_at s a stops ≡ section a stops true
    unfolding part
    part-board =
        ap (section a stops)
        (holds-stream (ascii "md") (take stops s) a
        ∙ ap (λ (t : List ℕ). holds (ascii "md") (tokens t)) (drop-take a stops s ∙ part-written s a (board_tokens p q lead b) y e)
        ∙ ap (holds (ascii "md")) tokens-part
        ∙ md-held p q lead b)

    part-settled : parse_lin (part s a (stops - a)) ≡ settled p q b
    part-settled = ap parse_lin (part-written s a (board_tokens p q lead b) y e) ∙ part-read

-- Boards back to back

-- a board, and the two bytes that clean puts
pub record Item : Type 0 where
  pub p : ℕ
  pub q : ℕ
  pub board : BoardOf (List ℕ)

pub record Good (i : Item) : Type 0 where
  pub fit : Fit i.p i.q
  pub valid : Valid i.board

abbrev pub form : Item → List ℕ
form i = written i.p i.q i.board

abbrev pub settle : Item → BoardOf (List ℕ)
settle i = settled i.p i.q i.board

unfoldable pub forms : List Item → List ℕ
forms is = concat (map form is)

abbrev read : (s : List ℕ) → List Section → List (BoardOf (List ℕ))
read s ps = map (λ p. parse_lin (part s p.start (p.stop - p.start))) (boards_of ps)

few-tokens : (s : List ℕ) (at : ℕ) → drop at s ≡ ascii "\n" → stream s at ≡ []
unfolding stream placed cut
few-tokens s at e = simp e

abbrev tokens_of : (lead : List ℕ) → Item → List Token
tokens_of lead i = board_tokens i.p i.q lead i.board

stop-later : (lead : List ℕ) (i : Item) (a : ℕ) → a < stop a (tokens_of lead i)
unfolding board_tokens write
stop-later lead i a =
    let l = stop-length a (tokens_of lead i) in
    let m = length-append (lead ++ ascii "mn") (pipe ∷ (clean i.p i.q (or_empty i.board.title) ++ pipe ∷ write (tokens_after i) [])) in
    omega arith
  where
    tokens_after : Item → List Token
    tokens_after j = token (ascii "pn") (names_text j.p j.q j.board) ∷ token (ascii "qx") (clean j.p j.q (or_empty j.board.room)) ∷ body_tokens j.p j.q j.board

-- board i's part, and the parts after it
read-part : (s : List ℕ) (i : Item) → Good i → (lead : List ℕ) → Lead lead → (a : ℕ) (y : List ℕ) → drop a s ≡ write (tokens_of lead i) y → (ps : List Section)
    → read s (part_at s a (stop a (tokens_of lead i)) ∷ ps) ≡ settle i ∷ read s ps
unfolding keep
read-part s i h lead l a y d ps =
    let f = h.fit in
    let v = h.valid in
    ap (λ (p : Section). read s (p ∷ ps)) (part-board i.p i.q f i.board v lead l s a y d)
    ∙ ap (λ (b : BoardOf (List ℕ)). b ∷ read s ps) (part-settled i.p i.q f i.board v lead l s a y d)

-- where board i's part has begun at a, and the other boards follow
found_from : (s : List ℕ) (is : List Item) → All Good is → (i : Item) → Good i → (lead : List ℕ) → Lead lead → (a : ℕ)
    → drop a s ≡ write (tokens_of lead i) (0x0A ∷ forms is) → drop (stop a (tokens_of lead i)) s ≡ 0x0A ∷ forms is
    → read s (parts_from s a (stop a (tokens_of lead i)) (stop a (tokens_of lead i)) (stream s (stop a (tokens_of lead i)))) ≡ settle i ∷ map settle is
unfolding forms concat parts_from keep
found_from s [] hs i h lead l a d r =
    let e = stop a (tokens_of lead i) in
    ap (λ (ts : List (TokenOf Span)). read s (parts_from s a e e ts)) (few-tokens s e r) ∙ read-part s i h lead l a (0x0A ∷ forms []) d []
found_from s (j ∷ is) hs i h lead l a d r = go (found_from s is hs.1 j hs.0 (ascii "\n") lf_lead e)
  where
    e : ℕ
    e = stop a (tokens_of lead i)

    d' : drop e s ≡ write (tokens_of (ascii "\n") j) (0x0A ∷ forms is)
    d' = r ∙ written_after j.p j.q j.board (ascii "\n") (forms is)

    w : Board·walked j.p j.q hs.0.fit j.board hs.0.valid (ascii "\n") lf_lead s a e (0x0A ∷ forms is) d'
    w = board-walk j.p j.q hs.0.fit j.board hs.0.valid (ascii "\n") lf_lead s a e (0x0A ∷ forms is) d'

    last' : ℕ
    last' = stop e (tokens_of (ascii "\n") j)

    rest : List Section
    rest = parts_from s e last' last' (stream s last')

    go : (drop e s ≡ write (tokens_of (ascii "\n") j) (0x0A ∷ forms is) → drop (stop e (tokens_of (ascii "\n") j)) s ≡ 0x0A ∷ forms is
        → read s (parts_from s e (stop e (tokens_of (ascii "\n") j)) (stop e (tokens_of (ascii "\n") j)) (stream s (stop e (tokens_of (ascii "\n") j)))) ≡ settle j ∷ map settle is)
        → read s (parts_from s a e e (stream s e)) ≡ settle i ∷ settle j ∷ map settle is
    go ih =
        ap (read s) w.parts
        ∙ ap (λ (t : Bool). read s (pick t (part_at s a e ∷ rest) (parts_from s a last' last' (stream s last')))) (lt-ltb a e (stop-later lead i a))
        ∙ read-part s i h lead l a (0x0A ∷ forms (j ∷ is)) d rest
        ∙ ap (λ (bs : List (BoardOf (List ℕ))). settle i ∷ bs) (ih d' w.rest)

-- The round trip

qx-held : (p q : ℕ) (b : BoardOf (List ℕ)) (ts : List Token) → holds (ascii "qx") (board_tokens p q [] b ++ ts) ≡ true
unfolding board_tokens any is_command same_word lower trim trim_end trim_start skip_white blank white_at front white_space encode starts eq_all
qx-held p q b ts = refl

none_found : parse_lin_file [] ≡ []
unfolding parse_lin_file sections keep any stream placed cut lines_from blank trim_start skip_white
none_found = refl

sections-by : (s : List ℕ) → holds (ascii "qx") (stream s 0) ≡ true → sections s ≡ parts_from s 0 0 0 (stream s 0)
unfolding sections
sections-by s h = simp h

pub round_trip : (is : List Item) → All Good is → parse_lin_file (forms is) ≡ map settle is
unfolding forms concat
round_trip [] hs = none_found
round_trip (i ∷ is) hs = (let z : parse_lin_file s ≡ read s (sections s) = unfold parse_lin_file in refl in z) ∙ ap (read s) with-qx ∙ ap (read s) first_part ∙ found_from s is hs.1 i hs.0 [] none_lead 0 d w.rest
  where
    s : List ℕ
    s = forms (i ∷ is)

    d : drop 0 s ≡ write (tokens_of [] i) (0x0A ∷ forms is)
    d = written_after i.p i.q i.board [] (forms is)

    n : NoPipes (tokens_of [] i)
    n = no_pipes i.p i.q hs.0.fit [] i.board none_lead.pipeless hs.0.valid

    w : Board·walked i.p i.q hs.0.fit i.board hs.0.valid [] none_lead s 0 0 (0x0A ∷ forms is) d
    w = board-walk i.p i.q hs.0.fit i.board hs.0.valid [] none_lead s 0 0 (0x0A ∷ forms is) d

    held : holds (ascii "qx") (stream s 0) ≡ true
    held =
        holds-stream (ascii "qx") s 0
        ∙ ap (λ (t : List ℕ). holds (ascii "qx") (tokens t)) d
        ∙ ap (holds (ascii "qx")) (tokens-write (tokens_of [] i) (0x0A ∷ forms is) n)
        ∙ qx-held i.p i.q i.board (tokens (0x0A ∷ forms is))

    with-qx : sections s ≡ parts_from s 0 0 0 (stream s 0)
    with-qx = sections-by s held

    first_part : parts_from s 0 0 0 (stream s 0) ≡ parts_from s 0 (stop 0 (tokens_of [] i)) (stop 0 (tokens_of [] i)) (stream s (stop 0 (tokens_of [] i)))
    first_part = w.parts
