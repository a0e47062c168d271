-- A command between white characters is the command alone (`command-around`). For all bytes: a text with U+FEFF at its front is the board that it is
-- without it (`front-mark`), it has a qx exactly when it has one without the mark (`front-mark-holds`), and as a file it has the same boards
-- (`front-mark-file`). (02: N2)
-- Assumes nothing.
use Prim.Native.Nat.{ℕ, suc, ◌+◌, ◌-◌, ◌<◌}
use native.Mathlib.Omega.{arith}
use mathlib.Core.Path.{◌≡◌, refl, ap, sym, ◌∙◌}
use mathlib.Core.Bool.{Bool, true, false, ◌||◌, false≢true}
use mathlib.Core.List.{List, [], ◌∷◌, ◌++◌, map}
use lib.ListN.{length, take, drop}
use lib.Dec.{ltb}
use borrow.Author.Tests.{ltb-true, ltb-false, lt-ltb, le-ltb}
use Rattle.lin_spec.specs.Base.{pick, any, keep, ascii}
use Rattle.lin_spec.specs.Records.{span, end_of, part}
use Rattle.lin_spec.specs.Utf8.{encode, encode_all}
use Rattle.lin_spec.specs.White.{white_space, blank, same_word, is_command}
use Rattle.lin_spec.specs.Tokens.{pipe, Pieces, push, cut, paired, tokens, TokenOf}
use Rattle.lin_spec.specs.Tokens.Pieces.{end, piece}
use Rattle.lin_spec.specs.Tokens.TokenOf.{token}
use Rattle.lin_spec.specs.Board.{BoardOf, over, board_from}
use Rattle.lin_spec.specs.Reading.{bytes_text, placed, stream, parse_lin}
use Rattle.lin_spec.specs.File.{Section, section, holds, leads, part_at, parts_from, lines_from, sections, boards_of, parse_lin_file}
use Rattle.lin_spec.specs.declared.Span.{Span}
use Rattle.lin_spec.proofs.Base.{picked}
use Rattle.lin_spec.proofs.White.{white, trim-white, blank-encode}
use Rattle.lin_spec.proofs.Trimming.{Whites, trim_around}

pub command_around : (ws vs : List ℕ) → Whites ws → Whites vs → (c w : List ℕ) → is_command (encode_all ws ++ (c ++ encode_all vs)) w ≡ is_command c w
unfolding is_command
command_around ws vs h k c w = ap (λ (t : List ℕ). same_word t w) (trim_around ws vs h k c)

-- the mark in front of the first piece
abbrev marked : Pieces → Pieces
marked p = push 0xEF (push 0xBB (push 0xBF p))

cut-marked : (s : List ℕ) → cut pipe (encode 0xFEFF ++ s) ≡ marked (cut pipe s)
unfolding cut encode
cut-marked s = refl

command-marked : (c w : List ℕ) → is_command (0xEF ∷ 0xBB ∷ 0xBF ∷ c) w ≡ is_command c w
unfolding is_command encode white any white_space
command-marked c w = ap (λ (t : List ℕ). same_word t w) (trim-white 0xFEFF c refl)

pub front-mark : (s : List ℕ) → parse_lin (encode 0xFEFF ++ s) ≡ parse_lin s
unfolding parse_lin tokens
front-mark s = ap (λ (p : Pieces). board_from bytes_text (paired p)) (cut-marked s) ∙ go (cut pipe s)
  where
    go : (p : Pieces) → board_from bytes_text (paired (marked p)) ≡ board_from bytes_text (paired p)
    go (end x) = unfold paired in refl
    go (piece x (end y)) = unfold paired in refl
    go (piece x (piece y r)) = unfold paired board_from over in simp (command-marked x)

-- whether there is a command, wherever the values stand
holds-placed : (w : List ℕ) (a b : ℕ) (p : Pieces) → holds w (placed a p) ≡ holds w (placed b p)
unfolding placed any
holds-placed w a b (end x) = refl
holds-placed w a b (piece x (end y)) = refl
holds-placed w a b (piece x (piece y r)) = ap (λ (t : Bool). is_command x w || t) (holds-placed w (a + (length x + 1) + (length y + 1)) (b + (length x + 1) + (length y + 1)) r)

pub front-mark-holds : (w s : List ℕ) → holds w (stream (encode 0xFEFF ++ s) 0) ≡ holds w (stream s 0)
unfolding stream
front-mark-holds w s = ap (λ (p : Pieces). holds w (placed 0 p)) (cut-marked s) ∙ go (cut pipe s)
  where
    go : (p : Pieces) → holds w (placed 0 (marked p)) ≡ holds w (placed 0 p)
    go (end x) = unfold placed any in refl
    go (piece x (end y)) = unfold placed any in refl
    go (piece x (piece y r)) = unfold placed any in rw (command-marked x w) (ap (λ (t : Bool). is_command x w || t) (holds-placed w _ _ r))

-- The boards of a whole file

-- the bytes of the mark before s
abbrev behind : List ℕ → List ℕ
behind s = 0xEF ∷ 0xBB ∷ 0xBF ∷ s

-- a place behind the mark
abbrev past : ℕ → ℕ
past n = suc (suc (suc n))

abbrev moved : Section → Section
moved p = section (past p.start) (past p.stop) p.board

-- the sections of a text, where the mark is put in front of the first
abbrev widened : List Section → List Section
widened [] = []
widened (p ∷ ps) = section 0 (past p.stop) p.board ∷ map moved ps

-- Lines

blank-marked : (x : List ℕ) → blank (behind x) ≡ blank x
unfolding encode white any white_space
blank-marked x = blank-encode 0xFEFF x

past_add : (a n : ℕ) → past a + n ≡ past (a + n)
past_add a n = omega arith

add_past : (a n : ℕ) → a + past n ≡ past (a + n)
add_past a n = omega arith

lines-moved : (a : ℕ) (p : Pieces) → lines_from (past a) p ≡ map moved (lines_from a p)
unfolding lines_from
lines-moved a (end x) = rw (past_add a (length x))
lines-moved a (piece x r) = rw (past_add a (length x), past_add a (length x + 1), lines-moved (a + (length x + 1)) r)

lines-widened : (p : Pieces) → lines_from 0 (marked p) ≡ widened (lines_from 0 p)
unfolding lines_from
lines-widened (end x) = rw (blank-marked x, add_past 0 (length x))
lines-widened (piece x r) =
    let e : 0 + (past (length x) + 1) ≡ past (0 + (length x + 1)) = omega arith in
    rw (blank-marked x, add_past 0 (length x), e, lines-moved (0 + (length x + 1)) r)

-- Parts

abbrev shift : TokenOf Span → TokenOf Span
shift (token c v) = token c (span (past v.start) v.len)

placed-moved : (a : ℕ) (p : Pieces) → placed (past a) p ≡ map shift (placed a p)
unfolding placed
placed-moved a (end x) = refl
placed-moved a (piece x (end y)) = refl
placed-moved a (piece x (piece y r)) =
    rw (past_add a (length x + 1), past_add (a + (length x + 1)) (length y + 1), placed-moved (a + (length x + 1) + (length y + 1)) r)

part_moved : (s : List ℕ) (a e : ℕ) → part_at (behind s) (past a) (past e) ≡ moved (part_at s a e)
unfolding stream
part_moved s a e = ap (section (past a) (past e)) (holds-placed (ascii "md") (past a) a (cut pipe (drop a (take e s))))

part-widened : (s : List ℕ) (e : ℕ) → part_at (behind s) 0 (past e) ≡ section 0 (past e) (part_at s 0 e).board
unfolding encode
part-widened s e = ap (section 0 (past e)) (front-mark-holds (ascii "md") (take e s))

past_below : (a b : ℕ) → ltb (past a) (past b) ≡ ltb a b
past_below a b = go (ltb a b) refl
  where
    go : (t : Bool) → ltb a b ≡ t → ltb (past a) (past b) ≡ t
    go true e = lt-ltb (past a) (past b) (let h = ltb-true a b e in omega arith)
    go false e = le-ltb (past a) (past b) (let h = ltb-false a b e in omega arith)

past_next : (v : Span) → past v.start + v.len + 1 ≡ past (end_of v + 1)
past_next v = omega arith

-- all places behind the mark
parts_moved : (s : List ℕ) (begin back at : ℕ) (ts : List (TokenOf Span))
    → parts_from (behind s) (past begin) (past back) (past at) (map shift ts) ≡ map moved (parts_from s begin back at ts)
unfolding parts_from
parts_moved s begin back at [] = ap (λ (p : Section). p ∷ []) (part_moved s begin at)
parts_moved s begin back at (token c v ∷ ts) =
    rw (past_next v, past_below begin back)
    (go (is_command c (ascii "qx")) (ltb begin back) (leads c) (parts_moved s back (end_of v + 1) (end_of v + 1) ts) (λ k. parts_moved s begin k (end_of v + 1) ts))
  where
    Rest : ℕ → ℕ → Type 0
    Rest b k = parts_from (behind s) (past b) (past k) (past (end_of v + 1)) (map shift ts) ≡ map moved (parts_from s b k (end_of v + 1) ts)

    go : (q x w : Bool) → Rest back (end_of v + 1) → ((k : ℕ) → Rest begin k)
        → pick q
        (pick x
        (part_at (behind s) (past begin) (past back) ∷ parts_from (behind s) (past back) (past (end_of v + 1)) (past (end_of v + 1)) (map shift ts))
        (parts_from (behind s) (past begin) (past (end_of v + 1)) (past (end_of v + 1)) (map shift ts)))
        (parts_from (behind s) (past begin) (pick w (past back) (past (end_of v + 1))) (past (end_of v + 1)) (map shift ts))
        ≡ map moved
        (pick q
        (pick x (part_at s begin back ∷ parts_from s back (end_of v + 1) (end_of v + 1) ts) (parts_from s begin (end_of v + 1) (end_of v + 1) ts))
        (parts_from s begin (pick w back (end_of v + 1)) (end_of v + 1) ts))
    go true true w f g = rw (part_moved s begin back, f)
    go true false w f g = g (end_of v + 1)
    go false x true f g = g back
    go false x false f g = g (end_of v + 1)

-- the first part begins before the mark; a qx is moved back to a place behind it
parts_open : (s : List ℕ) (back at : ℕ) → 0 < back → (ts : List (TokenOf Span))
    → parts_from (behind s) 0 (past back) (past at) (map shift ts) ≡ widened (parts_from s 0 back at ts)
unfolding parts_from
parts_open s back at h [] = ap (λ (p : Section). p ∷ []) (part-widened s at)
parts_open s back at h (token c v ∷ ts) =
    rw (past_next v, lt-ltb 0 (past back) (omega arith), lt-ltb 0 back h)
    (go (is_command c (ascii "qx")) (leads c) (λ k l. parts_open s k (end_of v + 1) l ts))
  where
    go : (q w : Bool) → ((k : ℕ) → 0 < k → parts_from (behind s) 0 (past k) (past (end_of v + 1)) (map shift ts) ≡ widened (parts_from s 0 k (end_of v + 1) ts))
        → pick q
        (part_at (behind s) 0 (past back) ∷ parts_from (behind s) (past back) (past (end_of v + 1)) (past (end_of v + 1)) (map shift ts))
        (parts_from (behind s) 0 (pick w (past back) (past (end_of v + 1))) (past (end_of v + 1)) (map shift ts))
        ≡ widened
        (pick q (part_at s 0 back ∷ parts_from s back (end_of v + 1) (end_of v + 1) ts) (parts_from s 0 (pick w back (end_of v + 1)) (end_of v + 1) ts))
    go true w g = rw (part-widened s back, parts_moved s back (end_of v + 1) (end_of v + 1) ts)
    go false true g = g back h
    go false false g = g (end_of v + 1) (omega arith)

-- a qx is moved back to the first token
parts_led : (s : List ℕ) (at : ℕ) (ts : List (TokenOf Span)) → parts_from (behind s) 0 0 (past at) (map shift ts) ≡ widened (parts_from s 0 0 at ts)
unfolding parts_from
parts_led s at [] = ap (λ (p : Section). p ∷ []) (part-widened s at)
parts_led s at (token c v ∷ ts) =
    rw (past_next v)
    (go (is_command c (ascii "qx")) (leads c) (parts_led s (end_of v + 1) ts) (parts_open s (end_of v + 1) (end_of v + 1) (omega arith) ts))
  where
    Rest : ℕ → ℕ → Type 0
    Rest k j = parts_from (behind s) 0 k (past (end_of v + 1)) (map shift ts) ≡ widened (parts_from s 0 j (end_of v + 1) ts)

    go : (q w : Bool) → Rest 0 0 → Rest (past (end_of v + 1)) (end_of v + 1)
        → pick q
        (parts_from (behind s) 0 (past (end_of v + 1)) (past (end_of v + 1)) (map shift ts))
        (parts_from (behind s) 0 (pick w 0 (past (end_of v + 1))) (past (end_of v + 1)) (map shift ts))
        ≡ widened (pick q (parts_from s 0 (end_of v + 1) (end_of v + 1) ts) (parts_from s 0 (pick w 0 (end_of v + 1)) (end_of v + 1) ts))
    go true w f g = g
    go false true f g = f
    go false false f g = g

-- the first command behind the mark; where it stands plays no part
first-command : (s x : List ℕ) (v : Span) (ts : List (TokenOf Span))
    → parts_from s 0 0 0 (token (behind x) v ∷ ts) ≡ parts_from s 0 0 (past 0) (token x v ∷ ts)
unfolding parts_from
first-command s x v ts = simp (command-marked x)

parts_widened : (s : List ℕ) (p : Pieces) → holds (ascii "qx") (placed 0 p) ≡ true
    → parts_from (behind s) 0 0 0 (placed 0 (marked p)) ≡ widened (parts_from s 0 0 0 (placed 0 p))
unfolding placed any
parts_widened s (end x) h = absurd (false≢true h)
parts_widened s (piece x (end y)) h = absurd (false≢true h)
parts_widened s (piece x (piece y r)) h =
    let e : 0 + (past (length x) + 1) ≡ past (0 + (length x + 1)) = omega arith in
    rw (e, past_add (0 + (length x + 1)) (length y + 1), placed-moved (0 + (length x + 1) + (length y + 1)) r)
    (go (span (0 + (length x + 1)) (length y)) (placed (0 + (length x + 1) + (length y + 1)) r))
  where
    go : (v : Span) (ts : List (TokenOf Span))
        → parts_from (behind s) 0 0 0 (token (behind x) (span (past v.start) v.len) ∷ map shift ts) ≡ widened (parts_from s 0 0 0 (token x v ∷ ts))
    go v ts = first-command (behind s) x (span (past v.start) v.len) (map shift ts) ∙ parts_led s 0 (token x v ∷ ts)

-- Sections, and the boards

sections-widened : (s : List ℕ) → sections (behind s) ≡ widened (sections s)
unfolding sections stream encode cut
sections-widened s =
    rw (front-mark-holds (ascii "qx") s)
    (go (holds (ascii "qx") (placed 0 (cut pipe s))) refl)
  where
    go : (t : Bool) → holds (ascii "qx") (placed 0 (cut pipe s)) ≡ t
        → pick t (parts_from (behind s) 0 0 0 (placed 0 (marked (cut pipe s)))) (lines_from 0 (marked (cut 0x0A s)))
        ≡ widened (pick t (parts_from s 0 0 0 (placed 0 (cut pipe s))) (lines_from 0 (cut 0x0A s)))
    go true h = parts_widened s (cut pipe s) h
    go false h = lines-widened (cut 0x0A s)

-- the first of some sections begins at a
abbrev Begins : ℕ → List Section → Type 0
Begins a [] = Unit
Begins a (p ∷ ps) = p.start ≡ a

parts_begin : (s : List ℕ) (begin back at : ℕ) (ts : List (TokenOf Span)) → Begins begin (parts_from s begin back at ts)
unfolding parts_from
parts_begin s begin back at [] = refl
parts_begin s begin back at (token c v ∷ ts) =
    picked (Begins begin) (is_command c (ascii "qx"))
    (λ _. picked (Begins begin) (ltb begin back) (λ _. refl) (λ _. parts_begin s begin (end_of v + 1) (end_of v + 1) ts))
    (λ _. parts_begin s begin (pick (leads c) back (end_of v + 1)) (end_of v + 1) ts)

sections_begin : (s : List ℕ) → Begins 0 (sections s)
unfolding sections
sections_begin s =
    picked (Begins 0) (holds (ascii "qx") (stream s 0)) (λ _. parts_begin s 0 0 0 (stream s 0)) (λ _. go (cut 0x0A s))
  where
    go : (p : Pieces) → Begins 0 (lines_from 0 p)
    go (end x) = unfold lines_from in refl
    go (piece x r) = unfold lines_from in refl

-- the board that a section means
abbrev board_of : (s : List ℕ) → Section → BoardOf (List ℕ)
board_of s p = parse_lin (part s p.start (p.stop - p.start))

board-moved : (s : List ℕ) (p : Section) → board_of (behind s) (moved p) ≡ board_of s p
unfolding part
board-moved s p =
    let e : past p.stop - past p.start ≡ p.stop - p.start = omega arith in
    ap (λ (n : ℕ). parse_lin (take n (drop p.start s))) e

board-widened : (s : List ℕ) (e : ℕ) (t : Bool) → board_of (behind s) (section 0 (past e) t) ≡ board_of s (section 0 e t)
unfolding part encode
board-widened s e t =
    let l : past e - 0 ≡ past (e - 0) = omega arith in
    ap (λ (n : ℕ). parse_lin (take n (behind s))) l ∙ front-mark (take (e - 0) s)

-- a list of boards, with its first changed and its rest changed
chosen : (t : Bool) {a b : BoardOf (List ℕ)} {x y : List (BoardOf (List ℕ))} → a ≡ b → x ≡ y → pick t (a ∷ x) x ≡ pick t (b ∷ y) y
chosen true e f = let g = e in let h = f in cc
chosen false e f = f

map-pick : (f : Section → BoardOf (List ℕ)) (t : Bool) (p : Section) (ps : List Section) → map f (pick t (p ∷ ps) ps) ≡ pick t (f p ∷ map f ps) (map f ps)
map-pick f true p ps = refl
map-pick f false p ps = refl

boards-moved : (s : List ℕ) (ps : List Section) → map (board_of (behind s)) (boards_of (map moved ps)) ≡ map (board_of s) (boards_of ps)
unfolding keep
boards-moved s [] = refl
boards-moved s (p ∷ ps) =
    map-pick (board_of (behind s)) p.board (moved p) (boards_of (map moved ps))
    ∙ chosen p.board (board-moved s p) (boards-moved s ps) ∙ sym (map-pick (board_of s) p.board p (boards_of ps))

-- "Two lesson authors save with U+FEFF at the front": the file has the boards that it has without the mark.
pub front-mark_file : (s : List ℕ) → parse_lin_file (encode 0xFEFF ++ s) ≡ parse_lin_file s
unfolding parse_lin_file encode keep
front-mark_file s = ap (λ (ps : List Section). map (board_of (behind s)) (boards_of ps)) (sections-widened s) ∙ go (sections s) (sections_begin s)
  where
    go : (ps : List Section) → Begins 0 ps → map (board_of (behind s)) (boards_of (widened ps)) ≡ map (board_of s) (boards_of ps)
    go [] h = refl
    go (p ∷ ps) h =
        map-pick (board_of (behind s)) p.board (section 0 (past p.stop) p.board) (boards_of (map moved ps))
        ∙ chosen p.board
        (board-widened s p.stop p.board ∙ ap (λ (n : ℕ). parse_lin (part s n (p.stop - n))) (sym h))
        (boards-moved s ps)
        ∙ sym (map-pick (board_of s) p.board p (boards_of ps))
