-- What the boards of a file mean: each is `parse_lin` over its part of the text, and its spans are that board's, moved by the part's start; and the
-- parts are 01's, token by token. (01: File)
-- Assumes nothing.
use Prim.Native.Nat.{ℕ, zero, suc, ◌+◌, ◌-◌, ◌<◌}
use native.Mathlib.Omega.{arith}
use mathlib.Core.Path.{◌≡◌, refl, ap, sym, ◌∙◌}
use mathlib.Core.List.{List, [], ◌∷◌, map}
use lib.ListN.{length, take, drop, get_or, length-take}
use lib.Seq.{take-take, drop-drop}
use lib.Dec.{eqb}
use borrow.Author.Tests.{ne_eqb}
use Rattle.lin_spec.specs.Base.{pick, All}
use Rattle.lin_spec.specs.Records.{span, part, bytes_at}
use Rattle.lin_spec.specs.Tokens.{Pieces, cut, pipe, TokenOf, tokens}
use Rattle.lin_spec.specs.Tokens.Pieces.{end, piece}
use Rattle.lin_spec.specs.Tokens.TokenOf.{token}
use Rattle.lin_spec.specs.Board.{board_from, map_board}
use Rattle.lin_spec.specs.Reading.{bytes_text, span_text, placed, stream, parse_lin, parse_spans}
use Rattle.lin_spec.specs.File.{Section, board_in, sections, boards_of, parse_lin_file, file_spans}
use Rattle.lin_spec.specs.declared.Span.{Span}
use Rattle.lin_spec.proofs.Tokens.{joined-cut}
use Rattle.lin_spec.proofs.Reading.{map_token, ValueOf, part-part, part_most, placed-from, board-map, Within, stream-within}
use Rattle.lin_spec.proofs.File.{drop-take}

-- A board at a section's bounds is `parse_lin` over that part of the text, its spans moved by the part's start. A span at 0 is that of a name never set,
-- and stays.

abbrev pub move : (by : ℕ) → Span → Span
move a x = pick (eqb x.start 0) x (span (a + x.start) x.len)

moved : (a : ℕ) (x : Span) → 0 < x.start → move a x ≡ span (a + x.start) x.len
moved a x h = simp (ne_eqb x.start 0 (λ e. omega arith))

placed-moved : (a at : ℕ) (p : Pieces) → placed (a + at) p ≡ map (map_token (move a)) (placed at p)
unfolding placed
placed-moved a at (end x) = refl
placed-moved a at (piece x (end y)) = refl
placed-moved a at (piece x (piece y r)) =
    let v = span (at + (length x + 1)) (length y) in
    let q : a + at + (length x + 1) ≡ a + (at + (length x + 1)) = omega arith in
    let n : a + at + (length x + 1) + (length y + 1) ≡ a + (at + (length x + 1) + (length y + 1)) = omega arith in
    let h : span (a + at + (length x + 1)) (length y) ≡ move a v = ap (λ (i : ℕ). span i (length y)) q ∙ sym (moved a v (omega arith)) in
    let t : placed (a + at + (length x + 1) + (length y + 1)) r ≡ map (map_token (move a)) (placed (at + (length x + 1) + (length y + 1)) r) =
    ap (λ (i : ℕ). placed i r) n ∙ placed-moved a (at + (length x + 1) + (length y + 1)) r in
    λ i. token x (h i) ∷ t i

placed_deep : (at : ℕ) (p : Pieces) → All (ValueOf (λ (v : Span). 0 < v.start)) (placed at p)
unfolding placed
placed_deep at (end x) = tt
placed_deep at (piece x (end y)) = tt
placed_deep at (piece x (piece y r)) = (omega arith, placed_deep (at + (length x + 1) + (length y + 1)) r)

pub board-moved : (s : List ℕ) (a : ℕ) → board_from (span_text s) (stream s a) ≡ map_board (move a) (parse_spans (drop a s))
unfolding parse_spans stream part
board-moved s a =
    let t = drop a s in
    sym
    (board-map (span_text t) (span_text s) (move a) (λ (v : Span). 0 < v.start)
    (λ v h. rw (moved a v h) (ap (take v.len) (sym (drop-drop v.start a s))))
    (λ v k n h l. rw (moved a v h) (moved a (span (v.start + k) n) (omega arith) ∙ (let q : a + (v.start + k) ≡ a + v.start + k = omega arith in ap (λ (i : ℕ). span i n) q)))
    refl (placed 0 (cut pipe t)) (placed_deep 0 (cut pipe t))
    ∙ ap (board_from (span_text s)) (sym (placed-moved a 0 (cut pipe t)) ∙ (let q : a + 0 ≡ a = omega arith in ap (λ (i : ℕ). placed i (cut pipe t)) q)))

pub section-moved : (s : List ℕ) (p : Section) → board_in s p ≡ map_board (move p.start) (parse_spans (part s p.start (p.stop - p.start)))
unfolding board_in part
section-moved s p = board-moved (take p.stop s) p.start ∙ ap (λ (t : List ℕ). map_board (move p.start) (parse_spans t)) (drop-take p.start p.stop s)

-- The boards of the answers, with each span replaced by its bytes, are those that the file means.

-- the bytes of a span within the first e bytes
pub front_bytes : (s : List ℕ) (e : ℕ) (v : Span) → Within (take e s) v → bytes_at s v ≡ bytes_at (take e s) v
unfolding part
front_bytes s e v w =
    let l = length-take e s in
    sym (ap (take v.len) (drop-take v.start e s) ∙ take-take v.len (e - v.start) (drop v.start s) (omega arith))

map_agree : (f g : Span → List ℕ) (P : Span → Type 0) → ((v : Span) → P v → f v ≡ g v) → (ts : List (TokenOf Span)) → All (ValueOf P) ts → map (map_token f) ts ≡ map (map_token g) ts
map_agree f g P e [] w = refl
map_agree f g P e (token c v ∷ ts) w = simp (e v w.0, map_agree f g P e ts w.1)

-- the tokens from a place on, taken out of the text
stream_out : (s : List ℕ) (a : ℕ) → map (map_token (bytes_at s)) (stream s a) ≡ tokens (drop a s)
unfolding stream tokens
stream_out s a = placed-from s a (cut pipe (drop a s)) (sym (joined-cut pipe (drop a s)))

pub section_out : (s : List ℕ) (p : Section) → map_board (bytes_at s) (board_in s p) ≡ parse_lin (part s p.start (p.stop - p.start))
unfolding board_in parse_lin part
section_out s p =
    let t = take p.stop s in
    let w = stream-within t p.start in
    board-map (span_text t) bytes_text (bytes_at s) (Within t) (front_bytes s p.stop)
    (λ v k n h l. part-part s v.start v.len k n (let m = part_most t v.start v.len in omega arith)) refl (stream t p.start) w
    ∙ ap (board_from bytes_text)
    (map_agree (bytes_at s) (bytes_at t) (Within t) (front_bytes s p.stop) (stream t p.start) w
    ∙ stream_out t p.start
    ∙ ap tokens (drop-take p.start p.stop s))

pub file_out : (s : List ℕ) → map (map_board (bytes_at s)) (file_spans s) ≡ parse_lin_file s
unfolding file_spans parse_lin_file
file_out s = go (boards_of (sections s))
  where
    go : (ps : List Section) → map (map_board (bytes_at s)) (map (board_in s) ps) ≡ map (λ p. parse_lin (part s p.start (p.stop - p.start))) ps
    go [] = refl
    go (p ∷ ps) = simp (section_out s p, go ps)

pub get_d_map : {A B : Type 0} (f : A → B) (l : List A) (n : ℕ) (d : A) → get_or (map f l) n (f d) ≡ f (get_or l n d)
get_d_map f [] n d = refl
get_d_map f (a ∷ l) zero d = refl
get_d_map f (a ∷ l) (suc n) d = get_d_map f l n d
