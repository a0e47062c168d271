-- What a reader gives can be lent again: each span lies within the text and is UTF-8, each flag is 0 or 1, and each card is a card. (01: Board; File;
-- Eight refusals, 8, 5 and 6)
-- Assumes nothing.
use Rattle.std.specs.Prelude.{Option, None, Some}
use Prim.Native.Nat.{ℕ, zero, suc, ◌+◌, ◌-◌, ◌≤◌, ◌<◌}
use native.Mathlib.Omega.{arith}
use mathlib.Core.Path.{◌≡◌, refl, ap, sym, subst, ◌∙◌}
use mathlib.Core.Bool.{Bool, true, false, not}
use mathlib.Core.List.{List, [], ◌∷◌, ◌++◌, append_assoc, append-nil}
use lib.ListN.{length, take, drop, get_or, length-append, length-take, length-drop, drop_of_length-le, take-append-drop}
use lib.Seq.{take-take, take-add, take-append_seam, take-append-add}
use lib.Dec.{eqb, ltb}
use borrow.Author.Tests.{eqb-true, le-ltb}
use Rattle.lin_spec.specs.Base.{pick, All, any, all, null, ascii}
use Rattle.lin_spec.specs.Records.{span, end_of, part, bytes_at, limit}
use Rattle.lin_spec.specs.Utf8.{utf8}
use Rattle.lin_spec.specs.White.{trim, is_command}
use Rattle.lin_spec.specs.Tokens.{Pieces, cut, pipe, TokenOf}
use Rattle.lin_spec.specs.Tokens.Pieces.{end, piece}
use Rattle.lin_spec.specs.Tokens.TokenOf.{token}
use Rattle.lin_spec.specs.Cards.{read_card}
use Rattle.lin_spec.specs.Refusals.{unless, passes_end, ill_span}
use Rattle.lin_spec.specs.Board.{CallOf, BoardOf, named, only, without_end, annotated, played, on, non_empty, on_names, on_title, on_room, on_header, on_calls, on_play, call_of, board_from, Present, EachText}
use Rattle.lin_spec.specs.Reading.{span_text, placed, stream, parse_spans, flag, annotation_words, call_words, heading_of}
use Rattle.lin_spec.specs.Lent.{Lent, lent, rows_of, call_rows, lent_board, span_in, call_spans, lent_spans, bad_flag, bad_cards, bad_number, lent_checks, Lendable}
use Rattle.lin_spec.specs.File.{Section, section, holds, leads, board_in, parts_from, lines_from, sections, boards_of, file_spans, numbered}
use Rattle.lin_spec.specs.declared.Span.{Span}
use Rattle.lin_spec.specs.declared.Refusal.{Refusal}
use Rattle.lin_spec.proofs.Base.{picked, split, and_left, and_right, all_append, all_map, all_keep}
use Rattle.lin_spec.proofs.Utf8.{Ascii, utf8-after, utf8_append, utf8-ascii, utf8-cut}
use Rattle.lin_spec.proofs.Tokens.{joined, joined-cut}
use Rattle.lin_spec.proofs.Cursor.{after-piece}
use Rattle.lin_spec.proofs.File.{drop-take}
use Rattle.lin_spec.proofs.Cards.{Under, read_under}
use Rattle.lin_spec.proofs.Clean.{without-front}
use Rattle.lin_spec.proofs.Reading.{ValueOf, Within, over-all, stream-within, part_most, part-part}
use Rattle.lin_spec.proofs.Wellformed.{Utf8}
use Rattle.lin_spec.proofs.Accepted.{lent_back}

-- Parts of a text that is UTF-8

-- of a text cut at a byte of ASCII, both sides are UTF-8
pub cut-utf8 : (x : List ℕ) (b : ℕ) (y : List ℕ) → Ascii b → Utf8 (x ++ b ∷ y) → Utf8 x × Utf8 y
cut-utf8 x b y h u = let k = sym (utf8-cut x b y h) ∙ u in (and_left (utf8 x) (utf8 y) k, and_right (utf8 x) (utf8 y) k)

nil-utf8 : Utf8 []
nil-utf8 = utf8-ascii [] tt

-- trailing bytes c of ASCII may go, after any bytes x
without-utf8 : (c : ℕ) → Ascii c → (x s : List ℕ) → Utf8 (x ++ s) → Utf8 (x ++ without_end c s)
unfolding without_end all
without-utf8 c a x [] u = u
without-utf8 c a x (b ∷ s) u =
    picked (λ (r : List ℕ). Utf8 (x ++ r)) (only c (b ∷ s))
    (λ e. let z = eqb-true b c (and_left (eqb b c) _ e) in rw (append-nil x) (cut-utf8 x b s (omega arith) u).0)
    (λ _. rw (append_assoc x (b ∷ []) (without_end c s)) at (without-utf8 c a (x ++ (b ∷ [])) s (rw (append_assoc x (b ∷ []) s) u)))

-- A span that neither 5 nor 6 refuses

abbrev pub Fine : (s : List ℕ) → Span → Type 0
Fine s x = Within s x × Utf8 (bytes_at s x)

-- a part x of the bytes of a span, if it is UTF-8
part-fine : (s : List ℕ) (v : Span) → Within s v → (k : ℕ) (x r : List ℕ) → drop k (bytes_at s v) ≡ x ++ r → k ≤ length (bytes_at s v) → Utf8 x → Fine s (span (v.start + k) (length x))
unfolding part
part-fine s v w k x r e h u =
    let l = part_most s v.start v.len in
    let n : length (bytes_at s v) - k ≡ length x + length r = sym (length-drop k (bytes_at s v)) ∙ ap length e ∙ length-append x r in
    let q : bytes_at s (span (v.start + k) (length x)) ≡ x = part-part s v.start v.len k (length x) (omega arith) ∙ ap (take (length x)) e ∙ take-append_seam x r in
    (omega arith, ap utf8 q ∙ u)

-- The values of tokens lie between pipes

placed-utf8 : (s : List ℕ) (at : ℕ) (p : Pieces) → drop at s ≡ joined pipe p → Utf8 (joined pipe p) → All (ValueOf (λ (v : Span). Utf8 (bytes_at s v))) (placed at p)
unfolding placed joined part
placed-utf8 s at (end x) h u = tt
placed-utf8 s at (piece x (end y)) h u = tt
placed-utf8 s at (piece x (piece y r)) h u =
    let d = after-piece pipe s at x _ h in
    let n = after-piece pipe s (at + (length x + 1)) y _ d in
    let q : take (length y) (drop (at + (length x + 1)) s) ≡ y = ap (take (length y)) d ∙ take-append_seam y _ in
    let m = cut-utf8 y pipe (joined pipe r) (omega arith) (cut-utf8 x pipe (y ++ pipe ∷ joined pipe r) (omega arith) u).1 in
    (ap utf8 q ∙ m.0, placed-utf8 s (at + (length x + 1) + (length y + 1)) r n m.1)

both : (P Q : Span → Type 0) (ts : List (TokenOf Span)) → All (ValueOf P) ts → All (ValueOf Q) ts → All (ValueOf (λ (v : Span). P v × Q v)) ts
both P Q [] h k = tt
both P Q (token c v ∷ ts) h k = ((h.0, k.0), both P Q ts h.1 k.1)

stream-fine : (s : List ℕ) (a : ℕ) → Utf8 (drop a s) → All (ValueOf (Fine s)) (stream s a)
unfolding stream
stream-fine s a u =
    let j = joined-cut pipe (drop a s) in
    both (Within s) (λ (v : Span). Utf8 (bytes_at s v)) (stream s a) (stream-within s a) (placed-utf8 s a (cut pipe (drop a s)) (sym j) (ap utf8 j ∙ u))

-- A board of such values: names between commas, bids without trailing `!`, and cards that are read

names-fine : (s : List ℕ) (v : Span) → Within s v → (k : ℕ) (p : Pieces) (ns : List Span) → drop k (bytes_at s v) ≡ joined 0x2C p → k ≤ length (bytes_at s v) → Utf8 (joined 0x2C p)
    → All (Fine s) ns → All (Fine s) (named (span_text s) v k p ns)
unfolding named joined
names-fine s v w k p [] e h u a = tt
names-fine s v w k (end x) (n ∷ ns) e h u a = (part-fine s v w k x [] (e ∙ sym (append-nil x)) h u, a.1)
names-fine s v w k (piece x r) (n ∷ ns) e h u a =
    let m = cut-utf8 x 0x2C (joined 0x2C r) (omega arith) u in
    let l : length (bytes_at s v) - k ≡ length x + suc (length (joined 0x2C r)) = sym (length-drop k (bytes_at s v)) ∙ ap length e ∙ length-append x _ in
    (part-fine s v w k x _ e h m.0, names-fine s v w (k + (length x + 1)) r ns (after-piece 0x2C (bytes_at s v) k x _ e) (omega arith) m.1 a.1)

abbrev CallFine : (s : List ℕ) → CallOf Span → Type 0
CallFine s c = Fine s c.bid × Present (Fine s) c.annotation

call-fine : (s : List ℕ) (v : Span) → Fine s v → CallFine s (call_of (span_text s) v)
call-fine s v h =
    let b = bytes_at s v in
    let w = without_end 0x21 b in
    let f : take (length w) b ≡ w = ap (take (length w)) (sym (append-nil b)) ∙ without-front 0x21 b [] in
    let e : b ≡ w ++ drop (length w) b = sym (take-append-drop (length w) b) ∙ ap (λ (x : List ℕ). x ++ drop (length w) b) f in
    (part-fine s v h.0 0 w (drop (length w) b) e (omega arith) (without-utf8 0x21 (omega arith) [] b h.1), tt)

annotated-fine : (s : List ℕ) (v : Span) → Fine s v → (cs : List (CallOf Span)) → All (CallFine s) cs → All (CallFine s) (annotated v cs)
unfolding annotated
annotated-fine s v w [] h = tt
annotated-fine s v w (c ∷ []) h = ((h.0.0, w), tt)
annotated-fine s v w (c ∷ d ∷ cs) h = (h.0, annotated-fine s v w (d ∷ cs) h.1)

value-fine : (s w c : List ℕ) (v : Span) (b : Option Span) → Fine s v → Present (Fine s) b → Present (Fine s) (on c w (non_empty (span_text s) v) b)
value-fine s w c v b k h =
    picked (Present (Fine s)) (is_command c w) (λ _. picked (Present (Fine s)) (null (bytes_at s v)) (λ _. tt) (λ _. k)) (λ _. h)

abbrev Card : ℕ → Type 0
Card c = c < 52

played-cards : (o : Option ℕ) → Under 52 o → (cs : List ℕ) → All Card cs → All Card (played o cs)
played-cards None u cs h = h
played-cards (Some c) u cs h = all_append Card cs (c ∷ []) h (u, tt)

-- a board over s that none of 8, 5 and 6 meets
pub record Legal (s : List ℕ) (b : BoardOf Span) : Type 0 where
  pub texts : EachText (Fine s) b
  pub cards : All (λ (c : ℕ). c < 52) b.play

-- the tokens of a text from a place on, where the bytes from there on are UTF-8
pub tokens_legal : (s : List ℕ) (a : ℕ) → Utf8 (drop a s) → Legal s (board_from (span_text s) (stream s a))
unfolding board_from part
tokens_legal s a u =
    let F = Fine s in
    let h = stream-fine s a u in
    let z : F (span 0 0) = (omega arith, nil-utf8) in
    record {
      texts =
          record {
            names =
                over-all F (All F) (on_names (span_text s))
                (λ c v b w k. picked (All F) (is_command c (ascii "pn")) (λ _. let j = joined-cut 0x2C (bytes_at s v) in names-fine s v w.0 0 (cut 0x2C (bytes_at s v)) b (sym j) (omega arith) (ap utf8 j ∙ w.1) k) (λ _. k))
                (stream s a) h _ (z, (z, (z, (z, tt))));
            title = over-all F (Present F) (on_title (span_text s)) (value-fine s (ascii "mn")) (stream s a) h None tt;
            room = over-all F (Present F) (on_room (span_text s)) (value-fine s (ascii "qx")) (stream s a) h None tt;
            header = over-all F (Present F) (on_header (span_text s)) (λ c v b w k. picked (Present F) (is_command c (ascii "ah")) (λ _. w) (λ _. k)) (stream s a) h None tt;
            calls =
                over-all F (All (CallFine s)) (on_calls (span_text s))
                (λ c v b w k. picked (All (CallFine s)) (is_command c (ascii "mb")) (λ _. all_append (CallFine s) b _ k (call-fine s v w, tt))
                (λ _. picked (All (CallFine s)) (is_command c (ascii "an")) (λ _. annotated-fine s v w b k) (λ _. k)))
                (stream s a) h [] tt;
          };
      cards =
          over-all F (All Card) (on_play (span_text s))
          (λ c v b w k. picked (All Card) (is_command c (ascii "pc")) (λ _. played-cards (read_card (trim (bytes_at s v))) (read_under (trim (bytes_at s v))) b k) (λ _. k))
          (stream s a) h [] tt;
    }

-- `parse_lin`: one board from a text
pub text_legal : (s : List ℕ) → Utf8 s → Legal s (parse_spans s)
unfolding parse_spans
text_legal s u = tokens_legal s 0 u

-- A section: its spans lie in the first bytes of the text

all-each : {A : Type 0} (P Q : A → Type 0) → ((a : A) → P a → Q a) → (x : List A) → All P x → All Q x
all-each P Q f [] h = tt
all-each P Q f (a ∷ x) h = (f a h.0, all-each P Q f x h.1)

present-each : {A : Type 0} (P Q : A → Type 0) → ((a : A) → P a → Q a) → (o : Option A) → Present P o → Present Q o
present-each P Q f None h = tt
present-each P Q f (Some a) h = f a h

pub each-text : {A : Type 0} (P Q : A → Type 0) → ((a : A) → P a → Q a) → (b : BoardOf A) → EachText P b → EachText Q b
each-text {A} P Q f b h =
    record {
      names = all-each P Q f b.names h.names;
      title = present-each P Q f b.title h.title;
      room = present-each P Q f b.room h.room;
      header = present-each P Q f b.header h.header;
      calls = all-each (λ (c : CallOf A). P c.bid × Present P c.annotation) (λ (c : CallOf A). Q c.bid × Present Q c.annotation) (λ c k. (f c.bid k.0, present-each P Q f c.annotation k.1)) b.calls h.calls;
    }

front-fine : (s : List ℕ) (e : ℕ) (v : Span) → Fine (take e s) v → Fine s v
unfolding part
front-fine s e v h =
    let l = length-take e s in
    let w = h.0 in
    let z : v.start ≡ 0 + v.start = omega arith in
    let q : bytes_at s v ≡ bytes_at (take e s) v = ap (λ (i : ℕ). part s i v.len) z ∙ part-part s 0 e v.start v.len (omega arith) in
    (omega arith, ap utf8 q ∙ h.1)

-- where the bytes of a section are UTF-8, whatever the rest of the text holds
pub section_legal : (s : List ℕ) (p : Section) → Utf8 (drop p.start (take p.stop s)) → Legal s (board_in s p)
unfolding board_in
section_legal s p u =
    let t = take p.stop s in
    let b = board_from (span_text t) (stream t p.start) in
    let h = tokens_legal t p.start u in
    record { texts = each-text (Fine t) (Fine s) (front-fine s p.stop) b h.texts; cards = h.cards }

-- The sections of a text that is UTF-8 begin and stop between characters

abbrev Between : (s : List ℕ) (place : ℕ) → Type 0
Between s k = Utf8 (take k s)

between-utf8 : (s : List ℕ) (a e : ℕ) → Between s a → Between s e → Utf8 (drop a (take e s))
between-utf8 s a e h k =
    split e a
    (λ l. let n = length-take e s in ap utf8 (drop_of_length-le (take e s) (let m : length (take e s) ≤ a = omega arith in m)) ∙ nil-utf8)
    (λ l.
    let f : take a s ++ drop a (take e s) ≡ take e s = ap (λ (x : List ℕ). x ++ drop a (take e s)) (sym (take-take a e s l)) ∙ take-append-drop a (take e s) in
    sym (utf8-after (take a s) (drop a (take e s)) h) ∙ ap utf8 f ∙ k)

-- before and after a byte of ASCII
module _ (s : List ℕ) (at c : ℕ) (x t : List ℕ) (e : drop at s ≡ x ++ c ∷ t) (h : Between s at) (u : Utf8 x) where
  before_byte : Between s (at + length x)
  before_byte =
      ap utf8 (take-add at (length x) s ∙ ap (λ (y : List ℕ). take at s ++ take (length x) y) e ∙ ap (λ (y : List ℕ). take at s ++ y) (take-append_seam x (c ∷ t)))
      ∙ utf8_append (take at s) x h u

  after_byte : Ascii c → Between s (at + (length x + 1))
  after_byte a =
      ap utf8 (take-add at (length x + 1) s ∙ ap (λ (y : List ℕ). take at s ++ take (length x + 1) y) e ∙ ap (λ (y : List ℕ). take at s ++ y) (take-append-add x (c ∷ t) 1))
      ∙ utf8_append (take at s) (x ++ (c ∷ [])) h (utf8_append x (c ∷ []) u (utf8-ascii (c ∷ []) (a, tt)))

placed-between : (s : List ℕ) (at : ℕ) (p : Pieces) → drop at s ≡ joined pipe p → Between s at → Utf8 (joined pipe p) → All (ValueOf (λ (v : Span). Between s (end_of v + 1))) (placed at p)
unfolding placed joined
placed-between s at (end x) e h u = tt
placed-between s at (piece x (end y)) e h u = tt
placed-between s at (piece x (piece y r)) e h u =
    let d = after-piece pipe s at x _ e in
    let n = after-piece pipe s (at + (length x + 1)) y _ d in
    let k = cut-utf8 x pipe (y ++ pipe ∷ joined pipe r) (omega arith) u in
    let m = cut-utf8 y pipe (joined pipe r) (omega arith) k.1 in
    let b = after_byte s (at + (length x + 1)) pipe y _ d (after_byte s at pipe x _ e h k.0 (omega arith)) m.0 (omega arith) in
    let q : at + (length x + 1) + (length y + 1) ≡ at + (length x + 1) + length y + 1 = omega arith in
    (subst (Between s) q b, placed-between s (at + (length x + 1) + (length y + 1)) r n b m.1)

-- parts begin and stop at places of which Q holds, if it holds after each token
parts_at : (Q : ℕ → Type 0) (s : List ℕ) (ts : List (TokenOf Span)) → All (ValueOf (λ (v : Span). Q (end_of v + 1))) ts → (begin back at : ℕ) → Q begin → Q back → Q at
    → All (λ (p : Section). Q p.start × Q p.stop) (parts_from s begin back at ts)
unfolding parts_from
parts_at Q s [] h begin back at a b c = ((a, c), tt)
parts_at Q s (token w v ∷ ts) h begin back at a b c =
    let n = end_of v + 1 in
    let P : List Section → Type 0 = All (λ (p : Section). Q p.start × Q p.stop) in
    picked P (is_command w (ascii "qx"))
    (λ _. picked P (ltb begin back) (λ _. ((a, b), parts_at Q s ts h.1 back n n b h.0 h.0)) (λ _. parts_at Q s ts h.1 begin n n a h.0 h.0))
    (λ _. parts_at Q s ts h.1 begin (pick (leads w) back n) n a (picked Q (leads w) (λ _. b) (λ _. h.0)) h.0)

abbrev Bounded : (s : List ℕ) → Section → Type 0
Bounded s p = Between s p.start × Between s p.stop

lines-bounded : (s : List ℕ) (at : ℕ) (p : Pieces) → drop at s ≡ joined 0x0A p → Between s at → Utf8 (joined 0x0A p) → Utf8 s → All (Bounded s) (lines_from at p)
unfolding lines_from joined
lines-bounded s at (end x) e h u g =
    let f : take (at + length x) s ≡ s = take-add at (length x) s ∙ ap (λ (y : List ℕ). take at s ++ y) (ap (take (length x)) (e ∙ sym (append-nil x)) ∙ take-append_seam x [] ∙ sym e) ∙ take-append-drop at s in
    ((h, ap utf8 f ∙ g), tt)
lines-bounded s at (piece x r) e h u g =
    let k = cut-utf8 x 0x0A (joined 0x0A r) (omega arith) u in
    ((h, before_byte s at 0x0A x _ e h k.0), lines-bounded s (at + (length x + 1)) r (after-piece 0x0A s at x _ e) (after_byte s at 0x0A x _ e h k.0 (omega arith)) k.1 g)

sections-bounded : (s : List ℕ) → Utf8 s → All (Bounded s) (sections s)
unfolding sections stream
sections-bounded s u =
    let j = joined-cut pipe s in
    let l = joined-cut 0x0A s in
    picked (All (Bounded s)) (holds (ascii "qx") (stream s 0))
    (λ _. parts_at (Between s) s (stream s 0) (placed-between s 0 (cut pipe s) (sym j) nil-utf8 (ap utf8 j ∙ u)) 0 0 0 nil-utf8 nil-utf8 nil-utf8)
    (λ _. lines-bounded s 0 (cut 0x0A s) (sym l) nil-utf8 (ap utf8 l ∙ u) u)

-- what holds of each element holds of the one at any place, and of what stands for those beyond the end
all_get_d : {A : Type 0} (P : A → Type 0) (x : List A) (n : ℕ) (d : A) → All P x → P d → P (get_or x n d)
all_get_d P [] n d h k = k
all_get_d P (a ∷ x) zero d h k = h.0
all_get_d P (a ∷ x) (suc n) d h k = all_get_d P x n d h.1 k

-- so each section has such a board, and each board of a file is one
sections_legal : (s : List ℕ) → Utf8 s → All (λ (p : Section). Legal s (board_in s p)) (sections s)
sections_legal s u =
    all-each (Bounded s) (λ (p : Section). Legal s (board_in s p))
    (λ p h. section_legal s p (between-utf8 s p.start p.stop h.0 h.1))
    (sections s) (sections-bounded s u)

pub boards_legal : (s : List ℕ) → Utf8 s → All (Legal s) (file_spans s)
unfolding file_spans
boards_legal s u =
    let L : Section → Type 0 = λ (p : Section). Legal s (board_in s p) in
    all_map L (Legal s) (board_in s) (λ p h. h) (boards_of (sections s)) (all_keep L L (λ p. p.board) (λ p h _. h) (sections s) (sections_legal s u))

pub file_legal : (s : List ℕ) → Utf8 s → (n : ℕ) → Legal s (numbered s n)
file_legal s u n = all_get_d (Legal s) (file_spans s) n (board_in s (section 0 0 false)) (boards_legal s u) (section_legal s (section 0 0 false) nil-utf8)

-- The sections that begin at a place and after it, in any text: only the bytes from that place to a section's stop need be UTF-8

-- a place from which on a front of the text is UTF-8, if it is from the place a on
abbrev Later : (s : List ℕ) (a place : ℕ) → Type 0
Later s a k = (e : ℕ) → Utf8 (drop a (take e s)) → Utf8 (drop k (take e s))

later_byte : (s : List ℕ) (a at c : ℕ) (x t : List ℕ) → Ascii c → drop at s ≡ x ++ c ∷ t → Later s a at → Later s a (at + (length x + 1))
later_byte s a at c x t i d h e u =
    let k = at + (length x + 1) in
    let m = e - k in
    split e k
    (λ l. let n = length-take e s in ap utf8 (drop_of_length-le (take e s) (let z : length (take e s) ≤ k = omega arith in z)) ∙ nil-utf8)
    (λ l.
    let q : e - at ≡ length x + suc m = omega arith in
    let f : drop at (take e s) ≡ x ++ c ∷ take m t = drop-take at e s ∙ ap (take (e - at)) d ∙ ap (λ (n : ℕ). take n (x ++ c ∷ t)) q ∙ take-append-add x (c ∷ t) (suc m) in
    let g : drop k (take e s) ≡ take m t = drop-take k e s ∙ ap (take m) (after-piece c s at x t d) in
    ap utf8 g ∙ (cut-utf8 x c (take m t) i (ap utf8 (sym f) ∙ h e u)).1)

placed-later : (s : List ℕ) (a at : ℕ) (p : Pieces) → drop at s ≡ joined pipe p → Later s a at → All (ValueOf (λ (v : Span). Later s a (end_of v + 1))) (placed at p)
unfolding placed joined
placed-later s a at (end x) e h = tt
placed-later s a at (piece x (end y)) e h = tt
placed-later s a at (piece x (piece y r)) e h =
    let d = after-piece pipe s at x _ e in
    let n = after-piece pipe s (at + (length x + 1)) y _ d in
    let b = later_byte s a (at + (length x + 1)) pipe y _ (omega arith) d (later_byte s a at pipe x _ (omega arith) e h) in
    let q : at + (length x + 1) + (length y + 1) ≡ at + (length x + 1) + length y + 1 = omega arith in
    (subst (Later s a) q b, placed-later s a (at + (length x + 1) + (length y + 1)) r n b)

lines-later : (s : List ℕ) (a at : ℕ) (p : Pieces) → drop at s ≡ joined 0x0A p → Later s a at → All (λ (q : Section). Later s a q.start) (lines_from at p)
unfolding lines_from joined
lines-later s a at (end x) e h = (h, tt)
lines-later s a at (piece x r) e h = (h, lines-later s a (at + (length x + 1)) r (after-piece 0x0A s at x _ e) (later_byte s a at 0x0A x _ (omega arith) e h))

abbrev pub LegalFrom : (s : List ℕ) (a : ℕ) → Section → Type 0
LegalFrom s a p = Utf8 (drop a (take p.stop s)) → Legal s (board_in s p)

pub parts_legal : (s : List ℕ) (a : ℕ) → All (LegalFrom s a) (parts_from s a a a (stream s a))
unfolding stream
parts_legal s a =
    let here : Later s a a = λ e u. u in
    all-each (λ (p : Section). Later s a p.start × Later s a p.stop) (LegalFrom s a) (λ p h u. section_legal s p (h.0 p.stop u)) (parts_from s a a a (stream s a))
    (parts_at (Later s a) s (stream s a) (placed-later s a a (cut pipe (drop a s)) (sym (joined-cut pipe (drop a s))) here) a a a here here here)

pub lines_legal : (s : List ℕ) (a : ℕ) → All (LegalFrom s a) (lines_from a (cut 0x0A (drop a s)))
lines_legal s a =
    all-each (λ (p : Section). Later s a p.start) (LegalFrom s a) (λ p h u. section_legal s p (h p.stop u)) (lines_from a (cut 0x0A (drop a s)))
    (lines-later s a a (cut 0x0A (drop a s)) (sym (joined-cut 0x0A (drop a s))) (λ e u. u))

-- Lent again

pub any_none : {A : Type 0} (f : A → Bool) (xs : List A) → All (λ (x : A). f x ≡ false) xs → any f xs ≡ false
unfolding any
any_none f [] h = refl
any_none f (x ∷ xs) h = simp (h.0, any_none f xs h.1)

module _ (P : Span → Type 0) where
  option_spans : (o : Option Span) → Present P o → All P (span_in o)
  option_spans None h = tt
  option_spans (Some x) h = (h, tt)

  calls-spans : (cs : List (CallOf Span)) → All (λ (c : CallOf Span). P c.bid × Present P c.annotation) cs → All P (call_spans cs)
  unfolding call_spans
  calls-spans [] h = tt
  calls-spans (c ∷ cs) h = (h.0.0, all_append P (span_in c.annotation) (call_spans cs) (option_spans c.annotation h.0.1) (calls-spans cs h.1))

  abbrev board_spans : BoardOf Span → List Span
  board_spans b = b.names ++ (span_in b.title ++ (span_in b.room ++ (span_in b.header ++ call_spans b.calls)))

  board-spans : (b : BoardOf Span) → EachText P b → All P (board_spans b)
  board-spans b h =
      all_append P b.names _ h.names
      (all_append P (span_in b.title) _ (option_spans b.title h.title)
      (all_append P (span_in b.room) _ (option_spans b.room h.room)
      (all_append P (span_in b.header) (call_spans b.calls) (option_spans b.header h.header) (calls-spans b.calls h.calls))))

  lent-spans : (x : Lent) (b : BoardOf Span) → lent_board x ≡ b → EachText P b → All P (lent_spans x)
  unfolding lent_spans
  lent-spans x b e h = subst (λ (y : BoardOf Span). All P (board_spans y)) (sym e) (board-spans b h)

cards_right : (cs : List ℕ) → All Card cs → bad_cards cs ≡ false
cards_right cs h = any_none (ltb 51) cs (all-each Card (λ (c : ℕ). ltb 51 c ≡ false) (λ c k. le-ltb 51 c (omega arith)) cs h)

-- a lent board whose spans and cards are those of b, with flags of 0 and 1
pub lendable-by : (x : Lent) (b : BoardOf Span) → lent_board x ≡ b → Legal x.text b → any bad_flag x.calls ≡ false → Lendable x
unfolding bad_number lent_board
lendable-by x b e h f =
    let t = x.text in
    let a = lent-spans (Fine t) x b e h.texts in
    let c : bad_cards x.cards ≡ false = ap (λ (y : BoardOf Span). bad_cards y.play) e ∙ cards_right b.play h.cards in
    record {
      numbers = simp (c, f);
      within = any_none (passes_end t) (lent_spans x) (all-each (Fine t) (λ (y : Span). passes_end t y ≡ false) (λ y k. le-ltb (length t) (end_of y) k.0) (lent_spans x) a);
      texts = any_none (ill_span t) (lent_spans x) (all-each (Fine t) (λ (y : Span). ill_span t y ≡ false) (λ y k. ap not k.1) (lent_spans x) a);
    }

-- the rows that a reader stores have flags of 0 and 1
words_flags : (cs : List (CallOf Span)) → any bad_flag (call_rows (call_words cs)) ≡ false
unfolding call_words rows_of any
words_flags [] = refl
words_flags (c ∷ cs) = go c.alerted c.annotation (words_flags cs)
  where
    go : (t : Bool) (o : Option Span) → any bad_flag (call_rows (call_words cs)) ≡ false → any bad_flag (call_rows (c.bid.start ∷ c.bid.len ∷ flag t ∷ (annotation_words o ++ call_words cs))) ≡ false
    go true None e = e
    go true (Some x) e = e
    go false None e = e
    go false (Some x) e = e

-- what is stored of a board, lent again
abbrev pub stored_again : (t : List ℕ) → BoardOf Span → Lent
stored_again t b = lent t (heading_of b).board (call_words b.calls) b.play

pub stored-lendable : (t : List ℕ) (b : BoardOf Span) → Legal t b → Lendable (stored_again t b)
stored-lendable t b h = lendable-by (stored_again t b) b (lent_back t b) h (words_flags b.calls)

-- and the checks before 7 pass it, if the text is not too long
pub lendable-passes : {A : Type 0} (x : Lent) → length x.text ≤ limit → Lendable x → (cs : List (Option Refusal)) (a : A) → unless (lent_checks false x ++ cs) a ≡ unless cs a
unfolding lent_checks unless
lendable-passes x h l cs a = simp (le-ltb limit (length x.text) h, l.numbers, l.within, l.texts)
