-- The spans of an answer: taken out of the text they are the bytes of the meaning, and they lie within the text; a refusal stores nothing. (01: Board)
-- Assumes nothing.
use Rattle.std.specs.Prelude.{Option, None, Some, Err, Ok}
use Prim.Native.Nat.{ℕ, zero, suc, ◌+◌, ◌-◌, ◌≤◌}
use native.Mathlib.Omega.{arith}
use mathlib.Core.Path.{◌≡◌, refl, ap, sym, subst, ◌∙◌}
use mathlib.Core.Bool.{Bool, true, false}
use mathlib.Core.List.{List, [], ◌∷◌, ◌++◌, map}
use lib.ListN.{length, take, drop, length-append, length-drop, length-take, drop_of_length-le}
use lib.Seq.{take-take, take-append_seam, drop-drop}
use Rattle.lin_spec.specs.Base.{pick, All, null, ascii}
use Rattle.lin_spec.specs.Records.{span, end_of, part, bytes_at}
use Rattle.lin_spec.specs.White.{is_command}
use Rattle.lin_spec.specs.Tokens.{Pieces, cut, pipe, TokenOf, paired, tokens}
use Rattle.lin_spec.specs.Tokens.Pieces.{end, piece}
use Rattle.lin_spec.specs.Tokens.TokenOf.{token}
use Rattle.lin_spec.specs.Cursor.{Step, step_by, step_at}
use Rattle.lin_spec.specs.Cursor.Step.{found, ended}
use Rattle.lin_spec.specs.Board.{CallOf, BoardOf, Text, named, without_end, only, annotated, over, on, non_empty, on_names, on_dealt, on_vulnerability, on_title, on_room, on_header, on_calls, on_play, on_claim, call_of, board_from, map_option, map_call, map_board, Present, EachText}
use Rattle.lin_spec.specs.Reading.{bytes_text, span_text, placed, stream, parse_lin, parse_spans, stored}
use Rattle.lin_spec.specs.Refusals.{Answer}
use Rattle.lin_spec.specs.declared.Refusal.{Refusal}
use Rattle.lin_spec.specs.declared.Span.{Span}
use Rattle.lin_spec.proofs.Base.{picked, split, all_append}
use Rattle.lin_spec.proofs.Tokens.{joined, Whole, joined-cut, whole-cut, cut-joined}
use Rattle.lin_spec.proofs.Cursor.{after-piece}

abbrev pub map_token : {A B : Type 0} → (A → B) → TokenOf A → TokenOf B
map_token f (token c v) = token c (f v)

-- P holds of a token's value
abbrev pub ValueOf : {A : Type 0} → (A → Type 0) → TokenOf A → Type 0
ValueOf P (token c v) = P v

-- a fold over changed tokens is the changed fold, if each step is, with values of which P holds
over-map : {A B C D : Type 0} (P : A → Type 0) (g : A → B) (h : C → D) (f : List ℕ → A → C → C) (f' : List ℕ → B → D → D)
    → ((c : List ℕ) (v : A) (x : C) → P v → h (f c v x) ≡ f' c (g v) (h x)) → (ts : List (TokenOf A)) → All (ValueOf P) ts → (b : C)
    → h (over f b ts) ≡ over f' (h b) (map (map_token g) ts)
unfolding over
over-map P g h f f' e [] w b = refl
over-map P g h f f' e (token c v ∷ ts) w b = over-map P g h f f' e ts w.1 (f c v b) ∙ ap (λ x. over f' x (map (map_token g) ts)) (e c v b w.0)

-- a change by a command, changed
on-map : {C D : Type 0} (h : C → D) (t : Bool) (x y : C) → h (pick t x y) ≡ pick t (h x) (h y)
on-map h true x y = refl
on-map h false x y = refl

-- a part of a part
inner : (t : List ℕ) (m k n : ℕ) → k + n ≤ m → take n (drop k t) ≡ take n (drop k (take m t))
inner t m zero n h = sym (take-take n m t (omega arith))
inner [] zero (suc k) n h = refl
inner [] (suc m) (suc k) n h = refl
inner (b ∷ t) zero (suc k) n h = absurd (let z : ⊥ = omega arith in z)
inner (b ∷ t) (suc m) (suc k) n h = inner t m k n (omega arith)

pub part-part : (s : List ℕ) (a m k n : ℕ) → k + n ≤ m → part s (a + k) n ≡ part (part s a m) k n
unfolding part
part-part s a m k n h = ap (take n) (sym (drop-drop k a s)) ∙ inner (drop a s) m k n h

-- what a step says of the tokens from there on
abbrev pub Streams : (s : List ℕ) (at : ℕ) → Step → Type 0
Streams s at (found c v n) = stream s at ≡ token (part s c.start c.len) (span v.start v.len) ∷ stream s n
Streams s at (ended n) = stream s at ≡ []

-- The tokens as spans, taken out of the text, are the tokens
pub placed-from : (s : List ℕ) (at : ℕ) (p : Pieces) → drop at s ≡ joined pipe p → map (map_token (bytes_at s)) (placed at p) ≡ paired p
unfolding placed paired joined part
placed-from s at (end x) h = refl
placed-from s at (piece x (end y)) h = refl
placed-from s at (piece x (piece y r)) h =
    let d = after-piece pipe s at x _ h in
    let n = after-piece pipe s (at + (length x + 1)) y _ d in
    let q : take (length y) (drop (at + (length x + 1)) s) ≡ y = ap (take (length y)) d ∙ take-append_seam y _ in
    let ih = placed-from s (at + (length x + 1) + (length y + 1)) r n in
    simp (q, ih)

pub placed-tokens : (s : List ℕ) → map (map_token (bytes_at s)) (placed 0 (cut pipe s)) ≡ tokens s
unfolding tokens
placed-tokens s = placed-from s 0 (cut pipe s) (sym (joined-cut pipe s))

-- The tokens from a place on, as the cursor's steps give them

step_stream : (s : List ℕ) (at : ℕ) (p : Pieces) → cut pipe (drop at s) ≡ p → Streams s at (step_by at p)
unfolding stream placed step_by joined Whole part
step_stream s at (end x) e = simp e
step_stream s at (piece x (end y)) e = simp e
step_stream s at (piece x (piece y r)) e =
    let w = (subst (Whole pipe) e (whole-cut pipe (drop at s))).1.1 in
    let f : drop at s ≡ x ++ pipe ∷ (y ++ pipe ∷ joined pipe r) = sym (joined-cut pipe (drop at s)) ∙ ap (joined pipe) e in
    let d = after-piece pipe s at x _ f in
    let n = after-piece pipe s (at + (length x + 1)) y _ d in
    let q : part s at (length x) ≡ x = ap (take (length x)) f ∙ take-append_seam x _ in
    simp (e, q, n, cut-joined pipe r w)

-- what a step that was called for and taken apart says
pub streams : (s : List ℕ) (at : ℕ) (v : Step) → step_at s at ≡ v → Streams s at v
unfolding step_at
streams s at v e = subst (Streams s at) e (step_stream s at (cut pipe (drop at s)) refl)

pub part_most : (s : List ℕ) (a n : ℕ) → length (part s a n) ≤ n
unfolding part
part_most s a n = rw (length-take n (drop a s)) (omega arith)

option_out : {A B : Type 0} (f : A → B) (t : Bool) (v : A) → map_option f (pick t None (Some v)) ≡ pick t None (Some (f v))
option_out f true v = refl
option_out f false v = refl

map-append : {A B : Type 0} (f : A → B) (x y : List A) → map f (x ++ y) ≡ map f x ++ map f y
map-append f [] y = refl
map-append f (a ∷ x) y = ap (λ l. f a ∷ l) (map-append f x y)

annotated_out : {A B : Type 0} (f : A → B) (v : A) (cs : List (CallOf A)) → map (map_call f) (annotated v cs) ≡ annotated (f v) (map (map_call f) cs)
unfolding annotated
annotated_out f v [] = refl
annotated_out f v (c ∷ []) = refl
annotated_out f v (c ∷ d ∷ cs) = ap (λ l. map_call f c ∷ l) (annotated_out f v (d ∷ cs))

without_most : (c : ℕ) (s : List ℕ) → length (without_end c s) ≤ length s
unfolding without_end
without_most c [] = omega arith
without_most c (b ∷ s) = go (only c (b ∷ s)) (without_most c s)
  where
    go : (t : Bool) → length (without_end c s) ≤ length s → length (pick t [] (b ∷ without_end c s)) ≤ suc (length s)
    go true h = omega arith
    go false h = omega arith

-- boards that agree in every field
pub board_eq : {A : Type 0} {b c : BoardOf A} → b.names ≡ c.names → b.dealt ≡ c.dealt → b.vulnerability ≡ c.vulnerability → b.title ≡ c.title
    → b.room ≡ c.room → b.header ≡ c.header → b.calls ≡ c.calls → b.play ≡ c.play → b.claim ≡ c.claim → b ≡ c
board_eq n d v t r h c p m = λ i. record { names = n i; dealt = d i; vulnerability = v i; title = t i; room = r i; header = h i; calls = c i; play = p i; claim = m i }

-- One reading serves all kinds of texts: if g keeps the bytes of values and the parts within them, the board of changed values is the changed board.
module _
    {A B : Type 0}
    (T : Text A)
    (U : Text B)
    (g : A → B)
    (P : A → Type 0)
    (same : (v : A) → P v → U.bytes (g v) ≡ T.bytes v)
    (inside : (v : A) (k n : ℕ) → P v → k + n ≤ length (T.bytes v) → g (T.within v k n) ≡ U.within (g v) k n)
    (empty : g T.nil ≡ U.nil)
  where
    names_out : (v : A) → P v → (k : ℕ) (p : Pieces) (ns : List A) → k + length (joined 0x2C p) ≤ length (T.bytes v) → map g (named T v k p ns) ≡ named U (g v) k p (map g ns)
    unfolding named joined
    names_out v w k p [] h = refl
    names_out v w k (end x) (n ∷ ns) h = simp (inside v k (length x) w h)
    names_out v w k (piece x r) (n ∷ ns) h =
        let m : k + (length x + suc (length (joined 0x2C r))) ≤ length (T.bytes v) = simp length-append at h in
        simp (inside v k (length x) w (omega arith), names_out v w (k + (length x + 1)) r ns (omega arith))

    names-on : (c : List ℕ) (v : A) (b : List A) → P v → map g (on_names T c v b) ≡ on_names U c (g v) (map g b)
    names-on c v b w =
        let j = joined-cut 0x2C (T.bytes v) in
        on-map (map g) (is_command c (ascii "pn")) _ b ∙ simp (same v w, names_out v w 0 (cut 0x2C (T.bytes v)) b (rw j (omega arith)))

    value_on : (w c : List ℕ) (v : A) (b : Option A) → P v → map_option g (on c w (non_empty T v) b) ≡ on c w (non_empty U (g v)) (map_option g b)
    value_on w c v b h = on-map (map_option g) (is_command c w) _ b ∙ simp (same v h, option_out g (null (T.bytes v)) v)

    call_out : (v : A) → P v → map_call g (call_of T v) ≡ call_of U (g v)
    call_out v w = let m = without_most 0x21 (T.bytes v) in simp (same v w, inside v 0 (length (without_end 0x21 (T.bytes v))) w (omega arith))

    calls-on : (c : List ℕ) (v : A) (b : List (CallOf A)) → P v → map (map_call g) (on_calls T c v b) ≡ on_calls U c (g v) (map (map_call g) b)
    calls-on c v b w =
        let f : List (CallOf A) → List (CallOf B) = map (map_call g) in
        on-map f (is_command c (ascii "mb")) _ _
        ∙ simp (map-append (map_call g) b (call_of T v ∷ []), call_out v w, on-map f (is_command c (ascii "an")) (annotated v b) b, annotated_out g v b)

    pub board-map : (ts : List (TokenOf A)) → All (ValueOf P) ts → map_board g (board_from T ts) ≡ board_from U (map (map_token g) ts)
    unfolding map_board board_from
    board-map ts w =
        board_eq
        (over-map P g (map g) (on_names T) (on_names U) names-on ts w _ ∙ simp empty)
        (over-map P g (λ x. x) (on_dealt T) (on_dealt U) (λ c v b h. simp (same v h)) ts w _)
        (over-map P g (λ x. x) (on_vulnerability T) (on_vulnerability U) (λ c v b h. simp (same v h)) ts w _)
        (over-map P g (map_option g) (on_title T) (on_title U) (value_on (ascii "mn")) ts w _)
        (over-map P g (map_option g) (on_room T) (on_room U) (value_on (ascii "qx")) ts w _)
        (over-map P g (map_option g) (on_header T) (on_header U) (λ c v b h. on-map (map_option g) (is_command c (ascii "ah")) _ b) ts w _)
        (over-map P g (map (map_call g)) (on_calls T) (on_calls U) calls-on ts w _)
        (over-map P g (λ x. x) (on_play T) (on_play U) (λ c v b h. simp (same v h)) ts w _)
        (over-map P g (λ x. x) (on_claim T) (on_claim U) (λ c v b h. simp (same v h)) ts w _)

any_values : {A : Type 0} (ts : List (TokenOf A)) → All (ValueOf (λ (v : A). Unit)) ts
any_values [] = tt
any_values (token c v ∷ ts) = (tt, any_values ts)

-- The board of the answer, with each span replaced by its bytes, is the board that the text means.
pub board_out : (s : List ℕ) (ts : List (TokenOf Span)) → map_board (bytes_at s) (board_from (span_text s) ts) ≡ board_from bytes_text (map (map_token (bytes_at s)) ts)
unfolding part
board_out s ts =
    board-map (span_text s) bytes_text (bytes_at s) (λ _. Unit) (λ v _. refl)
    (λ v k n _ h. part-part s v.start v.len k n (let l = part_most s v.start v.len in omega arith)) refl ts (any_values ts)

pub spans_out : (s : List ℕ) → map_board (bytes_at s) (parse_spans s) ≡ parse_lin s
unfolding parse_spans parse_lin stream
spans_out s = board_out s (placed 0 (cut pipe s)) ∙ ap (board_from bytes_text) (placed-tokens s)

-- Every span of the answer lies within the text.

abbrev pub Within : (s : List ℕ) → Span → Type 0
Within s x = end_of x ≤ length s

pub over-all : {A B : Type 0} (P : A → Type 0) (Q : B → Type 0) (f : List ℕ → A → B → B) → ((c : List ℕ) (v : A) (x : B) → P v → Q x → Q (f c v x))
    → (ts : List (TokenOf A)) → All (ValueOf P) ts → (b : B) → Q b → Q (over f b ts)
unfolding over
over-all P Q f g [] h b q = q
over-all P Q f g (token c v ∷ ts) h b q = over-all P Q f g ts h.1 (f c v b) (g c v b h.0 q)

placed-within : (s : List ℕ) (at : ℕ) (p : Pieces) → drop at s ≡ joined pipe p → at ≤ length s → All (ValueOf (Within s)) (placed at p)
unfolding placed joined
placed-within s at (end x) h k = tt
placed-within s at (piece x (end y)) h k = tt
placed-within s at (piece x (piece y r)) h k =
    let d = after-piece pipe s at x _ h in
    let n = after-piece pipe s (at + (length x + 1)) y _ d in
    let l : length s - at ≡ length x + suc (length y + suc (length (joined pipe r))) = sym (length-drop at s) ∙ ap length h ∙ simp length-append in
    (omega arith, placed-within s (at + (length x + 1) + (length y + 1)) r n (omega arith))

pub stream-within : (s : List ℕ) (at : ℕ) → All (ValueOf (Within s)) (stream s at)
unfolding stream placed cut
stream-within s at =
    split (length s) at
    (λ h. rw (drop_of_length-le s (let k : length s ≤ at = omega arith in k)) tt)
    (λ h. placed-within s at (cut pipe (drop at s)) (sym (joined-cut pipe (drop at s))) h)

names-within : (s : List ℕ) (v : Span) → Within s v → (k : ℕ) (p : Pieces) (ns : List Span) → k + length (joined 0x2C p) ≤ length (bytes_at s v) → All (Within s) ns
    → All (Within s) (named (span_text s) v k p ns)
unfolding named joined
names-within s v w k p [] h a = tt
names-within s v w k (end x) (n ∷ ns) h a =
    let l = part_most s v.start v.len in
    (omega arith, a.1)
names-within s v w k (piece x r) (n ∷ ns) h a =
    let l = part_most s v.start v.len in
    let m : k + (length x + suc (length (joined 0x2C r))) ≤ length (bytes_at s v) = simp length-append at h in
    (omega arith, names-within s v w (k + (length x + 1)) r ns (omega arith) a.1)

abbrev CallWithin : (s : List ℕ) → CallOf Span → Type 0
CallWithin s c = Within s c.bid × Present (Within s) c.annotation

annotated-within : (s : List ℕ) (v : Span) → Within s v → (cs : List (CallOf Span)) → All (CallWithin s) cs → All (CallWithin s) (annotated v cs)
unfolding annotated
annotated-within s v w [] h = tt
annotated-within s v w (c ∷ []) h = ((h.0.0, w), tt)
annotated-within s v w (c ∷ d ∷ cs) h = (h.0, annotated-within s v w (d ∷ cs) h.1)

call-within : (s : List ℕ) (v : Span) → Within s v → CallWithin s (call_of (span_text s) v)
call-within s v w =
    let l = part_most s v.start v.len in
    let m = without_most 0x21 (bytes_at s v) in
    (omega arith, tt)

value-within : (s w c : List ℕ) (v : Span) (b : Option Span) → Within s v → Present (Within s) b → Present (Within s) (on c w (non_empty (span_text s) v) b)
value-within s w c v b k h =
    picked (Present (Within s)) (is_command c w) (λ _. picked (Present (Within s)) (null (bytes_at s v)) (λ _. tt) (λ _. k)) (λ _. h)

pub spans-within : (s : List ℕ) → EachText (Within s) (parse_spans s)
unfolding parse_spans board_from
spans-within s =
    let W = Within s in
    let a = stream-within s 0 in
    record {
      names =
          over-all W (All W) (on_names (span_text s))
          (λ c v b w h. picked (All W) (is_command c (ascii "pn")) (λ _. names-within s v w 0 (cut 0x2C (bytes_at s v)) b (rw (joined-cut 0x2C (bytes_at s v)) (omega arith)) h) (λ _. h))
          _ a _ (omega arith, (omega arith, (omega arith, (omega arith, tt))));
      title = over-all W (Present W) (on_title (span_text s)) (value-within s (ascii "mn")) _ a None tt;
      room = over-all W (Present W) (on_room (span_text s)) (value-within s (ascii "qx")) _ a None tt;
      header = over-all W (Present W) (on_header (span_text s)) (λ c v b w h. picked (Present W) (is_command c (ascii "ah")) (λ _. w) (λ _. h)) _ a None tt;
      calls =
          over-all W (All (CallWithin s)) (on_calls (span_text s))
          (λ c v b w h. picked (All (CallWithin s)) (is_command c (ascii "mb")) (λ _. all_append (CallWithin s) b _ h (call-within s v w, tt))
          (λ _. picked (All (CallWithin s)) (is_command c (ascii "an")) (λ _. annotated-within s v w b h) (λ _. h)))
          _ a [] tt;
    }

-- "All lent memory stays": a reading that is refused changes neither rows nor cards.
pub reading_stays : (a : Answer (BoardOf Span)) (rows cards : List ℕ) (r : Refusal) → (stored a rows cards).heading ≡ Err r
    → ((stored a rows cards).rows ≡ rows) × ((stored a rows cards).cards ≡ cards)
reading_stays (Err q) rows cards r h = (refl, refl)
reading_stays (Ok b) rows cards r h = let z : ◌≡◌ {A = ℕ} 0 1 = cc in absurd (omega arith)
