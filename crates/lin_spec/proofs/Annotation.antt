-- The parts of a raw annotation are its bytes, back to back, and none is empty. (01: From PBN, "Annotation parts ..")
-- Assumes nothing.
use Rattle.std.specs.Prelude.{Option, None, Some}
use Prim.Native.Nat.{ℕ, zero, suc, ◌+◌, ◌*◌, ◌≤◌, ◌<◌, min}
use native.Mathlib.Omega.{arith}
use mathlib.Core.Path.{◌≡◌, refl, ap, sym, subst, ◌∙◌}
use mathlib.Core.Bool.{Bool, true, false, ◌&&◌, ◌||◌, not, false≢true}
use mathlib.Core.List.{List, [], ◌∷◌, ◌++◌, append_assoc}
use Prim.Native.Char.{code}
use lib.ListN.{length, take, drop, get_or, length-drop, take-append-drop, get_or-eq_default}
use lib.Seq.{take-suc, take-length}
use lib.Dec.{eqb, leb}
use borrow.Author.Tests.{eqb-true, leb-true}
use Rattle.lin_spec.specs.Base.{pick, All, concat, eq_list, join_by, ascii}
use Rattle.lin_spec.specs.Utf8.{Utf, first, utf_step, utf, utf8}
use Rattle.lin_spec.specs.Utf8.Utf.{whole, needs, ill}
use Rattle.lin_spec.specs.Records.{span, bytes_at, part}
use Rattle.lin_spec.specs.Board.{is_digit, number_in, Present}
use Rattle.lin_spec.specs.Annotation.{note_of, note_spans, run, is_mark, char_bytes, part_length, parts_up_to, annotation_parts, nag_word, note_text, note_word, is_closed, between, part_word, words_of, joined_words, annotation_text}
use Rattle.lin_spec.specs.declared.Span.{Span}
use Rattle.lin_spec.proofs.Base.{picked, and_left, and_right, split, all_map, all_keep}
use Rattle.lin_spec.proofs.Utf8.{utf-ill, utf8-whole, whole-utf8, utf8-after, utf8_append, Ascii, utf8-ascii, utf8-cut}

char_some : (u : Utf) → 0 < char_bytes u
char_some whole = omega arith
char_some (needs n lo hi) = omega arith
char_some ill = omega arith

pub part-some : (b : ℕ) (s : List ℕ) → 0 < part_length (b ∷ s)
unfolding part_length
part-some b s =
    picked (λ (k : ℕ). 0 < k) (eqb b (code "=")) (λ _. omega arith) λ _.
    picked (λ (k : ℕ). 0 < k) (eqb b (code "$")) (λ _. omega arith) λ _.
    picked (λ (k : ℕ). 0 < k) (is_mark b) (λ _. omega arith) (λ _. char_some (first b))

parts_whole : (n : ℕ) (s : List ℕ) → length s ≤ n → concat (parts_up_to n s) ≡ s
unfolding parts_up_to concat
parts_whole zero [] h = refl
parts_whole zero (b ∷ s) h = absurd (let z : ⊥ = omega arith in z)
parts_whole (suc n) [] h = refl
parts_whole (suc n) (b ∷ s) h =
    let k = part_length (b ∷ s) in
    let p = part-some b s in
    let l = length-drop k (b ∷ s) in
    ap (λ (r : List ℕ). take k (b ∷ s) ++ r) (parts_whole n (drop k (b ∷ s)) (omega arith)) ∙ take-append-drop k (b ∷ s)

pub parts_are : (s : List ℕ) → concat (annotation_parts s) ≡ s
unfolding annotation_parts
parts_are s = parts_whole (length s) s (omega arith)

-- The parts of a text of UTF-8 are UTF-8

abbrev Utf8 : List ℕ → Type 0
Utf8 s = utf8 s ≡ true

ill-whole : ill ≡ whole → ⊥
ill-whole e = let z : ◌≡◌ {A = ℕ} 0 1 = cc in omega arith

needs-whole : (n lo hi : ℕ) → needs n lo hi ≡ whole → ⊥
needs-whole n lo hi e = let z : ◌≡◌ {A = ℕ} 0 1 = cc in omega arith

-- the bytes that complete a character
rest_of_char : (n lo hi : ℕ) (s : List ℕ) → utf (needs n lo hi) s ≡ whole → utf (needs n lo hi) (take (suc n) s) ≡ whole
unfolding utf utf_step
rest_of_char n lo hi [] h = absurd (needs-whole n lo hi h)
rest_of_char zero lo hi (b ∷ s) h = go (leb lo b && leb b hi) h
  where
    go : (t : Bool) → utf (pick t whole ill) s ≡ whole → pick t whole ill ≡ whole
    go true k = refl
    go false k = absurd (ill-whole (sym (utf-ill s) ∙ k))
rest_of_char (suc n) lo hi (b ∷ s) h = go (leb lo b && leb b hi) h (rest_of_char n 0x80 0xBF s)
  where
    go : (t : Bool) → utf (pick t (needs n 0x80 0xBF) ill) s ≡ whole → (utf (needs n 0x80 0xBF) s ≡ whole → utf (needs n 0x80 0xBF) (take (suc n) s) ≡ whole)
        → utf (pick t (needs n 0x80 0xBF) ill) (take (suc n) s) ≡ whole
    go true k ih = ih k
    go false k ih = absurd (ill-whole (sym (utf-ill s) ∙ k))

char_utf8 : (b : ℕ) (s : List ℕ) → Utf8 (b ∷ s) → Utf8 (take (char_bytes (first b)) (b ∷ s))
unfolding utf utf_step
char_utf8 b s h = whole-utf8 (take (char_bytes (first b)) (b ∷ s)) (go (first b) refl (utf8-whole (b ∷ s) h))
  where
    go : (u : Utf) → first b ≡ u → utf (first b) s ≡ whole → utf whole (take (char_bytes (first b)) (b ∷ s)) ≡ whole
    go whole e k = simp e
    go (needs n lo hi) e k =
        ap (λ (u : Utf). utf whole (take (char_bytes u) (b ∷ s))) e
        ∙ ap (λ (u : Utf). utf u (take (suc n) s)) e
        ∙ rest_of_char n lo hi s (ap (λ (u : Utf). utf u s) (sym e) ∙ k)
    go ill e k = absurd (ill-whole (sym (utf-ill s) ∙ (simp e at k)))

-- a run of bytes that pass a test
run-all : (f : ℕ → Bool) (s : List ℕ) → All (λ (b : ℕ). f b ≡ true) (take (run f s) s)
unfolding run
run-all f [] = tt
run-all f (b ∷ s) = picked (λ (k : ℕ). All (λ (c : ℕ). f c ≡ true) (take k (b ∷ s))) (f b) (λ e. (e, run-all f s)) (λ _. tt)

run_most : (f : ℕ → Bool) (s : List ℕ) → run f s ≤ length s
unfolding run
run_most f [] = omega arith
run_most f (b ∷ s) = picked (λ (k : ℕ). k ≤ suc (length s)) (f b) (λ _. (let m = run_most f s in omega arith)) (λ _. omega arith)

-- and the byte after it, which does not
run-stops : (f : ℕ → Bool) (s : List ℕ) → run f s < length s → f (get_or s (run f s) 0) ≡ false
unfolding run
run-stops f [] h = absurd (let z : ⊥ = omega arith in z)
run-stops f (b ∷ s) h = go (f b) refl h (run-stops f s)
  where
    go : (t : Bool) → f b ≡ t → pick t (suc (run f s)) 0 < suc (length s) → (run f s < length s → f (get_or s (run f s) 0) ≡ false) → f (get_or (b ∷ s) (pick t (suc (run f s)) 0) 0) ≡ false
    go true e k ih = ih (omega arith)
    go false e k ih = e

mark-ascii : (b : ℕ) → is_mark b ≡ true → Ascii b
mark-ascii b h = go (eqb b (code "!")) refl h
  where
    go : (t : Bool) → eqb b (code "!") ≡ t → (t || eqb b (code "?")) ≡ true → Ascii b
    go true e k = let z = eqb-true b (code "!") e in omega arith
    go false e k = let z = eqb-true b (code "?") k in omega arith

digit-ascii : (b : ℕ) → is_digit b ≡ true → Ascii b
digit-ascii b h = let z = leb-true b 0x39 (and_right (leb 0x30 b) (leb b 0x39) h) in omega arith

all_ascii : (f : ℕ → Bool) → ((b : ℕ) → f b ≡ true → Ascii b) → (s : List ℕ) → All (λ (b : ℕ). f b ≡ true) s → All Ascii s
all_ascii f a [] h = tt
all_ascii f a (b ∷ s) h = (a b h.0, all_ascii f a s h.1)

-- a part of ASCII: its first byte, and a run
run-utf8 : (f : ℕ → Bool) → ((b : ℕ) → f b ≡ true → Ascii b) → (b : ℕ) (s : List ℕ) → Ascii b → Utf8 (take (suc (run f s)) (b ∷ s))
run-utf8 f a b s h = utf8-ascii (take (suc (run f s)) (b ∷ s)) (h, all_ascii f a (take (run f s) s) (run-all f s))

-- `=` to the next `=`, or to the end
closed_utf8 : (s : List ℕ) → Utf8 (code "=" ∷ s) → Utf8 (take (min (run (λ c. not (eqb c (code "="))) s + 2) (suc (length s))) (code "=" ∷ s))
closed_utf8 s h =
    let f : ℕ → Bool = λ c. not (eqb c (code "=")) in
    let i = run f s in
    split i (length s)
    (λ l.
    let z : min (i + 2) (suc (length s)) ≡ suc (suc i) = omega arith in
    let c : get_or s i 0 ≡ code "=" = is_equals (get_or s i 0) (run-stops f s l) in
    let t : take (suc i) s ≡ take i s ++ code "=" ∷ [] = take-suc s i 0 l ∙ ap (λ (b : ℕ). take i s ++ b ∷ []) c in
    let w : Utf8 s = and_right (utf8 []) (utf8 s) (sym (utf8-cut [] (code "=") s (omega arith)) ∙ h) in
    let y : s ≡ take i s ++ code "=" ∷ drop (suc i) s = sym (take-append-drop (suc i) s) ∙ ap (λ (x : List ℕ). x ++ drop (suc i) s) t ∙ append_assoc (take i s) (code "=" ∷ []) (drop (suc i) s) in
    let u : Utf8 (take i s) = and_left (utf8 (take i s)) (utf8 (drop (suc i) s)) (sym (utf8-cut (take i s) (code "=") (drop (suc i) s) (omega arith)) ∙ ap utf8 (sym y) ∙ w) in
    subst (λ (k : ℕ). Utf8 (take k (code "=" ∷ s))) (sym z)
    (subst (λ (x : List ℕ). Utf8 (code "=" ∷ x)) (sym t) (utf8_append (code "=" ∷ []) (take i s ++ code "=" ∷ []) (utf8-ascii (code "=" ∷ []) (omega arith, tt)) (utf8_append (take i s) (code "=" ∷ []) u (utf8-ascii (code "=" ∷ []) (omega arith, tt))))))
    (λ l.
    let m = run_most f s in
    let z : min (i + 2) (suc (length s)) ≡ suc (length s) = omega arith in
    subst (λ (k : ℕ). Utf8 (take k (code "=" ∷ s))) (sym z) (ap utf8 (take-length (code "=" ∷ s)) ∙ h))
  where
    is_equals : (b : ℕ) → not (eqb b (code "=")) ≡ false → b ≡ code "="
    is_equals b e = eqb-true b (code "=") (go (eqb b (code "=")) e)
      where
        go : (t : Bool) → not t ≡ false → t ≡ true
        go true k = refl
        go false k = absurd (false≢true (sym k))

part-utf8 : (b : ℕ) (s : List ℕ) → Utf8 (b ∷ s) → Utf8 (take (part_length (b ∷ s)) (b ∷ s))
unfolding part_length
part-utf8 b s h =
    picked (λ (k : ℕ). Utf8 (take k (b ∷ s))) (eqb b (code "=")) (λ e. equals (eqb-true b (code "=") e)) λ _.
    picked (λ (k : ℕ). Utf8 (take k (b ∷ s))) (eqb b (code "$")) (λ e. run-utf8 is_digit digit-ascii b s (let z = eqb-true b (code "$") e in omega arith)) λ _.
    picked (λ (k : ℕ). Utf8 (take k (b ∷ s))) (is_mark b) (λ e. run-utf8 is_mark mark-ascii b s (mark-ascii b e)) (λ _. char_utf8 b s h)
  where
    equals : b ≡ code "=" → Utf8 (take (min (run (λ c. not (eqb c (code "="))) s + 2) (suc (length s))) (b ∷ s))
    equals e =
        subst (λ (c : ℕ). Utf8 (take (min (run (λ d. not (eqb d (code "="))) s + 2) (suc (length s))) (c ∷ s))) (sym e) (closed_utf8 s (ap (λ (c : ℕ). utf8 (c ∷ s)) (sym e) ∙ h))

parts_utf8 : (n : ℕ) (s : List ℕ) → Utf8 s → All Utf8 (parts_up_to n s)
unfolding parts_up_to
parts_utf8 zero s h = tt
parts_utf8 (suc n) [] h = tt
parts_utf8 (suc n) (b ∷ s) h =
    let k = part_length (b ∷ s) in
    let p = part-utf8 b s h in
    let r : Utf8 (drop k (b ∷ s)) = sym (utf8-after (take k (b ∷ s)) (drop k (b ∷ s)) p) ∙ ap utf8 (take-append-drop k (b ∷ s)) ∙ h in
    (p, parts_utf8 n (drop k (b ∷ s)) r)

-- The notes: what holds of the spans of all notes holds of that of a number

get_or_three : (a b c : ℕ) (ws : List ℕ) (i : ℕ) → get_or (a ∷ b ∷ c ∷ ws) (i + 3) 0 ≡ get_or ws i 0
get_or_three a b c ws i = let z : i + 3 ≡ suc (suc (suc i)) = omega arith in ap (λ (k : ℕ). get_or (a ∷ b ∷ c ∷ ws) k 0) z

note-later : (a b c : ℕ) (ws : List ℕ) (n : ℕ) → note_of (a ∷ b ∷ c ∷ ws) (suc n) ≡ note_of ws n
unfolding note_of
note-later a b c ws n =
    let at : (i j : ℕ) → i ≡ j + 3 → get_or (a ∷ b ∷ c ∷ ws) i 0 ≡ get_or ws j 0 = λ i j e. ap (λ (k : ℕ). get_or (a ∷ b ∷ c ∷ ws) k 0) e ∙ get_or_three a b c ws j in
    let x = at (suc n * 3) (n * 3) (omega arith) in
    let y = at (suc n * 3 + 1) (n * 3 + 1) (omega arith) in
    let z = at (suc n * 3 + 2) (n * 3 + 2) (omega arith) in
    λ i. pick (eqb (x i) 0) None (Some (span (y i) (z i)))

-- a list that ends within a note has no byte of its text there
note-short : (P : Span → Type 0) → ((a : ℕ) → P (span a 0)) → (ws : List ℕ) → length ws ≤ 2 → (n : ℕ) → Present P (note_of ws n)
unfolding note_of
note-short P nil ws l n =
    let z : get_or ws (n * 3 + 2) 0 ≡ 0 = get_or-eq_default ws 0 (let k : length ws ≤ n * 3 + 2 = omega arith in k) in
    picked (Present P) (eqb (get_or ws (n * 3) 0) 0) (λ _. tt) (λ _. subst (λ (k : ℕ). P (span (get_or ws (n * 3 + 1) 0) k)) (sym z) (nil (get_or ws (n * 3 + 1) 0)))

pub note-named : (P : Span → Type 0) → ((a : ℕ) → P (span a 0)) → (ws : List ℕ) → All P (note_spans ws) → (n : ℕ) → Present P (note_of ws n)
unfolding note_spans
note-named P nil [] h n = note-short P nil [] (omega arith) n
note-named P nil (a ∷ []) h n = note-short P nil (a ∷ []) (omega arith) n
note-named P nil (a ∷ b ∷ []) h n = note-short P nil (a ∷ b ∷ []) (omega arith) n
note-named P nil (a ∷ b ∷ c ∷ ws) h zero = unfold note_of in go (eqb a 0) h
  where
    go : (t : Bool) → All P (pick t (note_spans ws) (span b c ∷ note_spans ws)) → Present P (pick t None (Some (span b c)))
    go true k = tt
    go false k = k.0
note-named P nil (a ∷ b ∷ c ∷ ws) h (suc n) = subst (Present P) (sym (note-later a b c ws n)) (note-named P nil ws (go (eqb a 0) h) n)
  where
    go : (t : Bool) → All P (pick t (note_spans ws) (span b c ∷ note_spans ws)) → All P (note_spans ws)
    go true k = k
    go false k = k.1

-- The text of an annotation

nag_utf8 : (p : List ℕ) → Utf8 (nag_word p)
unfolding nag_word utf8 utf utf_step first
nag_utf8 p =
    picked Utf8 (eq_list p (ascii "$1")) (λ _. refl) λ _.
    picked Utf8 (eq_list p (ascii "$2")) (λ _. refl) λ _.
    picked Utf8 (eq_list p (ascii "$3")) (λ _. refl) λ _.
    picked Utf8 (eq_list p (ascii "$4")) (λ _. refl) λ _.
    picked Utf8 (eq_list p (ascii "$5")) (λ _. refl) λ _.
    picked Utf8 (eq_list p (ascii "$6")) (λ _. refl) (λ _. refl)

module _ (s ws : List ℕ) (notes : All (λ (x : Span). Utf8 (bytes_at s x)) (note_spans ws)) where
  note-utf8 : (p : List ℕ) → Utf8 p → (o : Option ℕ) → Utf8 (note_word s ws p o)
  note-utf8 p h None = h
  note-utf8 p h (Some n) = go (note_of ws n) (note-named (λ (x : Span). Utf8 (bytes_at s x)) (λ a. unfold part in utf8-ascii [] tt) ws notes n)
    where
      go : (o : Option Span) → Present (λ (x : Span). Utf8 (bytes_at s x)) o → Utf8 (note_text s p o)
      go None g = h
      go (Some x) g = g

  word-utf8 : (p : List ℕ) → Utf8 p → Utf8 (part_word s ws p)
  unfolding part_word
  word-utf8 p h =
      picked Utf8 (is_closed p) (λ _. note-utf8 p h (number_in 255 (between p))) λ _.
      picked Utf8 (eqb (run is_mark p) (length p)) (λ _. h) (λ _. nag_utf8 p)

  words-utf8 : (ps : List (List ℕ)) → All Utf8 ps → All Utf8 (words_of s ws ps)
  words-utf8 ps h = all_keep Utf8 Utf8 _ (λ _ k _. k) _ (all_map Utf8 Utf8 (part_word s ws) word-utf8 ps h)

  join-utf8 : (xs : List (List ℕ)) → All Utf8 xs → Utf8 (join_by (ascii " ") xs)
  unfolding join_by
  join-utf8 [] h = utf8-ascii [] tt
  join-utf8 (x ∷ []) h = h.0
  join-utf8 (x ∷ y ∷ r) h = utf8_append x _ h.0 (utf8_append (ascii " ") _ (utf8-ascii (ascii " ") (omega arith, tt)) (join-utf8 (y ∷ r) h.1))

  pub annotation-utf8 : (raw : List ℕ) → Utf8 raw → Present Utf8 (annotation_text s ws raw)
  unfolding annotation_text annotation_parts
  annotation-utf8 raw h = go (words_of s ws (annotation_parts raw)) (words-utf8 (annotation_parts raw) (parts_utf8 (length raw) raw h))
    where
      go : (xs : List (List ℕ)) → All Utf8 xs → Present Utf8 (joined_words xs)
      go [] g = tt
      go (x ∷ xs) g = join-utf8 (x ∷ xs) g
