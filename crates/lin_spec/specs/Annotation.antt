-- A raw PBN annotation as text. (01: From PBN, "Annotation parts ..")
use Rattle.std.specs.Prelude.{ℕ, zero, suc, ◌+◌, ◌-◌, ◌*◌, min, Bool, ◌&&◌, ◌||◌, not, List, [], ◌∷◌, map, length, take, drop, get_or, eqb, Option, None, Some}
use Prim.Native.Char.{code}
use Rattle.lin_spec.specs.Base.{pick, keep, null, eq_list, starts, join_by, ascii}
use Rattle.lin_spec.specs.Records.{span, bytes_at}
use Rattle.lin_spec.specs.Utf8.{Utf, first}
use Rattle.lin_spec.specs.Utf8.Utf.{whole, needs, ill}
use Rattle.lin_spec.specs.Refusals.{Answer, unless, too_long, past_end, span_not_utf8, too_small}
use Rattle.lin_spec.specs.Output.{room, output_after}
use Rattle.lin_spec.specs.Board.{ends_in, is_digit, number_in, map_option}
use Rattle.lin_spec.specs.Writer.{or_empty}
use Rattle.lin_spec.specs.declared.Span.{Span}

-- "a note span or absent for each of the 256 note numbers": three words to a number; the first is 0 where there is none
unfoldable pub note_of : (notes : List ℕ) (number : ℕ) → Option Span
note_of ws n = pick (eqb (get_or ws (n * 3) 0) 0) None (Some (span (get_or ws (n * 3 + 1) 0) (get_or ws (n * 3 + 2) 0)))

-- the spans of all notes
unfoldable pub note_spans : (notes : List ℕ) → List Span
note_spans (t ∷ a ∷ n ∷ ws) = pick (eqb t 0) (note_spans ws) (span a n ∷ note_spans ws)
note_spans (t ∷ a ∷ []) = []
note_spans (t ∷ []) = []
note_spans [] = []

-- how many bytes at the front pass a test
unfoldable pub run : (ℕ → Bool) → List ℕ → ℕ
run f [] = 0
run f (b ∷ s) = pick (f b) (suc (run f s)) 0

abbrev pub is_mark : ℕ → Bool
is_mark b = eqb b (code "!") || eqb b (code "?")

-- how many bytes a character has, by its first
abbrev pub char_bytes : Utf → ℕ
char_bytes whole = 1
char_bytes (needs n lo hi) = suc (suc n)
char_bytes ill = 1

-- "`=` to the next `=` (or the end); `$` with its digits; a run of `!` and `?`; else one character": how long the part at the front is
unfoldable pub part_length : List ℕ → ℕ
part_length [] = 0
part_length (b ∷ s) =
    pick (eqb b (code "=")) (min (run (λ c. not (eqb c (code "="))) s + 2) (suc (length s)))
    (pick (eqb b (code "$")) (suc (run is_digit s)) (pick (is_mark b) (suc (run is_mark s)) (char_bytes (first b))))

-- the parts of a text, of which there are at most n
unfoldable pub parts_up_to : (n : ℕ) → List ℕ → List (List ℕ)
parts_up_to zero s = []
parts_up_to (suc n) [] = []
parts_up_to (suc n) (b ∷ s) = let k = part_length (b ∷ s) in take k (b ∷ s) ∷ parts_up_to n (drop k (b ∷ s))

unfoldable pub annotation_parts : List ℕ → List (List ℕ)
annotation_parts s = parts_up_to (length s) s

-- "`$1` to `$6` give `!` `?` `!!` `??` `!?` `?!`" (PBN 3.5.4); "others .. go"
unfoldable pub nag_word : List ℕ → List ℕ
nag_word p =
    pick (eq_list p (ascii "$1")) (ascii "!")
    (pick (eq_list p (ascii "$2")) (ascii "?")
    (pick (eq_list p (ascii "$3")) (ascii "!!")
    (pick (eq_list p (ascii "$4")) (ascii "??") (pick (eq_list p (ascii "$5")) (ascii "!?") (pick (eq_list p (ascii "$6")) (ascii "?!") [])))))

-- "`=n=` gives note n, read as mc's digits but untrimmed, or stays as written"
abbrev pub note_text : (s part : List ℕ) → Option Span → List ℕ
note_text s p None = p
note_text s p (Some x) = bytes_at s x

abbrev pub note_word : (s notes part : List ℕ) → (number : Option ℕ) → List ℕ
note_word s ws p None = p
note_word s ws p (Some n) = note_text s p (note_of ws n)

-- a part between two `=`, and what stands between them
abbrev pub is_closed : List ℕ → Bool
is_closed p = starts (ascii "=") p && ends_in (code "=") (drop 1 p)

abbrev pub between : List ℕ → List ℕ
between p = take (length p - 2) (drop 1 p)

-- the word of a part: "runs stay"; one that goes has no word
unfoldable pub part_word : (s notes part : List ℕ) → List ℕ
part_word s ws p = pick (is_closed p) (note_word s ws p (number_in 255 (between p))) (pick (eqb (run is_mark p) (length p)) p (nag_word p))

-- "others and empty words go"
abbrev pub words_of : (s notes : List ℕ) → List (List ℕ) → List (List ℕ)
words_of s ws ps = keep (λ (w : List ℕ). not (null w)) (map (part_word s ws) ps)

-- "Words join with a space, none means absent."
abbrev pub joined_words : List (List ℕ) → Option (List ℕ)
joined_words [] = None
joined_words (w ∷ ws) = Some (join_by (ascii " ") (w ∷ ws))

unfoldable pub annotation_text : (s notes raw : List ℕ) → Option (List ℕ)
annotation_text s ws raw = joined_words (words_of s ws (annotation_parts raw))

-- The entry

pub record Annotated : Type 0 where
  pub answer : Answer (Option ℕ)
  pub output : List ℕ

-- refusals 1, 5, 6 and 7, each over the text, the raw annotation and all notes
unfoldable pub write_annotation : (s : List ℕ) (raw : Span) (notes o : List ℕ) → Annotated
write_annotation s raw ws o =
    let w = annotation_text s ws (bytes_at s raw) in
    let xs = raw ∷ note_spans ws in
    let a = unless (too_long s ∷ past_end s xs ∷ span_not_utf8 s xs ∷ too_small (room o) (length (or_empty w)) ∷ []) (map_option length w) in
    record { answer = a; output = output_after a o (or_empty w) }
