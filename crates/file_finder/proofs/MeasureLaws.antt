-- Laws of the measuring of names: the greatest of some numbers, the sections measured so far, and how much room is always enough. (02: N3)
-- Assumes nothing.
use Prim.Native.Nat.{ℕ, ◌+◌, ◌*◌, ◌^◌, ◌≤◌, ◌<◌, max}
use native.Mathlib.Numerals.{add-one}
use native.Mathlib.Omega.{arith}
use mathlib.Core.Path.{◌≡◌, refl, ap, sym, ◌∙◌}
use mathlib.Core.Bool.{Bool, true, false, not, false≢true}
use mathlib.Core.List.{List, [], ◌∷◌, ◌++◌, map}
use lib.ListN.{length, take, drop, get_or, length-take, length-drop, drop_of_length-le}
use lib.Seq.{drop-cons}
use Rattle.lin_spec.specs.Base.{pick, All, keep, concat}
use Rattle.lin_spec.specs.Records.{limit, part, bytes_at}
use Rattle.lin_spec.specs.Utf8.{utf8}
use Rattle.lin_spec.specs.Board.{BoardOf}
use Rattle.lin_spec.specs.File.{Section as Part, Standing, sections, boards_of, board_in, file_spans, remaining}
use Rattle.lin_spec.specs.declared.Span.{Span}
use Rattle.lin_spec.proofs.Base.{picked, all_append, all_map}
use Rattle.lin_spec.proofs.Lendable.{Legal, boards_legal}
use Rattle.lin_spec.proofs.File.{Found, all_remain}
use Rattle.board_loop.specs.Head.{board_at}
use Rattle.accents.specs.Names.{places}
use Rattle.accents.proofs.NameLaws.{places_most}
use Rattle.file_sections.specs.Sections.{section_of, standing_of, AtFirst}
use Rattle.file_sections.specs.declared.sections.Section.{Section}
use Rattle.file_sections.specs.declared.sections.BoardCursor.{BoardCursor}
use Rattle.file_sections.proofs.WayLaws.{Way, way_begin, way_on}
use Rattle.file_finder.specs.Finder.{greatest, places_in, most_places, places_needed}
use Rattle.file_finder.specs.Walk.{MostIn}

-- A name of the text

shown_short : (s : List ℕ) (x : Span) → length (bytes_at s x) ≤ length s
unfolding part
shown_short s x = simp (length-take, length-drop) (omega arith)

pub shown_small : (s : List ℕ) (x : Span) (t : List ℕ) → t ≡ bytes_at s x → length s < 2 ^ 32 → length t < 4294967296
shown_small s x t e h = let l = ap length e in omega (arith, l, shown_short s x, h)

-- The greatest of some numbers, as a loop goes through them: n is that of the first i

module _ {A : Type 0} (f : A → ℕ) (d : A) (xs : List A) (n i : ℕ) (v : max n (greatest (map f (drop i xs))) ≡ greatest (map f xs)) where
  pub greatest-end : length xs ≤ i → n ≡ greatest (map f xs)
  unfolding greatest
  greatest-end h =
      let z : max n 0 ≡ greatest (map f xs) = rw (drop_of_length-le xs h) at v in
      omega (arith, z)

  pub greatest-next : i < length xs → (m r : ℕ) → m ≡ f (get_or xs i d) → r ≡ max n m → max r (greatest (map f (drop (i + 1) xs))) ≡ greatest (map f xs)
  unfolding greatest
  greatest-next h m r e q =
      let k : greatest (map f (drop i xs)) ≡ max m (greatest (map f (drop (i + 1) xs))) = rw (add-one, drop-cons xs i d h, e) refl in
      omega (arith, k, v, q)

pub greatest-append : (x y : List ℕ) → greatest (x ++ y) ≡ max (greatest x) (greatest y)
unfolding greatest
greatest-append [] y = omega arith
greatest-append (n ∷ x) y = let e = greatest-append x y in omega (arith, e)

pub greatest_most : (k : ℕ) (ns : List ℕ) → All (λ (n : ℕ). 2 * n ≤ k) ns → 2 * greatest ns ≤ k
unfolding greatest
greatest_most k [] h = omega arith
greatest_most k (n ∷ ns) h = let e = greatest_most k ns h.1 in omega (arith, e, h.0)

-- n more than the greatest fit k, so n more than each do
pub greatest-room : (n k : ℕ) (ns : List ℕ) → n + greatest ns ≤ k → All (λ (m : ℕ). n + m ≤ k) ns
unfolding greatest
greatest-room n k [] h = tt
greatest-room n k (m ∷ ns) h = (omega (arith, h), greatest-room n k ns (omega (arith, h)))

-- One section

pub most_none : (s : List ℕ) (p : Section) → not p.board ≡ true → MostIn s p 0
most_none s p h = go p.board refl h
  where
    go : (t : Bool) → p.board ≡ t → not t ≡ true → MostIn s p 0
    go true e k = absurd (false≢true k)
    go false e k = ap (λ (u : Bool). pick u (greatest (places_in s (board_in s (section_of p)))) 0) (sym e)

pub most_some : (s : List ℕ) (p : Section) → not p.board ≡ false → (names : List Span) → names ≡ (board_at (take p.stop s) p.start).names
    → (r : ℕ) → r ≡ greatest (map (λ (x : Span). places (bytes_at s x)) names) → MostIn s p r
unfolding board_in places_in
most_some s p h names n r e = go p.board refl h
  where
    go : (t : Bool) → p.board ≡ t → not t ≡ false → MostIn s p r
    go true q k =
        e ∙ ap (λ (l : List Span). greatest (map (λ (x : Span). places (bytes_at s x)) l)) n
        ∙ ap (λ (u : Bool). pick u (greatest (places_in s (board_in s (section_of p)))) 0) (sym q)
    go false q k = absurd (false≢true (sym k))

-- The sections measured so far, and those that remain

abbrev left : (s : List ℕ) → List Part → ℕ
left s ps = greatest (concat (map (places_in s) (map (board_in s) (boards_of ps))))

pub record Measured (s : List ℕ) (n : ℕ) (c : Standing) : Type 0 where
  pub way : Way s c
  pub all : max n (left s (remaining s c)) ≡ most_places s

pub measured_begin : (s : List ℕ) (c : BoardCursor) → AtFirst s c → Measured s 0 (standing_of c)
unfolding most_places file_spans
measured_begin s c r =
    let e : remaining s (standing_of c) ≡ sections s = ap (remaining s) r.first ∙ all_remain s in
    let a = ap (left s) e in
    record { way = way_begin s c r; all = omega (arith, a) }

pub measured-end : (s : List ℕ) (n : ℕ) (c : Standing) → Measured s n c → remaining s c ≡ [] → n ≡ most_places s
unfolding keep concat greatest
measured-end s n c t e = let a : n ≡ max n (left s (remaining s c)) = rw e (omega arith) in a ∙ t.all

pub measured-on : (s : List ℕ) (n : ℕ) (c : Standing) → Measured s n c → (m : ℕ) (p : Section) (d : Standing) → Found s c m (section_of p) d → (r k : ℕ) → MostIn s p r → k ≡ max n r → Measured s k d
unfolding keep concat
measured-on s n c t m p d f r k e q = record { way = way_on s c t.way m (section_of p) d f; all = let l = left_is in let a = t.all in omega (arith, l, a, q) }
  where
    at-board : p.board ≡ true → r ≡ greatest (places_in s (board_in s (section_of p)))
    at-board b = e ∙ ap (λ (u : Bool). pick u (greatest (places_in s (board_in s (section_of p)))) 0) b

    at_other : p.board ≡ false → r ≡ 0
    at_other b = e ∙ ap (λ (u : Bool). pick u (greatest (places_in s (board_in s (section_of p)))) 0) b

    left_is : left s (remaining s c) ≡ max r (left s (remaining s d))
    left_is =
        ap (left s) f.front
        ∙ picked (λ (l : List Part). greatest (concat (map (places_in s) (map (board_in s) l))) ≡ max r (left s (remaining s d))) p.board
        (λ b. greatest-append (places_in s (board_in s (section_of p))) _ ∙ (let y : r ≡ greatest (places_in s (board_in s (section_of p))) = at-board b in ap (λ (i : ℕ). max i (left s (remaining s d))) (sym y)))
        (λ b. let y = at_other b in omega (arith, y))

-- How much is always enough

all-concat : (P : ℕ → Type 0) (xs : List (List ℕ)) → All (All P) xs → All P (concat xs)
unfolding concat
all-concat P [] h = tt
all-concat P (x ∷ xs) h = all_append P x (concat xs) h.0 (all-concat P xs h.1)

names_most : (s : List ℕ) (b : BoardOf Span) → Legal s b → All (λ (n : ℕ). 2 * n ≤ 3 * length s) (places_in s b)
unfolding places_in
names_most s b h = all_map _ (λ (n : ℕ). 2 * n ≤ 3 * length s) (λ (x : Span). places (bytes_at s x)) (λ x k. omega (arith, places_most (bytes_at s x) k.1, shown_short s x)) b.names h.texts.names

pub file_most : (s : List ℕ) → utf8 s ≡ true → 2 * most_places s ≤ 3 * length s
unfolding most_places
file_most s u =
    greatest_most (3 * length s) (concat (map (places_in s) (file_spans s)))
    (all-concat (λ (n : ℕ). 2 * n ≤ 3 * length s) (map (places_in s) (file_spans s)) (all_map (Legal s) (All (λ (n : ℕ). 2 * n ≤ 3 * length s)) (places_in s) (λ b h. names_most s b h) (file_spans s) (boards_legal s u)))

-- a name of n bytes and a file of m need 3 * (m + n) / 2 places at the most
pub needed_most : (s name : List ℕ) → utf8 s ≡ true → utf8 name ≡ true → 2 * places_needed s name ≤ 3 * (length s + length name)
needed_most s name u v = omega (arith, file_most s u, places_most name v)

-- sums of places fit 64 bits
pub sum-small : (s : List ℕ) (n : ℕ) → utf8 s ≡ true → length s ≤ limit → n < 2 ^ 32 → n + most_places s < 2 ^ 64
sum-small s n u l h = omega (arith, file_most s u, l, h)
