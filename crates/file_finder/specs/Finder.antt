-- The finder: the boards of a file that have a name, the places of work space that a call needs, and what becomes of it. (01: names; 02: N3)
use Rattle.std.specs.Prelude.{ℕ, ◌+◌, max, ◌≡◌, Bool, List, [], ◌∷◌, map, length, Err, Ok}
use Rattle.lin_spec.specs.Base.{any, concat, count_if}
use Rattle.lin_spec.specs.Records.{bytes_at}
use Rattle.lin_spec.specs.Refusals.{Answer, unless, too_long, not_utf8, too_small}
use Rattle.lin_spec.specs.Board.{BoardOf}
use Rattle.lin_spec.specs.File.{file_spans}
use Rattle.lin_spec.specs.declared.Span.{Span}
use Rattle.accents.specs.Names.{same_name, places}

-- "at any seat"
abbrev pub has_name : (s name : List ℕ) → BoardOf Span → Bool
has_name s name b = any (λ x. same_name (bytes_at s x) name) b.names

-- the greatest of some numbers, 0 if there are none
unfoldable pub greatest : List ℕ → ℕ
greatest [] = 0
greatest (n ∷ ns) = max n (greatest ns)

-- the places that each name of a board takes
unfoldable pub places_in : (s : List ℕ) → BoardOf Span → List ℕ
places_in s b = map (λ (x : Span). places (bytes_at s x)) b.names

-- "the most in any name of the file's boards, 0 without boards"
unfoldable pub most_places : List ℕ → ℕ
most_places s = greatest (concat (map (places_in s) (file_spans s)))

-- "the places needed: the mapped characters of the sought name plus the most in any name of the file's boards"
abbrev pub places_needed : (s name : List ℕ) → ℕ
places_needed s name = places name + most_places s

-- "the finder counts a file's boards with a given name, a second text checked after the file"; "too little is refused by 7, checked last"
unfoldable pub find_name : (s name : List ℕ) (room : ℕ) → Answer ℕ
find_name s name room =
    unless (too_long s ∷ too_long name ∷ not_utf8 s ∷ not_utf8 name ∷ too_small room (places_needed s name) ∷ [])
    (count_if (has_name s name) (file_spans s))

-- "Work space is lent and free after a success": then it has its length and may hold anything; a refusal leaves it as it was
abbrev pub WorkAfter : Answer ℕ → (before after : List ℕ) → Type 0
WorkAfter (Err r) w v = v ≡ w
WorkAfter (Ok n) w v = length v ≡ length w

-- what a call promises that answers a, lent the work space w, which is v afterwards; its room is its whole length
pub record Finds (s name w : List ℕ) (a : Answer ℕ) (v : List ℕ) : Type 0 where
  pub answer : a ≡ find_name s name (length w)
  pub work : WorkAfter a w v
