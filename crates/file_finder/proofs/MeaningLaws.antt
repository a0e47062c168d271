-- What the finder's answer means: names that are the same find the same boards, a name of ASCII is found by its bytes, and how much work space is always
-- enough. (01: names; 02: N3)
-- Assumes nothing.
use Rattle.std.specs.Prelude.{Option, None, Some}
use Prim.Native.Nat.{ℕ, ◌+◌, ◌*◌, ◌≤◌}
use native.Mathlib.Omega.{arith}
use mathlib.Core.Path.{◌≡◌, refl, ap}
use mathlib.Core.Bool.{Bool, true, false, not}
use mathlib.Core.List.{List, [], ◌∷◌}
use lib.ListN.{length}
use borrow.Author.Tests.{le-ltb}
use Rattle.lin_spec.specs.Base.{All, any, count_if, eq_list}
use Rattle.lin_spec.specs.Records.{limit, end_of, bytes_at}
use Rattle.lin_spec.specs.Utf8.{utf8, longest}
use Rattle.lin_spec.specs.Refusals.{unless, too_long, not_utf8, too_small, refuse_if}
use Rattle.lin_spec.specs.Board.{BoardOf}
use Rattle.lin_spec.specs.File.{file_spans}
use Rattle.lin_spec.specs.declared.Span.{Span}
use Rattle.lin_spec.specs.declared.Refusal.{Refusal}
use Rattle.lin_spec.specs.declared.Refusal.TheVariants.{NotUtf8}
use Rattle.lin_spec.proofs.Base.{every, any_alike, keep_alike}
use Rattle.lin_spec.proofs.Lendable.{Legal, boards_legal}
use Rattle.accents.specs.Names.{same_name, only_ascii}
use Rattle.accents.proofs.NameLaws.{same_alike, same-places, ascii-same}
use Rattle.file_finder.specs.Finder.{has_name, places_needed, find_name}
use Rattle.file_finder.proofs.MeasureLaws.{needed_most}

-- Names that are the same

pub found_alike : (s a b : List ℕ) → same_name a b ≡ true → (bs : List (BoardOf Span)) → count_if (has_name s a) bs ≡ count_if (has_name s b) bs
found_alike s a b h bs =
    ap length (keep_alike (has_name s a) (has_name s b) bs (every (λ (c : BoardOf Span). has_name s a c ≡ has_name s b c) alike bs))
  where
    alike : (c : BoardOf Span) → has_name s a c ≡ has_name s b c
    alike c = any_alike (λ (x : Span). same_name (bytes_at s x) a) (λ (x : Span). same_name (bytes_at s x) b) c.names (every (λ (x : Span). same_name (bytes_at s x) a ≡ same_name (bytes_at s x) b) (λ x. same_alike a b (bytes_at s x) h) c.names)

-- the answer is the same for both, 7 too: an editor finds the same films from either keyboard
pub find_alike : (s a b : List ℕ) (room : ℕ) → length a ≤ limit → length b ≤ limit → utf8 a ≡ true → utf8 b ≡ true → same_name a b ≡ true → find_name s a room ≡ find_name s b room
unfolding find_name unless
find_alike s a b room k l u v h = simp (le-ltb limit (length a) k, le-ltb limit (length b) l, u, v, same-places a b h, found_alike s a b h (file_spans s))

-- A name of ASCII is found where its bytes stand, as it was before sameness took accents

pub ascii-found : (s name : List ℕ) → utf8 s ≡ true → utf8 name ≡ true → only_ascii name ≡ true → count_if (has_name s name) (file_spans s) ≡ count_if (λ (b : BoardOf Span). any (λ (x : Span). eq_list (bytes_at s x) name) b.names) (file_spans s)
ascii-found s name u v o =
    ap length (keep_alike (has_name s name) (λ (b : BoardOf Span). any (λ (x : Span). eq_list (bytes_at s x) name) b.names) (file_spans s) (boards (file_spans s) (boards_legal s u)))
  where
    names : (xs : List Span) → All (λ (x : Span). (end_of x ≤ length s) × (utf8 (bytes_at s x) ≡ true)) xs → All (λ (x : Span). same_name (bytes_at s x) name ≡ eq_list (bytes_at s x) name) xs
    names [] h = tt
    names (x ∷ xs) h = (ascii-same (bytes_at s x) name o h.0.1 v, names xs h.1)

    boards : (bs : List (BoardOf Span)) → All (Legal s) bs → All (λ (b : BoardOf Span). has_name s name b ≡ any (λ (x : Span). eq_list (bytes_at s x) name) b.names) bs
    boards [] h = tt
    boards (b ∷ bs) h = (any_alike (λ (x : Span). same_name (bytes_at s x) name) (λ (x : Span). eq_list (bytes_at s x) name) b.names (names b.names h.0.texts.names), boards bs h.1)

-- How much is always enough: with three places for each two bytes of both texts 7 meets no call

front_same : {A : Type 0} (a : A) (c : Option Refusal) (x y : List (Option Refusal)) → unless x a ≡ unless y a → unless (c ∷ x) a ≡ unless (c ∷ y) a
unfolding unless
front_same a None x y e = e
front_same a (Some r) x y e = refl

pub always_enough : (s name : List ℕ) (room : ℕ) → 3 * (length s + length name) ≤ 2 * room
    → find_name s name room ≡ unless (too_long s ∷ too_long name ∷ not_utf8 s ∷ not_utf8 name ∷ []) (count_if (has_name s name) (file_spans s))
unfolding find_name unless
always_enough s name room h =
    front_same n (too_long s) (too_long name ∷ not_utf8 s ∷ not_utf8 name ∷ seven ∷ []) (too_long name ∷ not_utf8 s ∷ not_utf8 name ∷ [])
    (front_same n (too_long name) (not_utf8 s ∷ not_utf8 name ∷ seven ∷ []) (not_utf8 s ∷ not_utf8 name ∷ []) (first (utf8 s) refl))
  where
    n : ℕ
    n = count_if (has_name s name) (file_spans s)

    seven : Option Refusal
    seven = too_small room (places_needed s name)

    second : (t : Bool) → utf8 s ≡ true → utf8 name ≡ t → unless (refuse_if (not t) (NotUtf8 (longest name)) ∷ seven ∷ []) n ≡ unless (refuse_if (not t) (NotUtf8 (longest name)) ∷ []) n
    second true u v = let z : places_needed s name ≤ room = omega (arith, needed_most s name u v, h) in simp (le-ltb room (places_needed s name) z)
    second false u v = refl

    first : (t : Bool) → utf8 s ≡ t → unless (refuse_if (not (utf8 s)) (NotUtf8 (longest s)) ∷ not_utf8 name ∷ seven ∷ []) n ≡ unless (refuse_if (not (utf8 s)) (NotUtf8 (longest s)) ∷ not_utf8 name ∷ []) n
    first true u = rw u (second (utf8 name) u refl)
    first false u = rw u refl
