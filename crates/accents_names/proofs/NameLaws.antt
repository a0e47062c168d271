-- Laws of the code that compares a name with the one that is looked for, whose mapped characters stand at the front of the work space. (02: N3)
-- Assumes nothing.
use Prim.Native.Nat.{ℕ, ◌+◌, ◌-◌, ◌≤◌}
use native.Mathlib.Omega.{arith}
use mathlib.Core.Path.{◌≡◌, refl, ap, sym, ◌∙◌}
use mathlib.Core.Bool.{Bool, true, false, ◌&&◌}
use mathlib.Core.List.{List, [], ◌∷◌, ◌++◌, append_assoc}
use lib.ListN.{length, take, drop, length-take}
use lib.Seq.{take-append_seam, drop-append_seam}
use lib.Dec.{ltb}
use Rattle.std.specs.List.{list_all}
use Rattle.lin_spec.specs.Base.{all, eq_list}
use Rattle.lin_spec.specs.Output.{overlay}
use Rattle.lin_spec.proofs.Base.{eq_list_lem}
use Rattle.output.specs.Put.{Room, Put}
use Rattle.output.proofs.Laws.{length-overlay}
use Rattle.accents.specs.Mapping.{mapped}
use Rattle.accents.specs.Ordering.{order, canonical}
use Rattle.accents.specs.Chars.{chars}
use Rattle.accents.specs.Names.{same_name, places, only_ascii}
use Rattle.accents.proofs.NameLaws.{same_self, ascii-same, places_differ}
use Rattle.accents_names.specs.Work.{Fillable, Known, Laid, Comparable}
use Rattle.accents_names.specs.declared.names.Sought.{Sought}

-- The bytes of a name

-- the test of each byte is the definition's
pub ascii-is : (s : List ℕ) → list_all (λ (b : ℕ). ltb b 0x80) s ≡ only_ascii s
unfolding only_ascii all
ascii-is [] = refl
ascii-is (b ∷ s) = ap (λ t. ltb b 0x80 && t) (ascii-is s)

-- A text put into work space

module _ (o : List ℕ) (n : ℕ) (y d : List ℕ) (m : ℕ) (r : Room o n y) (p : Put o n y d m) where
  pub put_long : length d ≡ length o
  put_long = ap length p.text ∙ length-overlay o n y r.room

  pub put_within : (n ≤ m) × (m ≤ length d)
  put_within = (omega (arith, p.next), omega (arith, p.next, put_long, r.room))

  size : length (take n o) ≡ n
  size = simp length-take (omega (arith, r.room))

  apart : d ≡ take n o ++ (y ++ drop (n + length y) o)
  unfolding overlay
  apart = p.text ∙ append_assoc (take n o) y (drop (n + length y) o)

  -- what stood before it stays
  pub put_front : take n d ≡ take n o
  put_front = ap (λ (k : ℕ). take k d) (sym size) ∙ ap (take (length (take n o))) apart ∙ take-append_seam (take n o) (y ++ drop (n + length y) o)

  -- and it stands behind that
  pub put_there : take (m - n) (drop n d) ≡ y
  put_there =
      let k : m - n ≡ length y = omega (arith, p.next) in
      let e : drop n d ≡ y ++ drop (n + length y) o = ap (λ (k : ℕ). drop k d) (sym size) ∙ ap (drop (length (take n o))) apart ∙ drop-append_seam (take n o) (y ++ drop (n + length y) o) in
      ap (λ (k : ℕ). take k (drop n d)) k ∙ ap (take (length y)) e ∙ take-append_seam y (drop (n + length y) o)

-- The name that is looked for

pub laid_put : (name : List ℕ) (s : Sought) (o d : List ℕ) (m : ℕ) → Known name s → Room o 0 (mapped (chars name)) → Put o 0 (mapped (chars name)) d m → Laid name s d
unfolding places
laid_put name s o d m k r p =
    let e : m - 0 ≡ s.places = omega (arith, p.next, k.places) in
    record { known = k; front = λ _. ap (λ (i : ℕ). take i d) (sym e) ∙ put_there o 0 (mapped (chars name)) d m r p }

module _ (w x name : List ℕ) (s : Sought) (o : List ℕ) (h : Comparable w x name s o) where
  module _ (t : Bool) (e : t ≡ eq_list x name) where
    pub bytes_same : t ≡ true → true ≡ same_name x name
    bytes_same f = sym (rw (eq_list_lem x name (sym e ∙ f)) (same_self name))

    pub ascii-other : t ≡ false → s.ascii ≡ true → false ≡ same_name x name
    ascii-other f g = sym f ∙ e ∙ sym (ascii-same x name (sym h.laid.known.ascii ∙ g) h.first h.second)

  pub few-other : (n : ℕ) → n ≡ places x → (n ≡ s.places → ⊥) → false ≡ same_name x name
  few-other n e d = places_differ x name (λ f. d (e ∙ f ∙ sym h.laid.known.places))

  room-behind : Room o s.places (mapped (chars x))
  unfolding places
  room-behind = record { room = omega (arith, h.room, h.laid.known.places) }

  pub name_fits : Fillable w x o s.places
  name_fits = record { copied = h.copied; short = h.short; room = room-behind }

  module _ (d : List ℕ) (m : ℕ) (p : Put o s.places (mapped (chars x)) d m) where
    pub parts_within : (s.places ≤ m) × (m ≤ length d)
    parts_within = put_within o s.places (mapped (chars x)) d m room-behind p

    pub name_long : length d ≡ length o
    name_long = put_long o s.places (mapped (chars x)) d m room-behind p

    pub laid_still : Laid name s d
    laid_still = record { known = h.laid.known; front = λ f. put_front o s.places (mapped (chars x)) d m room-behind p ∙ h.laid.front f }

    pub compared : {r : Bool} → s.ascii ≡ false → r ≡ eq_list (order (take (m - s.places) (drop s.places d))) (order (take s.places d)) → r ≡ same_name x name
    unfolding same_name canonical
    compared f e =
        e ∙ ap (λ (l : List ℕ). eq_list (order l) (order (take s.places d))) (put_there o s.places (mapped (chars x)) d m room-behind p)
        ∙ ap (λ (l : List ℕ). eq_list (order (mapped (chars x))) (order l)) (laid_still.front f)
