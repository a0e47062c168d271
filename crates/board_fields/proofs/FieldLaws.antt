-- Laws of the fields of a heading: the names by pieces, sv, the dealer's digit. (01: Board)
-- Assumes nothing.
use Prim.Native.Nat.{ℕ, suc, ◌+◌, ◌-◌, ◌^◌, ◌≤◌, ◌<◌}
use native.Mathlib.Omega.{arith}
use mathlib.Core.Path.{◌≡◌, refl, ap, sym, ◌∙◌}
use mathlib.Core.Bool.{Bool, true, false, ◌||◌, not, false≢true}
use mathlib.Core.List.{List, [], ◌∷◌, ◌++◌, append_assoc, append-nil}
use native.Mathlib.Numerals.{add-one}
use lib.ListN.{length, get_or, set, take, drop, length-drop, length-set, drop_of_length-le}
use lib.Seq.{take_all, take-suc-set, drop-set-lt, drop-cons, set_split}
use lib.Dec.{eqb}
use Rattle.lin_spec.specs.Base.{pick, ascii}
use Rattle.lin_spec.specs.Records.{span, end_of, part, bytes_at}
use Rattle.lin_spec.specs.White.{same_word}
use Rattle.lin_spec.specs.Tokens.{Pieces, cut}
use Rattle.lin_spec.specs.Tokens.Pieces.{end, piece}
use Rattle.lin_spec.specs.Cursor.{find_from}
use Rattle.lin_spec.specs.Board.{named, read_sv}
use Rattle.lin_spec.specs.Reading.{span_text}
use Rattle.lin_spec.specs.declared.Span.{Span}
use Rattle.lin_spec.specs.declared.Vulnerability.TheVariants.{None, NorthSouth, EastWest, Both}
use Rattle.lin_spec.proofs.Base.{split}
use Rattle.lin_spec.proofs.Records.{part_length}
use Rattle.lin_spec.proofs.Reading.{part_most}
use Rattle.lin_spec.proofs.Cursor.{find-within, find-after, cut_at, cut-end}
use Rattle.board_fields.specs.Fields.{is_dealer, names_from}

pub changed : {A : Type 0} (t : Bool) (a b : A) {x : A} → not t ≡ false → x ≡ a → x ≡ pick t a b
changed true a b h e = e
changed false a b h e = absurd (false≢true (sym h))

-- md: the digit of a dealer
pub dealer-none : (s : List ℕ) → length s ≡ 0 → false ≡ is_dealer s
unfolding is_dealer
dealer-none [] h = refl
dealer-none (b ∷ s) h = absurd (let z : ⊥ = omega arith in z)

pub dealer-here : (s : List ℕ) → (length s ≡ 0 → ⊥)
    → (eqb (get_or s 0 0) 0x31 || (eqb (get_or s 0 0) 0x32 || (eqb (get_or s 0 0) 0x33 || eqb (get_or s 0 0) 0x34))) ≡ is_dealer s
unfolding is_dealer
dealer-here [] h = absurd (h refl)
dealer-here (b ∷ s) h = refl

-- sv: the four answers
module _ (s : List ℕ) (a b : Bool) (ea : a ≡ same_word s (ascii "n")) (eb : b ≡ same_word s (ascii "ns")) where
  pub sv_n : (a || b) ≡ true → NorthSouth ≡ read_sv s
  unfolding read_sv
  sv_n h = simp (← ea, ← eb, h)

  module _ (h : (a || b) ≡ false) (c d : Bool) (ec : c ≡ same_word s (ascii "e")) (ed : d ≡ same_word s (ascii "ew")) where
    pub sv_e : (c || d) ≡ true → EastWest ≡ read_sv s
    unfolding read_sv
    sv_e k = simp (← ea, ← eb, h, ← ec, ← ed, k)

    module _ (k : (c || d) ≡ false) (e f g : Bool) (ee : e ≡ same_word s (ascii "b")) (ef : f ≡ same_word s (ascii "both")) (eg : g ≡ same_word s (ascii "all")) where
      pub sv_b : (e || (f || g)) ≡ true → Both ≡ read_sv s
      unfolding read_sv
      sv_b l = simp (← ea, ← eb, h, ← ec, ← ed, k, ← ee, ← ef, ← eg, l)

      pub sv_none : (e || (f || g)) ≡ false → None ≡ read_sv s
      unfolding read_sv
      sv_none l = simp (← ea, ← eb, h, ← ec, ← ed, k, ← ee, ← ef, ← eg, l)

-- pn: names to the left of a seat are set, those to the right are still to be set from the pieces of the rest

pub record Named (value : List ℕ) (start : ℕ) (old names : List Span) (place seat : ℕ) : Type 0 where
  pub within : place ≤ length value
  pub long : length names ≡ 4
  pub seats : seat ≤ 4
  pub rest : take seat names ++ names_from start place (cut 0x2C (drop place value)) (drop seat names) ≡ names_from start 0 (cut 0x2C value) old

module _ (value : List ℕ) (start : ℕ) (old names : List Span) (place seat : ℕ) (n : Named value start old names place seat) (h : seat < 4) (e : ℕ) (ee : e ≡ find_from 0x2C value place) where
  here : drop seat names ≡ get_or names seat (span 0 0) ∷ drop (suc seat) names
  here = drop-cons names seat (span 0 0) (let l = n.long in omega arith)

  pub name_place : place ≤ e
  name_place = split e (length value) (λ k. rw ee (find-after 0x2C value place (rw ee at k))) (λ k. let w = n.within in omega arith)

  -- the last piece
  pub name_last : length value ≤ e → set names seat (span (start + place) (e - place)) ≡ names_from start 0 (cut 0x2C value) old
  unfolding names_from
  name_last k =
      let l = n.long in
      let w = find-within 0x2C value place in
      let x : length (drop place value) ≡ e - place = length-drop place value ∙ (let z : length value - place ≡ e - place = omega arith in z) in
      let c : cut 0x2C (drop place value) ≡ end (drop place value) = cut-end 0x2C value place (rw ee at k) in
      let r = n.rest in
      set_split names seat _ (omega arith) ∙ (let z = rw (here, c, x) at r in z)

  -- a piece with a comma behind it
  pub name_next : e < length value → Named value start old (set names seat (span (start + place) (e - place))) (e + 1) (seat + 1)
  unfolding names_from
  name_next k =
      let l = n.long in
      let a = name_place in
      let x : length (part value place (e - place)) ≡ e - place = part_length value place (e - place) (omega arith) in
      let q : place + (e - place + 1) ≡ e + 1 = omega arith in
      let c : cut 0x2C (drop place value) ≡ piece (part value place (e - place)) (cut 0x2C (drop (e + 1) value)) = rw ee (cut_at 0x2C value place (rw ee at k)) in
      let v = span (start + place) (e - place) in
      let t : take (seat + 1) (set names seat v) ≡ take seat names ++ (v ∷ []) = rw add-one (take-suc-set names seat v (omega arith)) in
      let d : drop (seat + 1) (set names seat v) ≡ drop (suc seat) names = rw add-one (drop-set-lt (suc seat) names seat v (omega arith)) in
      record {
        within = omega arith;
        long = length-set names seat v ∙ l;
        seats = omega arith;
        rest = rw (t, d, append_assoc) (let r = n.rest in rw (here, c, x, q) at r);
      }

-- no name is left to set
nil-rest : (start k : ℕ) (p : Pieces) (names : List Span) {x : List Span} → names ++ names_from start k p [] ≡ x → names ++ [] ≡ x
unfolding names_from
nil-rest start k (end x) names h = h
nil-rest start k (piece x r) names h = h

-- past East nothing is left to set
pub names-done : (value : List ℕ) (start : ℕ) (old names : List Span) (place seat : ℕ) → Named value start old names place seat → 4 ≤ seat → names ≡ names_from start 0 (cut 0x2C value) old
unfolding names_from
names-done value start old names place seat n h =
    let l = n.long in
    let k : length names ≤ seat = omega arith in
    let d : drop seat names ≡ [] = drop_of_length-le names k in
    let t : take seat names ≡ names = take_all seat names (omega arith) in
    let r = n.rest in
    sym (append-nil names) ∙ (let z = rw (d, t) at r in nil-rest start place (cut 0x2C (drop place value)) names z)

-- the names by the place of the value are those by the value
pub names-by : (s : List ℕ) (v : Span) (k : ℕ) (p : Pieces) (ns : List Span) → names_from v.start k p ns ≡ named (span_text s) v k p ns
unfolding names_from named
names-by s v k p [] = refl
names-by s v k (end x) (n ∷ ns) = refl
names-by s v k (piece x r) (n ∷ ns) = ap (λ (l : List Span). span (v.start + k) (length x) ∷ l) (names-by s v (k + (length x + 1)) r ns)

-- the bytes of a value within the text end where it ends
pub value-end : (s : List ℕ) (v : Span) (x : List ℕ) → end_of v ≤ length s → length s < 2 ^ 32 → x ≡ bytes_at s v → v.start + length x < 2 ^ 32
value-end s v x h k e = let l = part_most s v.start v.len in let m = ap length e in omega arith
