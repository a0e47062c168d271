-- Laws of annotations: the parts one after the other, the words joined with a space, and the turns of a loop over the parts.
-- (01: From PBN, "Annotation parts ..")
-- Assumes nothing.
use Rattle.std.specs.Prelude.{Option, None, Some}
use Prim.Native.Nat.{ℕ, zero, suc, ◌+◌, ◌^◌, ◌≤◌, ◌<◌, min}
use native.Mathlib.Omega.{arith}
use mathlib.Core.Path.{◌≡◌, refl, ap, sym, ◌∙◌, subst}
use mathlib.Core.Bool.{Bool, true, false, ◌||◌, not, or-false, false≢true}
use mathlib.Core.List.{List, [], ◌∷◌, ◌++◌, map, append-nil}
use lib.ListN.{length, take, drop, length-append, length-drop, drop_of_length-le}
use lib.Seq.{take_all}
use lib.Dec.{ltb}
use borrow.Author.Tests.{lt-ltb, le-ltb}
use Rattle.lin_spec.specs.Base.{pick, All, keep, null, join_by, ascii}
use Rattle.lin_spec.specs.Refusals.{sat}
use Rattle.lin_spec.specs.Writer.{or_empty}
use Rattle.lin_spec.specs.Annotation.{part_length, parts_up_to, annotation_parts, part_word, words_of, joined_words, annotation_text}
use Rattle.lin_spec.proofs.Base.{split, all-kept}
use Rattle.lin_spec.proofs.Annotation.{part-some}
use Rattle.output.specs.Put.{Room, Put}
use Rattle.output.proofs.Laws.{Left, start, step}
use Rattle.pbn_words.specs.declared.words.Word.{Word}
use Rattle.pbn_words.specs.Words.{front_word, word_text, spaced_word, spaced_length, text_from, parts_text}
use Rattle.pbn_words.proofs.WordLaws.{word-front, spaced_length_lem}

-- The parts

-- however many are allowed for
parts_enough : (n m : ℕ) (s : List ℕ) → length s ≤ n → length s ≤ m → parts_up_to n s ≡ parts_up_to m s
unfolding parts_up_to
parts_enough zero zero s h k = refl
parts_enough zero (suc m) [] h k = refl
parts_enough zero (suc m) (b ∷ s) h k = absurd (let z : ⊥ = omega arith in z)
parts_enough (suc n) zero [] h k = refl
parts_enough (suc n) zero (b ∷ s) h k = absurd (let z : ⊥ = omega arith in z)
parts_enough (suc n) (suc m) [] h k = refl
parts_enough (suc n) (suc m) (b ∷ s) h k =
    let j = part_length (b ∷ s) in
    let p = part-some b s in
    let l = length-drop j (b ∷ s) in
    ap (λ (r : List (List ℕ)). take j (b ∷ s) ∷ r) (parts_enough n m (drop j (b ∷ s)) (omega arith) (omega arith))

parts_none : annotation_parts [] ≡ []
unfolding annotation_parts parts_up_to
parts_none = refl

-- the first part, and the parts of the rest
parts_cons : (b : ℕ) (s : List ℕ) → annotation_parts (b ∷ s) ≡ take (part_length (b ∷ s)) (b ∷ s) ∷ annotation_parts (drop (part_length (b ∷ s)) (b ∷ s))
unfolding annotation_parts parts_up_to
parts_cons b s =
    let j = part_length (b ∷ s) in
    let p = part-some b s in
    let l = length-drop j (b ∷ s) in
    ap (λ (r : List (List ℕ)). take j (b ∷ s) ∷ r) (parts_enough (length s) (length (drop j (b ∷ s))) (drop j (b ∷ s)) (omega arith) (omega arith))

-- The words joined

-- words, each after a space
unfoldable spaces : List (List ℕ) → List ℕ
spaces [] = []
spaces (w ∷ ws) = 0x20 ∷ (w ++ spaces ws)

join-spaces : (w : List ℕ) (ws : List (List ℕ)) → join_by (ascii " ") (w ∷ ws) ≡ w ++ spaces ws
unfolding join_by spaces
join-spaces w [] = sym (append-nil w)
join-spaces w (x ∷ ws) = ap (λ (r : List ℕ). w ++ (0x20 ∷ r)) (join-spaces x ws)

module _ (s ws : List ℕ) where
  text-later : (ps : List (List ℕ)) → text_from s ws true ps ≡ spaces (words_of s ws ps)
  unfolding text_from keep spaces
  text-later [] = refl
  text-later (p ∷ ps) = go (part_word s ws p) (text-later ps)
    where
      go : (w : List ℕ) → text_from s ws true ps ≡ spaces (words_of s ws ps) → spaced_word true w ++ text_from s ws true ps ≡ spaces (pick (not (null w)) (w ∷ words_of s ws ps) (words_of s ws ps))
      go [] ih = ih
      go (b ∷ w) ih = ap (λ (r : List ℕ). 0x20 ∷ ((b ∷ w) ++ r)) ih

  text-first : (ps : List (List ℕ)) → text_from s ws false ps ≡ or_empty (joined_words (words_of s ws ps))
  unfolding text_from keep
  text-first [] = refl
  text-first (p ∷ ps) = go (part_word s ws p) (text-first ps)
    where
      go : (w : List ℕ) → text_from s ws false ps ≡ or_empty (joined_words (words_of s ws ps))
          → spaced_word false w ++ text_from s ws (not (null w)) ps ≡ or_empty (joined_words (pick (not (null w)) (w ∷ words_of s ws ps) (words_of s ws ps)))
      go [] ih = ih
      go (b ∷ w) ih = ap (λ (r : List ℕ). (b ∷ w) ++ r) (text-later ps) ∙ sym (join-spaces (b ∷ w) (words_of s ws ps))

  -- the words of the parts, each in its turn, are the text of the annotation
  pub text-is : (raw : List ℕ) → parts_text s ws raw ≡ or_empty (annotation_text s ws raw)
  unfolding parts_text annotation_text
  text-is raw = text-first (annotation_parts raw)

  -- no word is empty
  words_filled : (ps : List (List ℕ)) → All (λ (w : List ℕ). 0 < length w) (words_of s ws ps)
  words_filled ps = all-kept (λ (w : List ℕ). 0 < length w) (λ (w : List ℕ). not (null w)) filled (map (part_word s ws) ps)
    where
      filled : (w : List ℕ) → not (null w) ≡ true → 0 < length w
      filled [] e = absurd (false≢true e)
      filled (b ∷ w) e = omega arith

  -- so that a text of no byte is absent
  pub absent_is : (raw : List ℕ) → length (or_empty (annotation_text s ws raw)) ≡ 0 → annotation_text s ws raw ≡ None
  unfolding annotation_text
  absent_is raw = go (words_of s ws (annotation_parts raw)) (words_filled (annotation_parts raw))
    where
      go : (ws : List (List ℕ)) → All (λ (x : List ℕ). 0 < length x) ws → length (or_empty (joined_words ws)) ≡ 0 → joined_words ws ≡ None
      go [] f h = refl
      go (x ∷ ws) f h = absurd (let e = ap length (join-spaces x ws) ∙ length-append x (spaces ws) in let g = f.0 in let z : ⊥ = omega arith in z)

  pub present-is : (raw : List ℕ) → (length (or_empty (annotation_text s ws raw)) ≡ 0 → ⊥) → annotation_text s ws raw ≡ Some (or_empty (annotation_text s ws raw))
  present-is raw h = go (annotation_text s ws raw) h
    where
      go : (o : Option (List ℕ)) → (length (or_empty o) ≡ 0 → ⊥) → o ≡ Some (or_empty o)
      go None k = absurd (k refl)
      go (Some x) k = refl

-- Whether a word was met so far: by the place, and by the count

placed : (at o : ℕ) (w : List ℕ) → at ≤ o → ltb at (o + length (spaced_word (ltb at o) w)) ≡ (ltb at o || not (null w))
placed at o [] h = ap (ltb at) (let z : o + 0 ≡ o = omega arith in z) ∙ sym (or-false (ltb at o))
placed at o (b ∷ w) h = go (ltb at o)
  where
    go : (t : Bool) → ltb at (o + length (spaced_word t (b ∷ w))) ≡ (t || true)
    go true = lt-ltb at _ (omega arith)
    go false = lt-ltb at _ (omega arith)

counted : (n : ℕ) (w : List ℕ) → ltb 0 (sat (n + length (spaced_word (ltb 0 n) w))) ≡ (ltb 0 n || not (null w))
counted n [] = split 0 n (λ h. lt-ltb 0 (sat (n + 0)) (omega arith) ∙ sym (ap (λ (t : Bool). t || false) (lt-ltb 0 n h))) (λ h. le-ltb 0 (sat (n + 0)) (omega arith) ∙ sym (ap (λ (t : Bool). t || false) (le-ltb 0 n h)))
counted n (b ∷ w) = go (ltb 0 n)
  where
    go : (t : Bool) → ltb 0 (sat (n + length (spaced_word t (b ∷ w)))) ≡ (t || true)
    go true = lt-ltb 0 (sat (n + length (spaced_word true (b ∷ w)))) (omega arith)
    go false = lt-ltb 0 (sat (n + length (spaced_word false (b ∷ w)))) (omega arith)

-- A loop over the parts of what is left

-- as many bytes as there are
take_most : (r : List ℕ) (n : ℕ) → take (min n (length r)) r ≡ take n r
take_most r n =
    split n (length r) (λ h. ap (λ (m : ℕ). take m r) (let z : min n (length r) ≡ n = omega arith in z))
    (λ h. ap (λ (m : ℕ). take m r) (let z : min n (length r) ≡ length r = omega arith in z) ∙ take_all (length r) r (omega arith) ∙ sym (take_all n r h))

drop_most : (r : List ℕ) (n : ℕ) → drop (min n (length r)) r ≡ drop n r
drop_most r n =
    split n (length r) (λ h. ap (λ (m : ℕ). drop m r) (let z : min n (length r) ≡ n = omega arith in z))
    (λ h. ap (λ (m : ℕ). drop m r) (let z : min n (length r) ≡ length r = omega arith in z) ∙ drop_of_length-le r {i = length r} (omega arith) ∙ sym (drop_of_length-le r h))

-- the part at the front of a text that is not empty, with the word by its first byte
module _ (s ws : List ℕ) where
  front-turn : (r : List ℕ) → 0 < length r → (k : ℕ) → k ≡ min (part_length r) (length r) → (t : Bool)
      → text_from s ws t (annotation_parts r)
      ≡ spaced_word t (word_text s (take k r) (front_word ws (take k r))) ++ text_from s ws (t || not (null (word_text s (take k r) (front_word ws (take k r))))) (annotation_parts (drop k r))
  unfolding text_from
  front-turn [] h k e t = absurd (let z : ⊥ = omega arith in z)
  front-turn (b ∷ r) h k e t =
      let n = part_length (b ∷ r) in
      let f : take k (b ∷ r) ≡ take n (b ∷ r) = ap (λ (m : ℕ). take m (b ∷ r)) e ∙ take_most (b ∷ r) n in
      let g : drop k (b ∷ r) ≡ drop n (b ∷ r) = ap (λ (m : ℕ). drop m (b ∷ r)) e ∙ drop_most (b ∷ r) n in
      let w : word_text s (take k (b ∷ r)) (front_word ws (take k (b ∷ r))) ≡ part_word s ws (take n (b ∷ r)) = ap (λ (p : List ℕ). word_text s p (front_word ws p)) f ∙ word-front s ws b r in
      ap (text_from s ws t) (parts_cons b r)
      ∙ sym (ap (λ (x : List ℕ). spaced_word t x ++ text_from s ws (t || not (null x)) (annotation_parts (drop k (b ∷ r)))) w
      ∙ ap (λ (x : List ℕ). spaced_word t (part_word s ws (take n (b ∷ r))) ++ text_from s ws (t || not (null (part_word s ws (take n (b ∷ r))))) (annotation_parts x)) g)

  -- before the first part nothing is counted, and nothing put
  pub count-start : (raw : List ℕ) → sat (0 + length (text_from s ws (ltb 0 0) (annotation_parts raw))) ≡ sat (length (parts_text s ws raw))
  unfolding parts_text
  count-start raw = ap sat (let z : 0 + length (parts_text s ws raw) ≡ length (parts_text s ws raw) = omega arith in z)

  pub put_start : (raw : List ℕ) {d : List ℕ} {at : ℕ} → Room d at (parts_text s ws raw) → Left d at (text_from s ws (ltb at at) (annotation_parts raw)) d at (parts_text s ws raw)
  unfolding parts_text
  put_start raw {d} {at} r = subst (λ (t : Bool). Left d at (text_from s ws t (annotation_parts raw)) d at (parts_text s ws raw)) (sym (le-ltb at at (omega arith))) (start r)

  -- past the last part no word is left
  text-end : (r : List ℕ) → length r ≡ 0 → (t : Bool) → text_from s ws t (annotation_parts r) ≡ []
  unfolding text_from
  text-end [] h t = ap (text_from s ws t) parts_none
  text-end (b ∷ r) h t = absurd (let z : ⊥ = omega arith in z)

  pub count-end : (r : List ℕ) → length r ≡ 0 → (n whole : ℕ) → n < 2 ^ 64 → sat (n + length (text_from s ws (ltb 0 n) (annotation_parts r))) ≡ sat whole → n ≡ sat whole
  count-end r h n whole l v = let z = ap length (text-end r h (ltb 0 n)) in omega arith

  pub put_end : (r : List ℕ) → length r ≡ 0 → {d : List ℕ} {o at : ℕ} {d₀ whole : List ℕ} → Left d o (text_from s ws (ltb at o) (annotation_parts r)) d₀ at whole → Left d o [] d₀ at whole
  put_end r h {d} {o} {at} {d₀} {whole} v = subst (λ (x : List ℕ). Left d o x d₀ at whole) (text-end r h (ltb at o)) v

  module _ (r : List ℕ) (h : 0 < length r) (k : ℕ) (e : k ≡ min (part_length r) (length r)) where
    -- a turn passes some bytes
    pub part_moves : 0 < k
    part_moves = let p = Some r h in omega arith
      where
        Some : (r : List ℕ) → 0 < length r → 0 < part_length r
        Some [] z = absurd (let y : ⊥ = omega arith in y)
        Some (b ∷ r) z = part-some b r

    -- where the part p and what is after it are split there
    module _ (p q : List ℕ) (ep : p ≡ take k r) (eq : q ≡ drop k r) (w : Word) (ew : w ≡ front_word ws p) where
      abbrev word : List ℕ
      word = word_text s p w

      -- what is left is the word of the part, and the words of the parts after it
      text-turn : (t : Bool) → text_from s ws t (annotation_parts r) ≡ spaced_word t word ++ text_from s ws (t || not (null word)) (annotation_parts q)
      text-turn t = rw (ew, ep, eq) (front-turn r h k e t)

      -- A turn of the count: n bytes so far, and the word's
      pub count_turn : (n x n' : ℕ) → x ≡ length word → n' ≡ sat (n + spaced_length (ltb 0 n) x) → (whole : ℕ)
          → sat (n + length (text_from s ws (ltb 0 n) (annotation_parts r))) ≡ sat whole
          → sat (n' + length (text_from s ws (ltb 0 n') (annotation_parts q))) ≡ sat whole
      count_turn n x n' ex en whole v =
          let m : n' ≡ sat (n + length (spaced_word (ltb 0 n) word)) = en ∙ ap (λ (y : ℕ). sat (n + y)) (ap (spaced_length (ltb 0 n)) ex ∙ sym (spaced_length_lem (ltb 0 n) word)) in
          let f : ltb 0 n' ≡ (ltb 0 n || not (null word)) = ap (ltb 0) m ∙ counted n word in
          let l = ap length (text-turn (ltb 0 n)) ∙ length-append (spaced_word (ltb 0 n) word) (text_from s ws (ltb 0 n || not (null word)) (annotation_parts q)) in
          let g = ap (λ (t : Bool). length (text_from s ws t (annotation_parts q))) f in
          omega arith

      -- A turn of the puts: from o on, after the bytes from `at` on
      module _ {d : List ℕ} {o at : ℕ} {d₀ whole : List ℕ} (a : at ≤ o) (v : Left d o (text_from s ws (ltb at o) (annotation_parts r)) d₀ at whole) where
        pub put_left : Left d o (spaced_word (ltb at o) word ++ text_from s ws (ltb at o || not (null word)) (annotation_parts q)) d₀ at whole
        put_left = subst (λ (x : List ℕ). Left d o x d₀ at whole) (text-turn (ltb at o)) v

        pub put_turn : {d' : List ℕ} {o' : ℕ} → Put d o (spaced_word (ltb at o) word) d' o'
            → (at ≤ o') × Left d' o' (text_from s ws (ltb at o') (annotation_parts q)) d₀ at whole
        put_turn {d'} {o'} p =
            let f : ltb at o' ≡ (ltb at o || not (null word)) = ap (ltb at) p.next ∙ placed at o word a in
            let l : Left d' o' (text_from s ws (ltb at o || not (null word)) (annotation_parts q)) d₀ at whole = step put_left p in
            (omega (arith, p.next), subst (λ (t : Bool). Left d' o' (text_from s ws t (annotation_parts q)) d₀ at whole) (sym f) l)
