-- Laws of runs: rows that stand in the text one after the other, with their pipes, are one part of it. (01: Tokens)
-- Assumes nothing.
use Prim.Native.Nat.{ℕ, ◌+◌, ◌-◌, ◌≤◌, ◌<◌}
use native.Mathlib.Omega.{arith}
use mathlib.Core.Path.{◌≡◌, refl, ap, sym, ◌∙◌}
use mathlib.Core.Bool.{true, false, ◌&&◌}
use mathlib.Core.List.{List, [], ◌∷◌, ◌++◌, append_assoc}
use lib.ListN.{length, get_or, take, drop}
use lib.Seq.{drop-cons, drop-drop, take-add}
use lib.Dec.{eqb}
use borrow.Author.Tests.{eqb-true}
use Rattle.lin_spec.specs.Records.{part}
use Rattle.lin_spec.specs.Document.{document_text}
use Rattle.lin_spec.specs.declared.Span.{Span}
use Rattle.lin_spec.proofs.Base.{and_left, and_right}
use Rattle.output.proofs.Laws.{Left}
use Rattle.document_writer.specs.declared.documents.Row.{Row}
use Rattle.document_writer.specs.declared.documents.Run.{Run}
use Rattle.document_writer.specs.Rows.{document_row_at, document_row, token_text, Stands, run_text, RunAt}
use Rattle.document_writer.proofs.RowLaws.{row_text_at, text_cons}

-- Parts one after the other

part-split : (s : List ℕ) (a m k : ℕ) → part s a (m + k) ≡ part s a m ++ part s (a + m) k
unfolding part
part-split s a m k = take-add m k (drop a s) ∙ ap (λ (t : List ℕ). take m (drop a s) ++ take k t) (drop-drop m a s)

part-one : (s : List ℕ) (p : ℕ) → p < length s → part s p 1 ≡ get_or s p 0 ∷ []
unfolding part
part-one s p h = rw (drop-cons s p 0 h)

part_join : (s : List ℕ) (a b c : ℕ) → a ≤ b → b ≤ c → part s a (b - a) ++ part s b (c - b) ≡ part s a (c - a)
part_join s a b c h k =
    let e : c - a ≡ (b - a) + (c - b) = omega arith in
    let f : a + (b - a) ≡ b = omega arith in
    sym (ap (part s a) e ∙ part-split s a (b - a) (c - b) ∙ ap (λ (x : ℕ). part s a (b - a) ++ part s x (c - b)) f)

-- A row that stands in the text

-- two parts with a pipe after each
pair_stands : (s : List ℕ) (a m n : ℕ) → a + m + 1 + n < length s → get_or s (a + m) 0 ≡ 124 → get_or s (a + m + 1 + n) 0 ≡ 124
    → part s a (m + (1 + (n + 1))) ≡ part s a m ++ (124 ∷ (part s (a + m + 1) n ++ (124 ∷ [])))
pair_stands s a m n h e f =
    let x = part-split s a m (1 + (n + 1)) in
    let y = part-split s (a + m) 1 (n + 1) in
    let z = part-split s (a + m + 1) n 1 in
    let p = part-one s (a + m) (omega arith) in
    let q = part-one s (a + m + 1 + n) h in
    x ∙ ap (λ (t : List ℕ). part s a m ++ t) (y ∙ rw (p, e, z, q, f) refl)

module _ (s : List ℕ) (at : ℕ) (r : Row) where
  pub stands_there : (q : ℕ) → q ≡ r.value.start + r.value.len → q < length s → (p : ℕ) → p ≡ r.command.start + r.command.len
      → r.value.start ≡ p + 1 → r.command.start ≡ at → (eqb (get_or s p 0) 124 && eqb (get_or s q 0) 124) ≡ true → Stands s at r (q + 1)
  unfolding token_text
  stands_there q eq h p ep ev es t =
      let m = r.command.len in
      let n = r.value.len in
      let a : at + m ≡ p = omega arith in
      let b : r.value.start ≡ at + m + 1 = omega arith in
      let c : at + m + 1 + n ≡ q = omega arith in
      let d : q + 1 - at ≡ m + (1 + (n + 1)) = omega arith in
      let u = eqb-true (get_or s p 0) 124 (and_left (eqb (get_or s p 0) 124) (eqb (get_or s q 0) 124) t) in
      let w = eqb-true (get_or s q 0) 124 (and_right (eqb (get_or s p 0) 124) (eqb (get_or s q 0) 124) t) in
      let g = pair_stands s at m n (omega arith) (ap (λ (x : ℕ). get_or s x 0) a ∙ u) (ap (λ (x : ℕ). get_or s x 0) c ∙ w) in
      record { order = omega arith; text = λ _. rw (es, b) (sym (ap (part s at) d ∙ g)) }

-- A run from the word i on, in turns

module _ (s ws : List ℕ) (i : ℕ) where
  -- the rows up to the word j are the text from start to stop
  pub record RunTo (start stop j : ℕ) : Type 0 where
    pub order : start ≤ stop
    pub later : i + 4 ≤ j
    pub within : j ≤ length ws
    pub text : (tr : Span) → document_text s (drop i ws) tr ≡ part s start (stop - start) ++ document_text s (drop j ws) tr

  pub run-first : 4 ≤ length ws - i → (r : Row) → r ≡ document_row (document_row_at ws i) → (start first : ℕ) → Stands s start r first → (first ≡ start → ⊥) → RunTo start first (i + 4)
  run-first h r e start first t k =
      let x : row_text_at s ws i ≡ part s start (first - start) = ap (token_text s) (sym e) ∙ t.text k in
      record { order = t.order; later = omega arith; within = omega arith; text = λ tr. text_cons s ws tr i h ∙ ap (λ (y : List ℕ). y ++ document_text s (drop (i + 4) ws) tr) x }

  pub run-turn : (start stop j : ℕ) → RunTo start stop j → 4 ≤ length ws - j → (r : Row) → r ≡ document_row (document_row_at ws j) → (next : ℕ) → Stands s stop r next → (next ≡ stop → ⊥)
      → RunTo start next (j + 4)
  run-turn start stop j v h r e next t k =
      let x : row_text_at s ws j ≡ part s stop (next - stop) = ap (token_text s) (sym e) ∙ t.text k in
      let o = v.order in
      let l = v.later in
      let p = t.order in
      let g = part_join s start stop next o p in
      record {
        order = omega arith;
        later = omega arith;
        within = omega arith;
        text = λ tr.
            v.text tr
            ∙ ap (λ (y : List ℕ). part s start (stop - start) ++ y) (text_cons s ws tr j h ∙ ap (λ (y : List ℕ). y ++ document_text s (drop (j + 4) ws) tr) x)
            ∙ sym (append_assoc (part s start (stop - start)) (part s stop (next - stop)) (document_text s (drop (j + 4) ws) tr))
            ∙ ap (λ (y : List ℕ). y ++ document_text s (drop (j + 4) ws) tr) g;
      }

  pub run-done : (start stop j : ℕ) → start ≡ get_or ws i 0 → RunTo start stop j → RunAt s ws i (record { words = j - i; len = stop - start; stands = true })
  unfolding run_text
  run-done start stop j e v =
      let l = v.later in
      let w = v.within in
      let z : i + (j - i) ≡ j = omega arith in
      record { some = omega arith; within = omega arith; text = λ tr. rw (z, ← e) (v.text tr) }

  pub run_single : 4 ≤ length ws - i → RunAt s ws i (record { words = 4; len = 0; stands = false })
  unfolding run_text
  run_single h = record { some = omega arith; within = omega arith; text = λ tr. text_cons s ws tr i h }

  -- what is left to write, as a run and the others
  pub run-left : (tr : Span) {d : List ℕ} {pos : ℕ} {d₀ : List ℕ} {at : ℕ} {whole : List ℕ} → Left d pos (document_text s (drop i ws) tr) d₀ at whole → (r : Run) → RunAt s ws i r
      → Left d pos (run_text s ws i r ++ document_text s (drop (i + r.words) ws) tr) d₀ at whole
  run-left tr l r v = rw (← v.text tr) l

  -- the text of a run, by what is put
  pub run_stands : (r : Run) → r.stands ≡ true → {x : List ℕ} {w : ℕ} → x ≡ part s w r.len → w ≡ get_or ws i 0 → x ≡ run_text s ws i r
  unfolding run_text
  run_stands r e p q = p ∙ rw (q, e) refl

  pub run_alone : (r : Run) → r.stands ≡ false → (y : Row) → y ≡ document_row (document_row_at ws i) → token_text s y ≡ run_text s ws i r
  unfolding run_text
  run_alone r e y q = rw (q, e) refl
