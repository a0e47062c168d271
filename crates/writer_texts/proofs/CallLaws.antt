-- Laws of written calls: their pieces and their lengths, what is left to write and to count. (01: Writer, mb and an)
-- Assumes nothing.
use Prim.Native.Nat.{ℕ, ◌+◌, ◌/◌, ◌≤◌, ◌<◌}
use native.Mathlib.Numerals.{add-one}
use native.Mathlib.Omega.{arith}
use mathlib.Core.Path.{◌≡◌, refl, ap, sym, ◌∙◌}
use mathlib.Core.List.{List, [], ◌∷◌, ◌++◌, map, append-nil}
use lib.ListN.{length, get_or, drop, length-append, drop_of_length-le}
use lib.Seq.{drop-cons}
use Rattle.std.specs.Simd.{first_chunks}
use borrow.Author.Tests.{eq-eqb, ne_eqb}
use Rattle.lin_spec.specs.Base.{ascii, concat}
use Rattle.lin_spec.specs.Records.{bytes_at}
use Rattle.lin_spec.specs.Refusals.{sat}
use Rattle.lin_spec.specs.Writer.{call_text, calls_text}
use Rattle.lin_spec.specs.Board.{map_call}
use Rattle.lin_spec.specs.Lent.{call_row, call_in}
use Rattle.lin_spec.specs.declared.Call.{Call}
use Rattle.output.specs.Put.{joined}
use Rattle.output.proofs.Laws.{Left}
use Rattle.board_lent.specs.Calls.{call_of}
use Rattle.board_lent.proofs.LentLaws.{rows-chunks}
use Rattle.writer_texts.specs.Texts.{after_text}
use Rattle.writer_texts.specs.Calls.{alert_text, an_text, call_pieces, call_bytes, calls_bytes}
use Rattle.writer_texts.proofs.TextLaws.{clean-length}

pub alert_none : (t : ℕ) → t ≡ 0 → alert_text t ≡ []
alert_none t e = simp (eq-eqb t 0 e)

module _ (p q : ℕ) (s : List ℕ) (c : Call) where
  pub annotation-none : c.annotated ≡ 0 → an_text p q s c ≡ []
  annotation-none e = simp (eq-eqb c.annotated 0 e)

  pub annotation-some : (c.annotated ≡ 0 → ⊥) → an_text p q s c ≡ after_text p q (ascii "an|") (bytes_at s c.annotation)
  unfolding after_text
  annotation-some e = simp (ne_eqb c.annotated 0 e, append-nil)

  pub call-is : call_bytes p q s c ≡ joined (call_pieces p q s c)
  unfolding call_bytes call_text
  call-is = simp append-nil

  pub call_long : length (call_bytes p q s c) ≡ 4 + length (bytes_at s c.bid) + length (alert_text c.alerted) + length (an_text p q s c)
  call_long = ap length call-is ∙ simp (length-append, clean-length, append-nil) (omega arith)

-- The calls of the chunks that the rows are

abbrev pub chunk_calls : (p q : ℕ) (s : List ℕ) (rs : List (List ℕ)) → List ℕ
chunk_calls p q s rs = concat (map (λ r. call_bytes p q s (call_of r)) rs)

module _ (p q : ℕ) (s : List ℕ) where
  pub chunks-bytes : (ws : List ℕ) (rs : List (List ℕ)) → rs ≡ first_chunks 6 (length ws / 6) ws → calls_bytes p q s ws ≡ chunk_calls p q s rs
  unfolding calls_bytes call_bytes concat
  chunks-bytes ws rs e =
      ap (λ (cs : List Call). calls_text p q (map (map_call (bytes_at s)) (map call_in cs))) (rows-chunks call_row ws ∙ ap (map call_of) (sym e)) ∙ go rs
    where
      go : (rs : List (List ℕ)) → calls_text p q (map (map_call (bytes_at s)) (map call_in (map call_of rs))) ≡ chunk_calls p q s rs
      go [] = refl
      go (r ∷ rs) = ap (λ (x : List ℕ). call_bytes p q s (call_of r) ++ x) (go rs)

  -- those from row i on
  module _ (rs : List (List ℕ)) (i : ℕ) where
    calls_cons : i < length rs → (c : Call) → c ≡ call_of (get_or rs i []) → chunk_calls p q s (drop i rs) ≡ call_bytes p q s c ++ chunk_calls p q s (drop (i + 1) rs)
    unfolding concat
    calls_cons h c e = rw (add-one, drop-cons rs i [] h, e) refl

    calls-none : length rs ≤ i → chunk_calls p q s (drop i rs) ≡ []
    unfolding concat
    calls-none h = rw (drop_of_length-le rs h) refl

    -- what is left to write
    module _ {d : List ℕ} {pos : ℕ} {d₀ : List ℕ} {at : ℕ} {whole : List ℕ} (l : Left d pos (chunk_calls p q s (drop i rs)) d₀ at whole) where
      pub call-left : i < length rs → (c : Call) → c ≡ call_of (get_or rs i []) → Left d pos (call_bytes p q s c ++ chunk_calls p q s (drop (i + 1) rs)) d₀ at whole
      call-left h c e = rw (calls_cons h c e) at l

      pub none_left : length rs ≤ i → Left d pos [] d₀ at whole
      none_left h = rw (calls-none h) at l

    -- what is left to count
    module _ (n whole : ℕ) (l : sat (n + length (chunk_calls p q s (drop i rs))) ≡ sat whole) where
      pub count-call : i < length rs → (c : Call) → c ≡ call_of (get_or rs i []) → (x n' : ℕ) → x ≡ sat (length (call_bytes p q s c)) → n' ≡ sat (n + x)
          → sat (n' + length (chunk_calls p q s (drop (i + 1) rs))) ≡ sat whole
      count-call h c e x n' f g = omega (arith, ap length (calls_cons h c e) ∙ length-append (call_bytes p q s c) (chunk_calls p q s (drop (i + 1) rs)))

      pub count_none : n ≡ sat n → length rs ≤ i → n ≡ sat whole
      count_none k h = omega (arith, ap length (calls-none h))
