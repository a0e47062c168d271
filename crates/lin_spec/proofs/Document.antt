-- Documents written from spans: what the cursor gives is written back (D2d), and what was written is read again (D2e). (01: Tokens)
-- Assumes nothing.
use Rattle.std.specs.Prelude.{Ok}
use Prim.Native.Nat.{ℕ, zero, suc, ◌+◌, ◌-◌, ◌^◌, ◌≤◌, ◌<◌}
use native.Mathlib.Omega.{arith}
use mathlib.Core.Path.{◌≡◌, refl, ap, sym, ◌∙◌}
use mathlib.Core.Bool.{true, false, not, ◌&&◌}
use mathlib.Core.List.{List, [], ◌∷◌, ◌++◌, map}
use lib.ListN.{length, take, drop}
use lib.Dec.{ltb}
use borrow.Author.Tests.{le-ltb, ltb-false, not-false}
use Rattle.lin_spec.specs.Base.{All, any}
use Rattle.lin_spec.specs.Records.{limit, span, part, bytes_at}
use Rattle.lin_spec.specs.Utf8.{utf8}
use Rattle.lin_spec.specs.Tokens.{Token, tokens, trailing, write, pipe}
use Rattle.lin_spec.specs.Cursor.{Place, Step, step_at, Steps}
use Rattle.lin_spec.specs.Cursor.Step.{found, ended}
use Rattle.lin_spec.specs.Cursor.Steps.{stop, more}
use Rattle.lin_spec.specs.Refusals.{unless, passes_end, ill_span}
use Rattle.lin_spec.specs.Output.{overlay, room, fill}
use Rattle.lin_spec.specs.Document.{open_text, Row, rows_in, spans_of, token_at, document_text, write_document}
use Rattle.lin_spec.specs.declared.Span.{Span}
use Rattle.lin_spec.proofs.Base.{and_left, and_right, or_none}
use Rattle.lin_spec.proofs.Records.{part-rest}
use Rattle.lin_spec.proofs.Tokens.{written_back, Plain, read-written, read-written-only}
use Rattle.lin_spec.proofs.Cursor.{Took, means}
use Rattle.lin_spec.proofs.Utf8.{utf8-cut}
use Rattle.lin_spec.proofs.Checks.{unmet, filled, filled_bytes}

-- Opening

-- what an opened text is
pub record Opened (s : List ℕ) : Type 0 where
  pub short : length s ≤ limit
  pub good : utf8 s ≡ true

pub opened : (s : List ℕ) {n : ℕ} → open_text s ≡ Ok n → Opened s
unfolding open_text
opened s {n} h =
    let p = unmet (ltb limit (length s)) _ _ 0 n h in
    let q = unmet (not (utf8 s)) _ [] 0 n p.1 in
    record { short = ltb-false limit (length s) p.0; good = not-false (utf8 s) q.0 }

pub open_accepts : (s : List ℕ) → Opened s → open_text s ≡ Ok 0
unfolding open_text unless
open_accepts s h = simp (le-ltb limit (length s) h.short, h.good)

-- The cursor's tokens

part-all : (s : List ℕ) (a : ℕ) → part s a (length s - a) ≡ drop a s
part-all s a = part-rest s a (length s - a) (omega arith)

-- The bytes that a cursor shows from `at` on are the tokens of the text from there on, and what it shows at the end is their trailing text.
pub record Shown (s : List ℕ) (at : ℕ) (ws : List ℕ) (last : ℕ) : Type 0 where
  pub toks : map (token_at s) (rows_in ws) ≡ tokens (drop at s)
  pub rest : drop last s ≡ trailing (drop at s)

pub shown : {s : List ℕ} {at : ℕ} {ws : List ℕ} {last : ℕ} → Steps s at ws last → Shown s at ws last
unfolding rows_in
shown {s} (stop {at} {last} e) =
    let m = means s at (ended last) e in
    record { toks = sym m.none; rest = ap (λ (n : ℕ). drop n s) m.stays ∙ sym m.rest }
shown {s} (more {at} {c} {v} {next} {ws} {last} e r) =
    let m = means s at (found c v next) e in
    let ih = shown r in
    record { toks = simp ih.toks (sym m.first); rest = ih.rest ∙ sym m.rest }

-- D2d: a text's own document

took-bytes : (s : List ℕ) (at : ℕ) (c v : Place) (n : ℕ) → Took s at c v n
    → part s c.start c.len ++ pipe ∷ (part s v.start v.len ++ pipe ∷ drop n s) ≡ drop at s
unfolding write
took-bytes s at c v n m =
    let e = written_back (drop at s) in
    let f = written_back (drop n s) in
    rw (m.first, m.rest, f) at e

-- its command, its value and what follows them are UTF-8 if the whole is
took-utf8 : (s : List ℕ) (at : ℕ) (c v : Place) (n : ℕ) → Took s at c v n → utf8 (drop at s) ≡ true
    → (utf8 (part s c.start c.len) ≡ true) × (utf8 (part s v.start v.len) ≡ true) × (utf8 (drop n s) ≡ true)
took-utf8 s at c v n m u =
    let x = part s c.start c.len in
    let y = part s v.start v.len in
    let a : pipe ≤ 0x7F = omega arith in
    let e : (utf8 x && utf8 (y ++ pipe ∷ drop n s)) ≡ true = sym (utf8-cut x pipe (y ++ pipe ∷ drop n s) a) ∙ ap utf8 (took-bytes s at c v n m) ∙ u in
    let f : (utf8 y && utf8 (drop n s)) ≡ true = sym (utf8-cut y pipe (drop n s) a) ∙ and_right (utf8 x) _ e in
    (and_left (utf8 x) _ e, and_left (utf8 y) _ f, and_right (utf8 y) _ f)

-- the spans of the tokens and of the trailing text lie within the text, and their bytes are UTF-8
record Sound (s : List ℕ) (ws : List ℕ) (last : ℕ) : Type 0 where
  ends : any (passes_end s) (spans_of (rows_in ws) (span last (length s - last))) ≡ false
  utfs : any (ill_span s) (spans_of (rows_in ws) (span last (length s - last))) ≡ false
  words : All (λ w. w ≤ length s) ws
  within : last ≤ length s

sound : {s : List ℕ} {at : ℕ} {ws : List ℕ} {last : ℕ} → Steps s at ws last → at ≤ length s → utf8 (drop at s) ≡ true → Sound s ws last
unfolding rows_in spans_of any
sound {s} (stop {at} {last} e) h u =
    let k : last ≡ at = (means s at (ended last) e).stays in
    record {
      ends = simp (le-ltb (length s) (last + (length s - last)) (omega arith));
      utfs = simp (k, part-all s at, u);
      words = tt;
      within = omega arith;
    }
sound {s} (more {at} {c} {v} {next} {ws} {last} e r) h u =
    let m = means s at (found c v next) e in
    let p = took-utf8 s at c v next m u in
    let ih = sound r m.within p.2 in
    let i = m.start in
    let j = m.split in
    let k = m.after in
    let l = m.within in
    record {
      ends = simp (le-ltb (length s) (c.start + c.len) (omega arith), le-ltb (length s) (v.start + v.len) (omega arith), ih.ends);
      utfs = simp (p.0, p.1, ih.utfs);
      words = (omega arith, (omega arith, (omega arith, (omega arith, ih.words))));
      within = ih.within;
    }

-- what the document writer does with them
pub record Rewritten (s : List ℕ) (ws : List ℕ) (last : ℕ) (o : List ℕ) : Type 0 where
  pub words : All (λ w. w < 2 ^ 32) ws
  pub start : last < 2 ^ 32
  pub len : length s - last < 2 ^ 32
  pub text : write_document s ws (span last (length s - last)) o ≡ record { answer = Ok (length s); output = overlay o 0 s }

small-words : (n : ℕ) (ws : List ℕ) → n < 2 ^ 32 → All (λ w. w ≤ n) ws → All (λ w. w < 2 ^ 32) ws
small-words n [] h k = tt
small-words n (w ∷ ws) h k = (let l = k.0 in omega arith, small-words n ws h k.1)

pub rewritten : (s : List ℕ) → open_text s ≡ Ok 0 → {ws : List ℕ} {last : ℕ} → Steps s 0 ws last → (o : List ℕ) → length s ≤ room o → Rewritten s ws last o
unfolding write_document fill unless
rewritten s h {ws} {last} r o k =
    let g = opened s h in
    let d = sound r (omega arith) g.good in
    let w = shown r in
    let l = g.short in
    let t : document_text s ws (span last (length s - last)) ≡ s = unfold document_text in simp (w.toks, part-all s last, w.rest) (written_back s) in
    record {
      words = small-words (length s) ws (omega arith) d.words;
      start = let i = d.within in omega arith;
      len = omega arith;
      text = simp (t, le-ltb limit (length s) g.short, d.ends, d.utfs, le-ltb (room o) (length s) k);
    }

-- the cursor comes to an end, from every place of every text
pub record Walk (s : List ℕ) (at : ℕ) : Type 0 where
  pub words : List ℕ
  pub last : ℕ
  pub steps : Steps s at words last

pub walk : (s : List ℕ) (at : ℕ) → Walk s at
walk s at = go (length s) at (omega arith)
  where
    step : (k at : ℕ) → length s - at ≤ suc k → ((n : ℕ) → length s - n ≤ k → Walk s n) → (v : Step) → step_at s at ≡ v → Walk s at
    step k at h ih (found c v n) e =
        let m = means s at (found c v n) e in
        let i = m.split in
        let j = m.after in
        let l = m.within in
        let w = ih n (omega arith) in
        record { words = c.start ∷ c.len ∷ v.start ∷ v.len ∷ w.words; last = w.last; steps = more e w.steps }
    step k at h ih (ended n) e = record { words = []; last = n; steps = stop e }

    none_left : (at : ℕ) → length s - at ≤ 0 → (v : Step) → step_at s at ≡ v → Walk s at
    none_left at h (found c v n) e =
        let m = means s at (found c v n) e in
        let i = m.split in
        let j = m.after in
        let l = m.within in
        absurd (omega arith)
    none_left at h (ended n) e = record { words = []; last = n; steps = stop e }

    go : (k at : ℕ) → length s - at ≤ k → Walk s at
    go zero at h = none_left at h (step_at s at) refl
    go (suc k) at h = step k at h (go k) (step_at s at) refl

-- D2e: a document that was written

utf8-piece : (x t : List ℕ) → utf8 x ≡ true → utf8 t ≡ true → utf8 (x ++ pipe ∷ t) ≡ true
utf8-piece x t h k = utf8-cut x pipe t (omega arith) ∙ simp (h, k)

-- the bytes of a list of tokens and of a trailing text that are UTF-8 are UTF-8
write-utf8 : (s : List ℕ) (rs : List Row) (tr : Span) → any (ill_span s) (spans_of rs tr) ≡ false → utf8 (write (map (token_at s) rs) (bytes_at s tr)) ≡ true
unfolding spans_of any write
write-utf8 s [] tr h = not-false (utf8 (bytes_at s tr)) (or_none (ill_span s tr) false h).0
write-utf8 s (r ∷ rs) tr h =
    let p = or_none (ill_span s r.command) _ h in
    let q = or_none (ill_span s r.value) _ p.1 in
    let x = not-false (utf8 (bytes_at s r.command)) p.0 in
    let y = not-false (utf8 (bytes_at s r.value)) q.0 in
    let ih = write-utf8 s rs tr q.1 in
    utf8-piece (bytes_at s r.command) _ x (utf8-piece (bytes_at s r.value) _ y ih)

-- what is read in the first bytes of an output, where a document's bytes t were written
module _ (ts : List Token) (tr d : List ℕ) (e : d ≡ write ts tr) {us : List ℕ} {last : ℕ} (r : Steps d 0 us last) where
  shows : Plain ts tr → (map (token_at d) (rows_in us) ≡ ts) × (drop last d ≡ tr)
  shows p =
      let b = read-written ts tr p in
      ((shown r).toks ∙ ap tokens e ∙ b.toks, (shown r).rest ∙ ap trailing e ∙ b.rest)

  shows-only : (map (token_at d) (rows_in us) ≡ ts) × (drop last d ≡ tr) → Plain ts tr
  shows-only h =
      read-written-only ts tr
      (record { toks = ap tokens (sym e) ∙ sym (shown r).toks ∙ h.0; rest = ap trailing (sym e) ∙ sym (shown r).rest ∙ h.1 })

-- An accepted call of the document writer: what it wrote, and what is read there.
pub record Filed (s ws : List ℕ) (tr : Span) (n : ℕ) (o : List ℕ) : Type 0 where
  -- the first n bytes of the output are the document's
  pub bytes : take n o ≡ document_text s ws tr
  -- a cursor opens over them
  pub opens : open_text (take n o) ≡ Ok 0
  -- and shows the document's tokens and trailing text, compared by bytes, if no command or value holds a pipe and the trailing text at most one
  pub reads : {us : List ℕ} {last : ℕ} → Steps (take n o) 0 us last → Plain (map (token_at s) (rows_in ws)) (bytes_at s tr)
      → (map (token_at (take n o)) (rows_in us) ≡ map (token_at s) (rows_in ws)) × (drop last (take n o) ≡ bytes_at s tr)
  -- and only then
  pub only : {us : List ℕ} {last : ℕ} → Steps (take n o) 0 us last
      → (map (token_at (take n o)) (rows_in us) ≡ map (token_at s) (rows_in ws)) × (drop last (take n o) ≡ bytes_at s tr)
      → Plain (map (token_at s) (rows_in ws)) (bytes_at s tr)

pub filed : (s ws : List ℕ) (tr : Span) (o : List ℕ) (n : ℕ) (o' : List ℕ) → write_document s ws tr o ≡ record { answer = Ok n; output = o' } → Filed s ws tr n o'
unfolding write_document
filed s ws tr o n o' h =
    let t = document_text s ws tr in
    let xs = spans_of (rows_in ws) tr in
    let f = filled _ o t n o' h in
    let b : take n o' ≡ t = filled_bytes _ o t n o' h in
    let p₁ = unmet (ltb limit (length s)) _ _ (length t) n f.answer in
    let p₂ = unmet (any (passes_end s) xs) _ _ (length t) n p₁.1 in
    let p₃ = unmet (any (ill_span s) xs) _ _ (length t) n p₂.1 in
    let p₄ = unmet (ltb (room o) (length t)) _ [] (length t) n p₃.1 in
    let w : t ≡ write (map (token_at s) (rows_in ws)) (bytes_at s tr) = unfold document_text in refl in
    let l : length t ≤ limit = omega (arith, ltb-false (room o) (length t) p₄.0) in
    record {
      bytes = b;
      opens = ap open_text b ∙ open_accepts t (record { short = l; good = ap utf8 w ∙ write-utf8 s (rows_in ws) tr p₃.0 });
      reads = λ r. shows _ _ (take n o') (b ∙ w) r;
      only = λ r. shows-only _ _ (take n o') (b ∙ w) r;
    }
