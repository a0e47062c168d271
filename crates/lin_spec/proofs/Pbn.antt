-- What `from_board` makes: the spans of its texts, back to back, are the texts; no text holds a pipe or a line break; and written and read back it is its
-- settled form. (01: From PBN)
-- Assumes nothing.
use Rattle.lin_spec.specs.declared.Converted.{Converted}
use Rattle.lin_spec.specs.declared.Heading.{Heading}
use Rattle.std.specs.Prelude.{Option, None, Some, Err, Ok, ℤ}
use Prim.Native.Nat.{ℕ, ◌+◌, ◌-◌, ◌≤◌, ◌<◌}
use native.Mathlib.Omega.{arith}
use mathlib.Core.Path.{◌≡◌, refl, ap, sym, subst, ◌∙◌}
use mathlib.Core.Bool.{Bool, true, false, ◌&&◌, ◌||◌, not, false≢true}
use mathlib.Core.List.{List, [], ◌∷◌, ◌++◌, map, append_assoc, append-nil}
use lib.ListN.{length, take, drop, get_or, length-append, length-drop}
use lib.Seq.{take-append_seam, drop_at, drop-drop}
use lib.IntN.ℤ.{pos, negsuc}
use lib.Dec.{eqb, ltb, leb}
use borrow.Author.Tests.{ltb-false, leb-true}
use Rattle.lin_spec.specs.Base.{All, any, null, concat, ascii}
use Rattle.lin_spec.specs.Records.{span, part, bytes_at, limit}
use Rattle.lin_spec.specs.Utf8.{utf8}
use Rattle.lin_spec.specs.Refusals.{Answer, refuse_if, unless, too_long, passes_end, past_end, ill_span, span_not_utf8}
use Rattle.lin_spec.specs.Reading.{heading_of, Reading, stored}
use Rattle.lin_spec.specs.ThirdDemand.{Gives}
use Rattle.lin_spec.specs.Board.{CallOf, BoardOf, map_option, map_call, map_board, Present, EachText}
use Rattle.lin_spec.specs.Decimal.{digit, decimal}
use Rattle.lin_spec.specs.File.{parse_lin_file}
use Rattle.lin_spec.specs.Writer.{clean, or_empty, present, written, settled}
use Rattle.lin_spec.specs.Pbn.{Pbn, pbn_names, gap, claim_from, bid_of, raw_of, title_of, label_of, annotation_by, text_by, filled_by, name_by, kept_by, kept_calls, kept_cards, from_board, call_texts, board_texts, laid_names, laid_option, laid_calls, laid, bad_entry, bad_call, bad_board_number, bad_pbn, raw_spans, name_spans, pbn_spans, Conversion, converted, convert_board}
use Rattle.lin_spec.specs.Lent.{span_in}
use Rattle.lin_spec.specs.Annotation.{note_spans, annotation_text}
use Rattle.lin_spec.specs.declared.PbnCall.{PbnCall}
use Rattle.lin_spec.specs.declared.Span.{Span}
use Rattle.lin_spec.specs.declared.Refusal.{Refusal}
use Rattle.lin_spec.specs.declared.Refusal.TheVariants.{TextTooLong, SpanPastEnd, SpanNotUtf8, OutOfRange}
use Rattle.lin_spec.proofs.Base.{picked, or_none, and_left, and_right, all_below, below, every, all_keep}
use Rattle.lin_spec.proofs.White.{Visible}
use Rattle.lin_spec.proofs.Reading.{board_eq}
use Rattle.lin_spec.proofs.Clean.{Fit, Free, free_clean, free_name}
use Rattle.lin_spec.proofs.Utf8.{utf8_append, utf8-ascii, all_ascii, by-ascii}
use Rattle.lin_spec.proofs.Sound.{Valid, decimal_visible}
use Rattle.lin_spec.proofs.RoundTrip.{Item, forms, round_trip}
use Rattle.lin_spec.proofs.Wellformed.{Utf8, visible_utf8, utf8-clean, utf8_name}
use Rattle.lin_spec.proofs.Annotation.{annotation-utf8}
use Rattle.lin_spec.proofs.Accepted.{none_any, none-ill, all_left, all_right}
use Rattle.lin_spec.proofs.Lendable.{Fine, Legal}
use Rattle.lin_spec.proofs.Checks.{unmet, unless-same}
use Rattle.lin_spec.proofs.ThirdDemand.{front_of, stored_gives}

-- Back to back

-- where a text stands, and what follows it
module _ (t : List ℕ) (at : ℕ) (x r : List ℕ) (e : drop at t ≡ x ++ r) where
  here : bytes_at t (span at (length x)) ≡ x
  unfolding part
  here = ap (take (length x)) e ∙ take-append_seam x r

  after : drop (at + length x) t ≡ r
  after = sym (drop-drop (length x) at t) ∙ ap (drop (length x)) e ∙ drop_at x r (length x) refl

  ends : at ≤ length t → at + length x ≤ length t
  ends h =
      let l : length t - at ≡ length x + length r = sym (length-drop at t) ∙ ap length e ∙ length-append x r in
      omega arith

  -- where it is UTF-8, neither 5 nor 6 refuses its span
  fine : at ≤ length t → Utf8 x → Fine t (span at (length x))
  fine h u = (ends h, ap utf8 here ∙ u)

names-laid : (t : List ℕ) (at : ℕ) (ns : List (List ℕ)) (r : List ℕ) → drop at t ≡ concat ns ++ r → map (bytes_at t) (laid_names at ns) ≡ ns
unfolding laid_names concat
names-laid t at [] r e = refl
names-laid t at (n ∷ ns) r e =
    let d : drop at t ≡ n ++ (concat ns ++ r) = e ∙ append_assoc n (concat ns) r in
    let h = here t at n (concat ns ++ r) d in
    let k = names-laid t (at + length n) ns r (after t at n (concat ns ++ r) d) in
    λ i. h i ∷ k i

option_laid : (t : List ℕ) (at : ℕ) (o : Option (List ℕ)) (r : List ℕ) → drop at t ≡ or_empty o ++ r → map_option (bytes_at t) (laid_option at o) ≡ o
option_laid t at None r e = refl
option_laid t at (Some s) r e = ap (λ (x : List ℕ). Some x) (here t at s r e)

calls-laid : (t : List ℕ) (at : ℕ) (cs : List (CallOf (List ℕ))) → drop at t ≡ call_texts cs → map (map_call (bytes_at t)) (laid_calls at cs) ≡ cs
unfolding laid_calls call_texts
calls-laid t at [] e = refl
calls-laid t at (c ∷ cs) e =
    let h = here t at c.bid (or_empty c.annotation ++ call_texts cs) e in
    let d = after t at c.bid (or_empty c.annotation ++ call_texts cs) e in
    let a = option_laid t (at + length c.bid) c.annotation (call_texts cs) d in
    let k = calls-laid t (at + length c.bid + length (or_empty c.annotation)) cs (after t (at + length c.bid) (or_empty c.annotation) (call_texts cs) d) in
    λ i. record { bid = h i; alerted = c.alerted; annotation = a i } ∷ k i

pub laid_out : (b : BoardOf (List ℕ)) → map_board (bytes_at (board_texts b)) (laid b) ≡ b
unfolding map_board laid board_texts
laid_out b =
    let t = board_texts b in
    let names = concat b.names in
    let calls = call_texts b.calls in
    let r₃ = or_empty b.header ++ calls in
    let r₂ = or_empty b.room ++ r₃ in
    let r₁ = or_empty b.title ++ r₂ in
    let e₁ : drop (length names) t ≡ r₁ = drop_at names r₁ (length names) refl in
    let e₂ = after t (length names) (or_empty b.title) r₂ e₁ in
    let e₃ = after t (length names + length (or_empty b.title)) (or_empty b.room) r₃ e₂ in
    let e₄ = after t (length names + length (or_empty b.title) + length (or_empty b.room)) (or_empty b.header) calls e₃ in
    board_eq (names-laid t 0 b.names r₁ refl) refl refl
    (option_laid t (length names) b.title r₂ e₁)
    (option_laid t (length names + length (or_empty b.title)) b.room r₃ e₂)
    (option_laid t (length names + length (or_empty b.title) + length (or_empty b.room)) b.header calls e₃)
    (calls-laid t (length names + length (or_empty b.title) + length (or_empty b.room) + length (or_empty b.header)) b.calls e₄)
    refl refl

-- What it makes

-- what the type of a record says: 208 counts
pub record PbnTyped (x : Pbn) : Type 0 where
  pub counts : length x.board.deal.counts ≡ 208

module _ (x : Pbn) (sound : bad_pbn x ≡ false) where
  abbrev s : List ℕ
  s = x.text

  calls-sound : All (λ (c : PbnCall). bad_call c ≡ false) x.calls
  unfolding bad_pbn
  calls-sound =
      none_any bad_call x.calls (or_none (any bad_call x.calls) _ (or_none (bad_board_number x.board.number) _ sound).1).0

  plays-sound : All (λ (c : ℕ). bad_entry c ≡ false) x.plays
  unfolding bad_pbn
  plays-sound =
      none_any bad_entry x.plays (or_none (any bad_call x.calls) _ (or_none (bad_board_number x.board.number) _ sound).1).1

  kept-cards : (cs : List ℕ) → All (λ (c : ℕ). bad_entry c ≡ false) cs → All (λ (c : ℕ). c < 52) (kept_cards cs)
  kept-cards cs h = all_keep (λ (c : ℕ). bad_entry c ≡ false) (λ (c : ℕ). c < 52) _ card cs h
    where
      card : (c : ℕ) → bad_entry c ≡ false → not (eqb c gap) ≡ true → c < 52
      card c h e = let l = ltb-false 51 c (go (ltb 51 c) h) in omega arith
        where
          go : (t : Bool) → (t && not (eqb c gap)) ≡ false → t ≡ false
          go true k = absurd (false≢true (sym k ∙ e))
          go false k = refl

  claim_most : (r : Option ℤ) → Present (λ (n : ℕ). n ≤ 255) (claim_from r)
  claim_most None = tt
  claim_most (Some (pos n)) = picked (Present (λ (m : ℕ). m ≤ 255)) (leb n 255) (λ e. leb-true n 255 e) (λ _. tt)
  claim_most (Some (negsuc n)) = tt

  pub made_valid : (p q : ℕ) → PbnTyped x → Valid (from_board p q x)
  unfolding from_board
  made_valid p q t =
      record {
        names = refl;
        deal = t.counts;
        cards = kept-cards x.plays plays-sound;
        claim = claim_most x.board.result;
      }

-- a bid is of visible bytes
strain_visible : (n : ℕ) → n < 5 → Visible (get_or (ascii "CDHSN") n 0)
unfolding all_below
strain_visible n h =
    let z = below (λ k. leb 33 (get_or (ascii "CDHSN") k 0) && leb (get_or (ascii "CDHSN") k 0) 122) 5 refl n h in
    (leb-true 33 (get_or (ascii "CDHSN") n 0) (and_left (leb 33 (get_or (ascii "CDHSN") n 0)) _ z), leb-true (get_or (ascii "CDHSN") n 0) 122 (and_right (leb 33 (get_or (ascii "CDHSN") n 0)) _ z))

pub bid_visible : (c : PbnCall) → bad_call c ≡ false → Present (All Visible) (bid_of c)
bid_visible c h =
    picked P (eqb c.kind 0) (λ _. ((omega arith, omega arith), tt)) λ _.
    picked P (eqb c.kind 1) (λ _. ((omega arith, omega arith), tt)) λ _.
    picked P (eqb c.kind 2) (λ _. ((omega arith, omega arith), tt)) λ _.
    picked P (eqb c.kind 3) bid (λ _. tt)
  where
    P : Option (List ℕ) → Type 0
    P o = Present (All Visible) o

    bid : eqb c.kind 3 ≡ true → All Visible (digit c.level ∷ get_or (ascii "CDHSN") c.strain 0 ∷ [])
    bid e =
        let a = or_none (ltb 5 c.kind) _ h in
        let b = or_none (eqb c.kind 3 && (eqb c.level 0 || (ltb 7 c.level || ltb 4 c.strain))) _ a.1 in
        let d : (eqb c.level 0 || (ltb 7 c.level || ltb 4 c.strain)) ≡ false = ap (λ (t : Bool). t && (eqb c.level 0 || (ltb 7 c.level || ltb 4 c.strain))) (sym e) ∙ b.0 in
        let f = or_none (ltb 7 c.level) _ (or_none (eqb c.level 0) _ d).1 in
        let l = ltb-false 7 c.level f.0 in
        let m = ltb-false 4 c.strain f.1 in
        ((omega arith, omega arith), (strain_visible c.strain (omega arith), tt))

-- "names, title, room-and-board, header and annotations are cleaned": what holds of visible bytes and of what is cleaned holds of every text
module _ (p q : ℕ) (P : List ℕ → Type 0) (seen : (t : List ℕ) → All Visible t → P t) (s notes : List ℕ) where
  kept-each : (cs : List PbnCall) → All (λ (c : PbnCall). bad_call c ≡ false) cs
      → All (λ (c : PbnCall). Present (λ (t : List ℕ). P (clean p q t)) (annotation_by s notes (raw_of c))) cs
      → All (λ (c : CallOf (List ℕ)). P c.bid × Present P c.annotation) (kept_calls p q s notes cs)
  unfolding kept_calls
  kept-each [] h a = tt
  kept-each (c ∷ cs) h a = go (bid_of c) (bid_visible c h.0) (kept-each cs h.1 a.1)
    where
      note : (o : Option (List ℕ)) → Present (λ (t : List ℕ). P (clean p q t)) o → Present P (map_option (clean p q) o)
      note None k = tt
      note (Some t) k = k

      go : (o : Option (List ℕ)) → Present (All Visible) o → All (λ (d : CallOf (List ℕ)). P d.bid × Present P d.annotation) (kept_calls p q s notes cs)
          → All (λ (d : CallOf (List ℕ)). P d.bid × Present P d.annotation) (kept_by p q s notes o c (kept_calls p q s notes cs))
      go None k ih = ih
      go (Some b) k ih = ((seen b k, note (annotation_by s notes (raw_of c)) a.0), ih)

-- No text holds a pipe or a line break

pub visible_free : (t : List ℕ) → All Visible t → All Free t
visible_free [] h = tt
visible_free (b ∷ t) h = (
  ((λ e. (let l = h.0.1 in omega arith)), (λ e. (let l = h.0.0 in omega arith)), (λ e. (let l = h.0.0 in omega arith))),
  visible_free t h.1,
)

-- what an option's text is made into
option_each : {A : Type 0} (P : List ℕ → Type 0) (g : A → List ℕ) → ((a : A) → P (g a)) → (o : Option A) → Present P (map_option g o)
option_each P g h None = tt
option_each P g h (Some a) = h a

map_each : {A : Type 0} (P : List ℕ → Type 0) (g : A → List ℕ) → ((a : A) → P (g a)) → (xs : List A) → All P (map g xs)
map_each P g h [] = tt
map_each P g h (x ∷ xs) = (h x, map_each P g h xs)

present-each : (P : List ℕ → Type 0) → ((t : List ℕ) → P t) → (o : Option (List ℕ)) → Present P o
present-each P h None = tt
present-each P h (Some t) = h t

pub made_free : (p q : ℕ) → Fit p q → (x : Pbn) → bad_pbn x ≡ false → EachText (All Free) (from_board p q x)
unfolding from_board
made_free p q f x h =
    let b = x.board in
    let t = x.text in
    let title = title_of (filled_by t b.event) (filled_by t b.date) in
    let label = label_of (filled_by t b.id) b.number in
    record {
      names = map_each (All Free) (name_by p q t) (λ y. free_name p q f (or_empty (text_by t y))) (pbn_names b);
      title = option_each (All Free) (clean p q) (free_clean p q f) title;
      room = option_each (All Free) (λ l. clean p q (ascii "o" ++ (l ++ (ascii ",BOARD " ++ l)))) (λ l. free_clean p q f (ascii "o" ++ (l ++ (ascii ",BOARD " ++ l)))) label;
      header = option_each (All Free) (λ l. clean p q (ascii "Board " ++ l)) (λ l. free_clean p q f (ascii "Board " ++ l)) label;
      calls = kept-each p q (All Free) visible_free t x.notes x.calls (calls-sound x h) (every (λ (c : PbnCall). Present (λ (u : List ℕ). All Free (clean p q u)) (annotation_by t x.notes (raw_of c))) (λ c. present-each (λ (u : List ℕ). All Free (clean p q u)) (free_clean p q f) (annotation_by t x.notes (raw_of c))) x.calls);
    }

-- Written and read back

abbrev made : (p q : ℕ) → Pbn → Item
made p q x = record { p = p; q = q; board = from_board p q x }

pub made-read : (p q : ℕ) → Fit p q → (x : Pbn) → PbnTyped x → bad_pbn x ≡ false → parse_lin_file (written p q (from_board p q x)) ≡ settled p q (from_board p q x) ∷ []
made-read p q f x t h =
    let one : forms (made p q x ∷ []) ≡ written p q (from_board p q x) = unfold forms concat in append-nil (written p q (from_board p q x)) in
    ap parse_lin_file (sym one)
    ∙ round_trip (made p q x ∷ []) (record { fit = f; valid = made_valid x h p q t }, tt)

-- Its texts are UTF-8, if no span of the input is refused by 6

module _ (p q : ℕ) (f : Fit p q) (x : Pbn) (well : All (λ (y : Span). Utf8 (bytes_at x.text y)) (pbn_spans x)) where
  abbrev W : Span → Type 0
  W y = Utf8 (bytes_at x.text y)

  -- the parts of the list of spans
  abbrev raws : List Span
  raws = raw_spans x.calls ++ note_spans x.notes

  w₁ : All W (span_in x.board.event ++ (span_in x.board.date ++ (span_in x.board.id ++ raws)))
  unfolding pbn_spans
  w₁ = all_right W (name_spans (pbn_names x.board)) _ well

  w₂ : All W (span_in x.board.date ++ (span_in x.board.id ++ raws))
  w₂ = all_right W (span_in x.board.event) _ w₁

  w₃ : All W (span_in x.board.id ++ raws)
  w₃ = all_right W (span_in x.board.date) _ w₂

  w₄ : All W raws
  w₄ = all_right W (span_in x.board.id) _ w₃

  text-utf8 : (y : Option Span) → All W (span_in y) → Present Utf8 (text_by x.text y)
  text-utf8 y h = go y h
    where
      go : (o : Option Span) → All W (span_in o) → Present Utf8 (map_option (bytes_at x.text) o)
      go None k = tt
      go (Some z) k = k.0

  filled_utf8 : (y : Option Span) → All W (span_in y) → Present Utf8 (filled_by x.text y)
  filled_utf8 y h = go (text_by x.text y) (text-utf8 y h)
    where
      go : (o : Option (List ℕ)) → Present Utf8 o → Present Utf8 (present o)
      go None k = tt
      go (Some t) k = picked (Present Utf8) (null t) (λ _. tt) (λ _. k)

  names-utf8 : (ys : List (Option Span)) → All W (name_spans ys) → All Utf8 (map (name_by p q x.text) ys)
  unfolding concat
  names-utf8 [] h = tt
  names-utf8 (y ∷ ys) h = (
    utf8_name p q f (or_empty (text_by x.text y)) (go (text_by x.text y) (text-utf8 y (all_left W (span_in y) _ h))),
    names-utf8 ys (all_right W (span_in y) _ h),
  )
    where
      go : (o : Option (List ℕ)) → Present Utf8 o → Utf8 (or_empty o)
      go None k = utf8-ascii [] tt
      go (Some t) k = k

  dash : Utf8 (ascii " - ")
  dash = utf8-ascii (ascii " - ") (omega arith, (omega arith, (omega arith, tt)))

  title-utf8 : (e d : Option (List ℕ)) → Present Utf8 e → Present Utf8 d → Present Utf8 (title_of e d)
  title-utf8 e None h k = h
  title-utf8 None (Some d) h k = utf8_append (ascii " - ") d dash k
  title-utf8 (Some e) (Some d) h k = utf8_append e _ h (utf8_append (ascii " - ") d dash k)

  label-utf8 : (o : Option (List ℕ)) (n : Option ℕ) → Present Utf8 o → Present Utf8 (label_of o n)
  label-utf8 (Some t) n h = h
  label-utf8 None (Some n) h = visible_utf8 (decimal n) (decimal_visible n)
  label-utf8 None None h = tt

  cleaned-utf8 : (g : List ℕ → List ℕ) → ((t : List ℕ) → Utf8 t → Utf8 (g t)) → (o : Option (List ℕ)) → Present Utf8 o → Present Utf8 (map_option (λ t. clean p q (g t)) o)
  cleaned-utf8 g k None h = tt
  cleaned-utf8 g k (Some t) h = utf8-clean p q f (g t) (k t h)

  room-utf8 : (l : List ℕ) → Utf8 l → Utf8 (ascii "o" ++ (l ++ (ascii ",BOARD " ++ l)))
  unfolding all_ascii
  room-utf8 l h = utf8_append (ascii "o") _ (by-ascii (ascii "o") refl) (utf8_append l _ h (utf8_append (ascii ",BOARD ") l (by-ascii (ascii ",BOARD ") refl) h))

  raw-utf8 : (cs : List PbnCall) → All W (raw_spans cs) → All (λ (c : PbnCall). Present (λ (t : List ℕ). Utf8 (clean p q t)) (annotation_by x.text x.notes (raw_of c))) cs
  unfolding concat
  raw-utf8 [] h = tt
  raw-utf8 (c ∷ cs) h = (go (raw_of c) (all_left W (span_in (raw_of c)) _ h), raw-utf8 cs (all_right W (span_in (raw_of c)) _ h))
    where
      clean-present : (o : Option (List ℕ)) → Present Utf8 o → Present (λ (t : List ℕ). Utf8 (clean p q t)) o
      clean-present None k = tt
      clean-present (Some t) k = utf8-clean p q f t k

      go : (o : Option Span) → All W (span_in o) → Present (λ (t : List ℕ). Utf8 (clean p q t)) (annotation_by x.text x.notes o)
      go None k = tt
      go (Some y) k =
          clean-present (annotation_text x.text x.notes (bytes_at x.text y))
          (annotation-utf8 x.text x.notes (all_right W (raw_spans x.calls) _ w₄) (bytes_at x.text y) k.0)

  pub made-utf8 : bad_pbn x ≡ false → EachText Utf8 (from_board p q x)
  unfolding from_board
  made-utf8 h =
      let b = x.board in
      let label = label-utf8 (filled_by x.text b.id) b.number (filled_utf8 b.id (all_left W (span_in b.id) _ w₃)) in
      record {
        names = names-utf8 (pbn_names b) (unfold pbn_spans in all_left W (name_spans (pbn_names b)) _ well);
        title =
            cleaned-utf8 (λ t. t) (λ t k. k) (title_of (filled_by x.text b.event) (filled_by x.text b.date))
            (title-utf8 (filled_by x.text b.event) (filled_by x.text b.date) (filled_utf8 b.event (all_left W (span_in b.event) _ w₁)) (filled_utf8 b.date (all_left W (span_in b.date) _ w₂)));
        room = cleaned-utf8 (λ l. ascii "o" ++ (l ++ (ascii ",BOARD " ++ l))) room-utf8 (label_of (filled_by x.text b.id) b.number) label;
        header = cleaned-utf8 (λ l. ascii "Board " ++ l) (λ l k. utf8_append (ascii "Board ") l (by-ascii (ascii "Board ") (unfold all_ascii in refl)) k) (label_of (filled_by x.text b.id) b.number) label;
        calls = kept-each p q Utf8 visible_utf8 x.text x.notes x.calls (calls-sound x h) (raw-utf8 x.calls (all_left W (raw_spans x.calls) _ w₄));
      }

-- What an accepted call stored, lent again: the texts in the output's first bytes, with the heading's board and as many rows and cards as it says, are
-- the board that `from_board` makes, and none of 8, 5 and 6 meets them

names-fine : (t : List ℕ) (at : ℕ) (ns : List (List ℕ)) (r : List ℕ) → drop at t ≡ concat ns ++ r → at ≤ length t → All Utf8 ns → All (Fine t) (laid_names at ns)
unfolding laid_names concat
names-fine t at [] r e h u = tt
names-fine t at (n ∷ ns) r e h u =
    let d : drop at t ≡ n ++ (concat ns ++ r) = e ∙ append_assoc n (concat ns) r in
    (fine t at n (concat ns ++ r) d h u.0, names-fine t (at + length n) ns r (after t at n (concat ns ++ r) d) (ends t at n (concat ns ++ r) d h) u.1)

option_fine : (t : List ℕ) (at : ℕ) (o : Option (List ℕ)) (r : List ℕ) → drop at t ≡ or_empty o ++ r → at ≤ length t → Present Utf8 o → Present (Fine t) (laid_option at o)
option_fine t at None r e h u = tt
option_fine t at (Some s) r e h u = fine t at s r e h u

calls-fine : (t : List ℕ) (at : ℕ) (cs : List (CallOf (List ℕ))) → drop at t ≡ call_texts cs → at ≤ length t → All (λ (c : CallOf (List ℕ)). Utf8 c.bid × Present Utf8 c.annotation) cs
    → All (λ (c : CallOf Span). Fine t c.bid × Present (Fine t) c.annotation) (laid_calls at cs)
unfolding laid_calls call_texts
calls-fine t at [] e h u = tt
calls-fine t at (c ∷ cs) e h u =
    let r = call_texts cs in
    let n = or_empty c.annotation in
    let d = after t at c.bid (n ++ r) e in
    let k = ends t at c.bid (n ++ r) e h in
    let a = at + length c.bid in
    ((fine t at c.bid (n ++ r) e h u.0.0, option_fine t a c.annotation r d k u.0.1), calls-fine t (a + length n) cs (after t a n r d) (ends t a n r d k) u.1)

laid_legal : (b : BoardOf (List ℕ)) → EachText Utf8 b → All (λ (c : ℕ). c < 52) b.play → Legal (board_texts b) (laid b)
unfolding laid board_texts
laid_legal b u c =
    let t = board_texts b in
    let names = concat b.names in
    let r₄ = call_texts b.calls in
    let r₃ = or_empty b.header ++ r₄ in
    let r₂ = or_empty b.room ++ r₃ in
    let r₁ = or_empty b.title ++ r₂ in
    let a₁ = length names in
    let a₂ = a₁ + length (or_empty b.title) in
    let a₃ = a₂ + length (or_empty b.room) in
    let e₁ : drop a₁ t ≡ r₁ = drop_at names r₁ a₁ refl in
    let e₂ = after t a₁ (or_empty b.title) r₂ e₁ in
    let e₃ = after t a₂ (or_empty b.room) r₃ e₂ in
    let e₄ = after t a₃ (or_empty b.header) r₄ e₃ in
    let h₁ : a₁ ≤ length t = (let l = length-append names r₁ in omega arith) in
    let h₂ = ends t a₁ (or_empty b.title) r₂ e₁ h₁ in
    let h₃ = ends t a₂ (or_empty b.room) r₃ e₂ h₂ in
    let h₄ = ends t a₃ (or_empty b.header) r₄ e₃ h₃ in
    record {
      texts =
          record {
            names = names-fine t 0 b.names r₁ refl (omega arith) u.names;
            title = option_fine t a₁ b.title r₂ e₁ h₁ u.title;
            room = option_fine t a₂ b.room r₃ e₂ h₂ u.room;
            header = option_fine t a₃ b.header r₄ e₃ h₃ u.header;
            calls = calls-fine t (a₃ + length (or_empty b.header)) b.calls e₄ h₄ u.calls;
          };
      cards = c;
    }

module _ (p q : ℕ) (f : Fit p q) (x : Pbn) (o rows cards : List ℕ) where
  abbrev stays : Conversion → Heading → Reading
  stays c h = record { heading = Ok h; rows = c.rows; cards = c.cards }

  abbrev BackBy : Conversion → Answer Converted → Type 0
  BackBy c (Err r) = Unit
  BackBy c (Ok y) = Gives (take y.len c.output) (from_board p q x) (stays c y.heading)

  abbrev Back : Conversion → Type 0
  Back c = (y : Converted) → c.answer ≡ Ok y → Gives (take y.len c.output) (from_board p q x) (stays c y.heading)

  -- of a call that neither 8 nor 6 meets
  made_legal : bad_pbn x ≡ false → any (ill_span x.text) (pbn_spans x) ≡ false → Legal (board_texts (from_board p q x)) (laid (from_board p q x))
  unfolding from_board
  made_legal h k = laid_legal (from_board p q x) (made-utf8 p q f x (none-ill x.text (pbn_spans x) k) h) (kept-cards x h x.plays (plays-sound x h))

  back : (a : Answer (BoardOf Span)) → ((b : BoardOf Span) → a ≡ Ok b → (laid (from_board p q x) ≡ b) × Legal (board_texts (from_board p q x)) (laid (from_board p q x)))
      → Back (converted a (board_texts (from_board p q x)) rows cards o)
  back (Err r) h y k = let z : ◌≡◌ {A = ℕ} 0 1 = cc in absurd (omega arith)
  back (Ok b) h y k =
      let t = board_texts (from_board p q x) in
      let e = front_of o t (length t) refl in
      let l = h b refl in
      let m : map_board (bytes_at t) b ≡ from_board p q x = ap (map_board (bytes_at t)) (sym l.0) ∙ laid_out (from_board p q x) in
      let g : BackBy (converted (Ok b) t rows cards o) (Ok (record { heading = heading_of b; len = length t })) =
      rw e (subst (λ (y : BoardOf (List ℕ)). Gives t y (stored (Ok b) rows cards)) m (stored_gives t b (subst (Legal t) l.0 l.1) rows cards)) in
      subst (BackBy (converted (Ok b) t rows cards o)) k g

  -- what passed the checks, whichever follow them
  made-passed : (other : Bool) (cs : List (Option Refusal)) (b : BoardOf Span)
      → unless (too_long x.text ∷ refuse_if (other || bad_pbn x) OutOfRange ∷ past_end x.text (pbn_spans x) ∷ span_not_utf8 x.text (pbn_spans x) ∷ cs) (laid (from_board p q x)) ≡ Ok b
      → (laid (from_board p q x) ≡ b) × Legal (board_texts (from_board p q x)) (laid (from_board p q x))
  made-passed other cs b e =
      let y = laid (from_board p q x) in
      let e₁ = unmet (ltb limit (length x.text)) TextTooLong _ y b e in
      let e₂ = unmet (other || bad_pbn x) OutOfRange _ y b e₁.1 in
      let e₃ = unmet (any (passes_end x.text) (pbn_spans x)) SpanPastEnd _ y b e₂.1 in
      let e₄ = unmet (any (ill_span x.text) (pbn_spans x)) SpanNotUtf8 cs y b e₃.1 in
      (unless-same cs y b e₄.1, made_legal (or_none other (bad_pbn x) e₂.0).1 e₄.0)

  pub made-given : (other : Bool) → Back (convert_board other p q x o rows cards)
  unfolding convert_board
  made-given other = back _ (made-passed other _)
