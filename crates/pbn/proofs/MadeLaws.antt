-- Laws of the board that is made: its texts are the names and the other texts cleaned, its rows, and its heading by the layout. (01: From PBN)
-- Assumes nothing.
use Rattle.std.specs.Prelude.{Option, None, Some}
use Prim.Native.Nat.{ℕ, ◌+◌, ◌-◌, ◌≤◌, ◌<◌}
use native.Mathlib.Omega.{arith}
use mathlib.Core.Path.{◌≡◌, refl, ap, sym, ◌∙◌}
use mathlib.Core.Bool.{Bool, true, false, ◌||◌}
use mathlib.Core.List.{List, [], ◌∷◌, ◌++◌, append_assoc, append-nil, map}
use lib.ListN.{length, length-append}
use lib.Dec.{eqb}
use borrow.Author.Tests.{ne_eqb, eqb-false, ltb-true, ltb-false, lt-ltb, le-ltb}
use Rattle.lin_spec.specs.Base.{pick, All, any, concat, ascii}
use Rattle.lin_spec.specs.Records.{span, bytes_at}
use Rattle.lin_spec.specs.Tokens.{pipe}
use Rattle.lin_spec.specs.Board.{CallOf, BoardOf, map_option, Present}
use Rattle.lin_spec.specs.Reading.{heading_of, annotation_words, call_words}
use Rattle.lin_spec.specs.Writer.{clean, or_empty, present}
use Rattle.lin_spec.specs.Decimal.{decimal}
use Rattle.lin_spec.specs.Annotation.{annotation_text}
use Rattle.lin_spec.specs.Pbn.{pbn, pbn_names, pbn_rows, bid_of, raw_of, title_of, label_of, annotation_by, text_by, filled_by, name_by, dealer_by, claim_from, kept_by, kept_calls, from_board, call_texts, board_texts, laid_names, laid_option, laid_calls, laid, bad_call}
use Rattle.lin_spec.specs.declared.Span.{Span}
use Rattle.lin_spec.specs.declared.PbnCall.{PbnCall}
use Rattle.lin_spec.specs.declared.PbnBoard.{PbnBoard}
use Rattle.lin_spec.proofs.Base.{picked}
use Rattle.lin_spec.proofs.White.{Visible}
use Rattle.lin_spec.proofs.Clean.{clean-same}
use Rattle.lin_spec.proofs.Accepted.{none_any}
use Rattle.lin_spec.proofs.Pbn.{bid_visible, visible_free}
use Rattle.writer_texts.proofs.TextLaws.{clean-nil, clean-length}
use Rattle.pbn_annotation.proofs.AnnotationLaws.{absent_is}
use Rattle.pbn_texts.specs.declared.sources.Label.{Label}
use Rattle.pbn_texts.specs.declared.sources.Label.TheVariants.{Id, Number}
use Rattle.pbn_texts.specs.declared.sources.Sources.{Sources}
use Rattle.pbn_texts.specs.declared.layout.Layout.{Layout}
use Rattle.pbn_texts.specs.Sources.{label_by, SourcesOf}
use Rattle.pbn_texts.specs.Texts.{title_text, labels_text, labelled_text, room_text, label_header}
use Rattle.pbn_texts.specs.Calls.{is_kept, kept_many, bid_bytes, note_bytes, pbn_call_bytes, pbn_calls_bytes}
use Rattle.pbn_texts.specs.Rows.{three_text, noted_text, kept_row_text, placed_row, placed_rows}
use Rattle.pbn_texts.specs.Names.{pbn_names_text}
use Rattle.pbn_texts.specs.Layout.{layout_of}
use Rattle.pbn_texts.specs.Raw.{raw_text, texts_of}
use Rattle.pbn.specs.Made.{text_between, made_heading}

-- Cleaning

clean-append : (p q : ℕ) (x y : List ℕ) → clean p q (x ++ y) ≡ clean p q x ++ clean p q y
unfolding clean
clean-append p q [] y = refl
clean-append p q (b ∷ x) y = ap (λ (r : List ℕ). pick (eqb b pipe) p (pick (eqb b 0x0D || eqb b 0x0A) q b) ∷ r) (clean-append p q x y)

cleaned_option : (p q : ℕ) (o : Option (List ℕ)) → or_empty (map_option (clean p q) o) ≡ clean p q (or_empty o)
unfolding clean
cleaned_option p q None = refl
cleaned_option p q (Some t) = refl

-- Texts that are absent or have a byte

abbrev Full : List ℕ → Type 0
Full t = length t ≡ 0 → ⊥

-- between two places
pub between_none : (from to : ℕ) → to ≤ from → None ≡ text_between from to
between_none from to h = sym (simp (le-ltb from to h))

pub between-some : (from to : ℕ) → from < to → Some (span from (to - from)) ≡ text_between from to
between-some from to h = sym (simp (lt-ltb from to h))

between-laid : (from to : ℕ) (o : Option (List ℕ)) → Present Full o → to ≡ from + length (or_empty o) → text_between from to ≡ (laid_option from o)
between-laid from to None h e = sym (between_none from to (omega arith))
between-laid from to (Some t) h e =
    sym (between-some from to (omega (arith, h)))
    ∙ ap (λ (n : ℕ). Some (span from n)) (let z : to - from ≡ length t = omega arith in z)

noted-words : (at : ℕ) (o : Option (List ℕ)) → Present Full o → noted_text at (length (or_empty o)) ≡ annotation_words (laid_option at o)
unfolding three_text
noted-words at None h = refl
noted-words at (Some t) h = simp (ne_eqb (length t) 0 h)

full-clean : (p q : ℕ) (o : Option (List ℕ)) → Present Full o → Present Full (map_option (clean p q) o)
full-clean p q None h = tt
full-clean p q (Some t) h = λ e. h (sym (clean-length p q t) ∙ e)

full-note : (s ns : List ℕ) (o : Option Span) → Present Full (annotation_by s ns o)
full-note s ns None = tt
full-note s ns (Some x) = go (annotation_text s ns (bytes_at s x)) (absent_is s ns (bytes_at s x))
  where
    go : (o : Option (List ℕ)) → (length (or_empty o) ≡ 0 → o ≡ None) → Present Full o
    go None k = tt
    go (Some t) k = λ e. absurd (let h : Some t ≡ None = k e in let z : ◌≡◌ {A = ℕ} 0 1 = cc in let f : ⊥ = omega arith in f)

full-present : (o : Option (List ℕ)) → Present Full (present o)
full-present None = tt
full-present (Some []) = tt
full-present (Some (b ∷ t)) = λ e. (let f : ⊥ = omega arith in f)

full-title : (e d : Option (List ℕ)) → Present Full e → Present Full (title_of e d)
full-title e None h = h
full-title None (Some d) h = λ k. (let f : ⊥ = omega arith in f)
full-title (Some e) (Some d) h = λ k. (let l = length-append e (ascii " - " ++ d) in let f : ⊥ = omega arith in f)

full-map : (g : List ℕ → List ℕ) → ((t : List ℕ) → Full (g t)) → (o : Option (List ℕ)) → Present Full (map_option g o)
full-map g h None = tt
full-map g h (Some t) = h t

-- Kept calls

module _ (c : PbnCall) where
  kept-some : is_kept c ≡ true → bid_of c ≡ Some (bid_bytes c)
  kept-some h =
      picked P (eqb c.kind 0) (λ _. refl) λ x.
      picked P (eqb c.kind 1) (λ _. refl) λ y.
      picked P (eqb c.kind 2) (λ _. refl) λ z.
      picked P (eqb c.kind 3) (λ _. refl) λ w.
      absurd (let k = ltb-true c.kind 4 h in let a = eqb-false c.kind 0 x in let b = eqb-false c.kind 1 y in let d = eqb-false c.kind 2 z in let e = eqb-false c.kind 3 w in let f : ⊥ = omega arith in f)
    where
      P : Option (List ℕ) → Type 0
      P o = o ≡ Some (or_empty o)

  kept-none : is_kept c ≡ false → bid_of c ≡ None
  kept-none h =
      let k = ltb-false c.kind 4 h in
      simp (ne_eqb c.kind 0 (λ e. (let f : ⊥ = omega arith in f)), ne_eqb c.kind 1 (λ e. (let f : ⊥ = omega arith in f)), ne_eqb c.kind 2 (λ e. (let f : ⊥ = omega arith in f)), ne_eqb c.kind 3 (λ e. (let f : ⊥ = omega arith in f)))

  -- nothing of a bid is cleaned
  bid-clean : (p q : ℕ) → bad_call c ≡ false → clean p q (bid_bytes c) ≡ bid_bytes c
  bid-clean p q h = go (bid_of c) (bid_visible c h)
    where
      go : (o : Option (List ℕ)) → Present (All Visible) o → clean p q (or_empty o) ≡ or_empty o
      go None v = clean-nil p q
      go (Some t) v = clean-same p q t (visible_free t v)

module _ (p q : ℕ) (s ns : List ℕ) where
  -- an annotation before and after cleaning
  abbrev note : PbnCall → Option (List ℕ)
  note c = map_option (clean p q) (annotation_by s ns (raw_of c))

  note-bytes : (c : PbnCall) → or_empty (note c) ≡ clean p q (note_bytes s ns c)
  note-bytes c = cleaned_option p q (annotation_by s ns (raw_of c))

  note-length : (c : PbnCall) → length (or_empty (note c)) ≡ length (note_bytes s ns c)
  note-length c = ap length (note-bytes c) ∙ clean-length p q (note_bytes s ns c)

  -- the texts of a call before others
  kept-text : (c : PbnCall) → bad_call c ≡ false → (ks : List (CallOf (List ℕ))) → call_texts (kept_by p q s ns (bid_of c) c ks) ≡ clean p q (pbn_call_bytes s ns c) ++ call_texts ks
  unfolding pbn_call_bytes call_texts clean
  kept-text c h ks = go (is_kept c) refl
    where
      go : (t : Bool) → is_kept c ≡ t → call_texts (kept_by p q s ns (bid_of c) c ks) ≡ clean p q (pick t (bid_bytes c ++ note_bytes s ns c) []) ++ call_texts ks
      go true e =
          ap (λ (o : Option (List ℕ)). call_texts (kept_by p q s ns o c ks)) (kept-some c e)
          ∙ sym (append_assoc (bid_bytes c) (or_empty (note c)) (call_texts ks))
          ∙ ap (λ (t : List ℕ). t ++ call_texts ks) ((λ i. sym (bid-clean c p q h) i ++ note-bytes c i) ∙ sym (clean-append p q (bid_bytes c) (note_bytes s ns c)))
      go false e = ap (λ (o : Option (List ℕ)). call_texts (kept_by p q s ns o c ks)) (kept-none c e)

  calls-clean : (cs : List PbnCall) → All (λ (c : PbnCall). bad_call c ≡ false) cs → call_texts (kept_calls p q s ns cs) ≡ clean p q (pbn_calls_bytes s ns cs)
  unfolding kept_calls pbn_calls_bytes clean call_texts
  calls-clean [] h = refl
  calls-clean (c ∷ cs) h =
      kept-text c h.0 (kept_calls p q s ns cs)
      ∙ ap (λ (t : List ℕ). clean p q (pbn_call_bytes s ns c) ++ t) (calls-clean cs h.1)
      ∙ sym (clean-append p q (pbn_call_bytes s ns c) (pbn_calls_bytes s ns cs))

  -- how many there are
  pub kept-many : (cs : List PbnCall) → length (kept_calls p q s ns cs) ≡ kept_many cs
  unfolding kept_calls kept_many
  kept-many [] = refl
  kept-many (c ∷ cs) = go (is_kept c) refl (kept-many cs)
    where
      go : (t : Bool) → is_kept c ≡ t → length (kept_calls p q s ns cs) ≡ kept_many cs → length (kept_by p q s ns (bid_of c) c (kept_calls p q s ns cs)) ≡ pick t 1 0 + kept_many cs
      go true e ih = ap (λ (o : Option (List ℕ)). length (kept_by p q s ns o c (kept_calls p q s ns cs))) (kept-some c e) ∙ omega arith
      go false e ih = ap (λ (o : Option (List ℕ)). length (kept_by p q s ns o c (kept_calls p q s ns cs))) (kept-none c e) ∙ omega arith

  -- their rows
  row_words : (c : PbnCall) (at : ℕ) (ks : List (CallOf (List ℕ)))
      → placed_row s ns at c ++ call_words (laid_calls (at + length (pbn_call_bytes s ns c)) ks) ≡ call_words (laid_calls at (kept_by p q s ns (bid_of c) c ks))
  unfolding placed_row pbn_call_bytes laid_calls call_words kept_row_text three_text
  row_words c at ks = go (is_kept c) refl
    where
      go : (t : Bool) → is_kept c ≡ t
          → pick t (kept_row_text at (length (bid_bytes c)) (at + length (bid_bytes c)) (length (note_bytes s ns c))) [] ++ call_words (laid_calls (at + length (pick t (bid_bytes c ++ note_bytes s ns c) [])) ks)
          ≡ call_words (laid_calls at (kept_by p q s ns (bid_of c) c ks))
      go true e =
          let a = at + length (bid_bytes c) in
          let f : at + length (bid_bytes c ++ note_bytes s ns c) ≡ a + length (or_empty (note c)) = omega (arith, length-append (bid_bytes c) (note_bytes s ns c), note-length c) in
          let g : noted_text a (length (note_bytes s ns c)) ++ [] ≡ annotation_words (laid_option a (note c)) =
          append-nil (noted_text a (length (note_bytes s ns c)))
          ∙ ap (noted_text a) (sym (note-length c))
          ∙ noted-words a (note c) (full-clean p q (annotation_by s ns (raw_of c)) (full-note s ns (raw_of c))) in
          (λ i. at ∷ length (bid_bytes c) ∷ 0 ∷ (g i ++ call_words (laid_calls (f i) ks)))
          ∙ ap (λ (o : Option (List ℕ)). call_words (laid_calls at (kept_by p q s ns o c ks))) (sym (kept-some c e))
      go false e =
          ap (λ (m : ℕ). call_words (laid_calls m ks)) (let z : at + 0 ≡ at = omega arith in z)
          ∙ ap (λ (o : Option (List ℕ)). call_words (laid_calls at (kept_by p q s ns o c ks))) (sym (kept-none c e))

  pub rows_are : (at : ℕ) (cs : List PbnCall) → placed_rows s ns at cs ≡ call_words (laid_calls at (kept_calls p q s ns cs))
  unfolding placed_rows kept_calls laid_calls call_words
  rows_are at [] = refl
  rows_are at (c ∷ cs) =
      ap (λ (t : List ℕ). placed_row s ns at c ++ t) (rows_are (at + length (pbn_call_bytes s ns c)) cs)
      ∙ row_words c at (kept_calls p q s ns cs)

-- The texts

-- room-and-board and header, one after the other
both_labels : (t : List ℕ) → ascii "o" ++ (t ++ (ascii ",BOARD " ++ (t ++ (ascii "Board " ++ (t ++ []))))) ≡ (ascii "o" ++ (t ++ (ascii ",BOARD " ++ t))) ++ (ascii "Board " ++ t)
both_labels t =
    sym
    (append_assoc (ascii "o") (t ++ (ascii ",BOARD " ++ t)) (ascii "Board " ++ t)
    ∙ ap (λ (x : List ℕ). ascii "o" ++ x)
    (append_assoc t (ascii ",BOARD " ++ t) (ascii "Board " ++ t)
    ∙ ap (λ (x : List ℕ). t ++ (ascii ",BOARD " ++ (t ++ (ascii "Board " ++ x)))) (sym (append-nil t))))

room_and_header : (s : List ℕ) (l : Option Label) → labelled_text s l ≡ room_text s l ++ label_header s l
unfolding labels_text
room_and_header s None = refl
room_and_header s (Some (Id x)) = both_labels (bytes_at s x)
room_and_header s (Some (Number n)) = both_labels (decimal n)

module _ (p q : ℕ) (s : List ℕ) (b : PbnBoard) (ws ps ns : List ℕ) where
  abbrev made : BoardOf (List ℕ)
  made = from_board p q (pbn s b ws ps ns)

  abbrev label : Option (List ℕ)
  label = label_of (filled_by s b.id) b.number

  -- each is absent, or has a byte
  full-made-title : Present Full made.title
  unfolding from_board
  full-made-title = full-clean p q (title_of (filled_by s b.event) (filled_by s b.date)) (full-title (filled_by s b.event) (filled_by s b.date) (full-present (text_by s b.event)))

  full-made-room : Present Full made.room
  unfolding from_board
  full-made-room =
      full-map (λ t. clean p q (ascii "o" ++ (t ++ (ascii ",BOARD " ++ t))))
      (λ t e. (let z = clean-length p q (ascii "o" ++ (t ++ (ascii ",BOARD " ++ t))) in let f : ⊥ = omega arith in f)) label

  full-made-header : Present Full made.header
  unfolding from_board
  full-made-header = full-map (λ t. clean p q (ascii "Board " ++ t)) (λ t e. (let z = clean-length p q (ascii "Board " ++ t) in let f : ⊥ = omega arith in f)) label

  -- by the sources
  module _ (x : Sources) (so : SourcesOf s b x) where
    title-is : or_empty made.title ≡ clean p q (title_text s x.event x.date)
    unfolding from_board
    title-is =
        cleaned_option p q (title_of (filled_by s b.event) (filled_by s b.date))
        ∙ λ i. clean p q (or_empty (title_of (sym so.event-is i) (sym so.date_is i)))

    room_by : (l : Option Label) → or_empty (map_option (λ t. clean p q (ascii "o" ++ (t ++ (ascii ",BOARD " ++ t)))) (label_by s l)) ≡ clean p q (room_text s l)
    unfolding clean
    room_by None = refl
    room_by (Some (Id y)) = refl
    room_by (Some (Number n)) = refl

    header-by : (l : Option Label) → or_empty (map_option (λ t. clean p q (ascii "Board " ++ t)) (label_by s l)) ≡ clean p q (label_header s l)
    unfolding clean
    header-by None = refl
    header-by (Some (Id y)) = refl
    header-by (Some (Number n)) = refl

    room-is : or_empty made.room ≡ clean p q (room_text s x.label)
    unfolding from_board
    room-is = ap (λ (o : Option (List ℕ)). or_empty (map_option (λ t. clean p q (ascii "o" ++ (t ++ (ascii ",BOARD " ++ t)))) o)) (sym so.label_is) ∙ room_by x.label

    header_is : or_empty made.header ≡ clean p q (label_header s x.label)
    unfolding from_board
    header_is = ap (λ (o : Option (List ℕ)). or_empty (map_option (λ t. clean p q (ascii "Board " ++ t)) o)) (sym so.label_is) ∙ header-by x.label

    -- the names, and the texts after them, cleaned
    pub texts-are : any bad_call (pbn_rows ws) ≡ false → board_texts made ≡ texts_of p q s (pbn_names b) x ns ws
    unfolding board_texts from_board pbn_names_text raw_text texts_of
    texts-are h =
        let t = title_text s x.event x.date in
        let l = x.label in
        let k = pbn_calls_bytes s ns (pbn_rows ws) in
        let cleaned : clean p q (t ++ (labelled_text s l ++ (k ++ []))) ≡ clean p q t ++ (clean p q (room_text s l) ++ (clean p q (label_header s l) ++ clean p q k)) =
        clean-append p q t (labelled_text s l ++ (k ++ []))
        ∙ ap (λ (y : List ℕ). clean p q t ++ y)
        (ap (λ (y : List ℕ). clean p q (y ++ (k ++ []))) (room_and_header s l)
        ∙ ap (clean p q) (append_assoc (room_text s l) (label_header s l) (k ++ []))
        ∙ clean-append p q (room_text s l) (label_header s l ++ (k ++ []))
        ∙ ap (λ (y : List ℕ). clean p q (room_text s l) ++ y) (clean-append p q (label_header s l) (k ++ []) ∙ ap (λ (y : List ℕ). clean p q (label_header s l) ++ clean p q y) (append-nil k))) in
        let calls = calls-clean p q s ns (pbn_rows ws) (none_any bad_call (pbn_rows ws) h) in
        (λ i. concat (map (name_by p q s) (pbn_names b)) ++ (title-is i ++ (room-is i ++ (header_is i ++ calls i))))
        ∙ ap (λ (y : List ℕ). concat (map (name_by p q s) (pbn_names b)) ++ y) (sym cleaned)

    -- by the layout
    module _ (at : Layout) (ea : at ≡ layout_of p q s (pbn_names b) x) where
      -- where the texts of the calls end
      pub layout_end : at.calls + length (pbn_calls_bytes s ns (pbn_rows ws)) ≡ length (texts_of p q s (pbn_names b) x ns ws)
      unfolding layout_of texts_of raw_text
      layout_end =
          let t = title_text s x.event x.date in
          let l = labelled_text s x.label in
          let k = pbn_calls_bytes s ns (pbn_rows ws) in
          let n = pbn_names_text p q s (pbn_names b) in
          omega (
            arith,
            ap (λ (y : Layout). y.calls) ea,
            length-append n (clean p q (t ++ (l ++ (k ++ [])))),
            clean-length p q (t ++ (l ++ (k ++ []))),
            length-append t (l ++ (k ++ [])),
            length-append l (k ++ []),
            length-append k [],
            ap length (room_and_header s x.label),
            length-append (room_text s x.label) (label_header s x.label),
          )

      title-at : at.title ≡ length (concat made.names)
      unfolding layout_of from_board pbn_names_text
      title-at = ap (λ (y : Layout). y.title) ea

      room_at : at.room_board ≡ length (concat made.names) + length (or_empty made.title)
      unfolding layout_of from_board pbn_names_text
      room_at = omega (arith, ap (λ (y : Layout). y.room_board) ea, ap length title-is, clean-length p q (title_text s x.event x.date))

      header_at : at.header ≡ length (concat made.names) + length (or_empty made.title) + length (or_empty made.room)
      unfolding layout_of from_board pbn_names_text
      header_at = omega (arith, ap (λ (y : Layout). y.header) ea, room_at, ap (λ (y : Layout). y.room_board) ea, ap length room-is, clean-length p q (room_text s x.label))

      pub calls_at : at.calls ≡ length (concat made.names) + length (or_empty made.title) + length (or_empty made.room) + length (or_empty made.header)
      unfolding layout_of from_board pbn_names_text
      calls_at = omega (arith, ap (λ (y : Layout). y.calls) ea, header_at, ap (λ (y : Layout). y.header) ea, ap length header_is, clean-length p q (label_header s x.label))

      pub heading-is : (n : ℕ) → n ≡ length (laid made).calls → (k : ℕ) → k ≡ length (laid made).play → made_heading b at n k ≡ heading_of (laid made)
      unfolding made_heading laid from_board layout_of
      heading-is n en k ek =
          let x₁ : at.names ≡ laid_names 0 made.names = ap (λ (y : Layout). y.names) ea in
          let x₂ = between-laid at.title at.room_board made.title full-made-title (omega (arith, title-at, room_at)) ∙ ap (λ (a : ℕ). (laid_option a made.title)) title-at in
          let x₃ = between-laid at.room_board at.header made.room full-made-room (omega (arith, room_at, header_at)) ∙ ap (λ (a : ℕ). (laid_option a made.room)) room_at in
          let x₄ = between-laid at.header at.calls made.header full-made-header (omega (arith, header_at, calls_at)) ∙ ap (λ (a : ℕ). (laid_option a made.header)) header_at in
          λ i. record {
            board =
                record {
                  names = x₁ i;
                  dealer = dealer_by b.dealer b.number;
                  deal = b.deal;
                  vulnerability = b.vulnerability;
                  title = x₂ i;
                  room_board = x₃ i;
                  board_header = x₄ i;
                  claim = (claim_from b.result);
                };
            calls = en i;
            cards = ek i;
          }
