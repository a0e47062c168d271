-- Laws of the entry: the answer by the tests that were made, and what is stored once every check is passed. (01: From PBN; Eight refusals)
-- Assumes nothing.
use Rattle.std.specs.Prelude.{Option, Ok, Result, Err}
use Prim.Native.Nat.{ℕ, suc, ◌+◌, ◌*◌, ◌/◌, ◌≤◌, ◌<◌}
use native.Mathlib.Omega.{arith}
use mathlib.Core.Path.{◌≡◌, refl, ap, sym, ◌∙◌}
use mathlib.Core.Bool.{Bool, true, false, ◌||◌}
use mathlib.Core.List.{List, [], ◌∷◌, ◌++◌}
use lib.ListN.{length, length-append}
use lib.Dec.{eqb, ltb}
use borrow.Author.Tests.{lt-ltb, le-ltb, ltb-false}
use Rattle.lin_spec.specs.Base.{pick, any}
use Rattle.lin_spec.specs.Records.{limit}
use Rattle.lin_spec.specs.Refusals.{Answer, refuse_if, unless, sat, too_small}
use Rattle.lin_spec.specs.Output.{overlay, room}
use Rattle.lin_spec.specs.Board.{CallOf, BoardOf}
use Rattle.lin_spec.specs.Reading.{call_words, few_rows}
use Rattle.lin_spec.specs.Writer.{or_empty}
use Rattle.lin_spec.specs.Pbn.{Pbn, pbn, pbn_names, pbn_rows, kept_calls, kept_cards, from_board, board_texts, laid_calls, laid, bad_call, bad_entry, bad_board_number, bad_pbn, Conversion, converted, convert_board}
use Rattle.lin_spec.specs.declared.Span.{Span}
use Rattle.lin_spec.specs.declared.RowKind.TheVariants.{Calls, Cards}
use Rattle.lin_spec.specs.declared.Refusal.{Refusal}
use Rattle.lin_spec.specs.declared.Refusal.TheVariants.{TooFewRows, OutputTooSmall}
use Rattle.lin_spec.specs.declared.PbnCall.{PbnCall}
use Rattle.lin_spec.specs.declared.PbnBoard.{PbnBoard}
use Rattle.lin_spec.specs.declared.Heading.{Heading}
use Rattle.lin_spec.specs.declared.Converted.{Converted}
use Rattle.lin_spec.proofs.Base.{or_none}
use Rattle.lin_spec.proofs.Checks.{unmet, unless-refused, unless-passed}
use Rattle.output.specs.Put.{Room, Put}
use Rattle.pbn_texts.specs.declared.sources.Sources.{Sources}
use Rattle.pbn_texts.specs.declared.layout.Layout.{Layout}
use Rattle.pbn_texts.specs.Sources.{SourcesOf}
use Rattle.pbn_texts.specs.Layout.{layout_of}
use Rattle.pbn_texts.specs.Raw.{texts_of}
use Rattle.pbn_texts.specs.Calls.{is_kept, kept_one, kept_many, bid_bytes, note_bytes, pbn_call_bytes, pbn_calls_bytes}
use Rattle.pbn_texts.specs.Rows.{three_text, noted_text, kept_row_text, placed_row, placed_rows}
use Rattle.pbn_checks.specs.Checks.{pbn_checks, record_checked}
use Rattle.pbn.specs.Made.{made_heading, KeptCounted, fitted_record}
use Rattle.pbn.proofs.MadeLaws.{kept-many, rows_are, texts-are, layout_end, calls_at, heading-is}

-- How many there are

laid-many : (at : ℕ) (cs : List (CallOf (List ℕ))) → length (laid_calls at cs) ≡ length cs
unfolding laid_calls
laid-many at [] = refl
laid-many at (c ∷ cs) = ap suc (laid-many (at + length c.bid + length (or_empty c.annotation)) cs)

row-long : (s ns : List ℕ) (at : ℕ) (c : PbnCall) → length (placed_row s ns at c) ≡ kept_one c * 6
unfolding placed_row kept_row_text three_text
row-long s ns at c = go (is_kept c)
  where
    words : (a n : ℕ) → length (noted_text a n) ≡ 3
    words a n = go_words (eqb n 0)
      where
        go_words : (t : Bool) → length (pick t (three_text 0 0 0) (three_text 1 a n)) ≡ 3
        go_words true = refl
        go_words false = refl

    go : (t : Bool) → length (pick t (kept_row_text at (length (bid_bytes c)) (at + length (bid_bytes c)) (length (note_bytes s ns c))) []) ≡ pick t 1 0 * 6
    go true = (omega (arith, length-append (noted_text (at + length (bid_bytes c)) (length (note_bytes s ns c))) [], words (at + length (bid_bytes c)) (length (note_bytes s ns c))))
    go false = refl

rows_long : (s ns : List ℕ) (at : ℕ) (cs : List PbnCall) → length (placed_rows s ns at cs) ≡ kept_many cs * 6
unfolding placed_rows kept_many
rows_long s ns at [] = refl
rows_long s ns at (c ∷ cs) =
    let z = rows_long s ns (at + length (pbn_call_bytes s ns c)) cs in
    let y = row-long s ns at c in
    omega (arith, length-append (placed_row s ns at c) (placed_rows s ns (at + length (pbn_call_bytes s ns c)) cs))

-- The answer, by the tests before it

module _ (p q : ℕ) (x : Pbn) (o rows cards : List ℕ) where
  abbrev board : BoardOf (List ℕ)
  board = from_board p q x

  abbrev after : Answer (BoardOf Span) → Conversion
  after a = converted a (board_texts board) rows cards o

  -- what is given and left when v is answered and nothing stored
  abbrev Stays : Answer Converted → Conversion
  Stays v = record { answer = v; rows = rows; cards = cards; output = o }

  -- 3, 3 and 7 by what each of them says
  three : (few fewer small : Bool) (n k t : ℕ) → Answer (BoardOf Span)
  unfolding unless
  three a b c n k t = unless (refuse_if a (TooFewRows Calls n) ∷ refuse_if b (TooFewRows Cards k) ∷ refuse_if c (OutputTooSmall t) ∷ []) (laid board)

  module _ (n : ℕ) (en : n ≡ length (laid board).calls) where
    abbrev few : Bool
    few = ltb (length rows / 6) n

    is_three : (a b c : Bool) (k t : ℕ) → k ≡ length (laid board).play → t ≡ sat (length (board_texts board)) → a ≡ few → b ≡ ltb (length cards) k → c ≡ ltb (room o) (length (board_texts board))
        → after (three a b c n k t) ≡ fitted_record p q x o rows cards
    unfolding fitted_record three
    is_three a b c k t ek et ea eb ec =
        let e₁ = ea ∙ ap (ltb (length rows / 6)) en in
        let e₂ = eb ∙ ap (ltb (length cards)) ek in
        λ i. after (three (e₁ i) (e₂ i) (ec i) (en i) (ek i) (et i))

    few-calls : length rows / 6 < n → (v : Answer Converted) → v ≡ Err (TooFewRows Calls n) → Stays v ≡ fitted_record p q x o rows cards
    unfolding three unless
    few-calls h v ev =
        ap Stays ev
        ∙ is_three true (ltb (length cards) (length (laid board).play)) (ltb (room o) (length (board_texts board))) (length (laid board).play) (sat (length (board_texts board))) refl refl (sym (lt-ltb (length rows / 6) n h)) refl refl

    module _ (h : n ≤ length rows / 6) (k : ℕ) (ek : k ≡ length (laid board).play) where
      abbrev enough : false ≡ few
      enough = sym (le-ltb (length rows / 6) n h)

      few-cards : length cards < k → (v : Answer Converted) → v ≡ Err (TooFewRows Cards k) → Stays v ≡ fitted_record p q x o rows cards
      unfolding three unless
      few-cards l v ev =
          ap Stays ev
          ∙ is_three false true (ltb (room o) (length (board_texts board))) k (sat (length (board_texts board))) ek refl enough (sym (lt-ltb (length cards) k l)) refl

      module _ (l : k ≤ length cards) (need : ℕ) (et : need ≡ sat (length (board_texts board))) where
        small-output : room o < need → (v : Answer Converted) → v ≡ Err (OutputTooSmall need) → Stays v ≡ fitted_record p q x o rows cards
        unfolding three unless
        small-output m v ev =
            ap Stays ev
            ∙ is_three false false true k need ek et enough (sym (le-ltb (length cards) k l)) (sym (lt-ltb (room o) (length (board_texts board)) (omega arith)))

        all_fits : need ≤ room o → after (Ok (laid board)) ≡ fitted_record p q x o rows cards
        unfolding three unless
        all_fits m = is_three false false false k need ek et enough (sym (le-ltb (length cards) k l)) (sym (le-ltb (room o) (length (board_texts board)) (omega arith)))

-- 3: by how many calls and cards are kept

module _ (p q : ℕ) (s : List ℕ) (b : PbnBoard) (ws ps ns : List ℕ) where
  calls-many : (n : ℕ) → n ≡ kept_many (pbn_rows ws) → n ≡ length (laid (from_board p q (pbn s b ws ps ns))).calls
  unfolding laid from_board
  calls-many n e = e ∙ sym (laid-many _ (kept_calls p q s ns (pbn_rows ws)) ∙ kept-many p q s ns (pbn_rows ws))

  cards-many : (k : ℕ) → k ≡ length (kept_cards ps) → k ≡ length (laid (from_board p q (pbn s b ws ps ns))).play
  unfolding laid from_board
  cards-many k e = e

module _ (p q : ℕ) (s : List ℕ) (b : PbnBoard) (ws ps ns o rows cards : List ℕ) (n : ℕ) (en : n ≡ kept_many (pbn_rows ws)) where
  pub calls-refused : length rows / 6 < n → (v : Answer Converted) → v ≡ Err (TooFewRows Calls n) → Stays p q (pbn s b ws ps ns) o rows cards v ≡ fitted_record p q (pbn s b ws ps ns) o rows cards
  calls-refused = few-calls p q (pbn s b ws ps ns) o rows cards n (calls-many p q s b ws ps ns n en)

  module _ (h : n ≤ length rows / 6) (k : ℕ) (ek : k ≡ length (kept_cards ps)) where
    pub cards-refused : length cards < k → (v : Answer Converted) → v ≡ Err (TooFewRows Cards k) → Stays p q (pbn s b ws ps ns) o rows cards v ≡ fitted_record p q (pbn s b ws ps ns) o rows cards
    cards-refused = few-cards p q (pbn s b ws ps ns) o rows cards n (calls-many p q s b ws ps ns n en) h k (cards-many p q s b ws ps ns k ek)

    -- what the rest rests on
    pub counted : (length s ≤ limit) × (bad_pbn (pbn s b ws ps ns) ≡ false) → k ≤ length cards → KeptCounted s ws ps rows cards n k
    unfolding bad_pbn
    counted pre l =
        record {
          short = pre.0;
          sound = (or_none (any bad_call (pbn_rows ws)) (any bad_entry ps) (or_none (bad_board_number b.number) _ pre.1).1).0;
          many = en;
          kept = ek;
          rows_fit = h;
          cards-fit = l;
        }

-- 7, and what is stored: by the sources and the layout

-- what is known once it is computed how many bytes the texts need
pub record Known (p q : ℕ) (s : List ℕ) (b : PbnBoard) (ws ps ns rows cards : List ℕ) (n k : ℕ) (ms : List (Option Span)) (x : Sources) (at : Layout) (need : ℕ) : Type 0 where
  pub counts : KeptCounted s ws ps rows cards n k
  pub names-are : ms ≡ pbn_names b
  pub sources_are : SourcesOf s b x
  pub layout_is : at ≡ layout_of p q s ms x
  pub need-is : need ≡ sat (at.calls + length (pbn_calls_bytes s ns (pbn_rows ws)))

module _ {p q : ℕ} {s : List ℕ} {b : PbnBoard} {ws ps ns rows cards : List ℕ} {n k : ℕ} {ms : List (Option Span)} {x : Sources} {at : Layout} {need : ℕ}
    (r : Known p q s b ws ps ns rows cards n k ms x at need) (o : List ℕ) where
  layout_made : at ≡ layout_of p q s (pbn_names b) x
  layout_made = r.layout_is ∙ ap (λ (xs : List (Option Span)). layout_of p q s xs x) r.names-are

  texts-made : texts_of p q s ms x ns ws ≡ board_texts (from_board p q (pbn s b ws ps ns))
  texts-made = ap (λ (xs : List (Option Span)). texts_of p q s xs x ns ws) r.names-are ∙ sym (texts-are p q s b ws ps ns x r.sources_are r.counts.sound)

  ends : at.calls + length (pbn_calls_bytes s ns (pbn_rows ws)) ≡ length (board_texts (from_board p q (pbn s b ws ps ns)))
  ends = layout_end p q s b ws ps ns x r.sources_are at layout_made ∙ sym (ap length (texts-are p q s b ws ps ns x r.sources_are r.counts.sound))

  need-made : need ≡ sat (length (board_texts (from_board p q (pbn s b ws ps ns))))
  need-made = r.need-is ∙ ap sat ends

  abbrev calls-made : n ≡ length (laid (from_board p q (pbn s b ws ps ns))).calls
  calls-made = calls-many p q s b ws ps ns n r.counts.many

  abbrev cards-made : k ≡ length (laid (from_board p q (pbn s b ws ps ns))).play
  cards-made = cards-many p q s b ws ps ns k r.counts.kept

  pub output-refused : room o < need → (v : Answer Converted) → v ≡ Err (OutputTooSmall need) → Stays p q (pbn s b ws ps ns) o rows cards v ≡ fitted_record p q (pbn s b ws ps ns) o rows cards
  output-refused = small-output p q (pbn s b ws ps ns) o rows cards n calls-made r.counts.rows_fit k cards-made r.counts.cards-fit need need-made

  module _ (f : need ≤ room o) where
    pub texts-room : Room o 0 (texts_of p q s ms x ns ws)
    texts-room = record { room = omega (arith, f, need-made, ap length texts-made) }

    pub rows-room : Room rows 0 (placed_rows s ns at.calls (pbn_rows ws)) × (at.calls + length (pbn_calls_bytes s ns (pbn_rows ws)) ≤ limit)
    rows-room = (
      record { room = omega (arith, rows_long s ns at.calls (pbn_rows ws), r.counts.many, r.counts.rows_fit) },
      omega (arith, f, r.need-is),
    )

    pub cards-room : Room cards 0 (kept_cards ps)
    cards-room = record { room = omega (arith, r.counts.cards-fit, r.counts.kept) }

    -- the calls are laid where the others end
    rows-laid : placed_rows s ns at.calls (pbn_rows ws) ≡ call_words (laid (from_board p q (pbn s b ws ps ns))).calls
    unfolding laid from_board
    rows-laid =
        rows_are p q s ns at.calls (pbn_rows ws)
        ∙ ap (λ (a : ℕ). call_words (laid_calls a (kept_calls p q s ns (pbn_rows ws)))) (calls_at p q s b ws ps ns x r.sources_are at layout_made)

    pub stored : {o' : List ℕ} {len : ℕ} → Put o 0 (texts_of p q s ms x ns ws) o' len → {rows' : List ℕ} {y : ℕ} → Put rows 0 (placed_rows s ns at.calls (pbn_rows ws)) rows' y
        → {cards' : List ℕ} {z : ℕ} → Put cards 0 (kept_cards ps) cards' z → (h : Heading) → h ≡ made_heading b at n k
        → ◌≡◌ {A = Conversion} (record { answer = Ok (record { heading = h; len = len }); rows = rows'; cards = cards'; output = o' }) (fitted_record p q (pbn s b ws ps ns) o rows cards)
    stored {o'} {len} put {rows'} put₂ {cards'} put₃ h eh =
        let play : kept_cards ps ≡ (laid (from_board p q (pbn s b ws ps ns))).play = unfold laid from_board in refl in
        let e₁ = eh ∙ heading-is p q s b ws ps ns x r.sources_are at layout_made n calls-made k cards-made in
        let e₂ : len ≡ length (board_texts (from_board p q (pbn s b ws ps ns))) = omega (arith, put.next, ap length texts-made) in
        let e₃ = put₂.text ∙ ap (overlay rows 0) rows-laid in
        let e₄ = put₃.text ∙ ap (overlay cards 0) play in
        let e₅ = put.text ∙ ap (overlay o 0) texts-made in
        (λ i. record { answer = Ok (record { heading = e₁ i; len = e₂ i }); rows = e₃ i; cards = e₄ i; output = e₅ i })
        ∙ all_fits p q (pbn s b ws ps ns) o rows cards n calls-made r.counts.rows_fit k cards-made r.counts.cards-fit need need-made f

-- By the verdict of the checks before them

module _ (other : Bool) (p q : ℕ) (x : Pbn) (o rows cards : List ℕ) (v : Result Unit Refusal) (e : v ≡ record_checked other x) where
  abbrev rest : List (Option Refusal)
  rest = few_rows (laid (from_board p q x)) rows cards ++ (too_small (room o) (length (board_texts (from_board p q x))) ∷ [])

  told : (w : Result Unit Refusal) → v ≡ w → unless (pbn_checks other x) tt ≡ w
  told w k = sym e ∙ k

  pub convert-refused : (r : Refusal) → v ≡ Err r → (c : Answer Converted) → c ≡ Err r → Stays p q x o rows cards c ≡ convert_board other p q x o rows cards
  unfolding convert_board pbn_checks
  convert-refused r k c ec =
      ap (Stays p q x o rows cards) ec
      ∙ sym (ap (after p q x o rows cards) (unless-refused (pbn_checks other x) rest tt (laid (from_board p q x)) r (told (Err r) k)))

  module _ (k : v ≡ (Ok tt)) where
    pub convert-passed : fitted_record p q x o rows cards ≡ convert_board other p q x o rows cards
    unfolding convert_board fitted_record pbn_checks
    convert-passed = sym (ap (after p q x o rows cards) (unless-passed (pbn_checks other x) rest tt tt (laid (from_board p q x)) (told (Ok tt) k)))

    -- what storing then rests on
    pub convert_may : (length x.text ≤ limit) × (bad_pbn x ≡ false)
    unfolding pbn_checks
    convert_may =
        let a = unmet (ltb limit (length x.text)) _ _ tt tt (told (Ok tt) k) in
        let d = unmet (other || bad_pbn x) _ _ tt tt a.1 in
        (ltb-false limit (length x.text) a.0, (or_none other (bad_pbn x) d.0).1)
