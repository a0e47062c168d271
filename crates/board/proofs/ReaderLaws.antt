-- Laws of the board reader: the calls and cards one at a time are the board's, the heading's numbers are their lengths, and what the entries give. (01: Board)
-- Assumes nothing.
use Rattle.std.specs.Prelude.{Option, None, Some, Err, Ok, Result}
use Prim.Native.Nat.{ℕ, ◌+◌, ◌-◌, ◌*◌, ◌/◌, ◌≤◌, ◌<◌, ◌^◌}
use native.Mathlib.Omega.{arith}
use mathlib.Core.Path.{◌≡◌, refl, ap, sym, subst, ◌∙◌}
use mathlib.Core.Bool.{Bool, true, false, ◌&&◌}
use mathlib.Core.List.{List, [], ◌∷◌, ◌++◌, map, append_assoc, append-nil}
use lib.ListN.{length, drop, length-append, length-drop, length-map}
use lib.Dec.{leb}
use borrow.Author.Tests.{lt-ltb, le-ltb, leb-true}
use Rattle.lin_spec.specs.Base.{pick, ascii}
use Rattle.lin_spec.specs.Records.{span, bytes_at}
use Rattle.lin_spec.specs.White.{lower, trim, same_word, is_command}
use Rattle.lin_spec.specs.Tokens.{Pieces, cut, pipe, TokenOf}
use Rattle.lin_spec.specs.Tokens.Pieces.{end, piece}
use Rattle.lin_spec.specs.Tokens.TokenOf.{token}
use Rattle.lin_spec.specs.Cards.{read_card}
use Rattle.lin_spec.specs.Board.{CallOf, BoardOf, call_of, annotated, played, undealt, over, on_dealt, on_calls, on_play, board_from}
use Rattle.lin_spec.specs.Reading.{span_text, placed, stream, parse_spans, heading_of, headed, read_heading, few_rows, stored, read_board}
use Rattle.lin_spec.specs.Refusals.{Answer, unless, too_long, not_utf8}
use Rattle.lin_spec.specs.Document.{open_text}
use Rattle.lin_spec.specs.declared.RowKind.TheVariants.{Calls, Cards}
use Rattle.lin_spec.specs.declared.Refusal.{Refusal}
use Rattle.lin_spec.specs.declared.Refusal.TheVariants.{TooFewRows}
use Rattle.lin_spec.specs.declared.Span.{Span}
use Rattle.lin_spec.specs.declared.Heading.{Heading}
use Rattle.lin_spec.proofs.Base.{picked, split, and_left, and_right, eq_length}
use Rattle.lin_spec.proofs.White.{trim_most}
use Rattle.lin_spec.proofs.Accepted.{words-length}
use Rattle.lin_spec.proofs.Tokens.{joined, joined-cut}
use Rattle.lin_spec.proofs.Rules.{over_change}
use Rattle.lin_spec.proofs.Checks.{unless-refused, unless-passed}
use Rattle.lin_spec.proofs.Document.{opened}
use Rattle.output.specs.Put.{Room}
use Rattle.output.proofs.Laws.{Left, start}
use Rattle.document.specs.Steps.{opened_of}
use Rattle.document.specs.declared.tokens.Cursor.{Cursor}
use Rattle.board_fields.specs.Fields.{more}
use Rattle.board_loop.specs.Head.{fresh_head, on_count, on_card, Leaves}
use Rattle.board_loop.specs.Dealing.{held, dealt_from}
use Rattle.board_loop.specs.Calls.{with, calls_after, calls_from}
use Rattle.board_loop.specs.Play.{before, cards_from, GivesCard as Card-as-Gives}
use Rattle.board_loop.specs.Head.{board_at}
use Rattle.board.specs.Reader.{with_deal, Places, Ample, CountedRows}
use Rattle.board_loop.specs.Storing.{Fits, Stored}
use Rattle.board_loop.specs.declared.heading.ReadHead.{ReadHead}
use Rattle.lin_spec.specs.declared.Seat.{Seat}
use Rattle.board_loop.proofs.DealingLaws.{dealt-last}
use Rattle.board_loop.proofs.CallLaws.{annotated-length}

-- The calls one at a time are the board's

annotated-last : (v : Span) (cs : List (CallOf Span)) (c : CallOf Span) (a : Option Span) → annotated v (cs ++ (with c a ∷ [])) ≡ cs ++ (with c (Some v) ∷ [])
unfolding annotated
annotated-last v [] c a = refl
annotated-last v (x ∷ []) c a = refl
annotated-last v (x ∷ y ∷ cs) c a = ap (λ (l : List (CallOf Span)). x ∷ l) (annotated-last v (y ∷ cs) c a)

calls-after : (s : List ℕ) (ts : List (TokenOf Span)) (cs : List (CallOf Span)) (c : CallOf Span) (a : Option Span) → over (on_calls (span_text s)) (cs ++ (with c a ∷ [])) ts ≡ cs ++ calls_after s c a ts
unfolding over calls_after
calls-after s [] cs c a = refl
calls-after s (token w v ∷ ts) cs c a = go (is_command w (ascii "mb")) (is_command w (ascii "an"))
    (calls-after s ts (cs ++ (with c a ∷ [])) (call_of (span_text s) v) None) (calls-after s ts cs c)
  where
    go : (m n : Bool) → over (on_calls (span_text s)) (cs ++ (with c a ∷ []) ++ (call_of (span_text s) v ∷ [])) ts ≡ cs ++ (with c a ∷ []) ++ calls_after s (call_of (span_text s) v) None ts
        → ((o : Option Span) → over (on_calls (span_text s)) (cs ++ (with c o ∷ [])) ts ≡ cs ++ calls_after s c o ts)
        → over (on_calls (span_text s)) (pick m (cs ++ (with c a ∷ []) ++ (call_of (span_text s) v ∷ [])) (pick n (annotated v (cs ++ (with c a ∷ []))) (cs ++ (with c a ∷ [])))) ts
        ≡ cs ++ pick m (with c a ∷ calls_after s (call_of (span_text s) v) None ts) (calls_after s c (pick n (Some v) a) ts)
    go true n f g = f ∙ append_assoc cs (with c a ∷ []) _
    go false true f g = ap (λ (l : List (CallOf Span)). over (on_calls (span_text s)) l ts) (annotated-last v cs c a) ∙ g (Some v)
    go false false f g = g a

pub calls_are : (s : List ℕ) (ts : List (TokenOf Span)) → over (on_calls (span_text s)) [] ts ≡ calls_from s ts
unfolding over calls_from
calls_are s [] = refl
calls_are s (token w v ∷ ts) = go (is_command w (ascii "mb")) (is_command w (ascii "an")) (calls-after s ts [] (call_of (span_text s) v) None) (calls_are s ts)
  where
    go : (m n : Bool) → over (on_calls (span_text s)) (call_of (span_text s) v ∷ []) ts ≡ calls_after s (call_of (span_text s) v) None ts → over (on_calls (span_text s)) [] ts ≡ calls_from s ts
        → over (on_calls (span_text s)) (pick m (call_of (span_text s) v ∷ []) (pick n (annotated v []) [])) ts ≡ pick m (calls_after s (call_of (span_text s) v) None ts) (calls_from s ts)
    go true n f g = f
    go false true f g = unfold annotated in g
    go false false f g = g

-- The cards one at a time are the board's

pub cards-after : (s : List ℕ) (ts : List (TokenOf Span)) (cs : List ℕ) → over (on_play (span_text s)) cs ts ≡ cs ++ cards_from s ts
unfolding over cards_from
cards-after s [] cs = sym (append-nil cs)
cards-after s (token w v ∷ ts) cs = go (is_command w (ascii "pc")) (read_card (trim (bytes_at s v))) (cards-after s ts)
  where
    go : (m : Bool) (o : Option ℕ) → ((x : List ℕ) → over (on_play (span_text s)) x ts ≡ x ++ cards_from s ts) → over (on_play (span_text s)) (pick m (played o cs) cs) ts ≡ cs ++ before (pick m o None) (cards_from s ts)
    go true None f = f cs
    go true (Some c) f = f (cs ++ (c ∷ [])) ∙ append_assoc cs (c ∷ []) _
    go false o f = f cs

-- A heading's counts are the lengths of the board's lists

calls_count : (s : List ℕ) (ts : List (TokenOf Span)) → length (over (on_calls (span_text s)) [] ts) ≡ over on_count 0 ts
calls_count s ts = over_change length (on_calls (span_text s)) on_count step ts []
  where
    step : (c : List ℕ) (v : Span) (cs : List (CallOf Span)) → length (on_calls (span_text s) c v cs) ≡ on_count c v (length cs)
    step c v cs = go (is_command c (ascii "mb")) (is_command c (ascii "an"))
      where
        go : (m n : Bool) → length (pick m (cs ++ (call_of (span_text s) v ∷ [])) (pick n (annotated v cs) cs)) ≡ pick m (length cs + 1) (length cs)
        go true n = length-append cs (call_of (span_text s) v ∷ [])
        go false true = annotated-length v cs
        go false false = refl

cards-count : (s : List ℕ) (ts : List (TokenOf Span)) → length (over (on_play (span_text s)) [] ts) ≡ over (on_card s) 0 ts
cards-count s ts = over_change length (on_play (span_text s)) (on_card s) step ts []
  where
    step : (c : List ℕ) (v : Span) (cs : List ℕ) → length (on_play (span_text s) c v cs) ≡ on_card s c v (length cs)
    step c v cs = go (is_command c (ascii "pc")) (read_card (trim (bytes_at s v)))
      where
        go : (m : Bool) (o : Option ℕ) → length (pick m (played o cs) cs) ≡ pick m (more o (length cs)) (length cs)
        go true None = refl
        go true (Some c) = length-append cs (c ∷ [])
        go false o = refl

-- A token that counts has a command of two bytes at least, so it takes four bytes

short-command : (c w : List ℕ) → length w ≡ 2 → length c < 2 → is_command c w ≡ false
unfolding is_command same_word
short-command c w e h = eq_length (map lower (trim c)) w (λ q. let a = length-map (trim c) lower in let b = trim_most c in omega arith)

module _ (f : List ℕ → Span → ℕ → ℕ) (one : (c : List ℕ) (v : Span) (n : ℕ) → f c v n ≤ n + 1) (none-short : (c : List ℕ) (v : Span) (n : ℕ) → length c < 2 → f c v n ≡ n) where
  placed-four : (at n : ℕ) (p : Pieces) → 4 * over f n (placed at p) ≤ 4 * n + length (joined pipe p)
  unfolding over placed joined
  placed-four at n (end x) = omega arith
  placed-four at n (piece x (end y)) = omega arith
  placed-four at n (piece x (piece y r)) =
      let v = span (at + (length x + 1)) (length y) in
      let ih = placed-four (at + (length x + 1) + (length y + 1)) (f x v n) r in
      let a = length-append x (pipe ∷ (y ++ pipe ∷ joined pipe r)) in
      let b = length-append y (pipe ∷ joined pipe r) in
      split (length x) 2
      (λ k. let e = none-short x v n k in omega arith)
      (λ k. let e = one x v n in omega arith)

  stream-four : (s : List ℕ) (at : ℕ) → 4 * over f 0 (stream s at) ≤ length s - at
  unfolding stream
  stream-four s at =
      let a = placed-four at 0 (cut pipe (drop at s)) in
      let b = ap length (joined-cut pipe (drop at s)) in
      let c = length-drop at s in
      omega arith

calls-four : (s : List ℕ) (at : ℕ) → 4 * length (board_at s at).calls ≤ length s - at
unfolding board_from
calls-four s at = rw (calls_count s (stream s at)) (stream-four on_count (λ c v n. picked (λ (x : ℕ). x ≤ n + 1) (is_command c (ascii "mb")) (λ _. omega arith) (λ _. omega arith)) (λ c v n h. simp (short-command c (ascii "mb") refl h)) s at)

play-four : (s : List ℕ) (at : ℕ) → 4 * length (board_at s at).play ≤ length s - at
unfolding board_from
play-four s at = rw (cards-count s (stream s at)) (stream-four (on_card s) (λ c v n. picked (λ (x : ℕ). x ≤ n + 1) (is_command c (ascii "pc")) (λ _. most (read_card (trim (bytes_at s v))) n) (λ _. omega arith)) (λ c v n h. simp (short-command c (ascii "pc") refl h)) s at)
  where
    most : (o : Option ℕ) (n : ℕ) → more o n ≤ n + 1
    most None n = omega arith
    most (Some c) n = omega arith

pub places : (n : ℕ) (rows cards : List ℕ) → (leb (n / 4) (length rows / 6) && leb (n / 4) (length cards)) ≡ true → Places n rows cards
places n rows cards e =
    record {
      calls = leb-true _ _ (and_left (leb (n / 4) (length rows / 6)) (leb (n / 4) (length cards)) e);
      play = leb-true _ _ (and_right (leb (n / 4) (length rows / 6)) (leb (n / 4) (length cards)) e);
    }

pub ample : (s : List ℕ) (at n : ℕ) (rows cards : List ℕ) → length s - at ≤ n → Places n rows cards → Ample s at rows cards
ample s at n rows cards l p =
    let a = p.calls in
    let b = p.play in
    let c = calls-four s at in
    let d = play-four s at in
    record { calls = omega arith; play = omega arith }

-- The heading that was read is the board's

maybe_is : (m : Option Span) {o : Option Span} → m ≡ o → m ≡ o
maybe_is None e = e
maybe_is (Some x) e = e

claim-is : (m : Option ℕ) {o : Option ℕ} → m ≡ o → m ≡ o
claim-is None e = e
claim-is (Some n) e = e

pub with-deal : (s : List ℕ) (h : ReadHead) (x : Seat) (d : List ℕ) → held x d ≡ dealt_from s h.md
    → record {
      board =
          record {
            names = h.names;
            dealer = x;
            deal = record { counts = d };
            vulnerability = h.vulnerability;
            title = h.title;
            room_board = h.room;
            board_header = h.header;
            claim = h.claim;
          };
      calls = h.calls;
      cards = h.cards;
    } ≡ with_deal s h
with-deal s h x d e =
    λ i.
    record {
      board =
          record {
            names = h.names;
            dealer = (e i).dealer;
            deal = record { counts = (e i).deal };
            vulnerability = h.vulnerability;
            title = h.title;
            room_board = h.room;
            board_header = h.header;
            claim = h.claim;
          };
      calls = h.calls;
      cards = h.cards;
    }

-- the counts of a heading that was read
module _ (s : List ℕ) (at : ℕ) (h : ReadHead) (l : Leaves s (stream s at) h fresh_head []) where
  pub read-calls : h.calls ≡ length (board_at s at).calls
  unfolding board_from over
  read-calls = l.calls ∙ sym (calls_count s (stream s at))

  pub read-cards : h.cards ≡ length (board_at s at).play
  unfolding board_from over
  read-cards = l.cards ∙ sym (cards-count s (stream s at))

  pub read-heading : with_deal s h ≡ heading_of (board_at s at)
  unfolding board_from over
  read-heading =
      let ts = stream s at in
      let q : dealt_from s h.md ≡ over (on_dealt (span_text s)) undealt ts = ap (dealt_from s) l.md ∙ dealt-last s ts in
      λ i.
      record {
        board =
            record {
              names = l.names i;
              dealer = (q i).dealer;
              deal = record { counts = (q i).deal };
              vulnerability = l.vulnerability i;
              title = maybe_is h.title l.title i;
              room_board = maybe_is h.room l.room i;
              board_header = maybe_is h.header l.header i;
              claim = claim-is h.claim l.claim i;
            };
        calls = read-calls i;
        cards = read-cards i;
      }

pub read_names : (s : List ℕ) (at : ℕ) (h : ReadHead) → Leaves s (stream s at) h fresh_head [] → h.names ≡ (board_at s at).names
unfolding board_from over
read_names s at h l = l.names

-- Rows of six words

-- what a card that was called for and taken apart says
pub given-card : (s : List ℕ) (at : ℕ) (r v : Option (ℕ × Cursor)) → Card-as-Gives s at r → r ≡ v → Card-as-Gives s at v
given-card s at r v h e = subst (Card-as-Gives s at) e h

-- what is left to store: a card and the others, or nothing
module _ (s : List ℕ) (at : ℕ) {d : List ℕ} {pos : ℕ} {d₀ : List ℕ} {from : ℕ} {whole : List ℕ} (l : Left d pos (cards_from s (stream s at)) d₀ from whole) where
  pub card-left : (x n : ℕ) → cards_from s (stream s at) ≡ x ∷ cards_from s (stream s n) → Left d pos ((x ∷ []) ++ cards_from s (stream s n)) d₀ from whole
  card-left x n e = rw e at l

  pub cards-left : cards_from s (stream s at) ≡ [] → Left d pos [] d₀ from whole
  cards-left e = rw e at l

-- all of them are left at the start
pub all-cards : (s : List ℕ) (at : ℕ) (d : List ℕ) → Room d 0 (board_at s at).play → Left d 0 (cards_from s (stream s at)) d 0 (board_at s at).play
unfolding board_from
all-cards s at d r = rw (← cards-after s (stream s at) []) (start r)

-- What the checks of rows and cards give
module _ (s : List ℕ) (at : ℕ) (rows cards : List ℕ) where
  module _ (h : ReadHead) (l : Leaves s (stream s at) h fresh_head []) where
    pub few-calls : length rows / 6 < h.calls → CountedRows s at rows cards (Err (TooFewRows Calls h.calls))
    unfolding unless
    few-calls k = let e = read-calls s at h l in rw e (simp (lt-ltb (length rows / 6) (length (board_at s at).calls) (rw e at k)))

    module _ (k : h.calls ≤ length rows / 6) where
      pub few-cards : length cards < h.cards → CountedRows s at rows cards (Err (TooFewRows Cards h.cards))
      unfolding unless
      few-cards m =
          let e = read-calls s at h l in
          let d = read-cards s at h l in
          rw d (simp (le-ltb (length rows / 6) (length (board_at s at).calls) (rw e at k), lt-ltb (length cards) (length (board_at s at).play) (rw d at m)))

      pub enough : h.cards ≤ length cards → Ample s at rows cards
      enough m = record { calls = let e = read-calls s at h l in rw e at k; play = let d = read-cards s at h l in rw d at m }

  -- what the verdict says
  pub counted : (v w : Result Unit Refusal) → CountedRows s at rows cards v → v ≡ w → CountedRows s at rows cards w
  counted v w g e = subst (CountedRows s at rows cards) e g

  pub rows-refused : (r : Refusal) → CountedRows s at rows cards (Err r) → (x : Answer Heading) → x ≡ Err r
      → record { heading = x; rows = rows; cards = cards } ≡ stored (unless (few_rows (board_at s at) rows cards) (board_at s at)) rows cards
  rows-refused r g x e = rw (g, e) refl

  module _ (m : Ample s at rows cards) where
    pub fits : (at ≤ length s) × (length s < 2 ^ 32) → Fits s at rows cards
    fits w = record { within = w.0; short = w.1; calls = let a = words-length (board_at s at).calls in let c = m.calls in omega arith; play = m.play }

    pub board-stored : (h : ReadHead) (rows' cards' : List ℕ) → Stored s at rows cards h rows' cards' → (r : Heading) → r ≡ with_deal s h
        → record { heading = Ok r; rows = rows'; cards = cards' } ≡ stored (unless (few_rows (board_at s at) rows cards) (board_at s at)) rows cards
    unfolding unless
    board-stored h rows' cards' p r e =
        rw (p.calls, p.play, e, read-heading s at h p.leaves)
        (simp (le-ltb (length rows / 6) (length (board_at s at).calls) m.calls, le-ltb (length cards) (length (board_at s at).play) m.play))

-- The entries, by the answer of `open`
module _ (s : List ℕ) (o : Result Cursor Refusal) (e : opened_of o ≡ open_text s) where
  module _ (c : Cursor) (f : o ≡ Ok c) where
    taken : open_text s ≡ Ok c.at
    taken = sym e ∙ ap opened_of f

    pub short : length s < 2 ^ 32
    short = let h = (opened s taken).short in omega arith

    pub heading-read : Ok (heading_of (board_at s 0)) ≡ read_heading s
    unfolding read_heading open_text parse_spans unless
    heading-read = sym (ap headed (unless-passed (too_long s ∷ not_utf8 s ∷ []) [] 0 c.at (board_at s 0) taken))

    pub board-read : (rows cards : List ℕ) → stored (unless (few_rows (board_at s 0) rows cards) (board_at s 0)) rows cards ≡ read_board s rows cards
    unfolding read_board open_text parse_spans
    board-read rows cards = sym (ap (λ (a : Answer (BoardOf Span)). stored a rows cards) (unless-passed (too_long s ∷ not_utf8 s ∷ []) (few_rows (board_at s 0) rows cards) 0 c.at (board_at s 0) taken))

  module _ (r : Refusal) (f : o ≡ Err r) (h : Answer Heading) (g : h ≡ Err r) where
    left : open_text s ≡ Err r
    left = sym e ∙ ap opened_of f

    pub heading-refused : h ≡ read_heading s
    unfolding read_heading open_text parse_spans
    heading-refused = g ∙ sym (ap headed (unless-refused (too_long s ∷ not_utf8 s ∷ []) [] 0 (board_at s 0) r left))

    pub board-refused : (rows cards : List ℕ) → record { heading = h; rows = rows; cards = cards } ≡ read_board s rows cards
    unfolding read_board open_text parse_spans
    board-refused rows cards =
        rw g (sym (ap (λ (a : Answer (BoardOf Span)). stored a rows cards) (unless-refused (too_long s ∷ not_utf8 s ∷ []) (few_rows (board_at s 0) rows cards) 0 (board_at s 0) r left)))
