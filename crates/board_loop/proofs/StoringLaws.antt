-- Laws of a board that is stored while its tokens are read: the calls and cards so far stand in rows and cards. (01: Board)
-- Assumes nothing.
use Rattle.std.specs.Prelude.{Option, None, Some}
use Prim.Native.Nat.{ℕ, ◌+◌, ◌-◌, ◌*◌, ◌≤◌, ◌<◌}
use native.Mathlib.Nat.{zero-add}
use native.Mathlib.Omega.{arith}
use mathlib.Core.Path.{◌≡◌, refl, ap, sym, ◌∙◌}
use mathlib.Core.Bool.{Bool, true, false}
use mathlib.Core.List.{List, [], ◌∷◌, ◌++◌, append_assoc, append-nil}
use lib.ListN.{length, take, drop, length-append}
use lib.Seq.{take-append_seam, drop-append-add}
use lib.Dec.{eqb}
use borrow.Author.Tests.{eq-eqb, ne_eqb, eqb-true, eqb-false}
use Rattle.lin_spec.specs.Base.{pick, ascii}
use Rattle.lin_spec.specs.Records.{bytes_at}
use Rattle.lin_spec.specs.White.{trim, is_command}
use Rattle.lin_spec.specs.Tokens.{TokenOf}
use Rattle.lin_spec.specs.Tokens.TokenOf.{token}
use Rattle.lin_spec.specs.Cards.{read_card}
use Rattle.lin_spec.specs.Output.{overlay}
use Rattle.lin_spec.specs.Board.{CallOf, call_of, annotated, played, over, on_calls, on_play, board_from}
use Rattle.lin_spec.specs.Reading.{span_text, stream, flag, annotation_words, call_words}
use Rattle.lin_spec.specs.declared.Span.{Span}
use Rattle.output.specs.Put.{Room, Put}
use Rattle.output.proofs.Laws.{overlay-nil, overlay-overlay, length-overlay}
use Rattle.document_commands.specs.Steps.{TokenAt}
use Rattle.board_fields.specs.Fields.{more}
use Rattle.document_commands.proofs.StepLaws.{command-is}
use Rattle.board_loop.specs.Head.{board_at, fresh_head, Stepped}
use Rattle.lin_spec.specs.Lent.{row_of}
use Rattle.board_loop.specs.Calls.{row_words}
use Rattle.board_loop.specs.Play.{before, pc_card}
use Rattle.board_loop.specs.Storing.{bid_words, note_words, noted, Fits, Stored}
use Rattle.board_loop.specs.declared.heading.ReadHead.{ReadHead}
use Rattle.board_loop.proofs.HeadLaws.{Reads, begins, ends, turn, stepped_card, stepped_call, stepped_note}
use Rattle.board_loop.proofs.CallLaws.{words_cons, annotated-length}
use Rattle.lin_spec.proofs.Base.{picked, split}
use Rattle.lin_spec.proofs.Accepted.{words-length}

-- No token takes a call or a card away

calls-grow : (s : List ℕ) (ts : List (TokenOf Span)) (cs : List (CallOf Span)) → length cs ≤ length (over (on_calls (span_text s)) cs ts)
unfolding over
calls-grow s [] cs = omega arith
calls-grow s (token w v ∷ ts) cs = go (is_command w (ascii "mb")) (is_command w (ascii "an")) (calls-grow s ts)
  where
    go : (m n : Bool) → ((x : List (CallOf Span)) → length x ≤ length (over (on_calls (span_text s)) x ts))
        → length cs ≤ length (over (on_calls (span_text s)) (pick m (cs ++ (call_of (span_text s) v ∷ [])) (pick n (annotated v cs) cs)) ts)
    go true n f = omega (arith, f (cs ++ (call_of (span_text s) v ∷ [])), length-append cs (call_of (span_text s) v ∷ []))
    go false true f = omega (arith, f (annotated v cs), annotated-length v cs)
    go false false f = f cs

played-more : (o : Option ℕ) (cs : List ℕ) → played o cs ≡ cs ++ before o []
played-more None cs = sym (append-nil cs)
played-more (Some c) cs = refl

play-grow : (s : List ℕ) (ts : List (TokenOf Span)) (cs : List ℕ) → length cs ≤ length (over (on_play (span_text s)) cs ts)
unfolding over
play-grow s [] cs = omega arith
play-grow s (token w v ∷ ts) cs = go (is_command w (ascii "pc")) (play-grow s ts)
  where
    o : Option ℕ
    o = read_card (trim (bytes_at s v))

    go : (m : Bool) → ((x : List ℕ) → length x ≤ length (over (on_play (span_text s)) x ts)) → length cs ≤ length (over (on_play (span_text s)) (pick m (played o cs) cs) ts)
    go true f = omega (arith, f (played o cs), ap length (played-more o cs), length-append cs (before o []))
    go false f = f cs

-- The card of a pc, or none

module _ (cards : List ℕ) (at : ℕ) (s : List ℕ) (v : Span) where
  pub one-room : (c : ℕ) → Some c ≡ read_card (trim (bytes_at s v)) → Room cards at (pc_card s v) → Room cards at (c ∷ [])
  one-room c e r = rw (← e) at r

  pub one_put : (c : ℕ) → Some c ≡ read_card (trim (bytes_at s v)) → (cards' : List ℕ) (n : ℕ) → Put cards at (c ∷ []) cards' n → Put cards at (pc_card s v) cards' n
  one_put c e cards' n p = rw (← e) p

  pub none_put : None ≡ read_card (trim (bytes_at s v)) → Put cards at (pc_card s v) cards at
  none_put e = rw (← e) (record { next = omega arith; text = sym (overlay-nil cards at) })

-- A row more, and the last row's annotation

module _ (rows : List ℕ) (i : ℕ) (v : Span) where
  pub last-room : 0 < i → i * 6 ≤ length rows → Room rows (i * 6 - 3) (note_words v)
  unfolding note_words
  last-room h l = record { room = omega arith }

words_snoc : (cs : List (CallOf Span)) (c : CallOf Span) → call_words (cs ++ (c ∷ [])) ≡ call_words cs ++ row_words (row_of c)
unfolding call_words
words_snoc [] c = words_cons c [] ∙ append-nil (row_words (row_of c))
words_snoc (b ∷ cs) c =
    words_cons b (cs ++ (c ∷ [])) ∙ ap (λ (x : List ℕ). row_words (row_of b) ++ x) (words_snoc cs c) ∙ sym (append_assoc (row_words (row_of b)) (call_words cs) (row_words (row_of c)))
    ∙ ap (λ (x : List ℕ). x ++ row_words (row_of c)) (sym (words_cons b cs))

-- the words up to the last annotation
record Upto (v : Span) (cs : List (CallOf Span)) : Type 0 where
  front : List ℕ
  old : List ℕ
  long : length old ≡ 3
  was : call_words cs ≡ front ++ old
  is : call_words (annotated v cs) ≡ front ++ note_words v

note_three : (o : Option Span) → length (annotation_words o ++ []) ≡ 3
note_three None = refl
note_three (Some x) = refl

upto : (v : Span) (cs : List (CallOf Span)) (c : CallOf Span) → Upto v (c ∷ cs)
unfolding call_words annotated note_words
upto v [] c =
    record {
      front = c.bid.start ∷ c.bid.len ∷ flag c.alerted ∷ [];
      old = annotation_words c.annotation ++ [];
      long = note_three c.annotation;
      was = refl;
      is = refl;
    }
upto v (d ∷ cs) c =
    let u = upto v cs d in
    record {
      front = row_words (row_of c) ++ u.front;
      old = u.old;
      long = u.long;
      was = words_cons c (d ∷ cs) ∙ ap (λ (x : List ℕ). row_words (row_of c) ++ x) u.was ∙ sym (append_assoc (row_words (row_of c)) u.front u.old);
      is = words_cons c (annotated v (d ∷ cs)) ∙ ap (λ (x : List ℕ). row_words (row_of c) ++ x) u.is ∙ sym (append_assoc (row_words (row_of c)) u.front (note_words v));
    }

-- a text over the end of another of the same length
overlay-end : (o x y z : List ℕ) → length y ≡ length z → overlay (overlay o 0 (x ++ y)) (length x) z ≡ overlay o 0 (x ++ z)
unfolding overlay
overlay-end o x y z e =
    let l : length (x ++ y) ≡ length (x ++ z) = length-append x y ∙ ap (λ (m : ℕ). length x + m) e ∙ sym (length-append x z) in
    let d : List ℕ = drop (0 + length (x ++ y)) o in
    let t : take (length x) (x ++ (y ++ d)) ≡ x = take-append_seam x (y ++ d) in
    let q : length z ≡ length y + 0 = omega arith in
    let g : drop (length x + length z) (x ++ (y ++ d)) ≡ d = drop-append-add x (y ++ d) (length z) ∙ ap (λ (m : ℕ). drop m (y ++ d)) q ∙ drop-append-add y d 0 in
    rw (append_assoc x y d, t, g) (ap (λ (m : ℕ). x ++ z ++ drop (0 + m) o) l)

over-note : (o : List ℕ) (v : Span) (cs : List (CallOf Span)) (n : ℕ) → n ≡ length (call_words cs) → 0 < n → overlay (overlay o 0 (call_words cs)) (n - 3) (note_words v) ≡ overlay o 0 (call_words (annotated v cs))
unfolding note_words
over-note o v [] n e h = absurd (let a = words-length [] in let z : ⊥ = omega arith in z)
over-note o v (c ∷ cs) n e h =
    let u = upto v cs c in
    let l = u.long in
    let a = ap length u.was in
    let b = length-append u.front u.old in
    let q : n - 3 ≡ length u.front = omega arith in
    rw (u.was, u.is, q) (overlay-end o u.front u.old (note_words v) u.long)

-- no call, no annotation
bare : (v : Span) (cs : List (CallOf Span)) → length (call_words cs) ≡ 0 → call_words cs ≡ call_words (annotated v cs)
unfolding annotated
bare v [] q = refl
bare v (c ∷ cs) q = absurd (let a = words-length (c ∷ cs) in let z : ⊥ = omega arith in z)

-- The board so far

pub record Into (s : List ℕ) (at₀ : ℕ) (rows₀ cards₀ rows cards : List ℕ) (h : ReadHead) (at : ℕ) : Type 0 where
  pub reads : Reads s at₀ h at
  pub calls : List (CallOf Span)
  pub play : List ℕ
  pub calls-left : over (on_calls (span_text s)) calls (stream s at) ≡ (board_at s at₀).calls
  pub play-left : over (on_play (span_text s)) play (stream s at) ≡ (board_at s at₀).play
  pub called : h.calls ≡ length calls
  pub count : h.cards ≡ length play
  pub rows_are : rows ≡ overlay rows₀ 0 (call_words calls)
  pub cards-are : cards ≡ overlay cards₀ 0 play

pub into_begin : (s : List ℕ) (at : ℕ) (rows cards : List ℕ) → Fits s at rows cards → Into s at rows cards rows cards fresh_head at
unfolding board_from call_words
into_begin s at rows cards f =
    record {
      reads = begins s at f.within;
      calls = [];
      play = [];
      calls-left = refl;
      play-left = refl;
      called = refl;
      count = refl;
      rows_are = sym (overlay-nil rows 0);
      cards-are = sym (overlay-nil cards 0);
    }

module _ (s : List ℕ) (at₀ : ℕ) (rows₀ cards₀ : List ℕ) (f : Fits s at₀ rows₀ cards₀) (rows cards : List ℕ) (h : ReadHead) (at : ℕ) (i : Into s at₀ rows₀ cards₀ rows cards h at) where
  pub words : h.calls * 6 ≡ length (call_words i.calls)
  words = let a = words-length i.calls in let b = i.called in omega arith

  calls_most : length i.calls ≤ length (board_at s at₀).calls
  calls_most = omega (arith, calls-grow s (stream s at) i.calls, ap length i.calls-left)

  play_most : length i.play ≤ length (board_at s at₀).play
  play_most = omega (arith, play-grow s (stream s at) i.play, ap length i.play-left)

  pub rows_long : length rows ≡ length rows₀
  rows_long =
      let a = words-length i.calls in
      let b = words-length (board_at s at₀).calls in
      ap length i.rows_are ∙ length-overlay rows₀ 0 (call_words i.calls) (let m = calls_most in let r = f.calls in omega arith)

  pub cards-long : length cards ≡ length cards₀
  cards-long = ap length i.cards-are ∙ length-overlay cards₀ 0 i.play (let m = play_most in let r = f.play in omega arith)

  pub rows_most : h.calls * 6 ≤ length rows
  rows_most =
      let a = words-length i.calls in
      let b = words-length (board_at s at₀).calls in
      let c = calls_most in
      let d = f.calls in
      let l = rows_long in
      let w = words in
      omega arith

  pub into_end : stream s at ≡ [] → Stored s at₀ rows₀ cards₀ h rows cards
  unfolding over
  into_end e =
      record {
        leaves = ends s at₀ h at i.reads e;
        calls = i.rows_are ∙ ap (λ (x : List (CallOf Span)). overlay rows₀ 0 (call_words x)) (let z = i.calls-left in rw e at z);
        play = i.cards-are ∙ ap (overlay cards₀ 0) (let z = i.play-left in rw e at z);
      }

  -- at a token
  module _ (k : ℕ) (v : Span) (m : ℕ) (t : TokenAt s at k v m) where
    calls_by : over (on_calls (span_text s)) (pick (eqb k 1) (i.calls ++ (call_of (span_text s) v ∷ [])) (pick (eqb k 2) (annotated v i.calls) i.calls)) (stream s m) ≡ (board_at s at₀).calls
    unfolding over
    calls_by = rw (← command-is s at k v m t 1 (omega arith), ← command-is s at k v m t 2 (omega arith)) (let z = i.calls-left in rw t.front at z)

    play-by : over (on_play (span_text s)) (pick (eqb k 0) (played (read_card (trim (bytes_at s v))) i.play) i.play) (stream s m) ≡ (board_at s at₀).play
    unfolding over
    play-by = rw (← command-is s at k v m t 0 (omega arith)) (let z = i.play-left in rw t.front at z)

    -- one that is neither a pc nor an mb nor an an
    pub into_step : (k ≡ 0 → ⊥) → (k ≡ 1 → ⊥) → (k ≡ 2 → ⊥) → (r : ReadHead) → Stepped s h k v r → Into s at₀ rows₀ cards₀ rows cards r m
    into_step a b c r p =
        record {
          reads = turn s at₀ h at i.reads k v m t r p;
          calls = i.calls;
          play = i.play;
          calls-left = let z = calls_by in rw (ne_eqb k 1 b, ne_eqb k 2 c) at z;
          play-left = let z = play-by in rw (ne_eqb k 0 a) at z;
          called = (let z = p.calls in rw (ne_eqb k 1 b) at z) ∙ i.called;
          count = (let z = p.cards in rw (ne_eqb k 0 a) at z) ∙ i.count;
          rows_are = i.rows_are;
          cards-are = i.cards-are;
        }

    -- a pc
    module _ (e : k ≡ 0) where
      play-next : over (on_play (span_text s)) (i.play ++ pc_card s v) (stream s m) ≡ (board_at s at₀).play
      play-next = rw (← played-more (read_card (trim (bytes_at s v))) i.play) (let z = play-by in rw (eq-eqb k 0 e) at z)

      pub card-room : Room cards h.cards (pc_card s v)
      card-room =
          record {
            room =
                let g = play-grow s (stream s m) (i.play ++ pc_card s v) in
                let a = length-append i.play (pc_card s v) in
                let b = ap length play-next in
                let c = cards-long in
                let d = f.play in
                let x = i.count in
                omega arith;
          }

      counted : (o : Option ℕ) (x : ℕ) → x ≡ h.cards + length (before o []) → x ≡ more o h.cards
      counted None x q = omega arith
      counted (Some c) x q = q

      pub into_card : (cards' : List ℕ) (x : ℕ) → Put cards h.cards (pc_card s v) cards' x
          → Into s at₀ rows₀ cards₀ rows cards' (record { names = h.names; md = h.md; vulnerability = h.vulnerability; title = h.title; room = h.room; header = h.header; claim = h.claim; calls = h.calls; cards = x }) m
      into_card cards' x p =
          record {
            reads = turn s at₀ h at i.reads k v m t _ (stepped_card s h k v e x (counted (read_card (trim (bytes_at s v))) x p.next));
            calls = i.calls;
            play = i.play ++ pc_card s v;
            calls-left = let z = calls_by in rw (ne_eqb k 1 (λ q. omega arith), ne_eqb k 2 (λ q. omega arith)) at z;
            play-left = play-next;
            called = i.called;
            count = p.next ∙ (let a = i.count in let b = length-append i.play (pc_card s v) in let z : h.cards + length (pc_card s v) ≡ length (i.play ++ pc_card s v) = omega arith in z);
            rows_are = i.rows_are;
            cards-are = p.text ∙ rw (i.count, i.cards-are, ← zero-add (length i.play)) (overlay-overlay cards₀ 0 i.play (pc_card s v));
          }

    -- an mb
    module _ (e : k ≡ 1) where
      calls-next : over (on_calls (span_text s)) (i.calls ++ (call_of (span_text s) v ∷ [])) (stream s m) ≡ (board_at s at₀).calls
      calls-next = let z = calls_by in rw (eq-eqb k 1 e) at z

      words_one_more : call_words (i.calls ++ (call_of (span_text s) v ∷ [])) ≡ call_words i.calls ++ bid_words s v
      words_one_more = words_snoc i.calls (call_of (span_text s) v)

      pub call-room : Room rows (h.calls * 6) (bid_words s v)
      call-room =
          record {
            room =
                let g = calls-grow s (stream s m) (i.calls ++ (call_of (span_text s) v ∷ [])) in
                let a = words-length (i.calls ++ (call_of (span_text s) v ∷ [])) in
                let b = ap length calls-next in
                let c = rows_long in
                let d = f.calls in
                let x = words in
                let y = ap length words_one_more in
                let z = length-append (call_words i.calls) (bid_words s v) in
                let w = words-length (board_at s at₀).calls in
                omega arith;
          }

      pub into_call : (rows' : List ℕ) → rows' ≡ overlay rows (h.calls * 6) (bid_words s v) → (x : ℕ) → x ≡ h.calls + 1
          → Into s at₀ rows₀ cards₀ rows' cards (record { names = h.names; md = h.md; vulnerability = h.vulnerability; title = h.title; room = h.room; header = h.header; claim = h.claim; calls = x; cards = h.cards }) m
      into_call rows' p x q =
          record {
            reads = turn s at₀ h at i.reads k v m t _ (stepped_call s h k v e x q);
            calls = i.calls ++ (call_of (span_text s) v ∷ []);
            play = i.play;
            calls-left = calls-next;
            play-left = let z = play-by in rw (ne_eqb k 0 (λ q. omega arith)) at z;
            called = let a = i.called in let b = length-append i.calls (call_of (span_text s) v ∷ []) in omega arith;
            count = i.count;
            rows_are = p ∙ rw (words, i.rows_are, ← zero-add (length (call_words i.calls))) (overlay-overlay rows₀ 0 (call_words i.calls) (bid_words s v)) ∙ ap (overlay rows₀ 0) (sym words_one_more);
            cards-are = i.cards-are;
          }

    -- an an
    module _ (e : k ≡ 2) where
      note-next : over (on_calls (span_text s)) (annotated v i.calls) (stream s m) ≡ (board_at s at₀).calls
      note-next = let z = calls_by in rw (ne_eqb k 1 (λ q. omega arith), eq-eqb k 2 e) at z

      -- before the first call it is passed over
      over_last : noted rows h.calls v ≡ overlay rows₀ 0 (call_words (annotated v i.calls))
      over_last =
          picked (λ (x : List ℕ). x ≡ overlay rows₀ 0 (call_words (annotated v i.calls))) (eqb h.calls 0)
          (λ q. let z = eqb-true h.calls 0 q in i.rows_are ∙ ap (overlay rows₀ 0) (bare v i.calls (let w = words in omega arith)))
          (λ q. let z = eqb-false h.calls 0 q in let l : 0 < h.calls = split 0 h.calls (λ y. y) (λ y. absurd (z (omega arith))) in rw i.rows_are (over-note rows₀ v i.calls (h.calls * 6) words (omega arith)))

      pub into_note : (rows' : List ℕ) → rows' ≡ noted rows h.calls v → Into s at₀ rows₀ cards₀ rows' cards h m
      into_note rows' p =
          record {
            reads = turn s at₀ h at i.reads k v m t h (stepped_note s h k v e);
            calls = annotated v i.calls;
            play = i.play;
            calls-left = note-next;
            play-left = let z = play-by in rw (ne_eqb k 0 (λ q. omega arith)) at z;
            called = i.called ∙ sym (annotated-length v i.calls);
            count = i.count;
            rows_are = p ∙ over_last;
            cards-are = i.cards-are;
          }
