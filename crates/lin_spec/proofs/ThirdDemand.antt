-- The third demand: what any list of append calls leaves in the output is what the plain book holds, and the file reader finds its boards in it.
-- (01: Writer, "For the third demand ..")
-- Assumes nothing.
use Rattle.std.specs.Prelude.{Option, Err, Ok}
use Prim.Native.Nat.{ℕ, zero, suc, ◌+◌, ◌*◌, ◌/◌, ◌≤◌, ◌<◌, min}
use native.Mathlib.Nat.{le_of_suc-le-suc}
use native.Mathlib.Omega.{arith}
use mathlib.Core.Path.{◌≡◌, refl, ap, sym, subst, ◌∙◌}
use mathlib.Core.Bool.{Bool, true, false, ◌||◌, not, false≢true, or-false}
use mathlib.Core.List.{List, [], ◌∷◌, ◌++◌, map, append_assoc, append-nil}
use lib.ListN.{length, take, drop, get_or, length-append, length-take, length-drop, length-map, get_or-map}
use lib.Seq.{take_at}
use lib.Dec.{ltb, leb}
use borrow.Author.Tests.{ltb-false, le-ltb, lt-leb}
use Rattle.lin_spec.specs.Writer.{pipe_mark, line_mark}
use Rattle.lin_spec.specs.Base.{pick, All, any, keep, count_if, concat}
use Rattle.lin_spec.specs.Records.{bytes_at, limit}
use Rattle.lin_spec.specs.Refusals.{Answer, refuse_if, unless, passes_end, ill_span, sat}
use Rattle.lin_spec.specs.Utf8.{utf8}
use Rattle.lin_spec.specs.Output.{overlay, room}
use Rattle.lin_spec.specs.Board.{BoardOf, map_call, map_board, EachText}
use Rattle.lin_spec.specs.Lent.{Lent, lent, meaning, lent_spans, bad_number, lent_checks, Lendable}
use Rattle.lin_spec.specs.Append.{Filing, written_form, settled_form, too_small_after, extended, appended}
use Rattle.lin_spec.specs.Reading.{heading_of, call_words, stored}
use Rattle.lin_spec.specs.File.{section, board_in, parse_lin_file, file_spans, count_boards, numbered, file_board}
use Rattle.lin_spec.specs.Log.{Asked, appending, accepts, State, used_after, Event, event, walk, events, final, used_bytes, Log, empty_log, meets, entered, log_of, verdicts}
use Rattle.lin_spec.specs.declared.Span.{Span}
use Rattle.lin_spec.specs.declared.Refusal.{Refusal}
use Rattle.lin_spec.specs.declared.Refusal.TheVariants.{TextTooLong, SpanPastEnd, SpanNotUtf8, OutputTooSmall, OutOfRange}
use Rattle.lin_spec.proofs.Base.{or_none, all_append, all_map, count_cons}
use Rattle.lin_spec.proofs.Checks.{unless-same}
use Rattle.lin_spec.proofs.FileMeaning.{file_out}
use Rattle.lin_spec.specs.ThirdDemand.{Typed, Stays, again, Gives, start, Kept, ThirdDemand}
use Rattle.lin_spec.proofs.Clean.{Fit}
use Rattle.lin_spec.proofs.RoundTrip.{Item, Good, form, settle, forms, round_trip}
use Rattle.lin_spec.proofs.Wellformed.{Utf8, forms-utf8}
use Rattle.lin_spec.proofs.Accepted.{accepted_valid, accepted-utf8, words-length, lent_back}
use Rattle.lin_spec.proofs.Lendable.{Legal, file_legal, stored_again, stored-lendable}

-- One call

-- five checks accept a call exactly when none of their conditions holds
five : {A : Type 0} (t₁ t₂ t₃ t₄ t₅ : Bool) (r₁ r₂ r₃ r₄ r₅ : Refusal) (a : A)
    → accepts (unless (refuse_if t₁ r₁ ∷ refuse_if t₂ r₂ ∷ refuse_if t₃ r₃ ∷ refuse_if t₄ r₄ ∷ refuse_if t₅ r₅ ∷ []) a) ≡ not (t₁ || (t₂ || (t₃ || (t₄ || t₅))))
unfolding unless
five true t₂ t₃ t₄ t₅ r₁ r₂ r₃ r₄ r₅ a = refl
five false true t₃ t₄ t₅ r₁ r₂ r₃ r₄ r₅ a = refl
five false false true t₄ t₅ r₁ r₂ r₃ r₄ r₅ a = refl
five false false false true t₅ r₁ r₂ r₃ r₄ r₅ a = refl
five false false false false true r₁ r₂ r₃ r₄ r₅ a = refl
five false false false false false r₁ r₂ r₃ r₄ r₅ a = refl

-- the used bytes are those of the log
record Same (rm : ℕ) (st : State) (k : Log) : Type 0 where
  room-is : room st.output ≡ rm
  bytes : used_bytes st ≡ k.bytes
  used : st.used ≡ length k.bytes
  within : length k.bytes ≤ rm

module _ (rm : ℕ) (st : State) (k : Log) (h : Same rm st k) (a : Asked) where
  abbrev f : Filing
  f = a.filing

  abbrev s : List ℕ
  s = written_form f

  abbrev o : List ℕ
  o = st.output

  abbrev u : ℕ
  u = st.used

  abbrev checks : List (Option Refusal)
  checks = lent_checks (a.other || ltb (room o) u) f.lent ++ (too_small_after (room o) u (length s) ∷ [])

  abbrev answer : Answer ℕ
  answer = unless checks (u + length s)

  not_beyond : ltb (room o) u ≡ false
  not_beyond =
      let r = h.room-is in
      let c = h.used in
      let w = h.within in
      le-ltb (room o) u (omega arith)

  -- "A call is refused when a numbered refusal meets it"
  decides : accepts answer ≡ not (meets rm k a)
  unfolding lent_checks meets
  decides =
      let x = f.lent in
      let t₁ = ltb limit (length x.text) in
      let t₂ = (a.other || ltb (room o) u) || bad_number x in
      let t₃ = any (passes_end x.text) (lent_spans x) in
      let t₄ = any (ill_span x.text) (lent_spans x) in
      let t₅ = ltb (room o) (u + length s) in
      let n : t₂ ≡ (a.other || bad_number x) = ap (λ (t : Bool). t || bad_number x) (ap (λ (t : Bool). a.other || t) not_beyond ∙ or-false a.other) in
      let m : t₅ ≡ ltb rm (length k.bytes + length s) = ap (λ (r : ℕ). ltb r (u + length s)) h.room-is ∙ ap (λ (c : ℕ). ltb rm (c + length s)) h.used in
      five t₁ t₂ t₃ t₄ t₅ TextTooLong OutOfRange SpanPastEnd SpanNotUtf8 (OutputTooSmall (sat (length s))) (u + length s)
      ∙ ap (λ (t : Bool). not (t₁ || (t || (t₃ || (t₄ || t₅))))) n
      ∙ ap (λ (t : Bool). not (t₁ || ((a.other || bad_number x) || (t₃ || (t₄ || t))))) m

  -- what the call leaves
  abbrev left : Answer ℕ → State
  left a = record { output = extended a o u s; used = used_after a u }

  leaves : (event st a).next ≡ left answer
  unfolding event appended
  leaves = refl

  answers : (event st a).accepted ≡ accepts answer
  unfolding event appended
  answers = refl

  refuses : Stays (event st a)
  unfolding event
  refuses e = leaves ∙ go answer (sym answers ∙ e)
    where
      go : (r : Answer ℕ) → accepts r ≡ false → left r ≡ st
      go (Err r) k = refl
      go (Ok n) k = absurd (false≢true (sym k))

  -- of a call that none meets
  record Unmet : Type 0 where
    numbers : bad_number f.lent ≡ false
    texts : any (ill_span f.lent.text) (lent_spans f.lent) ≡ false
    fits : length k.bytes + length s ≤ rm

  unmet : meets rm k a ≡ false → Unmet
  unfolding meets
  unmet e =
      let t = or_none (ltb limit (length f.lent.text)) _ e in
      let b = or_none (a.other || bad_number f.lent) _ t.1 in
      let c = or_none (any (passes_end f.lent.text) (lent_spans f.lent)) _ b.1 in
      let d = or_none (any (ill_span f.lent.text) (lent_spans f.lent)) _ c.1 in
      record { numbers = (or_none a.other (bad_number f.lent) b.0).1; texts = d.0; fits = ltb-false rm (length k.bytes + length s) d.1 }

  stays-entered : meets rm k a ≡ true → entered rm k a ≡ k
  unfolding entered
  stays-entered e = simp e

  abbrev grown : Log
  grown = record { bytes = k.bytes ++ s; boards = k.boards ++ (settled_form f ∷ []) }

  grows : meets rm k a ≡ false → entered rm k a ≡ grown
  unfolding entered
  grows e = simp e

  same-grown : meets rm k a ≡ false → Same rm (record { output = overlay o u s; used = u + length s }) grown
  unfolding overlay
  same-grown e =
      let r = h.room-is in
      let c = h.used in
      let w = (unmet e).fits in
      let front : length (take u o) ≡ u = length-take u o ∙ omega arith in
      let both : length (take u o ++ s) ≡ u + length s = length-append (take u o) s ∙ omega arith in
      let la = length-append (take u o ++ s) (drop (u + length s) o) in
      let ld = length-drop (u + length s) o in
      let lk = length-append k.bytes s in
      let same : length ((take u o ++ s) ++ drop (u + length s) o) ≡ length o = omega arith in
      record {
        room-is = ap (λ (n : ℕ). min n limit) same ∙ r;
        bytes = take_at (take u o ++ s) (drop (u + length s) o) (u + length s) both ∙ ap (λ (t : List ℕ). t ++ s) h.bytes;
        used = omega arith;
        within = omega arith;
      }

  accepted-is : (n : ℕ) → answer ≡ Ok n → n ≡ u + length s
  accepted-is n e = sym (unless-same checks (u + length s) n e)

  kept : Same rm (event st a).next (entered rm k a)
  kept = go (meets rm k a) refl answer refl
    where
      go : (t : Bool) → meets rm k a ≡ t → (r : Answer ℕ) → answer ≡ r → Same rm (event st a).next (entered rm k a)
      go true e (Err r) d = rw (leaves ∙ ap left d, stays-entered e) h
      go true e (Ok n) d = absurd (false≢true (sym (sym (ap accepts d) ∙ decides ∙ ap not e)))
      go false e (Err r) d = absurd (false≢true (sym (ap accepts d) ∙ decides ∙ ap not e))
      go false e (Ok n) d =
          rw (leaves ∙ ap left d ∙ ap (λ (m : ℕ). record { output = overlay o u s; used = m }) (accepted-is n d), grows e) (same-grown e)

-- The log holds the written forms and the settled forms of boards that read back

abbrev item : Filing → Item
item f = record { p = f.p; q = f.q; board = meaning f.lent }

-- bytes that clean may put, and parameters of append's types
pub record Allowed (a : Asked) : Type 0 where
  pub fit : Fit a.filing.p a.filing.q
  pub typed : Typed a.filing.lent

record Filed (k : Log) : Type 0 where
  items : List Item
  bytes : k.bytes ≡ forms items
  boards : k.boards ≡ map settle items
  good : All Good items
  texts : All (λ (i : Item). EachText Utf8 i.board) items

forms-last : (is : List Item) (i : Item) → forms (is ++ (i ∷ [])) ≡ forms is ++ form i
unfolding forms concat
forms-last [] i = append-nil (form i)
forms-last (j ∷ is) i = ap (λ (s : List ℕ). form j ++ s) (forms-last is i) ∙ sym (append_assoc (form j) (forms is) (form i))

settle-last : (is : List Item) (i : Item) → map settle (is ++ (i ∷ [])) ≡ map settle is ++ (settle i ∷ [])
settle-last [] i = refl
settle-last (j ∷ is) i = ap (λ (bs : List (BoardOf (List ℕ))). settle j ∷ bs) (settle-last is i)

filed_grown : (k : Log) → Filed k → (c : Asked) → Allowed c → bad_number c.filing.lent ≡ false → any (ill_span c.filing.lent.text) (lent_spans c.filing.lent) ≡ false
    → Filed (record { bytes = k.bytes ++ written_form c.filing; boards = k.boards ++ (settled_form c.filing ∷ []) })
unfolding written_form settled_form
filed_grown k h c a n t =
    let f = c.filing in
    let i = item f in
    record {
      items = h.items ++ (i ∷ []);
      bytes = ap (λ (s : List ℕ). s ++ form i) h.bytes ∙ sym (forms-last h.items i);
      boards = ap (λ (bs : List (BoardOf (List ℕ))). bs ++ (settle i ∷ [])) h.boards ∙ sym (settle-last h.items i);
      good = all_append Good h.items (i ∷ []) h.good (record { fit = a.fit; valid = accepted_valid f.lent a.typed n }, tt);
      texts = all_append (λ (j : Item). EachText Utf8 j.board) h.items (i ∷ []) h.texts (accepted-utf8 f.lent t, tt);
    }

-- The list

abbrev took : Event → Bool
took e = e.accepted

record Followed (rm : ℕ) (st : State) (k : Log) (cs : List Asked) : Type 0 where
  same : Same rm (final st (events st cs)) (log_of rm k cs)
  filed : Filed (log_of rm k cs)
  stays : All Stays (events st cs)
  decided : map took (events st cs) ≡ verdicts rm k cs
  many : length (log_of rm k cs).boards ≡ length k.boards + count_if took (events st cs)

module _ (rm : ℕ) (st : State) (k : Log) (h : Same rm st k) (a : Asked) where
  decides_event : took (event st a) ≡ not (meets rm k a)
  decides_event = answers rm st k h a ∙ decides rm st k h a

  filed_entered : Filed k → Allowed a → Filed (entered rm k a)
  filed_entered p w = go (meets rm k a) refl
    where
      go : (t : Bool) → meets rm k a ≡ t → Filed (entered rm k a)
      go true e = rw (stays-entered rm st k h a e) p
      go false e =
          let n = unmet rm st k h a e in
          rw (grows rm st k h a e) (filed_grown k p a w n.numbers n.texts)

  -- one board more, if the call is accepted
  more : (n : ℕ) → length (entered rm k a).boards + n ≡ length k.boards + pick (took (event st a)) (n + 1) n
  more n = go (meets rm k a) refl
    where
      go : (t : Bool) → meets rm k a ≡ t → length (entered rm k a).boards + n ≡ length k.boards + pick (took (event st a)) (n + 1) n
      go true e =
          ap (λ (b : Log). length b.boards + n) (stays-entered rm st k h a e)
          ∙ ap (λ (t : Bool). length k.boards + pick t (n + 1) n) (sym (decides_event ∙ ap not e))
      go false e =
          ap (λ (b : Log). length b.boards + n) (grows rm st k h a e)
          ∙ (let l = length-append k.boards (settled_form a.filing ∷ []) in let z : length (k.boards ++ (settled_form a.filing ∷ [])) + n ≡ length k.boards + (n + 1) = omega arith in z)
          ∙ ap (λ (t : Bool). length k.boards + pick t (n + 1) n) (sym (decides_event ∙ ap not e))

follow : (rm : ℕ) (cs : List Asked) → All Allowed cs → (st : State) (k : Log) → Same rm st k → Filed k → Followed rm st k cs
unfolding final walk log_of verdicts keep
follow rm [] g st k h p = record { same = h; filed = p; stays = tt; decided = refl; many = omega arith }
follow rm (a ∷ cs) g st k h p =
    let w = follow rm cs g.1 (event st a).next (entered rm k a) (kept rm st k h a) (filed_entered rm st k h a p g.0) in
    record {
      same = w.same;
      filed = w.filed;
      stays = (refuses rm st k h a, w.stays);
      decided = (let z = decides_event rm st k h a in let v = w.decided in λ i. z i ∷ v i);
      many = w.many ∙ more rm st k h a (count_if took (events (event st a).next cs)) ∙ ap (λ (n : ℕ). length k.boards + n) (sym (count_cons took (event st a) (events (event st a).next cs)));
    }

-- What the file reader finds

get_d_any : {A : Type 0} (x : List A) (k : ℕ) (d e : A) → k < length x → get_or x k d ≡ get_or x k e
get_d_any [] k d e h = absurd (let z : ⊥ = omega arith in z)
get_d_any (a ∷ x) zero d e h = refl
get_d_any (a ∷ x) (suc k) d e h = get_d_any x k d e (le_of_suc-le-suc h)

-- the first words of a list that was overlaid from its start
pub front_of : (x w : List ℕ) (n : ℕ) → length w ≡ n → take n (overlay x 0 w) ≡ w
unfolding overlay
front_of x w n e = take_at w (drop (0 + length w) x) n e

meaning_back : (t : List ℕ) (b : BoardOf Span) → meaning (lent t (heading_of b).board (call_words b.calls) b.play) ≡ map_board (bytes_at t) b
unfolding meaning
meaning_back t b = ap (map_board (bytes_at t)) (lent_back t b)

-- what was stored of a board over the text t, lent again, is its meaning
pub stored_gives : (t : List ℕ) (b : BoardOf Span) → Legal t b → (rows cards : List ℕ) → Gives t (map_board (bytes_at t) b) (stored (Ok b) rows cards)
unfolding map_board
stored_gives t b h rows cards =
    let e : again t (heading_of b) (overlay rows 0 (call_words b.calls)) (overlay cards 0 b.play) ≡ stored_again t b =
    ap (λ (ws : List ℕ). lent t (heading_of b).board ws (take (length b.play) (overlay cards 0 b.play))) (front_of rows (call_words b.calls) (length b.calls * 6) (words-length b.calls))
    ∙ ap (λ (cs : List ℕ). lent t (heading_of b).board (call_words b.calls) cs) (front_of cards b.play (length b.play) refl) in
    record {
      heading = heading_of b;
      given = refl;
      calls = sym (length-map b.calls (map_call (bytes_at t)));
      cards = refl;
      board = ap meaning e ∙ meaning_back t b;
      lendable = subst Lendable (sym e) (stored-lendable t b h);
    }

-- the boards of the answers mean those of the file
boards-many : (t : List ℕ) → length (file_spans t) ≡ length (parse_lin_file t)
boards-many t = sym (length-map (file_spans t) (map_board (bytes_at t))) ∙ ap length (file_out t)

pub numbered_means : (t : List ℕ) (n : ℕ) → n < length (file_spans t) → (d : BoardOf (List ℕ)) → map_board (bytes_at t) (numbered t n) ≡ get_or (parse_lin_file t) n d
numbered_means t n h d =
    let e = map_board (bytes_at t) (board_in t (section 0 0 false)) in
    let m = boards-many t in
    sym (get_or-map (map_board (bytes_at t)) (file_spans t) n (board_in t (section 0 0 false)))
    ∙ ap (λ (bs : List (BoardOf (List ℕ))). get_or bs n e) (file_out t)
    ∙ get_d_any (parse_lin_file t) n e d (omega arith)

module _ (t : List ℕ) (short : length t ≤ limit) (good : Utf8 t) (L : List (BoardOf (List ℕ))) (means : parse_lin_file t ≡ L) where
  as_many : length (file_spans t) ≡ length L
  as_many = boards-many t ∙ ap length means

  read_count : count_boards t ≡ Ok (length L)
  unfolding count_boards unless
  read_count = simp (le-ltb limit (length t) short, good) (ap (λ (n : ℕ). Ok n) as_many)

  module _ (n : ℕ) (below : n < length L) (d : BoardOf (List ℕ)) (rows cards : List ℕ) (r : length (get_or L n d).calls ≤ length rows / 6) (c : length (get_or L n d).play ≤ length cards) where
    abbrev b : BoardOf Span
    b = numbered t n

    board_means : map_board (bytes_at t) b ≡ get_or L n d
    board_means =
        let m = as_many in
        numbered_means t n (omega arith) d ∙ ap (λ (bs : List (BoardOf (List ℕ))). get_or bs n d) means

    calls-many : length b.calls ≡ length (get_or L n d).calls
    unfolding map_board
    calls-many = sym (length-map b.calls (map_call (bytes_at t))) ∙ ap (λ (x : BoardOf (List ℕ)). length x.calls) board_means

    cards-many : length b.play ≡ length (get_or L n d).play
    unfolding map_board
    cards-many = ap (λ (x : BoardOf (List ℕ)). length x.play) board_means

    reads : file_board t n rows cards ≡ stored (Ok b) rows cards
    unfolding file_board unless
    reads =
        let m = as_many in
        let cm = calls-many in
        let pm = cards-many in
        let t₄ : leb (length (file_spans t)) n ≡ false = lt-leb (length (file_spans t)) n (omega arith) in
        let t₃ : ltb (length rows / 6) (length b.calls) ≡ false = le-ltb (length rows / 6) (length b.calls) (omega arith) in
        let t₃' : ltb (length cards) (length b.play) ≡ false = le-ltb (length cards) (length b.play) (omega arith) in
        simp (le-ltb limit (length t) short, good, t₄, t₃, t₃')

    given : Gives t (get_or L n d) (file_board t n rows cards)
    given = rw (reads, ← board_means) (stored_gives t b (file_legal t good n) rows cards)

-- The theorem, for any two bytes that clean may put at each call

none_yet : Filed empty_log
unfolding forms concat
none_yet = record { items = []; bytes = refl; boards = refl; good = tt; texts = tt }

pub kept_list : (o : List ℕ) (cs : List Asked) → All Allowed cs → Kept o cs (events (start o) cs)
kept_list o cs a =
    let w = follow (room o) cs a (start o) empty_log (record { room-is = refl; bytes = refl; used = refl; within = omega arith }) none_yet in
    let k = log_of (room o) empty_log cs in
    let t = used_bytes (final (start o) (events (start o) cs)) in
    let same : t ≡ k.bytes = w.same.bytes in
    let text : t ≡ forms w.filed.items = same ∙ w.filed.bytes in
    let short : length t ≤ limit = (let l : length t ≡ length k.bytes = ap length same in let m = w.same.within in omega arith) in
    let good : Utf8 t = ap utf8 text ∙ forms-utf8 w.filed.items w.filed.good w.filed.texts in
    let means : parse_lin_file t ≡ k.boards = ap parse_lin_file text ∙ round_trip w.filed.items w.filed.good ∙ sym w.filed.boards in
    record {
      stays = w.stays;
      decided = w.decided;
      bytes = same;
      many = w.many ∙ omega arith;
      counted = read_count t short good k.boards means;
      found = given t short good k.boards means;
    }

-- and for calls of other kinds, each by a step that does what `event` does
walk_same : {A : Type 0} (step : State → A → Event) (asked : A → Asked) → ((st : State) (c : A) → step st c ≡ event st (asked c)) → (cs : List A) (st : State)
    → walk step st cs ≡ events st (map asked cs)
unfolding walk
walk_same step asked h [] st = refl
walk_same step asked h (c ∷ cs) st =
    ap (λ (e : Event). e ∷ walk step e.next cs) (h st c) ∙ ap (λ (es : List Event). event st (asked c) ∷ es) (walk_same step asked h cs (event st (asked c)).next)

pub kept-walk : {A : Type 0} (step : State → A → Event) (asked : A → Asked) → ((st : State) (c : A) → step st c ≡ event st (asked c)) → (o : List ℕ) (cs : List A)
    → All Allowed (map asked cs) → Kept o (map asked cs) (walk step (start o) cs)
kept-walk step asked h o cs a = subst (Kept o (map asked cs)) (sym (walk_same step asked h cs (start o))) (kept_list o (map asked cs) a)

-- `/` and space are such bytes
pub plain-fit : Fit pipe_mark line_mark
plain-fit = record { p_low = omega arith; p_high = omega arith; p-pipe = λ e. omega arith; q_low = omega arith; q_high = omega arith; q-pipe = λ e. omega arith }

pub third_demand : (o : List ℕ) (xs : List Lent) → All Typed xs → ThirdDemand o xs
third_demand o xs h = kept_list o (map appending xs) (all_map Typed Allowed appending (λ x t. record { fit = plain-fit; typed = t }) xs h)
