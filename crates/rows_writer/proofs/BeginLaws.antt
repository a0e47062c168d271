-- What is known of a board before its calls are put: the verdict of the checks, the room, and what is left to put. (01: Writer; Eight refusals)
-- Assumes nothing.
use Rattle.std.specs.Prelude.{Err, Ok, Result}
use Prim.Native.Nat.{ℕ, ◌+◌, ◌≤◌, ◌<◌}
use native.Mathlib.Omega.{arith}
use mathlib.Core.Path.{◌≡◌, refl, ap, sym, ◌∙◌}
use mathlib.Core.Bool.{Bool, true, false, ◌||◌, or-false}
use mathlib.Core.List.{List, [], ◌++◌, map, append-nil}
use lib.ListN.{length}
use lib.Dec.{ltb}
use borrow.Author.Tests.{lt-ltb, le-ltb}
use Rattle.lin_spec.specs.Writer.{pipe_mark, line_mark}
use Rattle.lin_spec.specs.Base.{any}
use Rattle.lin_spec.specs.Records.{limit}
use Rattle.lin_spec.specs.Refusals.{Answer, unless, passes_end, sat}
use Rattle.lin_spec.specs.Output.{room, Outcome}
use Rattle.lin_spec.specs.Lent.{Lent, lent_spans, bad_flag, bad_cards, bad_number}
use Rattle.lin_spec.specs.Append.{plain, written_form, extended, appended, append}
use Rattle.lin_spec.specs.declared.Board.{Board}
use Rattle.lin_spec.specs.declared.Refusal.{Refusal}
use Rattle.lin_spec.specs.declared.Refusal.TheVariants.{TextTooLong, OutOfRange, SpanPastEnd, SpanNotUtf8, OutputTooSmall}
use Rattle.lin_spec.proofs.Base.{or_none}
use Rattle.output.specs.Put.{Room, Put}
use Rattle.output.proofs.Laws.{Left, start, roomy, step, finish, sat-sum}
use Rattle.board_lent.specs.Checks.{checked, amiss, Bounded}
use Rattle.board_lent.specs.Heads.{head_of, board_of, head_spans}
use Rattle.board_lent.specs.declared.heads.Head.{Head}
use Rattle.board_lent.proofs.LentLaws.{spans-any, check_long, check_other, check_number, check_past, check_ill, check_good, check_refuses, check_passes, check_passed}
use Rattle.writer.specs.Pieces.{front_text, back_text}
use Rattle.writer.specs.Filing.{fitted}
use Rattle.writer.proofs.PieceLaws.{written-lent, lent-long}
use Rattle.rows.specs.declared.CallRow.{CallRow}
use Rattle.rows.specs.Rows.{row_numbers, lent_rows}
use Rattle.rows.proofs.MoveLaws.{words_flags}
use Rattle.rows_walks.specs.declared.Scan.{Scan}
use Rattle.rows_walks.specs.Walks.{rows_bytes}
use Rattle.rows_writer.specs.Seen.{Found, Seen}

-- The checks of a board that is lent with its calls in rows

module _ (s : List ℕ) (h : Head) (ds : List ℕ) (rs : List CallRow) (cs : List ℕ) where
  numbers-are : bad_number (lent_rows s (board_of h ds) rs cs) ≡ bad_cards cs
  unfolding bad_number
  numbers-are = ap (λ (t : Bool). bad_cards cs || t) (words_flags rs) ∙ or-false (bad_cards cs)

  module _ (z : Scan) (g : Found s rs z) where
    pub rows-bounded : (t : Bool) → t ≡ bad_cards cs → (u : Bool) → u ≡ any (passes_end s) (head_spans h) → Bounded (lent_rows s (board_of h ds) rs cs) (record { number = t; past = u || z.past })
    rows-bounded t et u eu = record { numbers = et ∙ sym numbers-are; ends = rw (eu, g.past) (sym (spans-any (passes_end s) s h ds (map row_numbers rs) cs)) }

    pub rows-texts : (u : Bool) → u ≡ any (amiss s) (head_spans h) → (u || z.ill) ≡ any (amiss s) (lent_spans (lent_rows s (board_of h ds) rs cs))
    rows-texts u eu = rw (eu, g.ill) (sym (spans-any (amiss s) s h ds (map row_numbers rs) cs))

-- the verdict, by the tests that led there
module _ (s : List ℕ) (h : Head) (ds : List ℕ) (rs : List CallRow) (cs : List ℕ) (beyond : Bool) (z : Scan) (g : Seen s rs z) where
  abbrev lent_to : Lent
  lent_to = lent_rows s (board_of h ds) rs cs

  pub row-long : limit < length s → Err TextTooLong ≡ checked beyond lent_to
  row-long l = check_long beyond lent_to l

  module _ (l : length s ≤ limit) where
    pub row_beyond : beyond ≡ true → Err OutOfRange ≡ checked beyond lent_to
    row_beyond k = check_other beyond lent_to l k

    module _ (o : beyond ≡ false) (t : Bool) (et : t ≡ bad_cards cs) where
      pub row-cards : t ≡ true → Err OutOfRange ≡ checked beyond lent_to
      row-cards k = check_number beyond lent_to l o _ (rows-bounded s h ds rs cs z (g l) t et (any (passes_end s) (head_spans h)) refl) k

      module _ (n : t ≡ false) (u : Bool) (eu : u ≡ any (passes_end s) (head_spans h)) where
        pub row-past : (u || z.past) ≡ true → Err SpanPastEnd ≡ checked beyond lent_to
        row-past k = check_past beyond lent_to l o _ (rows-bounded s h ds rs cs z (g l) t et u eu) n k

        module _ (p : (u || z.past) ≡ false) (w : Bool) (ew : w ≡ any (amiss s) (head_spans h)) where
          pub row-ill : (w || z.ill) ≡ true → Err SpanNotUtf8 ≡ checked beyond lent_to
          row-ill k = check_ill beyond lent_to l o _ (rows-bounded s h ds rs cs z (g l) t et u eu) n p _ (rows-texts s h ds rs cs z (g l) w ew) k

          pub row_good : (w || z.ill) ≡ false → Ok tt ≡ checked beyond lent_to
          row_good k = check_good beyond lent_to l o _ (rows-bounded s h ds rs cs z (g l) t et u eu) n p _ (rows-texts s h ds rs cs z (g l) w ew) k

-- The answer, by the verdict of those checks

module _ (x : Lent) (o : List ℕ) (used r : ℕ) (er : r ≡ room o) (v : Result Unit Refusal) (e : v ≡ checked (ltb r used) x) where
  verdict-is : v ≡ checked (ltb (room o) used) x
  verdict-is = e ∙ ap (λ (n : ℕ). checked (ltb n used) x) er

  -- an answer, and the output after it
  abbrev after : Answer ℕ → Outcome
  after a = record { answer = a; output = extended a o used (written_form (plain x)) }

  pub append-refused : (y : Refusal) → v ≡ Err y → ◌≡◌ {A = Outcome} (record { answer = Err y; output = o }) (append x o used)
  unfolding appended
  append-refused y k = sym (ap after (check_refuses (ltb (room o) used) x v verdict-is _ _ y k))

  pub append-passed : v ≡ (Ok tt) → fitted (plain x) o used ≡ append x o used
  unfolding appended fitted
  append-passed k = sym (ap after (check_passes (ltb (room o) used) x v verdict-is _ _ k))

  pub append-short : v ≡ (Ok tt) → length x.text ≤ limit
  append-short k = (check_passed (ltb (room o) used) x v verdict-is k).short

  pub append-cards : v ≡ (Ok tt) → bad_cards x.cards ≡ false
  unfolding bad_number
  append-cards k = (or_none (bad_cards x.cards) (any bad_flag x.calls) (check_passed (ltb (room o) used) x v verdict-is k).numbers).0

-- A board that the checks before 7 have passed

module _ (s : List ℕ) (b : Board) (rs : List CallRow) (cs : List ℕ) where
  abbrev whole : List ℕ
  whole = written_form (plain (lent_rows s b rs cs))

  abbrev front : List ℕ
  front = front_text pipe_mark line_mark s b

  abbrev calls : List ℕ
  calls = rows_bytes pipe_mark line_mark s rs

  whole_is : whole ≡ front ++ (calls ++ back_text b.claim cs)
  unfolding rows_bytes
  whole_is = written-lent pipe_mark line_mark (lent_rows s b rs cs) ∙ simp append-nil

  whole_long : length whole ≡ length front + length (back_text b.claim cs) + length calls
  unfolding rows_bytes
  whole_long = lent-long pipe_mark line_mark (lent_rows s b rs cs)

  module _ (o : List ℕ) (used n need : ℕ) (en : n ≡ sat (length front + length (back_text b.claim cs))) (c : ℕ) (ec : c ≡ sat (length calls)) (ed : need ≡ sat (n + c)) (r sum : ℕ) (er : r ≡ room o) (es : sum ≡ sat (used + need)) where
    need-is : need ≡ sat (length whole)
    need-is = sat-sum (length front + length (back_text b.claim cs)) (length calls) en ec ed ∙ ap (λ (m : ℕ). sat m) (sym whole_long)

    pub fit_small : r < sum → ◌≡◌ {A = Outcome} (record { answer = Err (OutputTooSmall need); output = o }) (fitted (plain (lent_rows s b rs cs)) o used)
    unfolding fitted unless
    fit_small k =
        let z : room o < used + length whole = omega (arith, need-is) in
        simp (lt-ltb (room o) (used + length whole) z, ← need-is)

    module _ (k : sum ≤ r) where
      fits : used + length whole ≤ room o
      fits = omega (arith, need-is)

      -- what is left to put at first, and after what stands before the calls, and after the calls
      first : Left o used (front ++ (calls ++ back_text b.claim cs)) o used whole
      first = rw (← whole_is) (start (record { room = omega (arith, fits) }))

      pub front-room : Room o used front
      front-room = roomy front _ first

      module _ (o₁ : List ℕ) (a : ℕ) (p : Put o used front o₁ a) where
        pub calls-room : Room o₁ a calls
        calls-room = roomy calls _ (step first p)

        module _ (o₂ : List ℕ) (d : ℕ) (q : Put o₁ a calls o₂ d) where
          rest : Left o₂ d (back_text b.claim cs ++ []) o used whole
          rest = rw append-nil (step (step first p) q)

          pub back-room : Room o₂ d (back_text b.claim cs)
          back-room = roomy (back_text b.claim cs) [] rest

          pub fit-done : (o₃ : List ℕ) (m : ℕ) → Put o₂ d (back_text b.claim cs) o₃ m → ◌≡◌ {A = Outcome} (record { answer = Ok m; output = o₃ }) (fitted (plain (lent_rows s b rs cs)) o used)
          unfolding fitted unless
          fit-done o₃ m t =
              let z = finish (step rest t) in
              simp (le-ltb (room o) (used + length whole) fits, z.next, z.text)

-- The board without its deal, and its deal, are the board

module _ (s : List ℕ) (b : Board) (rs : List CallRow) (cs o : List ℕ) (used : ℕ) (h : Head) (eh : h ≡ head_of b) where
  same-board : append (lent_rows s (board_of h b.deal.counts) rs cs) o used ≡ append (lent_rows s b rs cs) o used
  same-board = ap (λ (k : Head). append (lent_rows s (board_of k b.deal.counts) rs cs) o used) eh

  module _ (r : ℕ) (er : r ≡ room o) (v : Answer Unit) (ev : v ≡ checked (ltb r used) (lent_rows s (board_of h b.deal.counts) rs cs)) where
    pub rows-refused : (y : Refusal) → v ≡ Err y → (a : Answer ℕ) → a ≡ Err y → ◌≡◌ {A = Outcome} (record { answer = a; output = o }) (append (lent_rows s b rs cs) o used)
    rows-refused y k a e =
        ap (λ (x : Answer ℕ). record { answer = x; output = o }) e
        ∙ append-refused (lent_rows s (board_of h b.deal.counts) rs cs) o used r er v ev y k ∙ same-board

    module _ (k : v ≡ Ok tt) where
      -- what the puts rest on
      pub rows-may : (z : Scan) → Seen s rs z → (bad_cards cs ≡ false) × (z.need ≡ sat (length (rows_bytes pipe_mark line_mark s rs)))
      rows-may z g =
          let y = lent_rows s (board_of h b.deal.counts) rs cs in
          (append-cards y o used r er v ev k, (g (append-short y o used r er v ev k)).need)

      pub rows-passed : fitted (plain (lent_rows s (board_of h b.deal.counts) rs cs)) o used ≡ append (lent_rows s b rs cs) o used
      rows-passed = append-passed (lent_rows s (board_of h b.deal.counts) rs cs) o used r er v ev k ∙ same-board
