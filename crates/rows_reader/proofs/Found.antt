-- The third demand through rows of calls as structs: the file reader finds the book's boards in the used bytes, read into such rows. (01: Writer,
-- "They equal T, and the file reader finds L in them")
-- Assumes nothing.
use Rattle.lin_spec.specs.ThirdDemand.{again}
use Rattle.lin_spec.specs.declared.Heading.{Heading}
use Rattle.std.specs.Prelude.{Option, None, Some, Err, Ok}
use Prim.Native.Nat.{ℕ, ◌+◌, ◌*◌, ◌/◌, ◌≤◌, ◌<◌}
use native.Mathlib.Nat.{not-suc-le-zero, le_of_suc-le-suc}
use native.Mathlib.Omega.{arith}
use mathlib.Core.Path.{◌≡◌, refl, ap, sym, subst, ◌∙◌}
use mathlib.Core.Bool.{Bool, true, false, ◌||◌}
use mathlib.Core.List.{List, [], ◌∷◌, ◌++◌, map}
use lib.ListN.{length, take, drop, get_or, replicate, length-replicate, length-map}
use lib.Seq.{take-append_seam}
use lib.Dec.{ltb}
use borrow.Author.Tests.{ltb-false}
use Rattle.lin_spec.specs.Base.{All, any}
use Rattle.lin_spec.specs.Refusals.{Answer, unless, too_long, not_utf8, passes_end, ill_span}
use Rattle.lin_spec.specs.Output.{overlay}
use Rattle.lin_spec.specs.Board.{CallOf, BoardOf}
use Rattle.lin_spec.specs.Reading.{call_words, heading_of, too_few, stored, parse_lin, parse_spans, read_board}
use Rattle.lin_spec.specs.File.{parse_lin_file, file_spans, no_board, numbered, file_board}
use Rattle.lin_spec.specs.Lent.{Lent, lent_board, meaning, call_in, row_of, call_rows, lent_spans, bad_flag, bad_cards, bad_number, Lendable}
use Rattle.lin_spec.specs.Log.{appending, events}
use Rattle.lin_spec.specs.ThirdDemand.{Typed, Gives, start, used, L}
use Rattle.lin_spec.specs.declared.Span.{Span}
use Rattle.lin_spec.specs.declared.Call.{Call}
use Rattle.lin_spec.specs.declared.Board.{Board}
use Rattle.lin_spec.specs.declared.RowKind.TheVariants.{Calls, Cards}
use Rattle.lin_spec.specs.declared.Refusal.{Refusal}
use Rattle.lin_spec.specs.declared.Refusal.TheVariants.{TooFewRows}
use Rattle.lin_spec.proofs.Base.{or_none}
use Rattle.lin_spec.proofs.Checks.{unmet, unless-same}
use Rattle.lin_spec.proofs.Accepted.{words-length, lent_back}
use Rattle.lin_spec.proofs.Given.{read-given, file_given}
use Rattle.lin_spec.proofs.ThirdDemand.{third_demand}
use Rattle.rows.specs.declared.CallRow.{CallRow}
use Rattle.rows.specs.Rows.{called, row_in, laid_over, lent_rows}
use Rattle.rows_steps.specs.Steps.{few_structs, file_answer}
use Rattle.rows_reader.specs.Reader.{stored_rows, read_rows, file_rows}
use Rattle.rows_reader.specs.Given.{GivesRows}

-- A call's row, as it is lent again

by_parts : CallOf Span → Bool → Option Span → CallOf Span
by_parts c t o = record { bid = c.bid; alerted = t; annotation = o }

lent_again : (c : CallOf Span) → call_in (row_of (called (row_in c))) ≡ c
unfolding by_parts
lent_again c = go c.alerted c.annotation
  where
    go : (t : Bool) (o : Option Span) → call_in (row_of (called (row_in (by_parts c t o)))) ≡ by_parts c t o
    go true None = refl
    go true (Some x) = refl
    go false None = refl
    go false (Some x) = refl

all-again : (cs : List (CallOf Span)) → map call_in (map (λ r. row_of (called r)) (map row_in cs)) ≡ cs
all-again [] = refl
all-again (c ∷ cs) = ap (λ (x : CallOf Span). x ∷ map call_in (map (λ r. row_of (called r)) (map row_in cs))) (lent_again c) ∙ ap (λ (l : List (CallOf Span)). c ∷ l) (all-again cs)

-- the first of the rows, and of the words, that were stored
laid-front : {A : Type 0} (xs ys : List A) → length xs ≤ length ys → take (length xs) (laid_over xs ys) ≡ xs
unfolding laid_over
laid-front [] ys h = refl
laid-front (x ∷ xs) [] h = absurd (not-suc-le-zero h)
laid-front {A} (x ∷ xs) (y ∷ ys) h = ap (λ (l : List A). x ∷ l) (laid-front xs ys (le_of_suc-le-suc h))

words-front : (ws : List ℕ) (cs : List (CallOf Span)) → take (length cs * 6) (overlay ws 0 (call_words cs)) ≡ call_words cs
unfolding overlay
words-front ws cs = ap (λ (n : ℕ). take n (overlay ws 0 (call_words cs))) (sym (words-length cs)) ∙ take-append_seam (call_words cs) (drop (0 + length (call_words cs)) ws)

-- boards that are lent with the same calls name the same spans, and mean the same
same-spans : (t : List ℕ) (b : Board) (cs ds : List Call) (cards : List ℕ) → map call_in cs ≡ map call_in ds
    → lent_spans (record { text = t; board = b; calls = cs; cards = cards }) ≡ lent_spans (record { text = t; board = b; calls = ds; cards = cards })
unfolding lent_spans lent_board
same-spans t b cs ds cards e = rw e refl

same-calls : (t : List ℕ) (b : Board) (cs ds : List Call) (cards : List ℕ) → map call_in cs ≡ map call_in ds
    → meaning (record { text = t; board = b; calls = cs; cards = cards }) ≡ meaning (record { text = t; board = b; calls = ds; cards = cards })
unfolding meaning lent_board
same-calls t b cs ds cards e = rw e refl

-- and can be lent alike, if each flag is 0 or 1
same-lendable : (t : List ℕ) (b : Board) (cs ds : List Call) (cards : List ℕ) → map call_in cs ≡ map call_in ds → any bad_flag cs ≡ false
    → Lendable (record { text = t; board = b; calls = ds; cards = cards }) → Lendable (record { text = t; board = b; calls = cs; cards = cards })
unfolding bad_number
same-lendable t b cs ds cards e f h =
    let x : List Call → Lent = λ l. record { text = t; board = b; calls = l; cards = cards } in
    let s : lent_spans (x cs) ≡ lent_spans (x ds) = same-spans t b cs ds cards e in
    let n = or_none (bad_cards cards) (any bad_flag ds) h.numbers in
    record {
      numbers = simp (n.0, f);
      within = ap (λ (l : List Span). any (passes_end t) l) s ∙ h.within;
      texts = ap (λ (l : List Span). any (ill_span t) l) s ∙ h.texts;
    }

rows-flags : (cs : List (CallOf Span)) → any bad_flag (map (λ r. row_of (called r)) (map row_in cs)) ≡ false
unfolding any by_parts
rows-flags [] = refl
rows-flags (c ∷ cs) = go c.alerted c.annotation (rows-flags cs)
  where
    go : (t : Bool) (o : Option Span) → any bad_flag (map (λ r. row_of (called r)) (map row_in cs)) ≡ false
        → (bad_flag (row_of (called (row_in (by_parts c t o)))) || any bad_flag (map (λ r. row_of (called r)) (map row_in cs))) ≡ false
    go true None e = e
    go true (Some x) e = e
    go false None e = e
    go false (Some x) e = e

-- what a reading in words says of its board, at any heading
abbrev Told : (t : List ℕ) (b : BoardOf (List ℕ)) (ws cs : List ℕ) → Heading → Type 0
Told t b ws cs h = (h.calls ≡ length b.calls) × ((h.cards ≡ length b.play) × ((meaning (again t h ws cs) ≡ b) × Lendable (again t h ws cs)))

-- how many calls an answer's heading has
abbrev calls_of : Answer Heading → ℕ
calls_of (Ok h) = h.calls
calls_of (Err r) = 0

-- What the file reader finds in words it finds in rows

module _ (t : List ℕ) (k : ℕ) (b : BoardOf (List ℕ)) (rs : List CallRow) (ws cs : List ℕ) (e : length ws / 6 ≡ length rs) (enough : length b.calls ≤ length rs) where
  rows-given : (a : Answer (BoardOf Span)) → Gives t b (stored a ws cs) → GivesRows t b (stored_rows a rs cs)
  unfolding lent_board
  rows-given (Err r) g = let k = g.given in let z : ◌≡◌ {A = ℕ} 0 1 = cc in absurd (omega arith)
  rows-given (Ok x) g =
      let k = g.given in
      let same-heading : g.heading ≡ heading_of x = cc in
      let told = subst (Told t b (stored (Ok x) ws cs).rows (stored (Ok x) ws cs).cards) same-heading (g.calls, (g.cards, (g.board, g.lendable))) in
      let ks = x.calls in
      let cards = take (length x.play) (overlay cs 0 x.play) in
      let fits : length (map row_in ks) ≤ length rs = (let n = length-map ks row_in in let m = told.0 in omega arith) in
      let rows : take (length ks) (laid_over (map row_in ks) rs) ≡ map row_in ks = ap (λ (n : ℕ). take n (laid_over (map row_in ks) rs)) (sym (length-map ks row_in)) ∙ laid-front (map row_in ks) rs fits in
      let words : map call_in (call_rows (take (length ks * 6) (overlay ws 0 (call_words ks)))) ≡ ks = ap (λ (l : List ℕ). map call_in (call_rows l)) (words-front ws ks) ∙ ap (λ (y : BoardOf Span). y.calls) (lent_back t x) in
      let ds = call_rows (take (length ks * 6) (overlay ws 0 (call_words ks))) in
      let es = map (λ r. row_of (called r)) (map row_in ks) in
      let same : map call_in es ≡ map call_in ds = all-again ks ∙ sym words in
      record {
        heading = heading_of x;
        given = refl;
        calls = told.0;
        cards = told.1.0;
        board = ap (λ (l : List CallRow). meaning (lent_rows t (heading_of x).board l cards)) rows ∙ same-calls t (heading_of x).board es ds cards same ∙ told.1.1.0;
        lendable = subst (λ (l : List CallRow). Lendable (lent_rows t (heading_of x).board l cards)) (sym rows) (same-lendable t (heading_of x).board es ds cards same (rows-flags ks) told.1.1.1);
      }

  pub found_rows : Gives t b (file_board t k ws cs) → GivesRows t b (file_rows t k rs cs)
  unfolding file_board file_rows
  found_rows g =
      let a : ℕ → Answer (BoardOf Span) = λ n. unless (too_long t ∷ not_utf8 t ∷ no_board k (length (file_spans t)) ∷ too_few Calls n (length (numbered t k).calls) ∷ too_few Cards (length cs) (length (numbered t k).play) ∷ []) (numbered t k) in
      rows-given (file_answer t k (length rs) cs) (subst (λ (n : ℕ). Gives t b (stored (a n) ws cs)) e g)

-- What each reader gives of a text that it does not refuse

few_unmet : (cs : List (Option Refusal)) (y b : BoardOf Span) (n : ℕ) (cards : List ℕ) → unless (cs ++ few_structs y n cards) y ≡ Ok b → length y.calls ≤ n
unfolding unless
few_unmet [] y b n cards h = ltb-false n (length y.calls) (unmet (ltb n (length y.calls)) (TooFewRows Calls (length y.calls)) (too_few Cards (length cards) (length y.play) ∷ []) y b h).0
few_unmet (None ∷ cs) y b n cards h = few_unmet cs y b n cards h
few_unmet (Some r ∷ cs) y b n cards h = let z : ◌≡◌ {A = ℕ} 0 1 = cc in absurd (omega arith)

-- with any checks before 3: what is given in words is given in rows
rows-answer : (t : List ℕ) (b : BoardOf (List ℕ)) (ks : List (Option Refusal)) (y : BoardOf Span) (rs : List CallRow) (cs : List ℕ)
    → ((ws : List ℕ) → length ws / 6 ≡ length rs → (h : Heading) → (stored (unless (ks ++ few_structs y (length rs) cs) y) ws cs).heading ≡ Ok h → Gives t b (stored (unless (ks ++ few_structs y (length rs) cs) y) ws cs))
    → (h : Heading) → (stored_rows (unless (ks ++ few_structs y (length rs) cs) y) rs cs).heading ≡ Ok h → GivesRows t b (stored_rows (unless (ks ++ few_structs y (length rs) cs) y) rs cs)
rows-answer t b ks y rs cs = go (unless (ks ++ few_structs y (length rs) cs) y) (λ x d. (unless-same (ks ++ few_structs y (length rs) cs) y x d, few_unmet ks y x (length rs) cs d))
  where
    go : (a : Answer (BoardOf Span)) → ((x : BoardOf Span) → a ≡ Ok x → (y ≡ x) × (length y.calls ≤ length rs))
        → ((ws : List ℕ) → length ws / 6 ≡ length rs → (h : Heading) → (stored a ws cs).heading ≡ Ok h → Gives t b (stored a ws cs))
        → (h : Heading) → (stored_rows a rs cs).heading ≡ Ok h → GivesRows t b (stored_rows a rs cs)
    go (Err r) h g i k = let z : ◌≡◌ {A = ℕ} 0 1 = cc in absurd (omega arith)
    go (Ok x) h g i k =
        let ws : List ℕ = replicate (length rs * 6) 0 in
        let e : length ws / 6 ≡ length rs = omega (arith, length-replicate {A = ℕ} (length rs * 6) 0) in
        let w = g ws e (heading_of x) refl in
        let p = h x refl in
        let q : length y.calls ≡ length x.calls = ap (λ (u : BoardOf Span). length u.calls) p.0 in
        rows-given t 0 b rs ws cs e (let m : length x.calls ≡ w.heading.calls = ap calls_of w.given in let c = w.calls in let l = p.1 in omega arith) (Ok x) w

pub read-rows-given : (s : List ℕ) (rs : List CallRow) (cs : List ℕ) (h : Heading) → (read_rows s rs cs).heading ≡ Ok h → GivesRows s (parse_lin s) (read_rows s rs cs)
unfolding read_rows read_board
read-rows-given s rs cs =
    let y = parse_spans s in
    let a : ℕ → Answer (BoardOf Span) = λ n. unless (too_long s ∷ not_utf8 s ∷ few_structs y n cs) y in
    rows-answer s (parse_lin s) (too_long s ∷ not_utf8 s ∷ []) y rs cs
    (λ ws e. subst (λ (n : ℕ). (h : Heading) → (stored (a n) ws cs).heading ≡ Ok h → Gives s (parse_lin s) (stored (a n) ws cs)) e (read-given s ws cs))

pub file_rows-given : (s : List ℕ) (n : ℕ) (rs : List CallRow) (cs : List ℕ) (h : Heading) → (file_rows s n rs cs).heading ≡ Ok h → (d : BoardOf (List ℕ))
    → GivesRows s (get_or (parse_lin_file s) n d) (file_rows s n rs cs)
unfolding file_rows file_board
file_rows-given s n rs cs h k d =
    let y = numbered s n in
    let b = get_or (parse_lin_file s) n d in
    let a : ℕ → Answer (BoardOf Span) = λ m. unless (too_long s ∷ not_utf8 s ∷ no_board n (length (file_spans s)) ∷ few_structs y m cs) y in
    rows-answer s b (too_long s ∷ not_utf8 s ∷ no_board n (length (file_spans s)) ∷ []) y rs cs
    (λ ws e. subst (λ (m : ℕ). (f : Heading) → (stored (a m) ws cs).heading ≡ Ok f → Gives s b (stored (a m) ws cs)) e (λ f v. file_given s n ws cs f v d)) h k

-- For any list of appends the file reader finds each board of the book, read into rows: as many as it has calls, and as many places for cards
module _ (o : List ℕ) (xs : List Lent) (h : All Typed xs) where
  abbrev book : List (BoardOf (List ℕ))
  book = L o (map appending xs)

  abbrev bytes : List ℕ
  bytes = used o (events (start o) (map appending xs))

  pub third_demand_rows : (n : ℕ) → n < length book → (d : BoardOf (List ℕ)) (rows : List CallRow) (cards : List ℕ)
      → length (get_or book n d).calls ≤ length rows → length (get_or book n d).play ≤ length cards → GivesRows bytes (get_or book n d) (file_rows bytes n rows cards)
  third_demand_rows n l d rows cards p q =
      let ws : List ℕ = replicate (length rows * 6) 0 in
      let e : length ws / 6 ≡ length rows = omega (arith, length-replicate {A = ℕ} (length rows * 6) 0) in
      let p' : length (get_or book n d).calls ≤ length ws / 6 = omega (arith, e) in
      found_rows bytes n (get_or book n d) rows ws cards e p ((third_demand o xs h).found n l d ws cards p' q)
