-- What each reader gives of a text that it does not refuse: the board that the text means, and lent again none of 8, 5 and 6 meets it. (01: Board; File;
-- Eight refusals)
-- Assumes nothing.
use Rattle.lin_spec.specs.declared.Heading.{Heading}
use Rattle.std.specs.Prelude.{Option, Err, Ok}
use Prim.Native.Nat.{ℕ, ◌-◌}
use native.Mathlib.Omega.{arith}
use mathlib.Core.Path.{◌≡◌, refl, ap, sym, subst, ◌∙◌}
use mathlib.Core.Bool.{true, not}
use mathlib.Core.List.{List, ◌∷◌, []}
use lib.ListN.{length, get_or}
use lib.Dec.{ltb, leb}
use borrow.Author.Tests.{leb-false, not-false}
use Rattle.lin_spec.specs.Base.{All, null}
use Rattle.lin_spec.specs.Records.{part, bytes_at, limit}
use Rattle.lin_spec.specs.Utf8.{utf8, longest}
use Rattle.lin_spec.specs.Refusals.{Answer, unless, too_long, not_utf8}
use Rattle.lin_spec.specs.Board.{BoardOf, map_board}
use Rattle.lin_spec.specs.Reading.{stream, parse_lin, parse_spans, few_rows, stored, read_board, call_words, heading_of, headed, read_heading}
use Rattle.lin_spec.specs.File.{Section, board_in, parse_lin_file, file_spans, no_board, numbered, file_board, file_heading}
use Rattle.lin_spec.specs.File.{lines_at, parts_at, Standing, Visit, remaining, ReadStep, read_by, read_step}
use Rattle.lin_spec.specs.File.Visit.{found}
use Rattle.lin_spec.specs.Lent.{Lendable, lent}
use Rattle.lin_spec.specs.ThirdDemand.{Gives}
use Rattle.lin_spec.specs.declared.Span.{Span}
use Rattle.lin_spec.specs.declared.Refusal.{Refusal}
use Rattle.lin_spec.specs.declared.Refusal.TheVariants.{TextTooLong, NotUtf8, NoBoard}
use Rattle.lin_spec.proofs.Base.{picked, all_keep}
use Rattle.lin_spec.proofs.Reading.{spans_out}
use Rattle.lin_spec.proofs.Checks.{unmet, unless-same}
use Rattle.lin_spec.proofs.FileMeaning.{section_out}
use Rattle.lin_spec.proofs.Wellformed.{Utf8}
use Rattle.lin_spec.proofs.File.{drop-take}
use Rattle.lin_spec.proofs.Steps.{Next, next-is}
use Rattle.lin_spec.proofs.Walk.{reading_of, answer-is, accepted_step}
use Rattle.lin_spec.proofs.Lendable.{Legal, LegalFrom, text_legal, file_legal, parts_legal, lines_legal, stored-lendable}
use Rattle.lin_spec.proofs.ThirdDemand.{stored_gives, numbered_means}

-- an answer that is accepted is stored whole
pub answer-given : (t : List ℕ) (y : BoardOf Span) (a : Answer (BoardOf Span)) → ((b : BoardOf Span) → a ≡ Ok b → (y ≡ b) × Legal t y) → (rows cards : List ℕ)
    → (h : Heading) → (stored a rows cards).heading ≡ Ok h → Gives t (map_board (bytes_at t) y) (stored a rows cards)
answer-given t y (Err r) h rows cards x k = let z : ◌≡◌ {A = ℕ} 0 1 = cc in absurd (omega arith)
answer-given t y (Ok b) h rows cards x k =
    let l = h b refl in
    subst (λ (x : BoardOf Span). Gives t (map_board (bytes_at t) y) (stored (Ok x) rows cards)) l.0 (stored_gives t y l.1 rows cards)

-- a text that 2 does not meet
opened : {A : Type 0} (s : List ℕ) (cs : List (Option Refusal)) (y b : A) → unless (too_long s ∷ not_utf8 s ∷ cs) y ≡ Ok b → Utf8 s × (unless cs y ≡ Ok b)
opened s cs y b e =
    let e₁ = unmet (ltb limit (length s)) TextTooLong _ y b e in
    let e₂ = unmet (not (utf8 s)) (NotUtf8 (longest s)) cs y b e₁.1 in
    (not-false (utf8 s) e₂.0, e₂.1)

-- `parse_lin`
pub read-given : (s rows cards : List ℕ) (h : Heading) → (read_board s rows cards).heading ≡ Ok h → Gives s (parse_lin s) (read_board s rows cards)
unfolding read_board
read-given s rows cards h k =
    let y = parse_spans s in
    let cs = few_rows y rows cards in
    subst (λ (b : BoardOf (List ℕ)). Gives s b (read_board s rows cards)) (spans_out s)
    (answer-given s y (unless (too_long s ∷ not_utf8 s ∷ cs) y)
    (λ b e. let o = opened s cs y b e in (unless-same cs y b o.1, text_legal s o.0))
    rows cards h k)

-- `parse_lin_file`, by number
pub file_given : (s : List ℕ) (n : ℕ) (rows cards : List ℕ) (h : Heading) → (file_board s n rows cards).heading ≡ Ok h → (d : BoardOf (List ℕ))
    → Gives s (get_or (parse_lin_file s) n d) (file_board s n rows cards)
unfolding file_board
file_given s n rows cards h k d = go (unless (too_long s ∷ not_utf8 s ∷ no_board n (length (file_spans s)) ∷ few_rows (numbered s n) rows cards) (numbered s n)) refl k
  where
    go : (a : Answer (BoardOf Span)) → unless (too_long s ∷ not_utf8 s ∷ no_board n (length (file_spans s)) ∷ few_rows (numbered s n) rows cards) (numbered s n) ≡ a
        → (stored a rows cards).heading ≡ Ok h → Gives s (get_or (parse_lin_file s) n d) (stored a rows cards)
    go (Err r) e k = let z : ◌≡◌ {A = ℕ} 0 1 = cc in absurd (omega arith)
    go (Ok b) e k =
        let y = numbered s n in
        let cs = few_rows y rows cards in
        let o = opened s (no_board n (length (file_spans s)) ∷ cs) y b e in
        let m = unmet (leb (length (file_spans s)) n) (NoBoard (length (file_spans s))) cs y b o.1 in
        let means = numbered_means s n (leb-false (length (file_spans s)) n m.0) d in
        let same = unless-same cs y b m.1 in
        let g : Gives s (map_board (bytes_at s) y) (stored (Ok y) rows cards) = stored_gives s y (file_legal s o.0 n) rows cards in
        subst (λ (x : BoardOf Span). Gives s (get_or (parse_lin_file s) n d) (stored (Ok x) rows cards)) same
        (subst (λ (x : BoardOf (List ℕ)). Gives s x (stored (Ok y) rows cards)) means g)

-- What a step reads can be lent again, over any bytes: those that it looked at are UTF-8.

remaining_legal : (s : List ℕ) (c : Standing) → All (LegalFrom s c.at) (remaining s c)
unfolding lines_at parts_at
remaining_legal s c =
    picked (All (LegalFrom s c.at)) c.lines
    (λ _. picked (All (LegalFrom s c.at)) (ltb (length s) c.at) (λ _. tt) (λ _. lines_legal s c.at))
    (λ _. picked (All (LegalFrom s c.at)) (null (stream s c.at)) (λ _. tt) (λ _. parts_legal s c.at))

next_legal : (s : List ℕ) (c : Standing) (n : ℕ) (p : Section) (d : Standing) → Next s c n p d → utf8 (part s c.at (p.stop - c.at)) ≡ true → Legal s (board_in s p)
unfolding part
next_legal s c n p d f u =
    let l = all_keep (LegalFrom s c.at) (LegalFrom s c.at) (λ (q : Section). q.board) (λ q h _. h) (remaining s c) (remaining_legal s c) in
    (subst (All (LegalFrom s c.at)) f.front l).0 (ap utf8 (drop-take c.at p.stop s) ∙ u)

pub step_gives : (s : List ℕ) (c : Standing) (rows cards : List ℕ) (n : ℕ) (p : Section) (d : Standing) → (read_step s c rows cards).answer ≡ Ok (found n p d)
    → Gives s (parse_lin (part s p.start (p.stop - p.start))) (reading_of (read_step s c rows cards))
unfolding read_step
step_gives s c rows cards n p d e =
    let v = accepted_step s c rows cards (found n p d) e in
    let f = next-is s c (found n p d) v.0 in
    let g = stored_gives s (board_in s p) (next_legal s c n p d f v.1) rows cards in
    subst (λ (x : ReadStep). Gives s (parse_lin (part s p.start (p.stop - p.start))) (reading_of x)) (sym read)
    (subst (λ (b : BoardOf (List ℕ)). Gives s b (stored (Ok (board_in s p)) rows cards)) (section_out s p) g)
  where
    read : read_step s c rows cards ≡ read_by s c (Ok (found n p d)) rows cards
    read = ap (λ (x : Answer Visit). read_by s c x rows cards) (sym (answer-is s c rows cards) ∙ e)

-- A heading's board, lent without calls and cards, can be lent again too.

bare : BoardOf Span → BoardOf Span
bare b = record { names = b.names; dealt = b.dealt; vulnerability = b.vulnerability; title = b.title; room = b.room; header = b.header; calls = []; play = []; claim = b.claim }

bare-lendable : (t : List ℕ) (b : BoardOf Span) → Legal t b → Lendable (lent t (heading_of b).board [] [])
unfolding bare call_words
bare-lendable t b l =
    let x = l.texts in
    stored-lendable t (bare b) (record { texts = record { names = x.names; title = x.title; room = x.room; header = x.header; calls = tt }; cards = tt })

-- the board of a heading, if there is one, can be lent
abbrev OkLendable : List ℕ → Answer Heading → Type 0
OkLendable t (Err r) = Unit
OkLendable t (Ok h) = Lendable (lent t h.board [] [])

-- by the answer that it was taken from
headed-lendable : (t : List ℕ) (a : Answer (BoardOf Span)) → ((b : BoardOf Span) → a ≡ Ok b → Legal t b) → (h : Heading) → headed a ≡ Ok h → Lendable (lent t h.board [] [])
headed-lendable t (Err r) f h k = let z : ◌≡◌ {A = ℕ} 0 1 = cc in absurd (omega arith)
headed-lendable t (Ok b) f h k = subst (λ (x : Answer Heading). OkLendable t x) k (bare-lendable t b (f b refl))

pub heading-given : (s : List ℕ) (h : Heading) → read_heading s ≡ Ok h → Lendable (lent s h.board [] [])
unfolding read_heading
heading-given s h k =
    let y = parse_spans s in
    headed-lendable s (unless (too_long s ∷ not_utf8 s ∷ []) y)
    (λ b e. let o = opened s [] y b e in subst (Legal s) (unless-same [] y b o.1) (text_legal s o.0)) h k

pub file_heading-given : (s : List ℕ) (n : ℕ) (h : Heading) → file_heading s n ≡ Ok h → Lendable (lent s h.board [] [])
unfolding file_heading
file_heading-given s n h k =
    let y = numbered s n in
    let cs = no_board n (length (file_spans s)) ∷ [] in
    headed-lendable s (unless (too_long s ∷ not_utf8 s ∷ cs) y)
    (λ b e. let o = opened s cs y b e in subst (Legal s) (unless-same cs y b o.1) (file_legal s o.0 n)) h k
