-- The listing of any input fits the largest room of an output: a line has at most 15 bytes for each byte that its board takes. (01: Program
-- linlist; Writer, "Every output's room ..")
-- Assumes nothing.
use Rattle.std.specs.Result.{result_unwrap_or}
use Rattle.std.specs.Prelude.{Option, None, Some, Ok, Result}
use Prim.Native.Nat.{ℕ, zero, suc, ◌+◌, ◌-◌, ◌*◌, ◌≤◌, ◌<◌}
use native.Mathlib.Omega.{arith}
use mathlib.Core.Path.{◌≡◌, refl, ap, sym, subst, ◌∙◌}
use mathlib.Core.Bool.{Bool, true, false, ◌&&◌, not, false≢true}
use mathlib.Core.List.{List, [], ◌∷◌, ◌++◌}
use lib.ListN.{length, take, drop, length-append, length-take, length-drop}
use lib.Dec.{eqb, ltb}
use borrow.Author.Tests.{le-ltb}
use Rattle.lin_spec.specs.Base.{pick, null, ascii, any}
use Rattle.lin_spec.specs.Records.{span, part}
use Rattle.lin_spec.specs.Utf8.{utf8, longest}
use Rattle.lin_spec.specs.White.{skip_white, trim_start, blank, trim, is_command}
use Rattle.lin_spec.specs.Tokens.{Pieces, cut, pipe}
use Rattle.lin_spec.specs.Tokens.Pieces.{end, piece}
use Rattle.lin_spec.specs.Cards.{sum, read_card, read_hand, field, unheld_cards, thirteens, east_of, deal_of}
use Rattle.lin_spec.specs.Board.{CallOf, Dealt, dealer_of, dealt_by, read_md, call_of, played, number_in, over, undealt, on_dealt, on_calls, on_play, on_claim, board_from}
use Rattle.lin_spec.specs.Decimal.{decimal}
use Rattle.lin_spec.specs.Letters.{seat_number, hand_length}
use Rattle.lin_spec.specs.Refusals.{number_of, unless}
use Rattle.lin_spec.specs.Output.{Outcome, overlay, room, fill}
use Rattle.lin_spec.specs.Reading.{span_text, placed, stream, heading_of}
use Rattle.lin_spec.specs.File.{Section, holds, tokens_in, Standing, Visit, visit, board_in, file_spans}
use Rattle.lin_spec.specs.File.Visit.{found, ended}
use Rattle.lin_spec.specs.Listing.{header, claim_word, board_line, refusal_line, board_lines, listing, write_line}
use Rattle.lin_spec.specs.declared.Span.{Span}
use Rattle.lin_spec.specs.declared.Seat.{Seat}
use Rattle.lin_spec.specs.declared.Seat.TheVariants.{South, West, North, East}
use Rattle.lin_spec.specs.declared.Refusal.{Refusal}
use Rattle.lin_spec.specs.declared.Refusal.TheVariants.{TextTooLong, NotUtf8, TooFewRows, NoBoard, SpanPastEnd, SpanNotUtf8, OutputTooSmall, OutOfRange, BidUnknown}
use Rattle.lin_spec.proofs.Base.{picked, split}
use Rattle.lin_spec.proofs.Tokens.{joined, joined-cut}
use Rattle.lin_spec.proofs.White.{trim_most}
use Rattle.lin_spec.proofs.Cards.{Under, hand-length, hand-sum, field-length}
use Rattle.lin_spec.proofs.Decimal.{length-short, more_digits}
use Rattle.lin_spec.proofs.Rules.{number-only}
use Rattle.lin_spec.proofs.Reading.{part_most}
use Rattle.lin_spec.proofs.File.{visit-is, visits}
use Rattle.file_sections.specs.Sections.{standing_of, AtFirst}
use Rattle.file_sections.specs.declared.sections.BoardCursor.{BoardCursor}
use Rattle.file_sections.proofs.WayLaws.{Way, way_begin, way_on}
use Rattle.output.specs.Put.{Put}
use Rattle.listing.specs.Lines.{section_line}
use Rattle.listing_lines.proofs.LineLaws.{header-long, field-long, lengths_long, board-long, refusal_long}
use Rattle.listing.proofs.FileLaws.{rest, rest_begin, rest_end, rest-on, list_over}
use Rattle.board_loop.proofs.CallLaws.{annotated-length}

-- Digits

digits_1 : (n : ℕ) → n < 10 → length (decimal n) ≤ 1
digits_1 n h = let e = length-short n h in omega arith

digits_2 : (n : ℕ) → n < 100 → length (decimal n) ≤ 2
digits_2 n h = more_digits 10 1 digits_1 n (omega arith)

digits_3 : (n : ℕ) → n < 1000 → length (decimal n) ≤ 3
digits_3 n h = more_digits 100 2 digits_2 n (omega arith)

digits_4 : (n : ℕ) → n < 10000 → length (decimal n) ≤ 4
digits_4 n h = more_digits 1000 3 digits_3 n (omega arith)

digits_5 : (n : ℕ) → n < 100000 → length (decimal n) ≤ 5
digits_5 n h = more_digits 10000 4 digits_4 n (omega arith)

digits_6 : (n : ℕ) → n < 1000000 → length (decimal n) ≤ 6
digits_6 n h = more_digits 100000 5 digits_5 n (omega arith)

-- Sums

sum-append : (x y : List ℕ) → sum (x ++ y) ≡ sum x + sum y
unfolding sum
sum-append [] y = omega arith
sum-append (a ∷ x) y = let k = sum-append x y in omega arith

sum-take : (n : ℕ) (x : List ℕ) → sum (take n x) ≤ sum x
unfolding sum
sum-take zero [] = omega arith
sum-take zero (a ∷ x) = omega arith
sum-take (suc n) [] = omega arith
sum-take (suc n) (a ∷ x) = let k = sum-take n x in omega arith

sum_drop : (n : ℕ) (x : List ℕ) → sum (drop n x) ≤ sum x
unfolding sum
sum_drop zero x = omega arith
sum_drop (suc n) [] = omega arith
sum_drop (suc n) (a ∷ x) = let k = sum_drop n x in omega arith

hand_most : (d : List ℕ) (x : Seat) → hand_length d x ≤ sum d
unfolding part
hand_most d x = let a = sum-take 52 (drop (seat_number x * 52) d) in let b = sum_drop (seat_number x * 52) d in omega arith

unheld_sum : (x y z : List ℕ) → sum (unheld_cards x y z) ≤ length x
unfolding sum unheld_cards
unheld_sum [] y z = omega arith
unheld_sum (a ∷ x) [] z = omega arith
unheld_sum (a ∷ x) (b ∷ y) [] = omega arith
unheld_sum (a ∷ x) (b ∷ y) (c ∷ z) =
    let k = unheld_sum x y z in
    picked (λ (n : ℕ). n + sum (unheld_cards x y z) ≤ suc (length x)) (eqb (a + b + c) 0) {a = 1} {b = 0} (λ _. omega arith) (λ _. omega arith)

-- a deal has no more cards than this, where its text has n bytes
deal-sum : (n : ℕ) (f : Pieces) → ((k : ℕ) → length (field k f) ≤ n) → sum (deal_of f) ≤ 4 * n + 52
unfolding deal_of east_of
deal-sum n f h =
    let s = read_hand (field 0 f) in
    let w = read_hand (field 1 f) in
    let t = read_hand (field 2 f) in
    let e = pick (blank (field 3 f) && thirteens s w t) (unheld_cards s w t) (read_hand (field 3 f)) in
    let k : sum e ≤ n + 52 = picked (λ (x : List ℕ). sum x ≤ n + 52) (blank (field 3 f) && thirteens s w t) (λ _. let a = unheld_sum s w t in let b = hand-length (field 0 f) in omega arith) (λ _. let a = hand-sum (field 3 f) in let b = h 3 in omega arith) in
    let q : sum (s ++ (w ++ (t ++ e))) ≡ sum s + (sum w + (sum t + sum e)) = sum-append s _ ∙ ap (λ (i : ℕ). sum s + i) (sum-append w _ ∙ ap (λ (i : ℕ). sum w + i) (sum-append t e)) in
    let a = hand-sum (field 0 f) in
    let b = hand-sum (field 1 f) in
    let c = hand-sum (field 2 f) in
    let u = h 0 in
    let v = h 1 in
    let x = h 2 in
    omega arith

-- What the tokens of a text of n bytes can add up to

-- what each token keeps, where no value is longer than n
over-placed : {B : Type 0} (Q : B → Type 0) (f : List ℕ → Span → B → B) (n : ℕ) → ((c : List ℕ) (v : Span) (b : B) → v.len ≤ n → Q b → Q (f c v b))
    → (at : ℕ) (p : Pieces) → length (joined pipe p) ≤ n → (b : B) → Q b → Q (over f b (placed at p))
unfolding over placed joined
over-placed Q f n g at (end x) h b q = q
over-placed Q f n g at (piece x (end y)) h b q = q
over-placed Q f n g at (piece x (piece y r)) h b q =
    let l : length x + suc (length y + suc (length (joined pipe r))) ≤ n = simp length-append at h in
    over-placed Q f n g (at + (length x + 1) + (length y + 1)) r (omega arith) (f x (span (at + (length x + 1)) (length y)) b) (g x (span (at + (length x + 1)) (length y)) b (omega arith) q)

-- a list that a token makes longer by one at most
over_grows : {X : Type 0} (f : List ℕ → Span → List X → List X) → ((c : List ℕ) (v : Span) (b : List X) → length (f c v b) ≤ length b + 1)
    → (at : ℕ) (p : Pieces) (b : List X) → length (over f b (placed at p)) ≤ length b + length (joined pipe p)
unfolding over placed joined
over_grows f g at (end x) b = omega arith
over_grows f g at (piece x (end y)) b = omega arith
over_grows f g at (piece x (piece y r)) b =
    let k = over_grows f g (at + (length x + 1) + (length y + 1)) r (f x (span (at + (length x + 1)) (length y)) b) in
    let l = g x (span (at + (length x + 1)) (length y)) b in
    let q : length (x ++ pipe ∷ (y ++ pipe ∷ joined pipe r)) ≡ length x + suc (length y + suc (length (joined pipe r))) = simp length-append in
    omega arith

calls-grow : (t c : List ℕ) (v : Span) (b : List (CallOf Span)) → length (on_calls (span_text t) c v b) ≤ length b + 1
calls-grow t c v b =
    picked (λ (x : List (CallOf Span)). length x ≤ length b + 1) (is_command c (ascii "mb"))
    (λ _. rw (length-append b (call_of (span_text t) v ∷ [])) (omega arith))
    (λ _. picked (λ (x : List (CallOf Span)). length x ≤ length b + 1) (is_command c (ascii "an")) (λ _. let e = annotated-length v b in omega arith) (λ _. omega arith))

plays-grow : (t c : List ℕ) (v : Span) (b : List ℕ) → length (on_play (span_text t) c v b) ≤ length b + 1
plays-grow t c v b = picked (λ (x : List ℕ). length x ≤ length b + 1) (is_command c (ascii "pc")) (λ _. go (read_card (trim ((span_text t).bytes v)))) (λ _. omega arith)
  where
    go : (o : Option ℕ) → length (played o b) ≤ length b + 1
    go None = omega arith
    go (Some k) = rw (length-append b (k ∷ [])) (omega arith)

abbrev Deals : ℕ → Dealt → Type 0
Deals n d = sum d.deal ≤ 4 * n + 52

md_keeps : (n : ℕ) (s : List ℕ) (d : Dealt) → length s ≤ n → Deals n d → Deals n (read_md s d)
unfolding read_md
md_keeps n [] d h k = k
md_keeps n (b ∷ s) d h k = go (dealer_of b)
  where
    go : (o : Option Seat) → Deals n (dealt_by o s d)
    go None = k
    go (Some x) = deal-sum n (cut 0x2C s) (λ i. let l = field-length 0x2C i s in omega arith)

deal_keeps : (t : List ℕ) (n : ℕ) (c : List ℕ) (v : Span) (d : Dealt) → v.len ≤ n → Deals n d → Deals n (on_dealt (span_text t) c v d)
deal_keeps t n c v d h k =
    picked (Deals n) (is_command c (ascii "md")) (λ _. md_keeps n (trim ((span_text t).bytes v)) d (let a = trim_most ((span_text t).bytes v) in let b = part_most t v.start v.len in omega arith) k) (λ _. k)

undealt-sum : (n : ℕ) → Deals n undealt
unfolding undealt sum
undealt-sum n = omega arith

number_under : (s : List ℕ) → Under 256 (number_in 255 s)
number_under s = go (number_in 255 s) refl
  where
    go : (o : Option ℕ) → number_in 255 s ≡ o → Under 256 o
    go None e = tt
    go (Some n) e = let l = (number-only 255 s n e).within in omega arith

claim_keeps : (t : List ℕ) (c : List ℕ) (v : Span) (b : Option ℕ) → Under 256 b → Under 256 (on_claim (span_text t) c v b)
claim_keeps t c v b k = picked (Under 256) (is_command c (ascii "mc")) (λ _. number_under _) (λ _. k)

claim-word : (o : Option ℕ) → Under 256 o → length (claim_word o) ≤ 3
claim-word None u = omega arith
claim-word (Some n) u = digits_3 n (omega arith)

-- The line of a board that takes n bytes

module _ (s : List ℕ) (p : Section) (n : ℕ) (l : length (drop p.start (take p.stop s)) ≤ n) where
  cut_most : length (joined pipe (cut pipe (drop p.start (take p.stop s)))) ≤ n
  cut_most = rw (joined-cut pipe (drop p.start (take p.stop s))) l

  its_deal : Deals n (board_in s p).dealt
  unfolding board_in board_from stream
  its_deal = over-placed (Deals n) (on_dealt (span_text (take p.stop s))) n (deal_keeps (take p.stop s) n) p.start _ cut_most undealt (undealt-sum n)

  its_claim : Under 256 (board_in s p).claim
  unfolding board_in board_from stream
  its_claim = over-placed (Under 256) (on_claim (span_text (take p.stop s))) n (λ c v b _ k. claim_keeps (take p.stop s) c v b k) p.start _ cut_most None tt

  its_calls : length (board_in s p).calls ≤ n
  unfolding board_in board_from stream
  its_calls = let k = over_grows (on_calls (span_text (take p.stop s))) (calls-grow (take p.stop s)) p.start (cut pipe (drop p.start (take p.stop s))) [] in let m = cut_most in omega arith

  its_play : length (board_in s p).play ≤ n
  unfolding board_in board_from stream
  its_play = let k = over_grows (on_play (span_text (take p.stop s))) (plays-grow (take p.stop s)) p.start (cut pipe (drop p.start (take p.stop s))) [] in let m = cut_most in omega arith

  -- by the digits of its lengths, calls and cards
  line-by : (k h i : ℕ) → k < 100000 → ((x : Seat) → length (decimal (hand_length (board_in s p).dealt.deal x)) ≤ h) → length (decimal (length (board_in s p).calls)) ≤ i → length (decimal (length (board_in s p).play)) ≤ i
      → length (board_line k (heading_of (board_in s p))) ≤ 20 + 4 * h + 2 * i
  line-by k h i m d c y =
      let e = board-long k (heading_of (board_in s p)) in
      let f = lengths_long (board_in s p).dealt.deal in
      let a0 = field-long (hand_length (board_in s p).dealt.deal South) in
      let a1 = field-long (hand_length (board_in s p).dealt.deal West) in
      let a2 = field-long (hand_length (board_in s p).dealt.deal North) in
      let a3 = field-long (hand_length (board_in s p).dealt.deal East) in
      let b0 = d South in
      let b1 = d West in
      let b2 = d North in
      let b3 = d East in
      let u = field-long (length (board_in s p).calls) in
      let v = field-long (length (board_in s p).play) in
      let w = claim-word (board_in s p).claim its_claim in
      let z = digits_5 k m in
      omega arith

  hand_below : (b : ℕ) → 4 * n + 52 < b → (x : Seat) → hand_length (board_in s p).dealt.deal x < b
  hand_below b h x = let a = hand_most (board_in s p).dealt.deal x in let d = its_deal in omega arith

  line_most : (k m : ℕ) → k < 100000 → n ≤ 65537 → n ≤ m → 2 ≤ m → length (board_line k (heading_of (board_in s p))) ≤ 15 * m
  line_most k m h a b c =
      let i = its_calls in
      let j = its_play in
      split n 10
      (λ w. let z = line-by k 2 1 h (λ x. digits_2 _ (hand_below 100 (omega arith) x)) (digits_1 _ (omega arith)) (digits_1 _ (omega arith)) in omega arith)
      (λ w. let z = line-by k 6 5 h (λ x. digits_6 _ (hand_below 1000000 (omega arith) x)) (digits_5 _ (omega arith)) (digits_5 _ (omega arith)) in omega arith)

-- What a step of the cursor takes

-- a text of tokens has two bytes at least
two_bytes : (at : ℕ) (p : Pieces) → holds (ascii "md") (placed at p) ≡ true → 2 ≤ length (joined pipe p)
unfolding any placed joined
two_bytes at (end x) h = absurd (false≢true h)
two_bytes at (piece x (end y)) h = absurd (false≢true h)
two_bytes at (piece x (piece y r)) h = let q : length (x ++ pipe ∷ (y ++ pipe ∷ joined pipe r)) ≡ length x + suc (length y + suc (length (joined pipe r))) = simp length-append in omega arith

one_byte : (x : List ℕ) → not (blank x) ≡ true → 1 ≤ length x
unfolding blank trim_start skip_white
one_byte [] h = absurd (false≢true h)
one_byte (b ∷ x) h = omega arith

pub record Takes (c : Standing) (p : Section) (d : Standing) : Type 0 where
  pub starts : p.start ≡ c.at
  pub stops : p.stop ≤ d.at
  pub two : p.board ≡ true → c.at + 2 ≤ d.at

abbrev Taken : Standing → Visit → Type 0
Taken c (found n p d) = Takes c p d
Taken c (ended d) = Unit

taken : (s : List ℕ) (c : Standing) → Taken c (visit s c)
unfolding stream
taken s c =
    subst (Taken c) (sym (visit-is s c))
    (picked (Taken c) c.lines
    (λ l. picked (Taken c) (ltb (length s) c.at) (λ _. tt) (λ _. record { starts = refl; stops = rw l (omega arith); two = λ h. let k = one_byte _ h in rw l (omega arith) }))
    (λ l. picked (Taken c) (null (stream s c.at)) (λ _. tt) (λ _. record { starts = refl; stops = rw l (omega arith); two = λ h. rw l (part-two s c.at _ h) })))
  where
    part-two : (s : List ℕ) (a e : ℕ) → holds (ascii "md") (tokens_in s a e) ≡ true → a + 2 ≤ e
    part-two s a e h =
        let k = two_bytes a (cut pipe (drop a (take e s))) h in
        let j = ap length (joined-cut pipe (drop a (take e s))) in
        let x = length-drop a (take e s) in
        let y = length-take e s in
        omega arith

takes : (s : List ℕ) (c : Standing) (v : Visit) → visit s c ≡ v → Taken c v
takes s c v e = subst (Taken c) e (taken s c)

-- the line of a section that is passed
passed_most : (s : List ℕ) (c : Standing) (n : ℕ) (p : Section) (d : Standing) → length s ≤ 65536 → n < 100000 → c.at < d.at → d.at ≤ length s + 1 → Takes c p d
    → length (section_line s n p) ≤ 15 * (d.at - c.at)
passed_most s c n p d l h a b t =
    picked (λ (x : List ℕ). length x ≤ 15 * (d.at - c.at)) p.board
    (λ q.
    let x = length-drop p.start (take p.stop s) in
    let y = length-take p.stop s in
    let u = t.starts in
    let v = t.stops in
    let w = t.two q in
    line_most s p (d.at - c.at) (omega arith) n (d.at - c.at) h (omega arith) (omega arith) (omega arith))
    (λ _. omega arith)

-- All the lines from a cursor on

abbrev Most : (s : List ℕ) → Standing → Type 0
Most s c = length (rest s c) ≤ 15 * (length s + 1 - c.at)

rest_step : (s : List ℕ) (c : Standing) → length s ≤ 65536 → Way s c → (n : ℕ) (p : Section) (d : Standing) → visit s c ≡ found n p d → Most s d → Most s c
rest_step s c l w n p d e h =
    let f = visits s c (found n p d) e in
    let x = f.later in
    let y = f.within in
    let z = f.number in
    let a = w.small in
    let b = w.within in
    let q : length (rest s c) ≡ length (section_line s n p) + length (rest s d) = ap length (rest-on s c w n p d f) ∙ length-append (section_line s n p) (rest s d) in
    let k = passed_most s c n p d l (omega arith) x y (takes s c (found n p d) e) in
    omega arith

rest_most : (m : ℕ) (s : List ℕ) (c : Standing) → length s ≤ 65536 → Way s c → length s + 2 - c.at ≤ m → Most s c
rest_most zero s c l w h = let b = w.within in absurd (let z : ⊥ = omega arith in z)
rest_most (suc m) s c l w h = go (visit s c) refl (rest_most m s)
  where
    go : (v : Visit) → visit s c ≡ v → ((d : Standing) → length s ≤ 65536 → Way s d → length s + 2 - d.at ≤ m → Most s d) → Most s c
    go (ended d) e ih = let f = visits s c (ended d) e in let r = ap length (rest_end s c f.1) in omega arith
    go (found n p d) e ih =
        let f = visits s c (found n p d) e in
        let x = f.later in
        let y = f.within in
        rest_step s c l w n p d e (ih d l (way_on s c w n p d f) (omega arith))

-- The listing

refusal_most : (r : Refusal) → length (refusal_line r) ≤ 10
refusal_most r = let l = refusal_long r in let d = digits_1 (number_of r) (small r) in omega arith
  where
    small : (r : Refusal) → number_of r < 10
    small TextTooLong = omega arith
    small (NotUtf8 n) = omega arith
    small (TooFewRows k n) = omega arith
    small (NoBoard n) = omega arith
    small SpanPastEnd = omega arith
    small SpanNotUtf8 = omega arith
    small (OutputTooSmall n) = omega arith
    small OutOfRange = omega arith
    small (BidUnknown n) = omega arith

whole_most : (s : List ℕ) → length s ≤ 65536 → length (header ++ board_lines 0 (file_spans s)) ≤ 1048576
whole_most s l =
    let c : BoardCursor = record { at = 0; number = 0; lines = not (holds (ascii "qx") (stream s 0)) } in
    let r : AtFirst s c = record { first = refl; short = omega arith } in
    let k = rest_most (length s + 2) s (standing_of c) l (way_begin s c r) (omega arith) in
    let e = ap length (rest_begin s c r) in
    let a = length-append header (board_lines 0 (file_spans s)) in
    let h = header-long in
    omega arith

pub listing_fits : (s : List ℕ) → length (listing s) ≤ 1048576
listing_fits s =
    split 65536 (length s)
    (λ h. let e = ap length (list_over s h) in let r = refusal_most TextTooLong in omega arith)
    (λ h. within (utf8 s) refl h)
  where
    within : (t : Bool) → utf8 s ≡ t → length s ≤ 65536 → length (listing s) ≤ 1048576
    within true e h =
        let q : listing s ≡ header ++ board_lines 0 (file_spans s) = unfold listing unless in simp (le-ltb 65536 (length s) h, e) in
        let k = whole_most s h in
        let z = ap length q in
        omega arith
    within false e h =
        let q : listing s ≡ refusal_line (NotUtf8 (longest s)) = unfold listing unless in simp (le-ltb 65536 (length s) h, e) in
        let k = refusal_most (NotUtf8 (longest s)) in
        let z = ap length q in
        omega arith

-- An output with the largest room is filled, and never refused

module _ (s o : List ℕ) (l : length o ≡ 1048576) where
  whole-written : write_line (listing s) o ≡ record { answer = Ok (length (listing s)); output = overlay o 0 (listing s) }
  unfolding write_line fill unless
  whole-written = simp (le-ltb (room o) (length (listing s)) (let h = listing_fits s in omega arith))

  module _ (r : Result ℕ Refusal) (o' : List ℕ) (e : ◌≡◌ {A = Outcome} (record { answer = r; output = o' }) (write_line (listing s) o)) where
    answered : r ≡ Ok (length (listing s))
    answered = ap (λ (x : Outcome). x.answer) (e ∙ whole-written)

    pub whole_put : (n : ℕ) → n ≡ result_unwrap_or r 0 → Put o 0 (listing s) o' n
    whole_put n f =
        let k : n ≡ length (listing s) = f ∙ ap (λ (x : Result ℕ Refusal). result_unwrap_or x 0) answered in
        record { next = omega arith; text = ap (λ (x : Outcome). x.output) (e ∙ whole-written) }
