-- Laws of equality: parts that are compared one after the other, hands, texts and calls, the checks of both boards. (01: equality)
-- Assumes nothing.
use Rattle.std.specs.Prelude.{Option, None, Some, Err, Ok, Result}
use Prim.Native.Nat.{ℕ, ◌/◌, ◌≤◌, ◌<◌}
use native.Mathlib.Omega.{arith}
use mathlib.Core.Path.{◌≡◌, refl, ap, sym, ◌∙◌}
use mathlib.Core.Bool.{Bool, true, false, ◌&&◌, ◌||◌, not, false≢true, and-false, and_assoc}
use mathlib.Core.List.{List, [], ◌∷◌, map}
use lib.ListN.{length, length-map}
use Rattle.std.specs.List.{list_all, zip}
use Rattle.std.specs.Cmp.Lexicographic.{pointwise}
use Rattle.std.proofs.lemmas.Bool.Decides.{Decides-eqb}
use Rattle.std.proofs.lemmas.Slice.Eq.{slice_eq-Decides}
use Rattle.std.specs.Simd.{first_chunks}
use lib.Dec.{eqb, leb, ltb}
use borrow.Author.Tests.{eq-eqb, eqb-true, leb-true, lt-ltb, le-ltb}
use Rattle.lin_spec.specs.Base.{pick, any, eq_all, eq_list}
use Rattle.lin_spec.specs.Records.{limit, end_of, bytes_at}
use Rattle.lin_spec.specs.Refusals.{Answer, refuse_if, unless, passes_end, ill_span, span_not_utf8}
use Rattle.lin_spec.specs.Utf8.{utf8}
use Rattle.lin_spec.specs.Board.{CallOf, map_option, map_call, map_board}
use Rattle.lin_spec.specs.Writer.{held_in}
use Rattle.lin_spec.specs.Lent.{call_row, call_rows, call_in, Lent, lent, lent_board, meaning, span_in, lent_spans, bad_number}
use Rattle.lin_spec.specs.Equality.{eq_option, eq_flag, eq_call, same_deal, equal, same_boards}
use Rattle.lin_spec.specs.declared.Span.{Span}
use Rattle.lin_spec.specs.declared.Call.{Call}
use Rattle.lin_spec.specs.declared.Board.{Board}
use Rattle.lin_spec.specs.declared.Refusal.{Refusal}
use Rattle.lin_spec.specs.declared.Refusal.TheVariants.{TextTooLong, OutOfRange, SpanPastEnd, SpanNotUtf8}
use Rattle.lin_spec.proofs.Base.{eq_list_lem, and_left, and_right}
use Rattle.lin_spec.proofs.Checks.{unmet, unless-refused, unless-passed}
use Rattle.board_lent.specs.Calls.{call_of, spans_of_call}
use Rattle.board_lent.specs.declared.heads.Head.{Head}
use Rattle.board_lent.specs.declared.checks.Bounds.{Bounds}
use Rattle.board_lent.specs.Heads.{board_of}
use Rattle.board_lent.specs.Checks.{amiss, Bounded}
use Rattle.board_lent.proofs.LentLaws.{rows-chunks, rows-count, spans-any, head_any, amiss-ill, texts-ill}
use Rattle.text.specs.Apart.{common}
use Rattle.text.proofs.ApartLaws.{common-left, near_same, whole_same}
use Rattle.board_equality.proofs.EqualityMeaning.{all_self, call_self, deal_self}
use Rattle.board_equality.specs.Parts.{call_in_bytes, calls_in_bytes, same_dealt, same_text, same_texts, same_play, most_checks, most_checked, unlike_but}

-- One part, and those after it: a part that differs decides, one that is the same leaves it to the others

module _ (t u : Bool) where
  pub and_stop : (r : Bool) → r ≡ t → not r ≡ true → false ≡ (t && u)
  and_stop true e h = absurd (false≢true h)
  and_stop false e h = rw (← e) refl

  pub and_pass : (x r : Bool) → r ≡ t → not r ≡ false → x ≡ u → x ≡ (t && u)
  and_pass x true e h k = rw (← e) k
  and_pass x false e h k = absurd (false≢true (sym h))

-- Lists that are not as long differ

all-length : {A : Type 0} (f : A → A → Bool) (x y : List A) → (length x ≡ length y → ⊥) → false ≡ eq_all f x y
unfolding eq_all
all-length f [] [] h = absurd (h refl)
all-length f [] (b ∷ y) h = refl
all-length f (a ∷ x) [] h = refl
all-length f (a ∷ x) (b ∷ y) h = sym (ap (λ (t : Bool). f a b && t) (sym (all-length f x y (λ e. h (omega arith)))) ∙ and-false (f a b))

-- Two lists taken at once, the pairs of which pass a test

pub each-pair : {A B C : Type 0} (e : C → C → Bool) (f : A → C) (g : B → C) (x : List A) (y : List B) → length x ≡ length y
    → list_all (λ p. e (f p.0) (g p.1)) (zip x y) ≡ eq_all e (map f x) (map g y)
unfolding eq_all
each-pair e f g [] [] l = refl
each-pair e f g [] (b ∷ y) l = absurd (let z : ⊥ = omega arith in z)
each-pair e f g (a ∷ x) [] l = absurd (let z : ⊥ = omega arith in z)
each-pair e f g (a ∷ x) (b ∷ y) l = ap (λ (t : Bool). e (f a) (g b) && t) (each-pair e f g x y (omega arith))

-- words that the library finds to be the same
pub words-same : (a b : List ℕ) (r : Bool) → r ≡ pointwise eqb a b → r ≡ true → a ≡ b
words-same a b r e h = (slice_eq-Decides Decides-eqb a b r e).0 h

-- two deals with the same counts are the same
pub same-counts : (d e : List ℕ) → d ≡ e → true ≡ same_deal d e
same-counts d e h = sym (ap (λ (x : List ℕ). same_deal d x) (sym h) ∙ deal_self d)

-- Hands, card by card

pub held-pairs : (x y : List ℕ) → length x ≡ length y → list_all (λ p. eqb p.0 0 || not (eqb p.1 0)) (zip x y) ≡ held_in x y
unfolding held_in
held-pairs [] [] l = refl
held-pairs [] (n ∷ y) l = absurd (let z : ⊥ = omega arith in z)
held-pairs (m ∷ x) [] l = absurd (let z : ⊥ = omega arith in z)
held-pairs (m ∷ x) (n ∷ y) l = ap (λ (t : Bool). (eqb m 0 || not (eqb n 0)) && t) (held-pairs x y (omega arith))

-- One place in two texts

-- among the first bytes that the texts have in common
pub near-span : (s t : List ℕ) (n : ℕ) → n ≤ common s t → (x y : Span) → ((eqb x.start y.start && eqb x.len y.len) && leb (end_of x) n) ≡ true
    → true ≡ eq_list (bytes_at s x) (bytes_at t y)
near-span s t n h x y e =
    let p = and_left (eqb x.start y.start && eqb x.len y.len) (leb (end_of x) n) e in
    let k = leb-true (end_of x) n (and_right (eqb x.start y.start && eqb x.len y.len) (leb (end_of x) n) e) in
    let a = eqb-true x.start y.start (and_left (eqb x.start y.start) (eqb x.len y.len) p) in
    let b = eqb-true x.len y.len (and_right (eqb x.start y.start) (eqb x.len y.len) p) in
    near_same s t x.start x.len (omega arith) ∙ rw (a, b) refl

-- texts of which the first is no longer than what they have in common, and that are as long, are the same
pub whole_alike : (s t : List ℕ) (n : ℕ) → n ≤ common s t → length s ≤ n → length s ≡ length t → s ≡ t
whole_alike s t n h k l = let w = common-left s t in eq_list_lem s t (sym (whole_same s t l (common s t) (omega arith)) ∙ eq-eqb (common s t) (length s) (omega arith))

-- Calls, row by row

calls-length : (s ws : List ℕ) → length (calls_in_bytes s ws) ≡ length (call_rows ws)
calls-length s ws = length-map (map call_in (call_rows ws)) (map_call (bytes_at s)) ∙ length-map (call_rows ws) call_in

calls-chunks : (s ws : List ℕ) (xs : List (List ℕ)) → xs ≡ first_chunks 6 (length ws / 6) ws → calls_in_bytes s ws ≡ map (λ x. call_in_bytes s (call_of x)) xs
calls-chunks s ws xs e = ap (λ (cs : List Call). map (map_call (bytes_at s)) (map call_in cs)) (rows-chunks call_row ws ∙ ap (map call_of) (sym e)) ∙ go xs
  where
    go : (xs : List (List ℕ)) → map (map_call (bytes_at s)) (map call_in (map call_of xs)) ≡ map (λ x. call_in_bytes s (call_of x)) xs
    go [] = refl
    go (x ∷ xs) = ap (λ (cs : List (CallOf (List ℕ))). call_in_bytes s (call_of x) ∷ cs) (go xs)

module _ (s ws t us : List ℕ) where
  pub rows_differ : (length ws / 6 ≡ length us / 6 → ⊥) → false ≡ eq_all eq_call (calls_in_bytes s ws) (calls_in_bytes t us)
  rows_differ h = all-length eq_call (calls_in_bytes s ws) (calls_in_bytes t us) (λ e. h (sym (calls-length s ws ∙ rows-count ws) ∙ e ∙ (calls-length t us ∙ rows-count us)))

  -- the chunks of both, taken at once
  pub rows-pairs : (xs ys : List (List ℕ)) → xs ≡ first_chunks 6 (length ws / 6) ws → ys ≡ first_chunks 6 (length us / 6) us → length xs ≡ length ys
      → list_all (λ p. eq_call (call_in_bytes s (call_of p.0)) (call_in_bytes t (call_of p.1))) (zip xs ys) ≡ eq_all eq_call (calls_in_bytes s ws) (calls_in_bytes t us)
  rows-pairs xs ys ex ey l =
      each-pair eq_call (λ x. call_in_bytes s (call_of x)) (λ y. call_in_bytes t (call_of y)) xs ys l
      ∙ rw (calls-chunks s ws xs ex, calls-chunks t us ys ey) refl

-- those of the same rows over the same text are the same
pub calls-copied : (s ws t us : List ℕ) → s ≡ t → ws ≡ us → true ≡ eq_all eq_call (calls_in_bytes s ws) (calls_in_bytes t us)
calls-copied s ws t us h e =
    sym (ap (λ (x : List ℕ). eq_all eq_call (calls_in_bytes s ws) (calls_in_bytes x us)) (sym h)
    ∙ ap (λ (x : List ℕ). eq_all eq_call (calls_in_bytes s ws) (calls_in_bytes s x)) (sym e)
    ∙ all_self eq_call call_self (calls_in_bytes s ws))

-- The whole: its parts in order

module _ (s : List ℕ) (b : Board) (ws cs t : List ℕ) (c : Board) (us ds : List ℕ) where
  equal_is : equal (meaning (lent s b ws cs)) (meaning (lent t c us ds))
      ≡ (eq_all eq_list (map (bytes_at s) b.names) (map (bytes_at t) c.names)
      && (same_dealt b c && (same_texts s b t c && (eq_all eq_call (calls_in_bytes s ws) (calls_in_bytes t us) && same_play cs b ds c))))
  unfolding equal meaning map_board lent_board
  equal_is = simp and_assoc

  module _ (i : Bool) (ei : i ≡ eq_all eq_list (map (bytes_at s) b.names) (map (bytes_at t) c.names)) where
    pub unlike_names : not i ≡ true → false ≡ equal (meaning (lent s b ws cs)) (meaning (lent t c us ds))
    unlike_names h = and_stop _ _ i ei h ∙ sym equal_is

    module _ (hi : not i ≡ false) (j : Bool) (ej : j ≡ same_dealt b c) where
      pub unlike_dealt : not j ≡ true → false ≡ equal (meaning (lent s b ws cs)) (meaning (lent t c us ds))
      unlike_dealt h = and_pass _ _ _ i ei hi (and_stop _ _ j ej h) ∙ sym equal_is

      module _ (hj : not j ≡ false) (k : Bool) (ek : k ≡ same_texts s b t c) where
        pub unlike_texts : not k ≡ true → false ≡ equal (meaning (lent s b ws cs)) (meaning (lent t c us ds))
        unlike_texts h = and_pass _ _ _ i ei hi (and_pass _ _ _ j ej hj (and_stop _ _ k ek h)) ∙ sym equal_is

        module _ (hk : not k ≡ false) (l : Bool) (el : l ≡ eq_all eq_call (calls_in_bytes s ws) (calls_in_bytes t us)) where
          pub unlike_calls : not l ≡ true → false ≡ equal (meaning (lent s b ws cs)) (meaning (lent t c us ds))
          unlike_calls h = and_pass _ _ _ i ei hi (and_pass _ _ _ j ej hj (and_pass _ _ _ k ek hk (and_stop _ _ l el h))) ∙ sym equal_is

          pub like-calls : not l ≡ false → (r : Bool) → r ≡ same_play cs b ds c → r ≡ equal (meaning (lent s b ws cs)) (meaning (lent t c us ds))
          like-calls h r e = and_pass _ _ _ i ei hi (and_pass _ _ _ j ej hj (and_pass _ _ _ k ek hk (and_pass _ _ _ l el h e))) ∙ sym equal_is

-- The checks, by the tests that led there: 5 meets both boards or neither

most_of : (t a b c d : Bool) → (a ≡ false → c ≡ d)
    → ◌≡◌ {A = Answer Unit} (unless (refuse_if t OutOfRange ∷ refuse_if a SpanPastEnd ∷ refuse_if b SpanPastEnd ∷ refuse_if c SpanNotUtf8 ∷ []) tt)
    (unless (refuse_if t OutOfRange ∷ refuse_if (a || b) SpanPastEnd ∷ refuse_if d SpanNotUtf8 ∷ []) tt)
unfolding unless
most_of true a b c d h = refl
most_of false true b c d h = refl
most_of false false true c d h = refl
most_of false false false c d h = rw (h refl) refl

module _ (other : Bool) (x y : Lent) where
  pub most_long : limit < length x.text → Err TextTooLong ≡ most_checked other x y
  unfolding unless most_checks
  most_long h = simp (lt-ltb limit (length x.text) h)

  module _ (h : length x.text ≤ limit) where
    pub most_long_2 : limit < length y.text → Err TextTooLong ≡ most_checked other x y
    unfolding unless most_checks
    most_long_2 k = simp (le-ltb limit (length x.text) h, lt-ltb limit (length y.text) k)

    module _ (k : length y.text ≤ limit) where
      pub most_other : other ≡ true → Err OutOfRange ≡ most_checked other x y
      unfolding unless most_checks
      most_other o = simp (le-ltb limit (length x.text) h, le-ltb limit (length y.text) k, o)

      module _ (o : other ≡ false) (p q : Bounds) (f : Bounded x p) (g : Bounded y q) where
        most_found : most_checked other x y
            ≡ unless (refuse_if (p.number || q.number) OutOfRange ∷ refuse_if (p.past || q.past) SpanPastEnd ∷ refuse_if (any (amiss x.text) (lent_spans x)) SpanNotUtf8 ∷ []) tt
        unfolding unless most_checks
        most_found =
            simp (le-ltb limit (length x.text) h, le-ltb limit (length y.text) k, o, ← f.numbers, ← g.numbers, ← f.ends, ← g.ends)
            (most_of (p.number || q.number) p.past q.past _ _ (λ e. texts-ill x p f e _ refl))

        pub most_number : (p.number || q.number) ≡ true → Err OutOfRange ≡ most_checked other x y
        unfolding unless
        most_number e = sym (most_found ∙ simp e)

        module _ (e : (p.number || q.number) ≡ false) where
          pub most_past : (p.past || q.past) ≡ true → Err SpanPastEnd ≡ most_checked other x y
          unfolding unless
          most_past i = sym (most_found ∙ simp (e, i))

          module _ (i : (p.past || q.past) ≡ false) (t : Bool) (et : t ≡ any (amiss x.text) (lent_spans x)) where
            pub most_ill : t ≡ true → Err SpanNotUtf8 ≡ most_checked other x y
            unfolding unless
            most_ill j = sym (most_found ∙ simp (e, i, ← et, j))

            pub most_good : t ≡ false → Ok tt ≡ most_checked other x y
            unfolding unless
            most_good j = sym (most_found ∙ simp (e, i, ← et, j))

-- what they have shown where none meets the call
most_passed : {A : Type 0} (other : Bool) (x y : Lent) (a b : A) → unless (most_checks other x y) a ≡ Ok b
    → (any (passes_end y.text) (lent_spans y) ≡ false) × (any (ill_span x.text) (lent_spans x) ≡ false)
unfolding most_checks
most_passed other x y a b h =
    let p = unmet (ltb limit (length x.text)) _ _ _ _ h in
    let q = unmet (ltb limit (length y.text)) _ _ _ _ p.1 in
    let r = unmet (other || (bad_number x || bad_number y)) _ _ _ _ q.1 in
    let u = unmet (any (passes_end x.text) (lent_spans x)) _ _ _ _ r.1 in
    let v = unmet _ _ _ _ _ u.1 in
    let w = unmet _ _ _ _ _ v.1 in
    (v.0, w.0)

module _ (other : Bool) (x y : Lent) (e : most_checked other x y ≡ Ok tt) where
  -- what is left then is 6 of the second board, and the comparison
  same_left : same_boards other x y ≡ unless (span_not_utf8 y.text (lent_spans y) ∷ []) (equal (meaning x) (meaning y))
  unfolding same_boards most_checks
  same_left = unless-passed (most_checks other x y) (span_not_utf8 y.text (lent_spans y) ∷ []) tt tt (equal (meaning x) (meaning y)) e

  pub same-equal : (t : Bool) → t ≡ equal (meaning x) (meaning y) → t ≡ true → any (ill_span x.text) (lent_spans x) ≡ any (ill_span y.text) (lent_spans y)
      → Ok true ≡ same_boards other x y
  unfolding unless
  same-equal t g k h = sym (same_left ∙ simp (← h, (most_passed other x y tt tt e).1, ← g, k))

  pub same_unlike : (t : Bool) → t ≡ equal (meaning x) (meaning y) → t ≡ false → unlike_but y ≡ same_boards other x y
  unfolding unless
  same_unlike t g k = sym (same_left ∙ simp (← g, k, amiss-ill y.text (lent_spans y) (most_passed other x y tt tt e).0) (go (any (ill_span y.text) (lent_spans y))))
    where
      go : (u : Bool) → ◌≡◌ {A = Answer Bool} (unless (refuse_if u SpanNotUtf8 ∷ []) false) (pick u (Err SpanNotUtf8) (Ok false))
      go true = refl
      go false = refl

-- The answer of a call that a check meets

pub same-refused : (other : Bool) (x y : Lent) (v : Result Unit Refusal) → v ≡ most_checked other x y → (r : Refusal) → v ≡ Err r → Err r ≡ same_boards other x y
unfolding same_boards most_checks
same-refused other x y v e r f = sym (unless-refused (most_checks other x y) (span_not_utf8 y.text (lent_spans y) ∷ []) tt (equal (meaning x) (meaning y)) r (sym e ∙ f))

pub most_accepted : (other : Bool) (x y : Lent) (v : Result Unit Refusal) → v ≡ most_checked other x y → v ≡ (Ok tt) → most_checked other x y ≡ Ok tt
most_accepted other x y v e f = sym e ∙ f

-- Texts of boards that are equal: what is UTF-8 in one is in the other

module _ (s t : List ℕ) where
  span-ill : (x y : Span) → eq_list (bytes_at s x) (bytes_at t y) ≡ true → ill_span s x ≡ ill_span t y
  span-ill x y h = ap (λ (z : List ℕ). not (utf8 z)) (eq_list_lem (bytes_at s x) (bytes_at t y) h)

  option_ill : (x y : Option Span) → eq_option eq_list (map_option (bytes_at s) x) (map_option (bytes_at t) y) ≡ true → any (ill_span s) (span_in x) ≡ any (ill_span t) (span_in y)
  unfolding any
  option_ill None None h = refl
  option_ill None (Some y) h = absurd (false≢true h)
  option_ill (Some x) None h = absurd (false≢true h)
  option_ill (Some x) (Some y) h = rw (span-ill x y h) refl

  names-ill : (x y : List Span) → eq_all eq_list (map (bytes_at s) x) (map (bytes_at t) y) ≡ true → any (ill_span s) x ≡ any (ill_span t) y
  unfolding any eq_all
  names-ill [] [] h = refl
  names-ill [] (b ∷ y) h = absurd (false≢true h)
  names-ill (a ∷ x) [] h = absurd (false≢true h)
  names-ill (a ∷ x) (b ∷ y) h =
      let p = and_left (eq_list (bytes_at s a) (bytes_at t b)) (eq_all eq_list (map (bytes_at s) x) (map (bytes_at t) y)) h in
      let q = and_right (eq_list (bytes_at s a) (bytes_at t b)) (eq_all eq_list (map (bytes_at s) x) (map (bytes_at t) y)) h in
      rw (span-ill a b p, names-ill x y q) refl

  call-ill : (c d : Call) → eq_call (call_in_bytes s c) (call_in_bytes t d) ≡ true → any (ill_span s) (spans_of_call c) ≡ any (ill_span t) (spans_of_call d)
  unfolding any eq_call
  call-ill c d h =
      let p = and_left (eq_list (bytes_at s c.bid) (bytes_at t d.bid)) _ h in
      let q = and_right (eq_flag (call_in c).alerted (call_in d).alerted) _ (and_right (eq_list (bytes_at s c.bid) (bytes_at t d.bid)) _ h) in
      rw (span-ill c.bid d.bid p, option_ill (call_in c).annotation (call_in d).annotation q) refl

  calls-ill : (x y : List Call) → eq_all eq_call (map (map_call (bytes_at s)) (map call_in x)) (map (map_call (bytes_at t)) (map call_in y)) ≡ true
      → any (λ c. any (ill_span s) (spans_of_call c)) x ≡ any (λ c. any (ill_span t) (spans_of_call c)) y
  unfolding any eq_all
  calls-ill [] [] h = refl
  calls-ill [] (b ∷ y) h = absurd (false≢true h)
  calls-ill (a ∷ x) [] h = absurd (false≢true h)
  calls-ill (a ∷ x) (b ∷ y) h =
      let p = and_left (eq_call (call_in_bytes s a) (call_in_bytes t b)) _ h in
      let q = and_right (eq_call (call_in_bytes s a) (call_in_bytes t b)) _ h in
      rw (call-ill a b p, calls-ill x y q) refl

module _ (s : List ℕ) (h : Head) (ds ws cs t : List ℕ) (k : Head) (es us fs : List ℕ) where
  pub equal-ill : equal (meaning (lent s (board_of h ds) ws cs)) (meaning (lent t (board_of k es) us fs)) ≡ true
      → any (ill_span s) (lent_spans (lent s (board_of h ds) ws cs)) ≡ any (ill_span t) (lent_spans (lent t (board_of k es) us fs))
  equal-ill e =
      let names = eq_all eq_list (map (bytes_at s) h.names) (map (bytes_at t) k.names) in
      let dealt = same_dealt (board_of h ds) (board_of k es) in
      let texts = same_texts s (board_of h ds) t (board_of k es) in
      let title = same_text s h.title t k.title in
      let room = same_text s h.room_board t k.room_board in
      let calls = eq_all eq_call (calls_in_bytes s ws) (calls_in_bytes t us) in
      let a = sym (equal_is s (board_of h ds) ws cs t (board_of k es) us fs) ∙ e in
      let b = and_right dealt _ (and_right names _ a) in
      let c = and_left texts _ b in
      let d = and_right title _ c in
      rw (
        spans-any (ill_span s) s h ds (call_rows ws) cs,
        spans-any (ill_span t) t k es (call_rows us) fs,
        head_any (ill_span s) h,
        head_any (ill_span t) k,
        names-ill s t h.names k.names (and_left names _ a),
        option_ill s t h.title k.title (and_left title _ c),
        option_ill s t h.room_board k.room_board (and_left room _ d),
        option_ill s t h.board_header k.board_header (and_right room _ d),
        calls-ill s t (call_rows ws) (call_rows us) (and_left calls _ (and_right texts _ b)),
      ) refl
