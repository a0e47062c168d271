-- A written board reads back as its tokens: no command or value holds a pipe; there is one md and one qx, before the qx stand mn and pn alone, and the
-- trailing text is one LF. And it is UTF-8 if its texts are. (01: Writer and settled form)
-- Assumes nothing.
use Rattle.std.specs.Prelude.{Option, Some, None}
use Prim.Native.Nat.{ℕ, ◌≤◌, ◌<◌}
use native.Mathlib.Omega.{arith}
use mathlib.Core.Path.{◌≡◌, refl, sym, subst, ◌∙◌}
use mathlib.Core.Bool.{Bool, true, ◌&&◌}
use mathlib.Core.List.{List, [], ◌∷◌, ◌++◌, map}
use lib.ListN.{length}
use lib.Dec.{leb}
use borrow.Author.Tests.{leb-true}
use Rattle.lin_spec.specs.Base.{All, join_by, ascii, all, keep}
use Rattle.lin_spec.specs.Tokens.{pipe, count, Token, NoPipes}
use Rattle.lin_spec.specs.Tokens.TokenOf.{token}
use Rattle.lin_spec.specs.Decimal.{decimal}
use Rattle.lin_spec.specs.Letters.{sv_letter}
use Rattle.lin_spec.specs.Board.{CallOf, BoardOf, Present, all_digits, is_digit}
use Rattle.lin_spec.specs.Writer.{clean, clean_name, or_empty, card_letters, md_text, written}
use Rattle.lin_spec.specs.declared.Vulnerability.{Vulnerability}
use Rattle.lin_spec.specs.declared.Vulnerability.TheVariants.{NorthSouth, EastWest, Both}
use Rattle.lin_spec.proofs.Base.{picked, and_left, and_right, all_below, below}
use Rattle.lin_spec.proofs.White.{Visible}
use Rattle.lin_spec.proofs.Tokens.{count-append, ReadsBack, read-written}
use Rattle.lin_spec.proofs.Decimal.{decimal_digits}
use Rattle.lin_spec.proofs.Reading.{ValueOf}
use Rattle.lin_spec.proofs.Deals.{md_visible}
use Rattle.lin_spec.proofs.Clean.{Fit, lack, free_clean, free_name, free_pipe}
use Rattle.lin_spec.proofs.BoardTokens.{bid_text, names_text, board_tokens, written-tokens, CommandOf, body_commands, Values, board_values}

-- what the types of a board say, and that its cards are cards
pub record Valid (b : BoardOf (List ℕ)) : Type 0 where
  pub names : length b.names ≡ 4
  pub deal : length b.dealt.deal ≡ 208
  pub cards : All (λ (c : ℕ). c < 52) b.play
  pub claim : Present (λ (n : ℕ). n ≤ 255) b.claim

-- Values of visible bytes

visible : List ℕ → Bool
visible [] = true
visible (b ∷ s) = leb 33 b && (leb b 122 && visible s)

by_visible : (s : List ℕ) → visible s ≡ true → All Visible s
unfolding visible
by_visible [] h = tt
by_visible (b ∷ s) h =
    let k = and_right (leb 33 b) _ h in
    ((leb-true 33 b (and_left (leb 33 b) _ h), leb-true b 122 (and_left (leb b 122) _ k)), by_visible s (and_right (leb b 122) _ k))

pub card_visible : (c : ℕ) → c < 52 → All Visible (card_letters c)
unfolding visible all_below
card_visible c h = by_visible (card_letters c) (below (λ n. visible (card_letters n)) 52 refl c h)

digits_visible : (s : List ℕ) → all_digits s ≡ true → All Visible s
unfolding all
digits_visible [] h = tt
digits_visible (b ∷ s) h =
    let k = and_left (is_digit b) _ h in
    let l = leb-true 0x30 b (and_left (leb 0x30 b) _ k) in
    let m = leb-true b 0x39 (and_right (leb 0x30 b) _ k) in
    ((omega arith, omega arith), digits_visible s (and_right (is_digit b) _ h))

pub decimal_visible : (n : ℕ) → All Visible (decimal n)
decimal_visible n = digits_visible (decimal n) (decimal_digits n)

pub sv_visible : (v : Vulnerability) → All Visible (sv_letter v ∷ [])
sv_visible Vulnerability.None = ((omega arith, omega arith), tt)
sv_visible NorthSouth = ((omega arith, omega arith), tt)
sv_visible EastWest = ((omega arith, omega arith), tt)
sv_visible Both = ((omega arith, omega arith), tt)

-- what holds of visible bytes and of the texts holds of every value
module _ (p q : ℕ) (P : List ℕ → Type 0) (seen : (s : List ℕ) → All Visible s → P s) where
  pub values_by : (b : BoardOf (List ℕ)) → Valid b → P (clean p q (or_empty b.title)) → P (names_text p q b) → P (clean p q (or_empty b.room))
      → Present (λ (s : List ℕ). P (clean p q s)) b.header
      → All (λ (c : CallOf (List ℕ)). P (bid_text p q c) × Present (λ (s : List ℕ). P (clean p q s)) c.annotation) b.calls
      → Values p q P b
  values_by b v title names room header calls =
      record {
        nil = seen [] tt;
        zero = seen (ascii "0") ((omega arith, omega arith), tt);
        title = title;
        names = names;
        room = room;
        header = header;
        md = seen (md_text b.dealt) (md_visible b.dealt);
        sv = seen (sv_letter b.vulnerability ∷ []) (sv_visible b.vulnerability);
        calls = calls;
        cards = all-cards b.play v.cards;
        claim = claimed b.claim;
      }
    where
      all-cards : (cs : List ℕ) → All (λ (c : ℕ). c < 52) cs → All (λ (c : ℕ). P (card_letters c)) cs
      all-cards [] h = tt
      all-cards (c ∷ cs) h = (seen (card_letters c) (card_visible c h.0), all-cards cs h.1)

      claimed : (o : Option ℕ) → Present (λ (n : ℕ). P (decimal n)) o
      claimed None = tt
      claimed (Some n) = seen (decimal n) (decimal_visible n)

-- No pipe

abbrev Pipeless : List ℕ → Type 0
Pipeless s = count pipe s ≡ 0

pipeless_append : (x y : List ℕ) → Pipeless x → Pipeless y → Pipeless (x ++ y)
pipeless_append x y h k = count-append pipe x y ∙ omega arith

pipeless_join : (xs : List (List ℕ)) → All Pipeless xs → Pipeless (join_by (ascii ",") xs)
unfolding join_by keep
pipeless_join [] h = refl
pipeless_join (x ∷ []) h = h.0
pipeless_join (x ∷ y ∷ r) h = pipeless_append x _ h.0 (pipeless_join (y ∷ r) h.1)

module _ (p q : ℕ) (f : Fit p q) where
  pipeless_clean : (s : List ℕ) → Pipeless (clean p q s)
  pipeless_clean s = free_pipe (clean p q s) (free_clean p q f s)

  pipeless_names : (ns : List (List ℕ)) → All Pipeless (map (clean_name p q) ns)
  pipeless_names [] = tt
  pipeless_names (n ∷ ns) = (free_pipe (clean_name p q n) (free_name p q f n), pipeless_names ns)

  pipeless_option : (o : Option (List ℕ)) → Present (λ (s : List ℕ). Pipeless (clean p q s)) o
  pipeless_option None = tt
  pipeless_option (Some s) = pipeless_clean s

  pipeless_calls : (cs : List (CallOf (List ℕ))) → All (λ (c : CallOf (List ℕ)). Pipeless (bid_text p q c) × Present (λ (s : List ℕ). Pipeless (clean p q s)) c.annotation) cs
  unfolding keep
  pipeless_calls [] = tt
  pipeless_calls (c ∷ cs) = (
    (pipeless_append (clean p q c.bid) _ (pipeless_clean c.bid) (picked Pipeless c.alerted (λ _. refl) (λ _. refl)), pipeless_option c.annotation),
    pipeless_calls cs,
  )

  pipeless_values : (lead : List ℕ) (b : BoardOf (List ℕ)) → Valid b → All (ValueOf Pipeless) (board_tokens p q lead b)
  pipeless_values lead b v =
      board_values p q Pipeless lead b
      (values_by p q Pipeless (λ s h. lack Visible pipe (λ k. (let l = k.1 in omega arith)) s h) b v (pipeless_clean (or_empty b.title))
      (pipeless_join (map (clean_name p q) b.names) (pipeless_names b.names)) (pipeless_clean (or_empty b.room)) (pipeless_option b.header) (pipeless_calls b.calls))

  pipeless_commands : (lead : List ℕ) (b : BoardOf (List ℕ)) → Pipeless lead → All (CommandOf Pipeless) (board_tokens p q lead b)
  unfolding board_tokens keep
  pipeless_commands lead b l = (
    pipeless_append lead (ascii "mn") l refl,
    (
      refl,
      (
        refl,
        body_commands p q Pipeless (record { rh = refl; ah = refl; md = refl; sv = refl; sa = refl; mb = refl; an = refl; g = refl; lf = refl; pc = refl; mc = refl }) b,
      ),
    ),
  )

  no_pipes_by : (ts : List Token) → All (CommandOf Pipeless) ts → All (ValueOf Pipeless) ts → NoPipes ts
  unfolding NoPipes
  no_pipes_by [] c v = tt
  no_pipes_by (token w x ∷ ts) c v = (c.0, v.0, no_pipes_by ts c.1 v.1)

  pub no_pipes : (lead : List ℕ) (b : BoardOf (List ℕ)) → Pipeless lead → Valid b → NoPipes (board_tokens p q lead b)
  no_pipes lead b l v = no_pipes_by (board_tokens p q lead b) (pipeless_commands lead b l) (pipeless_values lead b v)

  -- so these are its tokens, and its trailing text is one LF
  pub written_reads : (b : BoardOf (List ℕ)) → Valid b → ReadsBack (board_tokens p q [] b) (ascii "\n") (written p q b)
  unfolding keep
  written_reads b v =
      subst (ReadsBack (board_tokens p q [] b) (ascii "\n")) (sym (written-tokens p q b))
      (read-written (board_tokens p q [] b) (ascii "\n") (record { none = no_pipes [] b refl v; few = omega arith }))
