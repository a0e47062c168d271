-- Laws of a heading while it is read: what a token leaves of it. (01: Board)
-- Assumes nothing.
use Rattle.std.specs.Prelude.{Option, None, Some}
use Prim.Native.Nat.{ℕ, ◌+◌, ◌≤◌, ◌<◌}
use native.Mathlib.Omega.{arith}
use mathlib.Core.Path.{◌≡◌, refl, ap, sym, ◌∙◌}
use mathlib.Core.Bool.{Bool}
use mathlib.Core.List.{List, [], ◌∷◌}
use lib.ListN.{length, get_or}
use lib.Dec.{eqb}
use borrow.Author.Tests.{eq-eqb, ne_eqb}
use Rattle.lin_spec.specs.Base.{pick, null}
use Rattle.lin_spec.specs.Records.{end_of, bytes_at}
use Rattle.lin_spec.specs.White.{trim}
use Rattle.lin_spec.specs.Tokens.{TokenOf}
use Rattle.lin_spec.specs.Tokens.TokenOf.{token}
use Rattle.lin_spec.specs.Board.{over, on, on_names, on_vulnerability, on_title, on_room, on_header, on_claim}
use Rattle.lin_spec.specs.Cards.{read_card}
use Rattle.lin_spec.specs.Reading.{span_text, stream}
use Rattle.lin_spec.specs.declared.Span.{Span}
use Rattle.lin_spec.proofs.Base.{picked}
use Rattle.lin_spec.proofs.Records.{part_length}
use Rattle.document_commands.specs.Commands.{words, command_of}
use Rattle.document_commands.specs.Steps.{TokenAt}
use Rattle.board_fields.specs.Fields.{more}
use Rattle.board_loop.specs.Head.{fresh_head, Stepped, on_last, on_count, on_card, Leaves}
use Rattle.board_loop.specs.declared.heading.ReadHead.{ReadHead}
use Rattle.document_commands.proofs.CommandLaws.{code_is}

-- a value within the text is empty exactly where its length is 0
pub empty_is : (s : List ℕ) (v : Span) → end_of v ≤ length s → null (bytes_at s v) ≡ eqb v.len 0
empty_is s v h = go (bytes_at s v) (part_length s v.start v.len h)
  where
    go : (x : List ℕ) → length x ≡ v.len → null x ≡ eqb v.len 0
    go [] e = sym (eq-eqb v.len 0 (sym e))
    go (b ∷ x) e = sym (ne_eqb v.len 0 (λ k. omega arith))

-- one more, where there is a card
pub card-more : (o : Option ℕ) (r n x : ℕ) → Some r ≡ o → x ≡ n + 1 → x ≡ more o n
card-more o r n x e f = f ∙ ap (λ (y : Option ℕ). more y n) e

-- A token that changes one number of a heading, or nothing

module _ (s : List ℕ) (h : ReadHead) (k : ℕ) (v : Span) where
  pub stepped_none : 9 < k → Stepped s h k v h
  stepped_none l = record { names = rw (ne_eqb k 4 (λ e. omega arith)) refl; md = rw (ne_eqb k 3 (λ e. omega arith)) refl; vulnerability = rw (ne_eqb k 7 (λ e. omega arith)) refl; title = rw (ne_eqb k 6 (λ e. omega arith)) refl; room = rw (ne_eqb k 5 (λ e. omega arith)) refl; header = rw (ne_eqb k 8 (λ e. omega arith)) refl; claim = rw (ne_eqb k 9 (λ e. omega arith)) refl; calls = rw (ne_eqb k 1 (λ e. omega arith)) refl; cards = rw (ne_eqb k 0 (λ e. omega arith)) refl }

  pub stepped_card : k ≡ 0 → (n : ℕ) → n ≡ more (read_card (trim (bytes_at s v))) h.cards → Stepped s h k v (record { names = h.names; md = h.md; vulnerability = h.vulnerability; title = h.title; room = h.room; header = h.header; claim = h.claim; calls = h.calls; cards = n })
  stepped_card q n e = record { names = rw (ne_eqb k 4 (λ e. omega arith)) refl; md = rw (ne_eqb k 3 (λ e. omega arith)) refl; vulnerability = rw (ne_eqb k 7 (λ e. omega arith)) refl; title = rw (ne_eqb k 6 (λ e. omega arith)) refl; room = rw (ne_eqb k 5 (λ e. omega arith)) refl; header = rw (ne_eqb k 8 (λ e. omega arith)) refl; claim = rw (ne_eqb k 9 (λ e. omega arith)) refl; calls = rw (ne_eqb k 1 (λ e. omega arith)) refl; cards = rw (eq-eqb k 0 q) e }

  pub stepped_call : k ≡ 1 → (n : ℕ) → n ≡ h.calls + 1 → Stepped s h k v (record { names = h.names; md = h.md; vulnerability = h.vulnerability; title = h.title; room = h.room; header = h.header; claim = h.claim; calls = n; cards = h.cards })
  stepped_call q n e = record { names = rw (ne_eqb k 4 (λ e. omega arith)) refl; md = rw (ne_eqb k 3 (λ e. omega arith)) refl; vulnerability = rw (ne_eqb k 7 (λ e. omega arith)) refl; title = rw (ne_eqb k 6 (λ e. omega arith)) refl; room = rw (ne_eqb k 5 (λ e. omega arith)) refl; header = rw (ne_eqb k 8 (λ e. omega arith)) refl; claim = rw (ne_eqb k 9 (λ e. omega arith)) refl; calls = rw (eq-eqb k 1 q) e; cards = rw (ne_eqb k 0 (λ e. omega arith)) refl }

  pub stepped_note : k ≡ 2 → Stepped s h k v h
  stepped_note l = record { names = rw (ne_eqb k 4 (λ e. omega arith)) refl; md = rw (ne_eqb k 3 (λ e. omega arith)) refl; vulnerability = rw (ne_eqb k 7 (λ e. omega arith)) refl; title = rw (ne_eqb k 6 (λ e. omega arith)) refl; room = rw (ne_eqb k 5 (λ e. omega arith)) refl; header = rw (ne_eqb k 8 (λ e. omega arith)) refl; claim = rw (ne_eqb k 9 (λ e. omega arith)) refl; calls = rw (ne_eqb k 1 (λ e. omega arith)) refl; cards = rw (ne_eqb k 0 (λ e. omega arith)) refl }

-- one field: what the token leaves of it, with the test of the command's number in place of the command's own
pub field : {A : Type 0} (f : List ℕ → Span → A → A) (ts us : List (TokenOf Span)) (c : List ℕ) (v : Span) (b b₀ b' : A)
    → over f b (token c v ∷ us) ≡ over f b₀ ts → b' ≡ f c v b → over f b' us ≡ over f b₀ ts
unfolding over
field f ts us c v b b₀ b' h e = rw e h

by_code : {A : Type 0} (c : List ℕ) (i : ℕ) → i < 10 → (k : ℕ) → k ≡ command_of c → (x b : A) {b' : A} → b' ≡ pick (eqb k i) x b → b' ≡ on c (get_or words i []) x b
by_code c i h k e x b q = q ∙ ap (λ (t : Bool). pick t x b) (ap (λ (n : ℕ). eqb n i) e ∙ sym (code_is c i h))

module _ (s : List ℕ) (ts us : List (TokenOf Span)) (h h₀ : ReadHead) (c : List ℕ) (v : Span) (w : end_of v ≤ length s) (k : ℕ) (ek : k ≡ command_of c) (r : ReadHead) (p : Stepped s h k v r) where
  pub head_turn : Leaves s ts h h₀ (token c v ∷ us) → Leaves s ts r h₀ us
  head_turn l =
      record {
        names = field (on_names (span_text s)) ts us c v _ _ _ l.names (by_code c 4 (omega arith) k ek _ _ p.names);
        md = field (on_last s) ts us c v _ _ _ l.md (by_code c 3 (omega arith) k ek _ _ p.md);
        vulnerability = field (on_vulnerability (span_text s)) ts us c v _ _ _ l.vulnerability (by_code c 7 (omega arith) k ek _ _ p.vulnerability);
        title = field (on_title (span_text s)) ts us c v _ _ _ l.title (by_code c 6 (omega arith) k ek _ _ (rw (empty_is s v w) p.title));
        room = field (on_room (span_text s)) ts us c v _ _ _ l.room (by_code c 5 (omega arith) k ek _ _ (rw (empty_is s v w) p.room));
        header = field (on_header (span_text s)) ts us c v _ _ _ l.header (by_code c 8 (omega arith) k ek _ _ p.header);
        claim = field (on_claim (span_text s)) ts us c v _ _ _ l.claim (by_code c 9 (omega arith) k ek _ _ p.claim);
        calls = field on_count ts us c v _ _ _ l.calls (by_code c 1 (omega arith) k ek _ _ p.calls);
        cards = field (on_card s) ts us c v _ _ _ l.cards (by_code c 0 (omega arith) k ek _ _ p.cards);
      }

  pub calls_most : r.calls ≤ h.calls + 1
  calls_most = rw p.calls (picked (λ (n : ℕ). n ≤ h.calls + 1) (eqb k 1) (λ _. omega arith) (λ _. omega arith))

  pub cards_most : r.cards ≤ h.cards + 1
  cards_most = rw p.cards (picked (λ (n : ℕ). n ≤ h.cards + 1) (eqb k 0) (λ _. one (read_card (trim (bytes_at s v)))) (λ _. omega arith))
    where
      one : (o : Option ℕ) → more o h.cards ≤ h.cards + 1
      one None = omega arith
      one (Some c) = omega arith

-- The loop: the cursor at a place, and what the tokens from there on leave

pub record Reads (s : List ℕ) (at₀ : ℕ) (h : ReadHead) (at : ℕ) : Type 0 where
  pub within : at ≤ length s
  pub calls : h.calls ≤ at
  pub cards : h.cards ≤ at
  pub leaves : Leaves s (stream s at₀) h fresh_head (stream s at)

pub begins : (s : List ℕ) (at : ℕ) → at ≤ length s → Reads s at fresh_head at
begins s at h =
    record {
      within = h;
      calls = omega arith;
      cards = omega arith;
      leaves = record { names = refl; md = refl; vulnerability = refl; title = refl; room = refl; header = refl; claim = refl; calls = refl; cards = refl };
    }

pub ends : (s : List ℕ) (at₀ : ℕ) (h : ReadHead) (at : ℕ) → Reads s at₀ h at → stream s at ≡ [] → Leaves s (stream s at₀) h fresh_head []
ends s at₀ h at r e = rw e at r.leaves

pub turn : (s : List ℕ) (at₀ : ℕ) (h : ReadHead) (at : ℕ) → Reads s at₀ h at → (k : ℕ) (v : Span) (n : ℕ) → TokenAt s at k v n → (r : ReadHead) → Stepped s h k v r → Reads s at₀ r n
turn s at₀ h at i k v n t r p =
    let x = t.command in
    let l : Leaves s (stream s at₀) h fresh_head (token x v ∷ stream s n) = rw t.front at i.leaves in
    let a = calls_most s (stream s at₀) (stream s n) h fresh_head x v t.value k t.number r p in
    let b = cards_most s (stream s at₀) (stream s n) h fresh_head x v t.value k t.number r p in
    let q = t.later in
    let w = i.calls in
    let z = i.cards in
    record { within = t.within; calls = omega arith; cards = omega arith; leaves = head_turn s (stream s at₀) (stream s n) h fresh_head x v t.value k t.number r p l }
