-- The written form of a lent board as the pieces that are put, and its length. (01: Writer)
-- Assumes nothing.
use Rattle.std.specs.Prelude.{Option, Some}
use Prim.Native.Nat.{ℕ, ◌+◌}
use native.Mathlib.Omega.{arith}
use mathlib.Core.Path.{◌≡◌, ap, ◌∙◌}
use mathlib.Core.List.{List, map, append_assoc, append-nil}
use lib.ListN.{length, length-append}
use Rattle.lin_spec.specs.Decimal.{decimal}
use Rattle.lin_spec.specs.Refusals.{sat}
use Rattle.lin_spec.specs.Records.{bytes_at}
use Rattle.lin_spec.specs.Board.{map_call, map_board}
use Rattle.lin_spec.specs.Writer.{md_text, tricks_text, claim_text, calls_text, written}
use Rattle.lin_spec.specs.Lent.{Lent, call_in, lent, lent_board, meaning}
use Rattle.lin_spec.specs.Append.{written_form}
use Rattle.lin_spec.specs.declared.Board.{Board}
use Rattle.board_lent.specs.declared.heads.Head.{Head}
use Rattle.board_lent.specs.Heads.{head_of}
use Rattle.output.specs.Put.{joined}
use Rattle.output.proofs.Laws.{sat-sum}
use Rattle.writer_texts.specs.Texts.{empty_or, header_text, names_text}
use Rattle.writer_texts.specs.Calls.{calls_bytes}
use Rattle.writer_texts.specs.declared.texts.Marks.{Marks}
use Rattle.writer_texts.proofs.TextLaws.{clean-length}
use Rattle.writer.specs.Filing.{filing}
use Rattle.writer.specs.Pieces.{heading_text, dealing_text, claimed_text, front_text, back_text, board_pieces}

-- of any lent board, its calls given as a list
pub written-lent : (p q : ℕ) (x : Lent)
    → written_form (record { p = p; q = q; lent = x }) ≡ joined (board_pieces p q x.text x.board (calls_text p q (map (map_call (bytes_at x.text)) (map call_in x.calls))) x.cards)
unfolding written_form written meaning lent_board map_board names_text front_text back_text heading_text dealing_text
written-lent p q x = simp (append_assoc, append-nil)

-- and of one whose calls are words
pub written_is : (m : Marks) (s : List ℕ) (b : Board) (ws cs : List ℕ) → written_form (filing m s b ws cs) ≡ joined (board_pieces m.pipe m.line s b (calls_bytes m.pipe m.line s ws) cs)
unfolding calls_bytes
written_is m s b ws cs = written-lent m.pipe m.line (lent s b ws cs)

-- a claim that is made
pub claimed_is : (n : ℕ) → claim_text (Some n) ≡ claimed_text n
unfolding claimed_text
claimed_is n = simp append-nil

-- Lengths

pub heading-long : (p q : ℕ) (s : List ℕ) (h : Head)
    → length (heading_text p q s h) ≡ 16 + length (empty_or s h.title) + length (names_text p q s h.names) + length (empty_or s h.room_board) + length (header_text p q s h.board_header)
unfolding heading_text
heading-long p q s h = simp (length-append, clean-length, append-nil) (omega arith)

pub dealing_long : (b : Board) → length (dealing_text b) ≡ 15 + length (md_text (record { dealer = b.dealer; deal = b.deal.counts }))
unfolding dealing_text
dealing_long b = simp (length-append, append-nil) (omega arith)

pub claim-long : (x : Option ℕ) (n : ℕ) → x ≡ Some n → length (claim_text x) ≡ 9 + length (decimal n)
claim-long x n e = ap (λ (y : Option ℕ). length (claim_text y)) e ∙ simp length-append (omega arith)

pub front_long : (p q : ℕ) (s : List ℕ) (b : Board) → length (front_text p q s b) ≡ length (heading_text p q s (head_of b)) + length (dealing_text b)
unfolding front_text
front_long p q s b = simp (length-append, append-nil)

pub back_long : (c : Option ℕ) (cs : List ℕ) → length (back_text c cs) ≡ 5 + length (tricks_text cs) + length (claim_text c)
unfolding back_text
back_long c cs = simp (length-append, append-nil) (omega arith)

pub lent-long : (p q : ℕ) (x : Lent)
    → length (written_form (record { p = p; q = q; lent = x }))
    ≡ length (front_text p q x.text x.board) + length (back_text x.board.claim x.cards) + length (calls_text p q (map (map_call (bytes_at x.text)) (map call_in x.calls)))
lent-long p q x = ap length (written-lent p q x) ∙ simp (length-append, append-nil) (omega arith)

pub written-long : (m : Marks) (s : List ℕ) (b : Board) (ws cs : List ℕ)
    → length (written_form (filing m s b ws cs)) ≡ length (front_text m.pipe m.line s b) + length (back_text b.claim cs) + length (calls_bytes m.pipe m.line s ws)
unfolding calls_bytes
written-long m s b ws cs = lent-long m.pipe m.line (lent s b ws cs)

-- The sums that the lengths are added up by

-- a length that is exact, added to a sum
plus : (a b : ℕ) {n x r : ℕ} → n ≡ sat a → x ≡ b → r ≡ sat (n + x) → r ≡ sat (a + b)
plus a b e f g = omega arith

pub heading-sum : (a b d e : ℕ) {x y z w i j k r : ℕ} → x ≡ a → i ≡ sat (16 + x) → y ≡ sat b → j ≡ sat (i + y) → z ≡ d → k ≡ sat (j + z) → w ≡ sat e → r ≡ sat (k + w)
    → r ≡ sat (16 + a + b + d + e)
heading-sum a b d e x i y j z k w r =
    sat-sum (16 + a + b + d) e (plus (16 + a + b) d (sat-sum (16 + a) b (plus 16 a (omega arith) x i) y j) z k) w r
