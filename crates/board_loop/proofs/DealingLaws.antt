-- Laws of dealer and deal from the value of the last md that is accepted. (01: Board, md)
-- Assumes nothing.
use Rattle.std.specs.Prelude.{Option, None, Some}
use Prim.Native.Nat.{ℕ, suc, ◌-◌, ◌≤◌, ◌<◌, ◌^◌}
use native.Mathlib.Omega.{arith}
use mathlib.Core.Path.{◌≡◌, refl, ap, sym, ◌∙◌}
use mathlib.Core.Bool.{Bool, true, false, ◌||◌}
use mathlib.Core.List.{List, [], ◌∷◌}
use lib.ListN.{length, get_or, take, drop, replicate, length-take, length-drop}
use lib.Seq.{take_all}
use lib.Dec.{eqb}
use Rattle.lin_spec.specs.Base.{pick, ascii}
use Rattle.lin_spec.specs.Records.{part, bytes_at}
use Rattle.lin_spec.specs.White.{trim, is_command}
use Rattle.lin_spec.specs.Tokens.{cut, TokenOf}
use Rattle.lin_spec.specs.Cards.{deal_of}
use Rattle.lin_spec.specs.Board.{Dealt as DealtBy, dealer_of, dealt_by, undealt, read_md, over, on_dealt}
use Rattle.lin_spec.specs.Reading.{span_text}
use Rattle.lin_spec.specs.declared.Span.{Span}
use Rattle.lin_spec.specs.declared.Seat.{Seat}
use Rattle.lin_spec.specs.declared.Seat.TheVariants.{South, West, North, East}
use Rattle.lin_spec.proofs.White.{trim_most}
use Rattle.lin_spec.proofs.Rules.{over_change, md_skipped, md-whole}
use Rattle.board_fields.specs.Fields.{is_dealer, last_md}
use Rattle.board_loop.specs.Head.{on_last}
use Rattle.board_loop.specs.Dealing.{held, dealt_from}

-- an md value without a byte, without a dealer, and with one
pub md_empty : (s : List ℕ) (d : DealtBy) → length s ≡ 0 → d ≡ read_md s d
unfolding read_md
md_empty [] d h = refl
md_empty (b ∷ s) d h = absurd (let z : ⊥ = omega arith in z)

pub md-none : (s : List ℕ) (d : DealtBy) → (length s ≡ 0 → ⊥) → dealer_of (get_or s 0 0) ≡ None → d ≡ read_md s d
md-none [] d h e = absurd (h refl)
md-none (b ∷ s) d h e = sym (md_skipped b s d e)

pub md-given : (s : List ℕ) (d : DealtBy) (x : Seat) → (length s ≡ 0 → ⊥) → dealer_of (get_or s 0 0) ≡ Some x → (r : List ℕ) → r ≡ deal_of (cut 0x2C (take (length s - 1) (drop 1 s)))
    → held x r ≡ read_md s d
md-given [] d x h e r f = absurd (h refl)
md-given (b ∷ s) d x h e r f =
    let t : take (suc (length s) - 1) s ≡ s = take_all (suc (length s) - 1) s (omega arith) in
    rw f (simp t (sym (md-whole b s d x e)))

-- before the first md
pub none-dealt : (d : List ℕ) → d ≡ replicate 208 0 → held North d ≡ undealt
unfolding undealt
none-dealt d e = rw e refl

-- the value of an md, trimmed, is short
part-short : (s : List ℕ) (a n : ℕ) → length (part s a n) ≤ length s
unfolding part
part-short s a n = rw (length-take n (drop a s), length-drop a s) (omega arith)

pub short-value : (s : List ℕ) (v : Span) (x : List ℕ) {y : List ℕ} → length s < 2 ^ 32 → y ≡ trim x → x ≡ bytes_at s v → length y < 2 ^ 32
short-value s v x h e f = let a = ap length e in let b = ap length f in let t = trim_most x in let k = part-short s v.start v.len in omega arith

pub from-none : (s : List ℕ) (m : Option Span) → m ≡ None → undealt ≡ dealt_from s m
from-none s m e = rw e refl

-- an accepted md gives the same whatever was before; one that is not is skipped
is-dealer : (b : ℕ) (s : List ℕ) (d e : DealtBy) → pick (is_dealer (b ∷ s)) (read_md (b ∷ s) d) e ≡ read_md (b ∷ s) e
unfolding is_dealer read_md dealer_of
is-dealer b s d e = go (eqb b 0x31) (eqb b 0x32) (eqb b 0x33) (eqb b 0x34)
  where
    go : (p q r t : Bool) → pick (p || (q || (r || t))) (dealt_by (pick p (Some South) (pick q (Some West) (pick r (Some North) (pick t (Some East) None)))) s d) e
        ≡ dealt_by (pick p (Some South) (pick q (Some West) (pick r (Some North) (pick t (Some East) None)))) s e
    go true q r t = refl
    go false true r t = refl
    go false false true t = refl
    go false false false true = refl
    go false false false false = refl

last_reads : (s : List ℕ) (v : Span) (o : Option Span) → dealt_from s (last_md s v o) ≡ read_md (trim (bytes_at s v)) (dealt_from s o)
last_reads s v o = go (trim (bytes_at s v)) refl
  where
    through : (x : Bool) → dealt_from s (pick x (Some v) o) ≡ pick x (read_md (trim (bytes_at s v)) undealt) (dealt_from s o)
    through true = refl
    through false = refl

    go : (t : List ℕ) → trim (bytes_at s v) ≡ t → dealt_from s (pick (is_dealer (trim (bytes_at s v))) (Some v) o) ≡ read_md (trim (bytes_at s v)) (dealt_from s o)
    go [] e = unfold is_dealer read_md in simp e
    go (b ∷ t) e = through (is_dealer (trim (bytes_at s v))) ∙ rw e (is-dealer b t undealt (dealt_from s o))

-- dealer and deal of all tokens are those of the last md that is accepted
pub dealt-last : (s : List ℕ) (ts : List (TokenOf Span)) → dealt_from s (over (on_last s) None ts) ≡ over (on_dealt (span_text s)) undealt ts
dealt-last s ts = over_change (dealt_from s) (on_last s) (on_dealt (span_text s)) step ts None
  where
    step : (c : List ℕ) (v : Span) (o : Option Span) → dealt_from s (on_last s c v o) ≡ on_dealt (span_text s) c v (dealt_from s o)
    step c v o = go (is_command c (ascii "md"))
      where
        go : (t : Bool) → dealt_from s (pick t (last_md s v o) o) ≡ pick t (read_md (trim (bytes_at s v)) (dealt_from s o)) (dealt_from s o)
        go true = last_reads s v o
        go false = refl
