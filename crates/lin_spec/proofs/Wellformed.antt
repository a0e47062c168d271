-- What is written is UTF-8 if the texts are. (01: "UTF-8 (RFC 3629)"; Writer)
-- Assumes nothing.
use Rattle.std.specs.Prelude.{Option, None, Some}
use Prim.Native.Nat.{ℕ}
use native.Mathlib.Omega.{arith}
use mathlib.Core.Path.{◌≡◌, refl, ap, sym, ◌∙◌}
use mathlib.Core.Bool.{Bool, true, false, ◌&&◌, ◌||◌, not}
use mathlib.Core.List.{List, [], ◌∷◌, ◌++◌, map, append_assoc}
use lib.Dec.{eqb}
use borrow.Author.Tests.{eqb-true, not-false}
use Rattle.lin_spec.specs.Base.{All, join_by, concat, ascii, keep}
use Rattle.lin_spec.specs.Utf8.{utf8, utf, utf_step, first}
use Rattle.lin_spec.specs.Tokens.{pipe, Token, write}
use Rattle.lin_spec.specs.Tokens.TokenOf.{token}
use Rattle.lin_spec.specs.Board.{CallOf, BoardOf, Present, EachText}
use Rattle.lin_spec.specs.Writer.{clean, without, clean_name, or_empty, written}
use Rattle.lin_spec.proofs.Base.{picked, and_left, and_right}
use Rattle.lin_spec.proofs.Utf8.{utf8_append, Ascii, utf8-ascii, utf8-cut}
use Rattle.lin_spec.proofs.White.{Visible}
use Rattle.lin_spec.proofs.Reading.{ValueOf}
use Rattle.lin_spec.proofs.Clean.{Fit}
use Rattle.lin_spec.proofs.BoardTokens.{bid_text, board_tokens, written-tokens, CommandOf, body_commands, board_values}
use Rattle.lin_spec.proofs.Sound.{Valid, values_by}
use Rattle.lin_spec.proofs.RoundTrip.{Item, Good, form, forms}

abbrev pub Utf8 : List ℕ → Type 0
Utf8 s = utf8 s ≡ true

-- of two bytes of ASCII, either does what the other does
swap_ascii : (x : List ℕ) (b c : ℕ) (s t : List ℕ) → Ascii b → Ascii c → utf8 s ≡ utf8 t → utf8 (x ++ b ∷ s) ≡ utf8 (x ++ c ∷ t)
swap_ascii x b c s t h k e = utf8-cut x b s h ∙ ap (λ (u : Bool). utf8 x && u) e ∙ sym (utf8-cut x c t k)

pub around : (x : List ℕ) (b : ℕ) (y : List ℕ) → Ascii b → Utf8 x → Utf8 y → Utf8 (x ++ b ∷ y)
around x b y k g h = utf8-cut x b y k ∙ simp (g, h)

visible_ascii : (s : List ℕ) → All Visible s → All Ascii s
visible_ascii [] h = tt
visible_ascii (b ∷ s) h = (let l = h.0.1 in omega arith, visible_ascii s h.1)

pub visible_utf8 : (s : List ℕ) → All Visible s → Utf8 s
visible_utf8 s h = utf8-ascii s (visible_ascii s h)

line-ascii : (b : ℕ) → (eqb b 0x0D || eqb b 0x0A) ≡ true → Ascii b
line-ascii b e = go (eqb b 0x0D) refl e
  where
    go : (t : Bool) → eqb b 0x0D ≡ t → (t || eqb b 0x0A) ≡ true → Ascii b
    go true f g = let z = eqb-true b 0x0D f in omega arith
    go false f g = let z = eqb-true b 0x0A g in omega arith

module _ (p q : ℕ) (f : Fit p q) where
  -- cleaning changes nothing of it, after any bytes
  clean-utf8 : (s x : List ℕ) → utf8 (x ++ clean p q s) ≡ utf8 (x ++ s)
  unfolding clean
  clean-utf8 [] x = refl
  clean-utf8 (b ∷ s) x =
      let hp = f.p_high in
      let hq = f.q_high in
      picked (λ (c : ℕ). utf8 (x ++ c ∷ clean p q s) ≡ utf8 (x ++ b ∷ s)) (eqb b pipe)
      (λ e. swap_ascii x p b (clean p q s) s (omega arith) (let z = eqb-true b pipe e in omega arith) (clean-utf8 s [])) λ _.
      picked (λ (c : ℕ). utf8 (x ++ c ∷ clean p q s) ≡ utf8 (x ++ b ∷ s)) (eqb b 0x0D || eqb b 0x0A)
      (λ e. swap_ascii x q b (clean p q s) s (omega arith) (line-ascii b e) (clean-utf8 s []))
      (λ _. ap utf8 (sym (append_assoc x (b ∷ []) (clean p q s))) ∙ clean-utf8 s (x ++ b ∷ []) ∙ ap utf8 (append_assoc x (b ∷ []) s))

  pub utf8-clean : (s : List ℕ) → Utf8 s → Utf8 (clean p q s)
  utf8-clean s h = clean-utf8 s [] ∙ h

  -- nor does a byte of ASCII that is left out
  without-utf8 : (c : ℕ) → Ascii c → (s x : List ℕ) → Utf8 (x ++ s) → Utf8 (x ++ without c s)
  unfolding keep
  without-utf8 c k [] x h = h
  without-utf8 c k (b ∷ s) x h =
      picked (λ (t : List ℕ). Utf8 (x ++ t)) (not (eqb b c))
      (λ _. ap utf8 (sym (append_assoc x (b ∷ []) (without c s))) ∙ without-utf8 c k s (x ++ b ∷ []) (ap utf8 (append_assoc x (b ∷ []) s) ∙ h))
      (λ e.
      let g : (utf8 x && utf8 s) ≡ true = sym (utf8-cut x c s k) ∙ ap (λ (d : ℕ). utf8 (x ++ d ∷ s)) (sym (eqb-true b c (not-false _ e))) ∙ h in
      utf8_append x (without c s) (and_left (utf8 x) (utf8 s) g) (without-utf8 c k s [] (and_right (utf8 x) (utf8 s) g)))

  pub utf8_name : (s : List ℕ) → Utf8 s → Utf8 (clean_name p q s)
  utf8_name s h = without-utf8 0x2C (omega arith) (clean p q s) [] (utf8-clean s h)

  utf8-names : (ns : List (List ℕ)) → All Utf8 ns → Utf8 (join_by (ascii ",") (map (clean_name p q) ns))
  unfolding join_by
  utf8-names [] h = utf8-ascii [] tt
  utf8-names (n ∷ []) h = utf8_name n h.0
  utf8-names (n ∷ m ∷ ns) h = around (clean_name p q n) 0x2C _ (omega arith) (utf8_name n h.0) (utf8-names (m ∷ ns) h.1)

  utf8_option : (o : Option (List ℕ)) → Present Utf8 o → Present (λ (s : List ℕ). Utf8 (clean p q s)) o
  utf8_option None h = tt
  utf8_option (Some s) h = utf8-clean s h

  utf8-text : (o : Option (List ℕ)) → Present Utf8 o → Utf8 (clean p q (or_empty o))
  utf8-text None h = utf8-clean [] (utf8-ascii [] tt)
  utf8-text (Some s) h = utf8-clean s h

  utf8-calls : (cs : List (CallOf (List ℕ))) → All (λ (c : CallOf (List ℕ)). Utf8 c.bid × Present Utf8 c.annotation) cs
      → All (λ (c : CallOf (List ℕ)). Utf8 (bid_text p q c) × Present (λ (s : List ℕ). Utf8 (clean p q s)) c.annotation) cs
  utf8-calls [] h = tt
  utf8-calls (c ∷ cs) h = (
    (utf8_append (clean p q c.bid) _ (utf8-clean c.bid h.0.0) (picked Utf8 c.alerted (λ _. utf8-ascii (ascii "!") (omega arith, tt)) (λ _. utf8-ascii [] tt)), utf8_option c.annotation h.0.1),
    utf8-calls cs h.1,
  )

  utf8_values : (b : BoardOf (List ℕ)) → Valid b → EachText Utf8 b → All (ValueOf Utf8) (board_tokens p q [] b)
  utf8_values b v h =
      board_values p q Utf8 [] b
      (values_by p q Utf8 visible_utf8 b v (utf8-text b.title h.title) (utf8-names b.names h.names) (utf8-text b.room h.room) (utf8_option b.header h.header) (utf8-calls b.calls h.calls))

  utf8_commands : (b : BoardOf (List ℕ)) → All (CommandOf Utf8) (board_tokens p q [] b)
  unfolding board_tokens utf8 utf utf_step first
  utf8_commands b = (
    refl,
    (
      refl,
      (refl, body_commands p q Utf8 (record { rh = refl; ah = refl; md = refl; sv = refl; sa = refl; mb = refl; an = refl; g = refl; lf = refl; pc = refl; mc = refl }) b),
    ),
  )

write-utf8 : (ts : List Token) (tr : List ℕ) → All (CommandOf Utf8) ts → All (ValueOf Utf8) ts → Utf8 tr → Utf8 (write ts tr)
unfolding write
write-utf8 [] tr c v h = h
write-utf8 (token w x ∷ ts) tr c v h =
    around w pipe _ (omega arith) c.0 (around x pipe _ (omega arith) v.0 (write-utf8 ts tr c.1 v.1 h))

pub written-utf8 : (p q : ℕ) → Fit p q → (b : BoardOf (List ℕ)) → Valid b → EachText Utf8 b → Utf8 (written p q b)
written-utf8 p q f b v h =
    ap utf8 (written-tokens p q b)
    ∙ write-utf8 (board_tokens p q [] b) (ascii "\n") (utf8_commands p q f b) (utf8_values p q f b v h) (utf8-ascii (ascii "\n") (omega arith, tt))

-- and so are boards back to back
pub forms-utf8 : (is : List Item) → All Good is → All (λ (i : Item). EachText Utf8 i.board) is → Utf8 (forms is)
unfolding forms concat
forms-utf8 [] g h = utf8-ascii [] tt
forms-utf8 (i ∷ is) g h = utf8_append (form i) (forms is) (written-utf8 i.p i.q g.0.fit i.board g.0.valid h.0) (forms-utf8 is g.1 h.1)
