-- The tokens of a written board. What stands before its first command is a parameter, since the LF after the board before it goes there. No command or
-- value holds a pipe, there is one md and one qx, before the qx stand mn and pn alone, and the trailing text is one LF. (01: Writer and settled form)
-- Assumes nothing.
use Rattle.std.specs.Prelude.{Option, None, Some}
use Prim.Native.Nat.{ℕ}
use mathlib.Core.Path.{◌≡◌, refl, ap, ◌∙◌}
use mathlib.Core.List.{List, [], ◌∷◌, ◌++◌, map, append_assoc}
use Rattle.lin_spec.specs.Base.{pick, All, concat, join_by, ascii}
use Rattle.lin_spec.specs.Tokens.{TokenOf, Token, write}
use Rattle.lin_spec.specs.Tokens.TokenOf.{token}
use Rattle.lin_spec.specs.Decimal.{decimal}
use Rattle.lin_spec.specs.Letters.{sv_letter}
use Rattle.lin_spec.specs.Board.{CallOf, BoardOf, map_option, Present}
use Rattle.lin_spec.specs.Writer.{clean, clean_name, or_empty, optional, call_text, calls_text, card_letters, card_text, tricks, trick_text, tricks_text, claim_text, md_text, written}
use Rattle.lin_spec.proofs.Base.{all_append}
use Rattle.lin_spec.proofs.Reading.{ValueOf}

abbrev pub pg : Token
pg = token (ascii "pg") []

module _ (p q : ℕ) where
  abbrev pub header_tokens : Option (List ℕ) → List Token
  header_tokens None = []
  header_tokens (Some s) = token (ascii "ah") (clean p q s) ∷ []

  abbrev pub note_tokens : Option (List ℕ) → List Token
  note_tokens None = []
  note_tokens (Some s) = token (ascii "an") (clean p q s) ∷ []

  abbrev pub bid_text : CallOf (List ℕ) → List ℕ
  bid_text c = clean p q c.bid ++ pick c.alerted (ascii "!") []

  unfoldable pub call_tokens : List (CallOf (List ℕ)) → List Token
  call_tokens [] = []
  call_tokens (c ∷ cs) = token (ascii "mb") (bid_text c) ∷ (note_tokens c.annotation ++ call_tokens cs)

-- the cards of a trick after its first, and the tricks; the LF before a trick goes to its first card
unfoldable pub card_tokens : List ℕ → List Token
card_tokens [] = pg ∷ []
card_tokens (c ∷ cs) = token (ascii "pc") (card_letters c) ∷ card_tokens cs

abbrev pub trick_tokens : List ℕ → List Token
trick_tokens [] = []
trick_tokens (c ∷ cs) = token (ascii "\npc") (card_letters c) ∷ card_tokens cs

unfoldable pub play_tokens : List (List ℕ) → List Token
play_tokens [] = []
play_tokens (t ∷ ts) = trick_tokens t ++ play_tokens ts

abbrev pub claim_tokens : Option ℕ → List Token
claim_tokens None = []
claim_tokens (Some n) = token (ascii "\nmc") (decimal n) ∷ pg ∷ []

module _ (p q : ℕ) where
  abbrev pub names_text : BoardOf (List ℕ) → List ℕ
  names_text b = join_by (ascii ",") (map (clean_name p q) b.names)

  -- what follows the qx
  unfoldable pub body_tokens : BoardOf (List ℕ) → List Token
  body_tokens b =
      token (ascii "rh") []
      ∷ (header_tokens p q b.header
      ++ token (ascii "md") (md_text b.dealt)
      ∷ token (ascii "sv") (sv_letter b.vulnerability ∷ [])
      ∷ token (ascii "\nsa") (ascii "0")
      ∷ (call_tokens p q b.calls ++ pg ∷ (play_tokens (tricks b.play) ++ claim_tokens b.claim)))

  unfoldable pub board_tokens : (lead : List ℕ) → BoardOf (List ℕ) → List Token
  board_tokens lead b =
      token (lead ++ ascii "mn") (clean p q (or_empty b.title))
      ∷ token (ascii "pn") (names_text b)
      ∷ token (ascii "qx") (clean p q (or_empty b.room))
      ∷ body_tokens b

-- The written form is these tokens and an LF

pub write-append : (ts us : List Token) (t : List ℕ) → write (ts ++ us) t ≡ write ts (write us t)
unfolding write
write-append [] us t = refl
write-append (token c v ∷ ts) us t = simp (write-append ts us t)

pub write-after : (ts : List Token) (s t : List ℕ) → write ts s ++ t ≡ write ts (s ++ t)
unfolding write
write-after [] s t = refl
write-after (token c v ∷ ts) s t = simp (append_assoc, write-after ts s t)

module _ (p q : ℕ) (t : List ℕ) where
  header-text : (o : Option (List ℕ)) → write (header_tokens p q o) t ≡ optional (ascii "ah|") (map_option (clean p q) o) ++ t
  unfolding write
  header-text None = refl
  header-text (Some s) = simp append_assoc

  note-text : (o : Option (List ℕ)) (t : List ℕ) → write (note_tokens p q o) t ≡ optional (ascii "an|") (map_option (clean p q) o) ++ t
  unfolding write
  note-text None t = refl
  note-text (Some s) t = simp append_assoc

  calls-text : (cs : List (CallOf (List ℕ))) → write (call_tokens p q cs) t ≡ calls_text p q cs ++ t
  unfolding write call_tokens concat call_text
  calls-text [] = refl
  calls-text (c ∷ cs) = simp (write-append, note-text, calls-text cs, append_assoc)

cards-text : (cs t : List ℕ) → write (card_tokens cs) (0x0A ∷ t) ≡ (concat (map card_text cs) ++ ascii "pg||\n") ++ t
unfolding write card_tokens concat
cards-text [] t = refl
cards-text (c ∷ cs) t = simp (cards-text cs t, append_assoc)

abbrev Some_card : List ℕ → Type 0
Some_card [] = ⊥
Some_card (c ∷ cs) = Unit

tricks-some : (cs : List ℕ) → All Some_card (tricks cs)
unfolding tricks
tricks-some [] = tt
tricks-some (a ∷ []) = (tt, tt)
tricks-some (a ∷ b ∷ []) = (tt, tt)
tricks-some (a ∷ b ∷ c ∷ []) = (tt, tt)
tricks-some (a ∷ b ∷ c ∷ d ∷ r) = (tt, tricks-some r)

play-text : (ts : List (List ℕ)) → All Some_card ts → (t : List ℕ) → write (play_tokens ts) (0x0A ∷ t) ≡ 0x0A ∷ (concat (map trick_text ts) ++ t)
unfolding write play_tokens concat
play-text [] h t = refl
play-text ([] ∷ ts) h t = absurd h.0
play-text ((c ∷ cs) ∷ ts) h t = simp (write-append, play-text ts h.1 t, cards-text, append_assoc)

claim-text : (o : Option ℕ) → write (claim_tokens o) (0x0A ∷ []) ≡ 0x0A ∷ claim_text o
unfolding write
claim-text None = refl
claim-text (Some n) = refl

module _ (p q : ℕ) (b : BoardOf (List ℕ)) where
  pub written-tokens : written p q b ≡ write (board_tokens p q [] b) (0x0A ∷ [])
  unfolding written board_tokens body_tokens write tricks_text
  written-tokens =
      simp (write-append, header-text, calls-text, claim-text, play-text (tricks b.play) (tricks-some b.play))

  -- with what stands before it
  lead_first : (lead t : List ℕ) → lead ++ write (board_tokens p q [] b) t ≡ write (board_tokens p q lead b) t
  unfolding board_tokens write
  lead_first lead t = simp append_assoc

  pub written_after : (lead t : List ℕ) → lead ++ (written p q b ++ t) ≡ write (board_tokens p q lead b) (0x0A ∷ t)
  written_after lead t =
      ap (λ (s : List ℕ). lead ++ (s ++ t)) written-tokens
      ∙ ap (λ (s : List ℕ). lead ++ s) (write-after (board_tokens p q [] b) (0x0A ∷ []) t)
      ∙ lead_first lead (0x0A ∷ t)

-- What holds of its commands, and of its values

abbrev pub CommandOf : {A : Type 0} → (List ℕ → Type 0) → TokenOf A → Type 0
CommandOf C (token c v) = C c

module _ (p q : ℕ) (C : List ℕ → Type 0) where
  pub header_commands : C (ascii "ah") → (o : Option (List ℕ)) → All (CommandOf C) (header_tokens p q o)
  header_commands ah None = tt
  header_commands ah (Some s) = (ah, tt)

  note_commands : C (ascii "an") → (o : Option (List ℕ)) → All (CommandOf C) (note_tokens p q o)
  note_commands an None = tt
  note_commands an (Some s) = (an, tt)

  pub call_commands : C (ascii "mb") → C (ascii "an") → (cs : List (CallOf (List ℕ))) → All (CommandOf C) (call_tokens p q cs)
  unfolding call_tokens
  call_commands mb an [] = tt
  call_commands mb an (c ∷ cs) = (mb, all_append (CommandOf C) (note_tokens p q c.annotation) (call_tokens p q cs) (note_commands an c.annotation) (call_commands mb an cs))

module _ (C : List ℕ → Type 0) where
  card_commands : C (ascii "pc") → C (ascii "pg") → (cs : List ℕ) → All (CommandOf C) (card_tokens cs)
  unfolding card_tokens
  card_commands pc g [] = (g, tt)
  card_commands pc g (c ∷ cs) = (pc, card_commands pc g cs)

  trick_commands : C (ascii "\npc") → C (ascii "pc") → C (ascii "pg") → (cs : List ℕ) → All (CommandOf C) (trick_tokens cs)
  trick_commands lf pc g [] = tt
  trick_commands lf pc g (c ∷ cs) = (lf, card_commands pc g cs)

  pub play_commands : C (ascii "\npc") → C (ascii "pc") → C (ascii "pg") → (ts : List (List ℕ)) → All (CommandOf C) (play_tokens ts)
  unfolding play_tokens
  play_commands lf pc g [] = tt
  play_commands lf pc g (t ∷ ts) = all_append (CommandOf C) (trick_tokens t) (play_tokens ts) (trick_commands lf pc g t) (play_commands lf pc g ts)

  pub claim_commands : C (ascii "\nmc") → C (ascii "pg") → (o : Option ℕ) → All (CommandOf C) (claim_tokens o)
  claim_commands mc g None = tt
  claim_commands mc g (Some n) = (mc, (g, tt))

-- all commands after the qx
pub record Commands (C : List ℕ → Type 0) : Type 0 where
  pub rh : C (ascii "rh")
  pub ah : C (ascii "ah")
  pub md : C (ascii "md")
  pub sv : C (ascii "sv")
  pub sa : C (ascii "\nsa")
  pub mb : C (ascii "mb")
  pub an : C (ascii "an")
  pub g : C (ascii "pg")
  pub lf : C (ascii "\npc")
  pub pc : C (ascii "pc")
  pub mc : C (ascii "\nmc")

pub body_commands : (p q : ℕ) (C : List ℕ → Type 0) → Commands C → (b : BoardOf (List ℕ)) → All (CommandOf C) (body_tokens p q b)
unfolding body_tokens
body_commands p q C h b = (
  h.rh,
  all_append (CommandOf C) (header_tokens p q b.header) _ (header_commands p q C h.ah b.header) (
    h.md,
    (
      h.sv,
      (
        h.sa,
        all_append (CommandOf C) (call_tokens p q b.calls) _ (call_commands p q C h.mb h.an b.calls) (
          h.g,
          all_append (CommandOf C) (play_tokens (tricks b.play)) _ (play_commands C h.lf h.pc h.g (tricks b.play)) (claim_commands C h.mc h.g b.claim),
        ),
      ),
    ),
  ),
)

-- each value, as it is written
pub record Values (p q : ℕ) (P : List ℕ → Type 0) (b : BoardOf (List ℕ)) : Type 0 where
  pub nil : P []
  pub zero : P (ascii "0")
  pub title : P (clean p q (or_empty b.title))
  pub names : P (names_text p q b)
  pub room : P (clean p q (or_empty b.room))
  pub header : Present (λ (s : List ℕ). P (clean p q s)) b.header
  pub md : P (md_text b.dealt)
  pub sv : P (sv_letter b.vulnerability ∷ [])
  pub calls : All (λ (c : CallOf (List ℕ)). P (bid_text p q c) × Present (λ (s : List ℕ). P (clean p q s)) c.annotation) b.calls
  pub cards : All (λ (c : ℕ). P (card_letters c)) b.play
  pub claim : Present (λ (n : ℕ). P (decimal n)) b.claim

pub all-tricks : (Q : ℕ → Type 0) (cs : List ℕ) → All Q cs → All (All Q) (tricks cs)
unfolding tricks
all-tricks Q [] h = tt
all-tricks Q (a ∷ []) h = (h, tt)
all-tricks Q (a ∷ b ∷ []) h = (h, tt)
all-tricks Q (a ∷ b ∷ c ∷ []) h = (h, tt)
all-tricks Q (a ∷ b ∷ c ∷ d ∷ r) h = ((h.0, (h.1.0, (h.1.1.0, (h.1.1.1.0, tt)))), all-tricks Q r h.1.1.1.1)

module _ (p q : ℕ) (P : List ℕ → Type 0) where
  header_values : (o : Option (List ℕ)) → Present (λ (s : List ℕ). P (clean p q s)) o → All (ValueOf P) (header_tokens p q o)
  header_values None h = tt
  header_values (Some s) h = (h, tt)

  note_values : (o : Option (List ℕ)) → Present (λ (s : List ℕ). P (clean p q s)) o → All (ValueOf P) (note_tokens p q o)
  note_values None h = tt
  note_values (Some s) h = (h, tt)

  call_values : (cs : List (CallOf (List ℕ))) → All (λ (c : CallOf (List ℕ)). P (bid_text p q c) × Present (λ (s : List ℕ). P (clean p q s)) c.annotation) cs
      → All (ValueOf P) (call_tokens p q cs)
  unfolding call_tokens
  call_values [] h = tt
  call_values (c ∷ cs) h = (h.0.0, all_append (ValueOf P) (note_tokens p q c.annotation) (call_tokens p q cs) (note_values c.annotation h.0.1) (call_values cs h.1))

  card_values : P [] → (cs : List ℕ) → All (λ (c : ℕ). P (card_letters c)) cs → All (ValueOf P) (card_tokens cs)
  unfolding card_tokens
  card_values n [] h = (n, tt)
  card_values n (c ∷ cs) h = (h.0, card_values n cs h.1)

  trick_values : P [] → (cs : List ℕ) → All (λ (c : ℕ). P (card_letters c)) cs → All (ValueOf P) (trick_tokens cs)
  trick_values n [] h = tt
  trick_values n (c ∷ cs) h = (h.0, card_values n cs h.1)

  play_values : P [] → (ts : List (List ℕ)) → All (All (λ (c : ℕ). P (card_letters c))) ts → All (ValueOf P) (play_tokens ts)
  unfolding play_tokens
  play_values n [] h = tt
  play_values n (t ∷ ts) h = all_append (ValueOf P) (trick_tokens t) (play_tokens ts) (trick_values n t h.0) (play_values n ts h.1)

  claim_values : P [] → (o : Option ℕ) → Present (λ (n : ℕ). P (decimal n)) o → All (ValueOf P) (claim_tokens o)
  claim_values n None h = tt
  claim_values n (Some k) h = (h, (n, tt))

  pub board_values : (lead : List ℕ) (b : BoardOf (List ℕ)) → Values p q P b → All (ValueOf P) (board_tokens p q lead b)
  unfolding board_tokens body_tokens
  board_values lead b h = (
    h.title,
    (
      h.names,
      (
        h.room,
        (
          h.nil,
          all_append (ValueOf P) (header_tokens p q b.header) _ (header_values b.header h.header) (
            h.md,
            (
              h.sv,
              (
                h.zero,
                all_append (ValueOf P) (call_tokens p q b.calls) _ (call_values b.calls h.calls) (
                  h.nil,
                  all_append (ValueOf P) (play_tokens (tricks b.play)) _ (play_values h.nil (tricks b.play) (all-tricks (λ (c : ℕ). P (card_letters c)) b.play h.cards))
                      (claim_values h.nil b.claim h.claim),
                ),
              ),
            ),
          ),
        ),
      ),
    ),
  )
