-- The board that the tokens of a written board give is its settled form, field by field. (01: Writer and settled form; Board)
-- Assumes nothing.
use Rattle.std.specs.Prelude.{Option, Some, None}
use Prim.Native.Nat.{ℕ, ◌+◌, ◌*◌, ◌/◌, ◌%◌, ◌≤◌, ◌<◌}
use native.Mathlib.Omega.{arith}
use mathlib.Core.Path.{◌≡◌, refl, ap, sym, ◌∙◌}
use mathlib.Core.Bool.{Bool, true, false}
use mathlib.Core.List.{List, [], ◌∷◌, ◌++◌, map, append_assoc, append-nil}
use lib.ListN.{length, take, drop, replicate}
use lib.Seq.{take-append_seam, take-length}
use Rattle.lin_spec.specs.Base.{pick, All, starts, concat, join_by, ascii, eq_all}
use Rattle.lin_spec.specs.Records.{part}
use Rattle.lin_spec.specs.Utf8.{encode}
use Rattle.lin_spec.specs.White.{is_command, same_word, lower, trim, trim_end, trim_start, skip_white, blank, white_at, front, white_space}
use Rattle.lin_spec.specs.Tokens.{cut, Token, TokenOf}
use Rattle.lin_spec.specs.Tokens.TokenOf.{token}
use Rattle.lin_spec.specs.Decimal.{decimal}
use Rattle.lin_spec.specs.Letters.{sv_letter}
use Rattle.lin_spec.specs.Cards.{read_card}
use Rattle.lin_spec.specs.Board.{CallOf, BoardOf, named, read_md, read_sv, non_empty, call_of, annotated, played, number_in, over, on, undealt, on_names, on_dealt, on_vulnerability, on_title, on_room, on_header, on_calls, on_play, on_claim, board_from, map_option, map_call, Present}
use Rattle.lin_spec.specs.Reading.{bytes_text}
use Rattle.lin_spec.specs.Writer.{clean, clean_name, or_empty, card_letters, tricks, md_text, present, settled_call, cleaned, settled}
use Rattle.lin_spec.specs.declared.Vulnerability.{Vulnerability}
use Rattle.lin_spec.specs.declared.Vulnerability.TheVariants.{NorthSouth, EastWest, Both}
use Rattle.lin_spec.proofs.Base.{all_append}
use Rattle.lin_spec.proofs.White.{trim_visible}
use Rattle.lin_spec.proofs.Tokens.{cut-piece, cut-none}
use Rattle.lin_spec.proofs.Cursor.{after-piece}
use Rattle.lin_spec.proofs.Rules.{over-append}
use Rattle.lin_spec.proofs.Decimal.{decimal-read}
use Rattle.lin_spec.proofs.Cards.{suit_letter, rank_letter_lem}
use Rattle.lin_spec.proofs.Deals.{md-read}
use Rattle.lin_spec.proofs.Reading.{board_eq}
use Rattle.lin_spec.proofs.Clean.{name_comma, without-mark, ends-mark, without-front}
use Rattle.lin_spec.proofs.BoardTokens.{pg, header_tokens, note_tokens, bid_text, call_tokens, card_tokens, trick_tokens, play_tokens, claim_tokens, names_text, body_tokens, board_tokens, CommandOf, header_commands, call_commands, play_commands, claim_commands, body_commands, all-tricks}
use Rattle.lin_spec.proofs.Sound.{Valid, card_visible, decimal_visible, sv_visible}

-- Folds

-- tokens that change nothing
pub skip : {A B : Type 0} (f : List ℕ → A → B → B) (C : List ℕ → Type 0) → ((c : List ℕ) (v : A) (x : B) → C c → f c v x ≡ x)
    → (ts : List (TokenOf A)) → All (CommandOf C) ts → (x : B) → over f x ts ≡ x
unfolding over
skip f C e [] h x = refl
skip f C e (token c v ∷ ts) h x = ap (λ y. over f y ts) (e c v x h.0) ∙ skip f C e ts h.1 x

-- a fold that acts on the command w alone
abbrev pub Unlike : (w : List ℕ) → List ℕ → Type 0
Unlike w c = is_command c w ≡ false

pub pass : {A B : Type 0} (w : List ℕ) (g : A → B → B) (ts : List (TokenOf A)) → All (CommandOf (Unlike w)) ts → (x : B) → over (λ c v y. on c w (g v y) y) x ts ≡ x
pass w g ts h x = skip (λ c v y. on c w (g v y) y) (Unlike w) (λ c v y e. simp e) ts h x

-- tokens that are passed, before others and after them
past : {A B : Type 0} (w : List ℕ) (g : A → B → B) (ts us : List (TokenOf A)) → All (CommandOf (Unlike w)) ts → (x : B)
    → over (λ c v y. on c w (g v y) y) x (ts ++ us) ≡ over (λ c v y. on c w (g v y) y) x us
past w g ts us h x = over-append (λ c v y. on c w (g v y) y) x ts us ∙ ap (λ y. over (λ c v z. on c w (g v z) z) y us) (pass w g ts h x)

-- Values as the reader takes them

sv_letter_lem : (v : Vulnerability) → read_sv (sv_letter v ∷ []) ≡ v
unfolding read_sv same_word lower eq_all
sv_letter_lem Vulnerability.None = refl
sv_letter_lem NorthSouth = refl
sv_letter_lem EastWest = refl
sv_letter_lem Both = refl

sv_read : (v : Vulnerability) → read_sv (trim (sv_letter v ∷ [])) ≡ v
sv_read v = ap read_sv (trim_visible (sv_letter v ∷ []) (sv_visible v)) ∙ sv_letter_lem v

card-read : (c : ℕ) → c < 52 → read_card (trim (card_letters c)) ≡ Some c
unfolding read_card
card-read c h =
    ap read_card (trim_visible (card_letters c) (card_visible c h))
    ∙ simp (suit_letter (c / 13) (omega arith), rank_letter_lem (c % 13) (omega arith)) (let z : c / 13 * 13 + c % 13 ≡ c = omega arith in ap (λ (n : ℕ). Some n) z)

claim-read : (n : ℕ) → n ≤ 255 → number_in 255 (trim (decimal n)) ≡ Some n
claim-read n h = ap (number_in 255) (trim_visible (decimal n) (decimal_visible n)) ∙ decimal-read 255 n h

text-read : (p q : ℕ) (o : Option (List ℕ)) → non_empty bytes_text (clean p q (or_empty o)) ≡ present (map_option (clean p q) o)
unfolding clean
text-read p q None = refl
text-read p q (Some s) = refl

-- the names between their commas: the rest of the text from the place k on is the names that are left
names-from : (p q : ℕ) (v : List ℕ) (k : ℕ) (ns ms : List (List ℕ)) → length ms ≡ length ns → drop k v ≡ join_by (ascii ",") (map (clean_name p q) ns)
    → named bytes_text v k (cut 0x2C (join_by (ascii ",") (map (clean_name p q) ns))) ms ≡ map (clean_name p q) ns
unfolding named join_by part
names-from p q v k [] [] l e = refl
names-from p q v k [] (m ∷ ms) l e = absurd (let z : ⊥ = omega arith in z)
names-from p q v k (n ∷ ns) [] l e = absurd (let z : ⊥ = omega arith in z)
names-from p q v k (n ∷ []) (m ∷ []) l e = simp (cut-none 0x2C (clean_name p q n) (name_comma p q n), e, take-length)
names-from p q v k (n ∷ []) (m ∷ o ∷ ms) l e = absurd (let z : ⊥ = omega arith in z)
names-from p q v k (n ∷ o ∷ ns) (m ∷ ms) l e = go (names-from p q v (k + (length x + 1)) (o ∷ ns) ms (omega arith))
  where
    x : List ℕ
    x = clean_name p q n

    rest : List ℕ
    rest = join_by (ascii ",") (map (clean_name p q) (o ∷ ns))

    past : drop (k + (length x + 1)) v ≡ rest
    past = after-piece 0x2C v k x rest e

    here : take (length x) (drop k v) ≡ x
    here = ap (take (length x)) e ∙ take-append_seam x _

    go : (drop (k + (length x + 1)) v ≡ rest → named bytes_text v (k + (length x + 1)) (cut 0x2C rest) ms ≡ map (clean_name p q) (o ∷ ns))
        → named bytes_text v k (cut 0x2C (x ++ 0x2C ∷ rest)) (m ∷ ms) ≡ x ∷ map (clean_name p q) (o ∷ ns)
    go ih = simp (cut-piece 0x2C x rest (name_comma p q n), here, ih past)

names-read : (p q : ℕ) (b : BoardOf (List ℕ)) → length b.names ≡ 4 → named bytes_text (names_text p q b) 0 (cut 0x2C (names_text p q b)) (replicate 4 []) ≡ map (clean_name p q) b.names
names-read p q b l = names-from p q (names_text p q b) 0 b.names (replicate 4 []) (sym l) refl

-- Calls

annotated-last : (v : List ℕ) (cs : List (CallOf (List ℕ))) (c : CallOf (List ℕ))
    → annotated v (cs ++ (c ∷ [])) ≡ cs ++ (record { bid = c.bid; alerted = c.alerted; annotation = Some v } ∷ [])
unfolding annotated
annotated-last v [] c = refl
annotated-last v (d ∷ []) c = refl
annotated-last v (d ∷ e ∷ cs) c = ap (λ (r : List (CallOf (List ℕ))). d ∷ r) (annotated-last v (e ∷ cs) c)

module _ (p q : ℕ) where
  abbrev settled_one : CallOf (List ℕ) → CallOf (List ℕ)
  settled_one c = settled_call (map_call (clean p q) c)

  call-read : (c : CallOf (List ℕ)) → call_of bytes_text (bid_text p q c) ≡ record { bid = (settled_one c).bid; alerted = (settled_one c).alerted; annotation = None }
  unfolding settled_call part
  call-read c =
      simp (without-mark 0x21 (clean p q c.bid) c.alerted, without-front 0x21 (clean p q c.bid) (pick c.alerted (ascii "!") []), ends-mark 0x21 (clean p q c.bid) c.alerted)

  mb_is : is_command (ascii "mb") (ascii "mb") ≡ true
  unfolding is_command same_word lower trim trim_end trim_start skip_white blank white_at front white_space encode starts eq_all
  mb_is = refl

  an_is : is_command (ascii "an") (ascii "an") ≡ true
  unfolding is_command same_word lower trim trim_end trim_start skip_white blank white_at front white_space encode starts eq_all
  an_is = refl

  an_not : is_command (ascii "an") (ascii "mb") ≡ false
  unfolding is_command same_word lower trim trim_end trim_start skip_white blank white_at front white_space encode starts eq_all
  an_not = refl

  abbrev call : List ℕ → Bool → Option (List ℕ) → CallOf (List ℕ)
  call b t o = record { bid = b; alerted = t; annotation = o }

  one-read : (b : List ℕ) (t : Bool) (o : Option (List ℕ)) (x : List (CallOf (List ℕ)))
      → over (on_calls bytes_text) x (token (ascii "mb") (bid_text p q (call b t o)) ∷ note_tokens p q o) ≡ x ++ (settled_one (call b t o) ∷ [])
  unfolding over settled_call
  one-read b t None x = simp (mb_is, call-read (call b t None))
  one-read b t (Some v) x = simp (mb_is, an_is, an_not, call-read (call b t (Some v)), annotated-last)

  calls-read : (cs x : List (CallOf (List ℕ))) → over (on_calls bytes_text) x (call_tokens p q cs) ≡ x ++ map settled_one cs
  unfolding call_tokens over
  calls-read [] x = simp append-nil
  calls-read (c ∷ cs) x =
      over-append (on_calls bytes_text) x (token (ascii "mb") (bid_text p q c) ∷ note_tokens p q c.annotation) (call_tokens p q cs)
      ∙ ap (λ (y : List (CallOf (List ℕ))). over (on_calls bytes_text) y (call_tokens p q cs)) (one-read c.bid c.alerted c.annotation x)
      ∙ calls-read cs (x ++ (settled_one c ∷ []))
      ∙ append_assoc x (settled_one c ∷ []) (map settled_one cs)

-- Play

pc_is : is_command (ascii "pc") (ascii "pc") ≡ true
unfolding is_command same_word lower trim trim_end trim_start skip_white blank white_at front white_space encode starts eq_all
pc_is = refl

lf_is : is_command (ascii "\npc") (ascii "pc") ≡ true
unfolding is_command same_word lower trim trim_end trim_start skip_white blank white_at front white_space encode starts eq_all
lf_is = refl

pg-not : is_command (ascii "pg") (ascii "pc") ≡ false
unfolding is_command same_word lower trim trim_end trim_start skip_white blank white_at front white_space encode starts eq_all
pg-not = refl

module _ (w : List ℕ) (e : is_command w (ascii "pc") ≡ true) where
  card-on : (c : ℕ) → c < 52 → (x : List ℕ) → on_play bytes_text w (card_letters c) x ≡ x ++ (c ∷ [])
  card-on c h x = simp (e, card-read c h)

  card_then : (c : ℕ) → c < 52 → (x cs : List ℕ) (ts : List Token) → ((y : List ℕ) → over (on_play bytes_text) y ts ≡ y ++ cs)
      → over (on_play bytes_text) x (token w (card_letters c) ∷ ts) ≡ x ++ (c ∷ cs)
  unfolding over
  card_then c h x cs ts ih = ap (λ (y : List ℕ). over (on_play bytes_text) y ts) (card-on c h x) ∙ ih (x ++ (c ∷ [])) ∙ append_assoc x (c ∷ []) cs

cards-read : (cs : List ℕ) → All (λ (c : ℕ). c < 52) cs → (x : List ℕ) → over (on_play bytes_text) x (card_tokens cs) ≡ x ++ cs
unfolding over card_tokens
cards-read [] h x = simp (pg-not, append-nil)
cards-read (c ∷ cs) h x = card_then (ascii "pc") pc_is c h.0 x cs (card_tokens cs) (cards-read cs h.1)

trick_read : (cs : List ℕ) → All (λ (c : ℕ). c < 52) cs → (x : List ℕ) → over (on_play bytes_text) x (trick_tokens cs) ≡ x ++ cs
unfolding over
trick_read [] h x = sym (append-nil x)
trick_read (c ∷ cs) h x = card_then (ascii "\npc") lf_is c h.0 x cs (card_tokens cs) (cards-read cs h.1)

play-read : (ts : List (List ℕ)) → All (All (λ (c : ℕ). c < 52)) ts → (x : List ℕ) → over (on_play bytes_text) x (play_tokens ts) ≡ x ++ concat ts
unfolding over play_tokens concat
play-read [] h x = sym (append-nil x)
play-read (t ∷ ts) h x =
    over-append (on_play bytes_text) x (trick_tokens t) (play_tokens ts)
    ∙ ap (λ (y : List ℕ). over (on_play bytes_text) y (play_tokens ts)) (trick_read t h.0 x)
    ∙ play-read ts h.1 (x ++ t)
    ∙ append_assoc x t (concat ts)

pub tricks-all : (cs : List ℕ) → concat (tricks cs) ≡ cs
unfolding tricks concat
tricks-all [] = refl
tricks-all (a ∷ []) = refl
tricks-all (a ∷ b ∷ []) = refl
tricks-all (a ∷ b ∷ c ∷ []) = refl
tricks-all (a ∷ b ∷ c ∷ d ∷ r) = ap (λ (s : List ℕ). a ∷ b ∷ c ∷ d ∷ s) (tricks-all r)

-- Claim

mc_is : is_command (ascii "\nmc") (ascii "mc") ≡ true
unfolding is_command same_word lower trim trim_end trim_start skip_white blank white_at front white_space encode starts eq_all
mc_is = refl

pg-other : is_command (ascii "pg") (ascii "mc") ≡ false
unfolding is_command same_word lower trim trim_end trim_start skip_white blank white_at front white_space encode starts eq_all
pg-other = refl

claim_option : (o : Option ℕ) → Present (λ (n : ℕ). n ≤ 255) o → over (on_claim bytes_text) None (claim_tokens o) ≡ o
unfolding over
claim_option None h = refl
claim_option (Some n) h = simp (mc_is, pg-other, claim-read n h)

-- The fields

module _ (p q : ℕ) (b : BoardOf (List ℕ)) where
  abbrev pub after : List Token
  after = call_tokens p q b.calls ++ pg ∷ (play_tokens (tricks b.play) ++ claim_tokens b.claim)

  -- the tokens from the calls on, where neither mb, an, pc nor mc is meant
  pub after_commands : (C : List ℕ → Type 0) → C (ascii "mb") → C (ascii "an") → C (ascii "pg") → C (ascii "\npc") → C (ascii "pc") → C (ascii "\nmc") → All (CommandOf C) after
  after_commands C mb an g lf pc mc =
      all_append (CommandOf C) (call_tokens p q b.calls) _ (call_commands p q C mb an b.calls) (
        g,
        all_append (CommandOf C) (play_tokens (tricks b.play)) _ (play_commands C lf pc g (tricks b.play)) (claim_commands C mc g b.claim),
      )

module _ (p q : ℕ) (b : BoardOf (List ℕ)) (v : Valid b) where
  names-field : over (on_names bytes_text) (replicate 4 []) (board_tokens p q [] b) ≡ map (clean_name p q) b.names
  unfolding board_tokens over is_command same_word lower trim trim_end trim_start skip_white blank white_at front white_space encode starts eq_all
  names-field =
      pass (ascii "pn") (λ v y. named bytes_text v 0 (cut 0x2C v) y) (body_tokens p q b) (body_commands p q (Unlike (ascii "pn")) (record { rh = refl; ah = refl; md = refl; sv = refl; sa = refl; mb = refl; an = refl; g = refl; lf = refl; pc = refl; mc = refl }) b) _
      ∙ names-read p q b v.names

  title-field : over (on_title bytes_text) None (board_tokens p q [] b) ≡ present (map_option (clean p q) b.title)
  unfolding board_tokens over is_command same_word lower trim trim_end trim_start skip_white blank white_at front white_space encode starts eq_all
  title-field =
      pass (ascii "mn") (λ v y. non_empty bytes_text v) (body_tokens p q b) (body_commands p q (Unlike (ascii "mn")) (record { rh = refl; ah = refl; md = refl; sv = refl; sa = refl; mb = refl; an = refl; g = refl; lf = refl; pc = refl; mc = refl }) b) _
      ∙ text-read p q b.title

  room-field : over (on_room bytes_text) None (board_tokens p q [] b) ≡ present (map_option (clean p q) b.room)
  unfolding board_tokens over is_command same_word lower trim trim_end trim_start skip_white blank white_at front white_space encode starts eq_all
  room-field =
      pass (ascii "qx") (λ v y. non_empty bytes_text v) (body_tokens p q b) (body_commands p q (Unlike (ascii "qx")) (record { rh = refl; ah = refl; md = refl; sv = refl; sa = refl; mb = refl; an = refl; g = refl; lf = refl; pc = refl; mc = refl }) b) _
      ∙ text-read p q b.room

  header_option : (o : Option (List ℕ)) → over (on_header bytes_text) None (header_tokens p q o) ≡ map_option (clean p q) o
  unfolding over is_command same_word lower trim trim_end trim_start skip_white blank white_at front white_space encode starts eq_all
  header_option None = refl
  header_option (Some s) = refl

  header-field : over (on_header bytes_text) None (board_tokens p q [] b) ≡ map_option (clean p q) b.header
  unfolding board_tokens body_tokens over is_command same_word lower trim trim_end trim_start skip_white blank white_at front white_space encode starts eq_all
  header-field =
      over-append (on_header bytes_text) None (header_tokens p q b.header) _
      ∙ pass (ascii "ah") (λ v y. Some v) (after p q b) (after_commands p q b (Unlike (ascii "ah")) refl refl refl refl refl refl) _
      ∙ header_option b.header

  dealt-value : over (on_dealt bytes_text) undealt (board_tokens p q [] b) ≡ read_md (trim (md_text b.dealt)) undealt
  unfolding board_tokens body_tokens over is_command same_word lower trim trim_end trim_start skip_white blank white_at front white_space encode starts eq_all
  dealt-value =
      past (ascii "md") (λ v y. read_md (trim v) y) (header_tokens p q b.header) _ (header_commands p q (Unlike (ascii "md")) refl b.header) undealt
      ∙ pass (ascii "md") (λ v y. read_md (trim v) y) (after p q b) (after_commands p q b (Unlike (ascii "md")) refl refl refl refl refl refl) _

  sv_value : over (on_vulnerability bytes_text) Vulnerability.None (board_tokens p q [] b) ≡ read_sv (trim (sv_letter b.vulnerability ∷ []))
  unfolding board_tokens body_tokens over is_command same_word lower trim trim_end trim_start skip_white blank white_at front white_space encode starts eq_all
  sv_value =
      past (ascii "sv") (λ v y. read_sv (trim v)) (header_tokens p q b.header) _ (header_commands p q (Unlike (ascii "sv")) refl b.header) Vulnerability.None
      ∙ pass (ascii "sv") (λ v y. read_sv (trim v)) (after p q b) (after_commands p q b (Unlike (ascii "sv")) refl refl refl refl refl refl) _

  abbrev Uncalled : List ℕ → Type 0
  Uncalled c = (is_command c (ascii "mb") ≡ false) × (is_command c (ascii "an") ≡ false)

  uncalled : (ts : List Token) → All (CommandOf Uncalled) ts → (x : List (CallOf (List ℕ))) → over (on_calls bytes_text) x ts ≡ x
  uncalled ts h x = skip (on_calls bytes_text) Uncalled (λ c v y e. simp (e.0, e.1)) ts h x

  calls-field : over (on_calls bytes_text) [] (board_tokens p q [] b) ≡ map settled_call (map (map_call (clean p q)) b.calls)
  unfolding board_tokens body_tokens over is_command same_word lower trim trim_end trim_start skip_white blank white_at front white_space encode starts eq_all
  calls-field =
      over-append (on_calls bytes_text) [] (header_tokens p q b.header) _
      ∙ ap (λ (x : List (CallOf (List ℕ))). over (on_calls bytes_text) x (after p q b)) (uncalled (header_tokens p q b.header) (header_commands p q Uncalled (refl, refl) b.header) [])
      ∙ over-append (on_calls bytes_text) [] (call_tokens p q b.calls) _
      ∙ uncalled (pg ∷ (play_tokens (tricks b.play) ++ claim_tokens b.claim)) ((refl, refl), all_append (CommandOf Uncalled) (play_tokens (tricks b.play)) _ (play_commands Uncalled (refl, refl) (refl, refl) (refl, refl) (tricks b.play)) (claim_commands Uncalled (refl, refl) (refl, refl) b.claim)) _
      ∙ calls-read p q b.calls []
      ∙ twice b.calls
    where
      twice : (cs : List (CallOf (List ℕ))) → map (settled_one p q) cs ≡ map settled_call (map (map_call (clean p q)) cs)
      twice [] = refl
      twice (c ∷ cs) = ap (λ (r : List (CallOf (List ℕ))). settled_one p q c ∷ r) (twice cs)

  play-field : over (on_play bytes_text) [] (board_tokens p q [] b) ≡ b.play
  unfolding board_tokens body_tokens over is_command same_word lower trim trim_end trim_start skip_white blank white_at front white_space encode starts eq_all
  play-field =
      past (ascii "pc") (λ v y. played (read_card (trim v)) y) (header_tokens p q b.header) _ (header_commands p q (Unlike (ascii "pc")) refl b.header) []
      ∙ past (ascii "pc") (λ v y. played (read_card (trim v)) y) (call_tokens p q b.calls) _ (call_commands p q (Unlike (ascii "pc")) refl refl b.calls) []
      ∙ over-append (on_play bytes_text) [] (play_tokens (tricks b.play)) _
      ∙ pass (ascii "pc") (λ v y. played (read_card (trim v)) y) (claim_tokens b.claim) (claim_commands (Unlike (ascii "pc")) refl refl b.claim) _
      ∙ play-read (tricks b.play) (all-tricks (λ (c : ℕ). c < 52) b.play v.cards) []
      ∙ tricks-all b.play

  claim-field : over (on_claim bytes_text) None (board_tokens p q [] b) ≡ over (on_claim bytes_text) None (claim_tokens b.claim)
  unfolding board_tokens body_tokens over is_command same_word lower trim trim_end trim_start skip_white blank white_at front white_space encode starts eq_all
  claim-field =
      past (ascii "mc") (λ v y. number_in 255 (trim v)) (header_tokens p q b.header) _ (header_commands p q (Unlike (ascii "mc")) refl b.header) None
      ∙ past (ascii "mc") (λ v y. number_in 255 (trim v)) (call_tokens p q b.calls) _ (call_commands p q (Unlike (ascii "mc")) refl refl b.calls) None
      ∙ past (ascii "mc") (λ v y. number_in 255 (trim v)) (play_tokens (tricks b.play)) _ (play_commands (Unlike (ascii "mc")) refl refl refl (tricks b.play)) None

  pub board-read : board_from bytes_text (board_tokens p q [] b) ≡ settled p q b
  unfolding board_from settled cleaned
  board-read =
      board_eq names-field
      (dealt-value ∙ md-read b.dealt undealt v.deal)
      (sv_value ∙ sv_read b.vulnerability)
      title-field
      room-field
      header-field
      calls-field
      play-field
      (claim-field ∙ claim_option b.claim v.claim)

-- what stands before the first command matters only by the command that it makes
pub first-command : (c d : List ℕ) → ((w : List ℕ) → is_command c w ≡ is_command d w) → (v : List ℕ) (ts : List Token)
    → board_from bytes_text (token c v ∷ ts) ≡ board_from bytes_text (token d v ∷ ts)
unfolding board_from over
first-command c d e v ts = simp e
