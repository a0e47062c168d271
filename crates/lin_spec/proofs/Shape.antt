-- "Every written board has one md and one qx token, before the qx none but mn and pn", and its trailing text is one LF. (01: Writer and settled form)
-- Assumes nothing.
use Rattle.std.specs.Prelude.{Option, None, Some}
use Prim.Native.Nat.{ℕ, suc}
use mathlib.Core.Path.{◌≡◌, refl, ap, ◌∙◌}
use mathlib.Core.List.{List, [], ◌∷◌, ◌++◌}
use Rattle.lin_spec.specs.Base.{All, keep, count_if, eq_all, starts, ascii}
use Rattle.lin_spec.specs.Utf8.{encode}
use Rattle.lin_spec.specs.White.{is_command, same_word, lower, trim, trim_end, trim_start, skip_white, blank, white_at, front, white_space}
use Rattle.lin_spec.specs.Tokens.{Token, tokens, trailing}
use Rattle.lin_spec.specs.Tokens.TokenOf.{token}
use Rattle.lin_spec.specs.Letters.{sv_letter}
use Rattle.lin_spec.specs.Board.{BoardOf}
use Rattle.lin_spec.specs.File.{has}
use Rattle.lin_spec.specs.Writer.{clean, or_empty, md_text, written}
use Rattle.lin_spec.proofs.Clean.{Fit}
use Rattle.lin_spec.proofs.BoardTokens.{header_tokens, names_text, body_tokens, board_tokens, CommandOf, body_commands}
use Rattle.lin_spec.proofs.Sound.{Valid, written_reads}
use Rattle.lin_spec.proofs.Fields.{Unlike, after, after_commands}

-- how many tokens have the command w
abbrev pub how_many : (w : List ℕ) → List Token → ℕ
how_many w ts = count_if (has w) ts

pub record Shape (p q : ℕ) (b : BoardOf (List ℕ)) : Type 0 where
  pub one-md : how_many (ascii "md") (tokens (written p q b)) ≡ 1
  pub one-qx : how_many (ascii "qx") (tokens (written p q b)) ≡ 1
  pub before : tokens (written p q b) ≡ token (ascii "mn") (clean p q (or_empty b.title)) ∷ token (ascii "pn") (names_text p q b) ∷ token (ascii "qx") (clean p q (or_empty b.room)) ∷ body_tokens p q b
  pub rest : trailing (written p q b) ≡ ascii "\n"

none_has : (w : List ℕ) (ts : List Token) → All (CommandOf (Unlike w)) ts → how_many w ts ≡ 0
unfolding keep
none_has w [] h = refl
none_has w (token c v ∷ ts) h = simp h.0 (none_has w ts h.1)

module _ (p q : ℕ) (b : BoardOf (List ℕ)) where
  mds : how_many (ascii "md") (board_tokens p q [] b) ≡ 1
  unfolding board_tokens body_tokens keep is_command same_word lower trim trim_end trim_start skip_white blank white_at front white_space encode starts eq_all
  mds = go b.header (sv_letter b.vulnerability ∷ []) (ascii "0") (after p q b) (none_has (ascii "md") (after p q b) (after_commands p q b (Unlike (ascii "md")) refl refl refl refl refl refl))
    where
      go : (o : Option (List ℕ)) (x y : List ℕ) (ts : List Token) → how_many (ascii "md") ts ≡ 0
          → how_many (ascii "md") (header_tokens p q o ++ token (ascii "md") (md_text b.dealt) ∷ token (ascii "sv") x ∷ token (ascii "\nsa") y ∷ ts) ≡ 1
      go None x y ts e = ap (λ (n : ℕ). suc n) e
      go (Some s) x y ts e = ap (λ (n : ℕ). suc n) e

  qxs : how_many (ascii "qx") (board_tokens p q [] b) ≡ 1
  unfolding board_tokens keep is_command same_word lower trim trim_end trim_start skip_white blank white_at front white_space encode starts eq_all
  qxs =
      ap (λ (n : ℕ). suc n)
      (none_has (ascii "qx") (body_tokens p q b) (body_commands p q (Unlike (ascii "qx")) (record { rh = refl; ah = refl; md = refl; sv = refl; sa = refl; mb = refl; an = refl; g = refl; lf = refl; pc = refl; mc = refl }) b))

  pub shape : Fit p q → Valid b → Shape p q b
  unfolding board_tokens
  shape f v =
      let r = written_reads p q f b v in
      record { one-md = ap (how_many (ascii "md")) r.toks ∙ mds; one-qx = ap (how_many (ascii "qx")) r.toks ∙ qxs; before = r.toks; rest = r.rest }
