-- A text's tokens and its trailing text, and a document written back. (01: Tokens)
use Rattle.std.specs.Prelude.{ℕ, ◌≡◌, List, [], ◌∷◌, ◌++◌, eqb}
use Rattle.lin_spec.specs.Base.{pick, count_if}

-- "pipes (`|`)"
abbrev pub pipe : ℕ
pipe = 0x7C

-- A text cut at every byte c: with n of them there are n + 1 pieces, so at least one.
pub data Pieces : Type 0 where
  end : List ℕ → Pieces
  piece : List ℕ → Pieces → Pieces

-- b put in front of the first piece
abbrev pub push : ℕ → Pieces → Pieces
push b (end x) = end (b ∷ x)
push b (piece x r) = piece (b ∷ x) r

unfoldable pub cut : (c : ℕ) → List ℕ → Pieces
cut c [] = end []
cut c (b ∷ s) = pick (eqb b c) (piece [] (cut c s)) (push b (cut c s))

-- how many bytes c there are
abbrev pub count : (c : ℕ) → List ℕ → ℕ
count c s = count_if (λ (b : ℕ). eqb b c) s

-- a command with its value; A is the type of the value: the bytes, or a span of them
pub data TokenOf (A : Type 0) : Type 0 where
  token : (command : List ℕ) (value : A) → TokenOf A

abbrev pub Token : Type 0
Token = TokenOf (List ℕ)

-- "Token k is the piece before pipe 2k+1 and the piece before pipe 2k+2, verbatim"
unfoldable pub paired : Pieces → List Token
paired (end x) = []
paired (piece x (end y)) = []
paired (piece x (piece y r)) = token x y ∷ paired r

-- "all after the last used pipe is trailing"
unfoldable pub left : Pieces → List ℕ
left (end x) = x
left (piece x (end y)) = x ++ pipe ∷ y
left (piece x (piece y r)) = left r

unfoldable pub tokens : List ℕ → List Token
tokens s = paired (cut pipe s)

unfoldable pub trailing : List ℕ → List ℕ
trailing s = left (cut pipe s)

-- `to_lin`: each command and value with a pipe after it, then the trailing text
unfoldable pub write : List Token → (trailing : List ℕ) → List ℕ
write [] tr = tr
write (token c v ∷ ts) tr = c ++ pipe ∷ (v ++ pipe ∷ write ts tr)

-- no command or value holds a pipe
unfoldable pub NoPipes : List Token → Type 0
NoPipes [] = Unit
NoPipes (token c v ∷ ts) = (count pipe c ≡ 0) × (count pipe v ≡ 0) × NoPipes ts
