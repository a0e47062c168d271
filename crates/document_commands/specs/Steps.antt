-- What one token with its command's number says of the tokens from there on. (01: Tokens, Board)
use Rattle.document.specs.declared.tokens.Cursor.{Cursor}
use Rattle.document.specs.declared.tokens.Part.{Part}
use Rattle.std.specs.Prelude.{ℕ, ◌+◌, ◌<◌, ◌≤◌, ◌≡◌, List, [], ◌∷◌, length, Some, Option, None}
use Rattle.lin_spec.specs.Records.{span, end_of, bytes_at}
use Rattle.lin_spec.specs.Tokens.TokenOf.{token}
use Rattle.lin_spec.specs.Reading.{stream}
use Rattle.lin_spec.specs.declared.Span.{Span}
use Rattle.lin_spec.specs.White.{trim}
use Rattle.lin_spec.specs.Cards.{read_card}
use Rattle.document_commands.specs.Commands.{command_of, pc_no, mc_no, Unmarked}
use Rattle.document_commands.specs.declared.steps.BoardToken.{BoardToken}
use Rattle.document_commands.specs.declared.steps.BoardToken.TheVariants.{Card, Known, Other, Ended as NoToken}
use Rattle.document_commands.specs.declared.steps.PartToken.{PartToken}
use Rattle.document_commands.specs.declared.steps.PartToken.TheVariants.{Passed, Command, Ended as NoPart}

-- at the place `at` stands a token with a command of the number k and the value v, and the next at n
pub record TokenAt (s : List ℕ) (at k : ℕ) (v : Span) (n : ℕ) : Type 0 where
  pub command : List ℕ
  pub front : stream s at ≡ token command v ∷ stream s n
  pub number : k ≡ command_of command
  pub value : end_of v ≤ length s
  pub after : n ≡ end_of v + 1
  pub later : at < n
  pub within : n ≤ length s

abbrev pub Commands : (s : List ℕ) (at : ℕ) → Option (ℕ × Part × Cursor) → Type 0
Commands s at (Some (k, p, c)) = TokenAt s at k (span p.start p.len) c.at
Commands s at None = stream s at ≡ []

-- the same for a board: a pc whose value is the card c
pub record CardToken (s : List ℕ) (at c n : ℕ) : Type 0 where
  pub value : Span
  pub token : TokenAt s at pc_no value n
  pub card : Some c ≡ read_card (trim (bytes_at s value))

-- and a token whose command no board knows
pub record OtherToken (s : List ℕ) (at n : ℕ) : Type 0 where
  pub number : ℕ
  pub value : Span
  pub token : TokenAt s at number value n
  pub unknown : mc_no < number

abbrev pub BoardTokens : (s : List ℕ) (at : ℕ) → BoardToken → Type 0
BoardTokens s at (Card c n) = CardToken s at c n
BoardTokens s at (Known k v n) = TokenAt s at k v n
BoardTokens s at (Other n) = OtherToken s at n
BoardTokens s at NoToken = stream s at ≡ []

-- the same for a file's parts: a token that is none of md, pn, qx and mn, and any token by its number
pub record PassedToken (s : List ℕ) (at n : ℕ) : Type 0 where
  pub number : ℕ
  pub value : Span
  pub token : TokenAt s at number value n
  pub unmarked : Unmarked number

pub record CommandToken (s : List ℕ) (at k n : ℕ) : Type 0 where
  pub value : Span
  pub token : TokenAt s at k value n

abbrev pub PartTokens : (s : List ℕ) (at : ℕ) → PartToken → Type 0
PartTokens s at (Passed n) = PassedToken s at n
PartTokens s at (Command k n) = CommandToken s at k n
PartTokens s at NoPart = stream s at ≡ []
