-- The pieces that the input is cut into.
use Rattle.std.specs.Prelude.{ℕ, ◌≡◌, ◌+◌, ◌-◌, ◌≤◌, List, [], ◌∷◌, length, drop, take, Option, Some, None}
use Rattle.sql_words.specs.Texts.{statement_spans}
use Rattle.shell_text.specs.declared.piece.Kind.{Kind}
use Rattle.shell_text.specs.declared.piece.Piece.{Piece}

-- bytes that are one statement text, as the lexer splits them, with its `;` behind it; what stands before `start` is no part of the text
pub record IsStatement (bytes : List ℕ) (start end : ℕ) : Type 0 where
  pub order : start ≤ end
  pub ends : end + 1 ≡ length bytes
  pub one : statement_spans (drop start bytes) ≡ (0, end - start) ∷ []

-- bytes that are a line of the shell's own, with the byte that ends it
pub record IsLine (bytes : List ℕ) (start end : ℕ) : Type 0 where
  pub order : start ≤ end
  pub ends : end + 1 ≡ length bytes

abbrev pub IsPiece : Kind → List ℕ → ℕ → ℕ → Type 0
IsPiece Kind.Statement bytes start end = IsStatement bytes start end
IsPiece Kind.Command bytes start end = IsLine bytes start end

-- a piece that was taken off the input
abbrev pub IsWhole : Piece → Type 0
IsWhole piece = IsPiece piece.kind piece.bytes.items piece.start piece.end

-- the bytes of a piece that may have been taken
abbrev pub taken_bytes : Option Piece → List ℕ
taken_bytes None = []
taken_bytes (Some piece) = piece.bytes.items
