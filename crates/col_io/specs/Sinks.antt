-- What one write takes of a piece.
use Rattle.std.specs.Prelude.{ℕ, ◌≤◌, ◌<◌, List, length, take, Option}
use Rattle.common_laws.specs.Told.{Appends}

-- `count` bytes at its front: at most all, and at least one where there are any
pub record TakesFront (old new : Option (List ℕ)) (piece : List ℕ) (count : ℕ) : Type 0 where
  pub within : count ≤ length piece
  pub some : 0 < length piece → 0 < count
  pub front : Appends old new (take count piece)
