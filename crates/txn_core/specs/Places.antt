-- Where a session's changes of a table stand.
use Rattle.std.specs.Prelude.{ℕ, ◌≡◌, ◌+◌, ◌<◌, ◌++◌, List, [], ◌∷◌, length, take, drop, Some, None}
use Rattle.std.specs.List.{slice_index_or}
use Rattle.db_model.specs.State.{Changes}
use Rattle.db_model.specs.Locks.{changes_on}
use Rattle.db_model.specs.Events.{change_of, untouched}

-- the changes of the table of this name are those at this place
pub record StandsAt (name : List ℕ) (xs : List Changes) (i : ℕ) : Type 0 where
  pub within : i < length xs
  pub there : (x : Changes) → x ≡ slice_index_or xs i x → changes_on name xs ≡ Some x
  pub split : (change : Changes → Changes) (x : Changes) → x ≡ slice_index_or xs i x → change_of name change xs ≡ take i xs ++ change x ∷ drop (i + 1) xs

-- there are none, and they would stand at the end
pub record StandsNowhere (name : List ℕ) (xs : List Changes) : Type 0 where
  pub none : changes_on name xs ≡ None
  pub behind : (change : Changes → Changes) → change_of name change xs ≡ xs ++ change (untouched name) ∷ []
