-- What a job of the mover does to a database.
use Rattle.std.specs.Prelude.{ℕ, zero, suc, List, [], ◌∷◌}
use Rattle.db_model.specs.Database.{Database, Table}
use Rattle.db_model.specs.Mover.{reached_to}

-- the element at a place changed
abbrev pub change_at : {X : Type 0} → ℕ → (X → X) → List X → List X
change_at i f [] = []
change_at zero f (x ∷ xs) = f x ∷ xs
change_at (suc i) f (x ∷ xs) = x ∷ change_at i f xs

-- the projection at a place of a table has all its data on disk up to an epoch
abbrev pub reached_in : ℕ → ℕ → Table → Table
reached_in last j t = record t { shapes = change_at j (reached_to last) t.shapes }

-- a database where the projection at a place of the table at a place is up to date, with all its data on disk up to an epoch
abbrev pub reached_at : ℕ → ℕ → ℕ → Database → Database
reached_at epoch i j d = record d { tables = change_at i (reached_in epoch j) d.tables }

-- a database where the projection at a place of the table at a place was moved out
abbrev pub moved_at : ℕ → ℕ → Database → Database
moved_at i j d = reached_at d.last i j d
