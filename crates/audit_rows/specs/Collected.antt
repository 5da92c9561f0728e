-- What is collected while containers are read one after the other.
use Rattle.std.specs.Prelude.{ℕ, ◌≡◌, ◌++◌, List, map, Option, Some}
use Rattle.common_laws.specs.Maps.{Contents}
use Rattle.catalog_types.specs.declared.catalogue.Container.{Container}
use Rattle.col_value.specs.declared.row.Stamped.{Stamped}
use Rattle.ros_container.specs.Encodings.{Written}
use Rattle.row_history.specs.History.{on_columns}
use Rattle.stored_rows.specs.Held.{HoldsRows}
use Rattle.audit_model.specs.Rows.{judged_in}

-- what the files of the containers that are left hold is what lacks of all that is judged
pub record Left (m : Contents) (written : List Written) (rest : List Container) (columns : List ℕ) (epoch mark : ℕ) (out held : List Stamped) : Type 0 where
  pub more : List Stamped
  pub are : HoldsRows m written rest more
  pub whole : out ++ map (on_columns columns) (judged_in epoch mark more) ≡ map (on_columns columns) (judged_in epoch mark held)

-- where a disk tells its contents, and the containers hold rows
abbrev pub Collects : Option Contents → List Written → List Container → List Container → List ℕ → ℕ → ℕ → List Stamped → Type 0
Collects holds written all rest columns epoch mark out =
    (m : Contents) → holds ≡ Some m → (held : List Stamped) → HoldsRows m written all held → Left m written rest columns epoch mark out held
