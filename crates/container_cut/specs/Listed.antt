-- Containers whose numbers were drawn before a number.
use Rattle.std.specs.Prelude.{ℕ, ◌+◌, ◌<◌, ◌≤◌, List, IfSome}
use Rattle.std.specs.List.{All}
use Rattle.catalog_types.specs.declared.catalogue.Container.{Container}
use Rattle.catalog_types.specs.declared.catalogue.ProjColumn.{ProjColumn}
use Rattle.catalog_types.specs.declared.catalogue.Projection.{Projection}
use Rattle.catalog_types.specs.Numbers.{file_count}
use Rattle.ros_container.specs.Readable.{IsOfColumns}

-- a container of a projection with these columns, whose numbers, and that of its delete vector, are below this one
pub record IsBelow (next : ℕ) (columns : List ProjColumn) (k : Container) : Type 0 where
  pub of_columns : IsOfColumns columns k
  pub files : k.base + file_count k.stored ≤ next
  pub vector : IfSome k.marks (λ n. n < next)

-- all numbers that a projection lists are below this one
abbrev pub IsListedBelow : ℕ → Projection → Type 0
IsListedBelow next p = All (IsBelow next p.columns) p.containers
