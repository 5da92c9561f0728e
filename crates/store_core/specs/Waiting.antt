-- The projections that wait for the mover.
use Rattle.std.specs.Prelude.{ℕ, Bool, List, bytes_eq}
use Rattle.std.specs.List.{list_any}
use Rattle.catalog_types.specs.declared.catalogue.Projection.{Projection}

-- one of these projections has the name
abbrev pub has_name : List ℕ → List Projection → Bool
has_name name projections = list_any (λ p. bytes_eq p.name name) projections
