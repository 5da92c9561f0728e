-- The output among the other containers, one container after the other.
use Rattle.std.specs.Prelude.{Bool, true, false, List, [], ◌∷◌}
use Rattle.catalog_types.specs.declared.catalogue.Container.{Container}

-- what stands in the place of a container: itself where it isn't chosen, the output where it is the first that is
abbrev pub put_at : Bool → Bool → List Container → Container → List Container
put_at false first made k = k ∷ []
put_at true true made k = made
put_at true false made k = []
