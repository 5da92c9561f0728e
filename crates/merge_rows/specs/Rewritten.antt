-- The entry of a projection that was written anew.
use Rattle.std.specs.Prelude.{ℕ, true, max, List, [], ◌∷◌}
use Rattle.catalog_types.specs.declared.catalogue.Container.{Container}
use Rattle.catalog_types.specs.declared.catalogue.Projection.{Projection}

-- the entry with other containers, up to date with all its rows on disk up to an epoch
abbrev pub rewritten_to : ℕ → ℕ → List Container → Projection → Projection
rewritten_to epoch born containers old = record old { fresh = true; lge = epoch; born = born; containers = containers }

-- the greatest of an epoch and all epochs that some containers have
abbrev pub reached_by : ℕ → List Container → ℕ
reached_by epoch [] = epoch
reached_by epoch (k ∷ ks) = reached_by (max (max epoch k.greatest_epoch) k.greatest_mark) ks
