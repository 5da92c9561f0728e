-- How many blocks are read of a container's files.
use Rattle.std.specs.Prelude.{ℕ}
use Rattle.std.specs.Option.{option_map_or}
use Rattle.catalog_types.specs.declared.catalogue.Container.{Container}
use Rattle.ros_container.specs.Files.{place_of}

-- for one block of column i of so many: one where the container stores the column, and else none
abbrev pub blocks_read : ℕ → Container → ℕ → ℕ
blocks_read columns k i = option_map_or (λ place. 1) (place_of columns k i) 0
